-- Monomials that divide no other, and monomials without a common atom.
use Rattle.std.specs.Prelude.{◌≡◌, ◌≢◌, ℕ, ◌+◌, ◌==◌, ◌&&◌, Bool, true, false, cond, [], ◌∷◌}
use Rattle.std.proofs.Common.{refl, sym, ap, subst, ◌∙◌, T, ◌⊎◌, inl, inr, arith}
use borrow.Author.Tests.{eqb-true}
use Rattle.std.specs.Ordering.{nat_cmp, eq_by_cmp}
use Rattle.std.specs.Cmp.{nat_cmp_total}
use Rattle.std.specs.FinMap.{nat_cmp-IsAntisymmetric}
use Rattle.alg_mono.specs.Mono.{Monomial}
use Rattle.alg_mono.specs.Monomials.{exponent, Divides}
use Rattle.alg_mono.proofs.Canonical.{equal}
use Rattle.alg_mono.proofs.Lcm.{divides_product}
use Rattle.alg_groebner.specs.Leads.{coprime, reduces}
use Rattle.alg_pairs.proofs.Dividing.{divides_says}
use Rattle.alg_criterion.proofs.Numbered.{IsWithin, mono_times, mono_over}
use Rattle.alg_criterion.proofs.Quotients.{within_over, exponent-over, same_mono, times_comm}
use Rattle.alg_criterion.proofs.Spans.{Led, whole}

front : (a b : Bool) → (a && b) ≡ true → a ≡ true
front true b p = refl
front false b p = p

back : (a b : Bool) → (a && b) ≡ true → b ≡ true
back true b p = p
back false b p = absurd (let e : false ≡ true = p in grind arith)

no_common : (m n : Monomial) → coprime m n ≡ true → (q : ℕ) → (exponent nat_cmp q m ≡ 0) ⊎ (exponent nat_cmp q n ≡ 0)
no_common [] n t q = inl refl
no_common (e ∷ m) n t q =
    let z : exponent nat_cmp e.0 n ≡ 0 =
    eqb-true (exponent nat_cmp e.0 n) 0 (front (exponent nat_cmp e.0 n == 0) (coprime m n) t) in
    elim (eq_by_cmp nat_cmp q e.0) as (λ b. eq_by_cmp nat_cmp q e.0 ≡ b →
    (cond b e.1 0 + exponent nat_cmp q m ≡ 0) ⊎ (exponent nat_cmp q n ≡ 0)) [
      | true ↦ λ p. inr (ap (λ x. exponent nat_cmp x n)
          (nat_cmp-IsAntisymmetric q e.0 (equal (nat_cmp q e.0) (subst T (sym p) tt))) ∙ z)
      | false ↦ λ p. elim (no_common m n (back (exponent nat_cmp e.0 n == 0) (coprime m n) t) q)
          [ inl h ↦ inl (omega arith) | inr h ↦ inr h ]
    ] refl

-- neither has a part of the other
pub are_coprime : (b : ℕ) (m n : Monomial) → IsWithin b m → IsWithin b n → coprime m n ≡ true →
    (mono_over m n ≡ m) × (mono_over n m ≡ n)
are_coprime b m n hm hn t = (
  same_mono b (mono_over m n) m (within_over b m n hm hn) hm
      (λ q. elim (no_common m n t q) [
        | inl h ↦ omega (arith, exponent-over q b m n hm, h)
        | inr h ↦ omega (arith, exponent-over q b m n hm, h)
      ]),
  same_mono b (mono_over n m) n (within_over b n m hn hm) hn
      (λ q. elim (no_common m n t q) [
        | inl h ↦ omega (arith, exponent-over q b n m hn, h)
        | inr h ↦ omega (arith, exponent-over q b n m hn, h)
      ]),
)

-- no product with the lead is the other lead where the line does not reduce
pub no_product : (b : ℕ) (k l : Led Monomial) → IsWithin b k.lead → reduces (whole k) (whole l) ≡ false →
    (x : Monomial) → mono_times x k.lead ≢ l.lead
no_product b k l hk f x e =
    let product : Divides nat_cmp k.lead l.lead =
    subst (Divides nat_cmp k.lead) (times_comm k.lead x ∙ e)
    (divides_product nat_cmp_total nat_cmp-IsAntisymmetric k.lead x) in
    let t = (divides_says k.lead l.lead hk.canonical).1 product in
    let both : false ≡ true = sym f ∙ t in
    grind arith
