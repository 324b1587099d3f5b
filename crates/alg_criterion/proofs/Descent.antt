-- Over finitely many atoms grevlex has no infinite descent.
-- For degrees up to d a monomial is numbered by its degree and then, from the last atom down, by the digits d -
-- exponent in base d + 1.
use Rattle.std.specs.Prelude.{◌≡◌, ℕ, zero, suc, ◌+◌, ◌-◌, ◌*◌, ◌<◌, ◌≤◌, Bool, true, false, cond, [], ◌∷◌}
use Rattle.std.proofs.Common.{refl, sym, subst, T, arith, inl, inr}
use native.Mathlib.Decide.{dec_lt}
use Rattle.std.specs.declared.cmp.Ordering.{Ordering}
use Rattle.std.specs.declared.cmp.Ordering.TheVariants.{Less, Equal, Greater}
use Rattle.std.specs.Ordering.{nat_cmp, eq_by_cmp, MatchOrdering}
use Rattle.std.specs.Cmp.{nat_cmp_total, ranks}
use Rattle.std.specs.FinMap.{nat_cmp-IsAntisymmetric}
use Rattle.alg_mono.specs.FiniteMaps.{total}
use Rattle.alg_mono.specs.Grevlex.{DiffersLast}
use Rattle.alg_mono.specs.Monomials.{degree, exponent}
use Rattle.alg_mono.proofs.Canonical.{equal}
use Rattle.alg_mono.proofs.Grevlex.{grevlex_less}
use Rattle.alg_mono.proofs.Monomials.{degree_total}
use Rattle.alg_mono.specs.FiniteMaps.{Each}
use Rattle.alg_criterion.proofs.Numbered.{Mono, IsWithin, Descends, falling}

abbrev size : ℕ → ℕ → ℕ
size d zero = 1
size d (suc k) = suc d * size d k

-- the digits of the first k atoms
abbrev digits : ℕ → ℕ → Mono → ℕ
digits d zero m = 0
digits d (suc k) m = (d - exponent nat_cmp k m) * size d k + digits d k m

abbrev place : ℕ → ℕ → Mono → ℕ
place d n m = degree m * size d n + digits d n m

carry : (a b s r t : ℕ) → a < b → r < s → a * s + r < b * s + t
carry a b s r t h k = grind arith

digits_fit : (d k : ℕ) (m : Mono) → digits d k m < size d k
digits_fit d zero m = omega arith
digits_fit d (suc k) m = let h = carry (d - exponent nat_cmp k m) (suc d) (size d k) (digits d k m) 0 (omega arith)
    (digits_fit d k m) in omega arith

exponent_at_most : (k : ℕ) (m : Mono) → exponent nat_cmp k m ≤ degree m
exponent_at_most k m = subst (λ x. exponent nat_cmp k m ≤ x) (sym (degree_total m)) (go m)
  where
    part : (b : Bool) (e x t : ℕ) → x ≤ t → cond b e 0 + x ≤ e + t
    part true e x t h = omega arith
    part false e x t h = omega arith

    go : (m : Mono) → exponent nat_cmp k m ≤ total 0 ◌+◌ (λ (k : ℕ) (e : ℕ). e) m
    go [] = omega arith
    go (e ∷ m) = part (eq_by_cmp nat_cmp k e.0) e.1 (exponent nat_cmp k m) (total 0 ◌+◌ (λ (k : ℕ) (e : ℕ). e) m) (go m)

no_exponent : (n k : ℕ) (m : Mono) → Each (λ a. a < n) m → n ≤ k → exponent nat_cmp k m ≡ 0
no_exponent n k [] h l = refl
no_exponent n k (e ∷ m) h l =
    elim (eq_by_cmp nat_cmp k e.0) as (λ b. eq_by_cmp nat_cmp k e.0 ≡ b → cond b e.1 0 + exponent nat_cmp k m ≡ 0) [
      | true ↦ λ p. let s : k ≡ e.0 = nat_cmp-IsAntisymmetric k e.0 (equal (nat_cmp k e.0) (subst T (sym p) tt)) in
          let f = h.0 in absurd (omega arith)
      | false ↦ λ p. let r = no_exponent n k m h.1 l in omega arith
    ] refl

-- the first digit from above that differs decides
digits_less : (d k : ℕ) (m n : Mono) (x : DiffersLast nat_cmp m n) → x.last < k →
    ((j : ℕ) → exponent nat_cmp j m ≤ d) → digits d k m < digits d k n
digits_less d zero m n x h e = absurd (omega arith)
digits_less d (suc k) m n x h e =
    let P : Ordering → Type 0 = λ r. MatchOrdering r (x.last < k) (x.last ≡ k) (k < x.last) in
    elim (nat_cmp x.last k) as (λ r. nat_cmp x.last k ≡ r → P r → digits d (suc k) m < digits d (suc k) n) [
      | Less ↦ λ p l.
          let r = digits_less d k m n x l e in
          let s = x.same_later k p in
          subst (λ a. (d - exponent nat_cmp k m) * size d k + digits d k m < (d - a) * size d k + digits d k n) s
          (omega (arith, r))
      | Equal ↦ λ p l.
          let f = subst (λ a. exponent nat_cmp a n < exponent nat_cmp a m) l x.fewer in
          let b = e k in
          carry (d - exponent nat_cmp k m) (d - exponent nat_cmp k n) (size d k) (digits d k m) (digits d k n)
          (omega arith) (digits_fit d k m)
      | Greater ↦ λ p l. absurd (omega arith)
    ] refl (ranks x.last k)

place_less : (d n : ℕ) (w v : Mono) → IsWithin n w → IsWithin n v → degree w ≤ d → falling w v ≡ Less →
    (degree v ≤ degree w) × (place d n v < place d n w)
place_less d n w v hw hv b l =
    elim (grevlex_less nat_cmp_total nat_cmp-IsAntisymmetric v w hv.canonical hw.canonical l) [
      | inl h ↦ (omega arith, carry (degree v) (degree w) (size d n) (digits d n v) (digits d n w) h (digits_fit d n v))
      | inr h ↦
          let x = h.1 in
          let f = x.fewer in
          let inside : x.last < n = elim (dec_lt x.last n) [
            | yes y ↦ y
            | no y ↦ let z = no_exponent n x.last v hv.atoms (omega arith) in absurd (omega arith)
          ] in
          let r = digits_less d n v w x inside (λ j. let a = exponent_at_most j v in let c = h.0 in omega arith) in (
            omega (arith, h.0),
            subst (λ a. degree v * size d n + digits d n v < a * size d n + digits d n w) h.0
                (omega (arith, r)),
          )
    ]

pub descends_lem : (n : ℕ) → Descends n
descends_lem n P step w hw = go (degree w) (suc (place (degree w) n w)) w hw (omega arith) (omega arith)
  where
    go : (d fuel : ℕ) (w : Mono) → IsWithin n w → degree w ≤ d → place d n w < fuel → P w
    go d zero w hw b h = absurd (omega arith)
    go d (suc fuel) w hw b h = step w hw (λ v hv l. let p = place_less d n w v hw hv b l in
        go d fuel v hv (omega (arith, p.0)) (omega (arith, p.1)))
