-- A bound for the atoms of finitely many monomials.
use Rattle.std.specs.Prelude.{ℕ, suc, ◌+◌, ◌<◌, ◌≤◌, List, [], ◌∷◌}
use Rattle.std.proofs.Common.{arith}
use Rattle.std.specs.Ordering.{nat_cmp}
use Rattle.alg_mono.specs.FiniteMaps.{IsCanonical, Each}
use Rattle.alg_mono.specs.Numbers.{exponents}
use Rattle.alg_mono.specs.NumberedPolynomials.{Polynomial}
use Rattle.alg_mono.proofs.Each.{Each-weaker}
use Rattle.alg_criterion.proofs.Spans.{Every}
use Rattle.alg_criterion.proofs.Numbered.{Mono, IsWithin}

pub every_more : {A : Type 0} (P Q : A → Type 0) → ((x : A) → P x → Q x) → (xs : List A) → Every P xs → Every Q xs
every_more P Q f [] h = tt
every_more P Q f (x ∷ xs) h = (f x h.0, every_more P Q f xs h.1)

-- where each of a list has a bound, and a greater one serves too, all have one
pub one_bound : {A : Type 0} (P : A → ℕ → Type 0) → ((x : A) (b c : ℕ) → b ≤ c → P x b → P x c) → (xs : List A) →
    Every (λ x. (b : ℕ) × P x b) xs → (b : ℕ) × Every (λ x. P x b) xs
one_bound P more [] h = (0, tt)
one_bound P more (x ∷ xs) h =
    let r = one_bound P more xs h.1 in
    let b = h.0.0 + r.0 in (
      b,
      (
        more x h.0.0 b (omega arith) h.0.1,
        every_more (λ y. P y r.0) (λ y. P y b) (λ y p. more y r.0 b (omega arith) p) xs r.1,
      ),
    )

pub within_more : (b c : ℕ) → b ≤ c → (m : Mono) → IsWithin b m → IsWithin c m
within_more b c h m w = record {
  canonical = w.canonical;
  atoms = Each-weaker {P = λ (a : ℕ). a < b} {Q = λ (a : ℕ). a < c} (λ a l. omega arith) m w.atoms;
}

atoms_bound : (m : Mono) → (b : ℕ) × Each (λ a. a < b) m
atoms_bound [] = (0, tt)
atoms_bound (e ∷ m) =
    let r = atoms_bound m in
    let b = suc (e.0 + r.0) in
    (b, (omega arith, Each-weaker {P = λ (a : ℕ). a < r.0} {Q = λ (a : ℕ). a < b} (λ a l. omega arith) m r.1))

pub mono_bound : (m : Mono) → IsCanonical nat_cmp exponents m → (b : ℕ) × IsWithin b m
mono_bound m c = let r = atoms_bound m in (r.0, record { canonical = c; atoms = r.1 })

pub each_more : (b c : ℕ) → b ≤ c → (p : Polynomial) → Each (IsWithin b) p → Each (IsWithin c) p
each_more b c h p w = Each-weaker {P = IsWithin b} {Q = IsWithin c} (within_more b c h) p w

pub poly_bound : (p : Polynomial) → Each (λ m. IsCanonical nat_cmp exponents m) p → (b : ℕ) × Each (IsWithin b) p
poly_bound [] h = (0, tt)
poly_bound (e ∷ p) h =
    let m = mono_bound e.0 h.0 in
    let r = poly_bound p h.1 in
    let b = m.0 + r.0 in
    (b, (within_more m.0 b (omega arith) e.0 m.1, each_more r.0 b (omega arith) p r.1))

pub polys_bound : (ps : List Polynomial) → Every (Each (λ m. IsCanonical nat_cmp exponents m)) ps →
    (b : ℕ) × Every (Each (IsWithin b)) ps
polys_bound ps h =
    one_bound (λ p b. Each (IsWithin b) p) (λ p b c l w. each_more b c l p w) ps
    (every_more (Each (λ m. IsCanonical nat_cmp exponents m)) (λ p. (b : ℕ) × Each (IsWithin b) p) poly_bound ps h)
