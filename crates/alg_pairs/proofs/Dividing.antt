-- The test whether a monomial divides another.
use Rattle.std.specs.Prelude.{◌≡◌, ℕ, ◌≤◌, ◌↔◌, ◌&&◌, Bool, true, false, [], ◌∷◌, nat_le, All}
use Rattle.std.proofs.Common.{refl, sym, arith}
use Rattle.std.specs.Ordering.{nat_cmp}
use Rattle.std.specs.Cmp.{nat_cmp_total}
use Rattle.std.specs.FinMap.{nat_cmp-IsAntisymmetric}
use Rattle.std.proofs.lemmas.List.Elements.{All-nil, All-head, All-tail, All-cons}
use Rattle.alg_mono.specs.FiniteMaps.{IsCanonical}
use Rattle.alg_mono.specs.Mono.{FitsIn, Monomial}
use Rattle.alg_mono.specs.Monomials.{Divides, exponent}
use Rattle.alg_mono.specs.Numbers.{exponents}
use Rattle.alg_mono.proofs.Quotients.{divides_if_fits, fits_if_divides}
use Rattle.alg_pairs.specs.Leads.{divides}

fits_test : (d m : Monomial) → All (FitsIn m) d → divides d m ≡ true
fits_test [] m h = refl
fits_test (e ∷ d) m h = both (nat_le e.1 (exponent nat_cmp e.0 m)) (divides d m)
    (le_test e.1 (exponent nat_cmp e.0 m) (All-head (FitsIn m) e d h)) (fits_test d m (All-tail (FitsIn m) e d h))
  where
    le_test : (a b : ℕ) → a ≤ b → nat_le a b ≡ true
    le_test a b h = grind arith

    both : (a b : Bool) → a ≡ true → b ≡ true → (a && b) ≡ true
    both true b p q = q
    both false b p q = p

test_fits : (d m : Monomial) → divides d m ≡ true → All (FitsIn m) d
test_fits [] m h = All-nil (FitsIn m)
test_fits (e ∷ d) m h = All-cons (FitsIn m) e d (test_le e.1 (exponent nat_cmp e.0 m)
    (front (nat_le e.1 (exponent nat_cmp e.0 m)) (divides d m) h))
    (test_fits d m (back (nat_le e.1 (exponent nat_cmp e.0 m)) (divides d m) h))
  where
    test_le : (a b : ℕ) → nat_le a b ≡ true → a ≤ b
    test_le a b h = grind arith

    front : (a b : Bool) → (a && b) ≡ true → a ≡ true
    front true b p = refl
    front false b p = p

    back : (a b : Bool) → (a && b) ≡ true → b ≡ true
    back true b p = p
    back false b p = absurd (let e : false ≡ true = p in grind arith)

-- the test of the definitions is division, for monomials
pub divides_says : (d m : Monomial) → IsCanonical nat_cmp exponents d → (divides d m ≡ true) ↔ Divides nat_cmp d m
divides_says d m c = (
  λ t. divides_if_fits nat_cmp_total nat_cmp-IsAntisymmetric d m c (test_fits d m t),
  λ h. fits_test d m (fits_if_divides nat_cmp_total nat_cmp-IsAntisymmetric d m c h),
)

pub same_answer : (r s : Bool) {P : Type 0} → (r ≡ true) ↔ P → (s ≡ true) ↔ P → r ≡ s
same_answer true s f g = sym (g.1 (f.0 refl))
same_answer false true f g = f.1 (g.0 refl)
same_answer false false f g = refl
