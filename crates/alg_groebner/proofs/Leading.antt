-- Leads of polynomials within the limits.
use Rattle.std.specs.Prelude.{◌≡◌, ◌≢◌, ◌≤◌, ◌↔◌, Bool, true, false, not, List, [], ◌∷◌, ℤ, pos, Some, slice_get}
use Rattle.std.proofs.Common.{refl, sym, subst, T, arith}
use Rattle.std.specs.Int.RustNames.{unsigned_abs}
use Rattle.std.specs.Ordering.{nat_cmp}
use Rattle.alg_mono.specs.FiniteMaps.{IsCanonical}
use Rattle.alg_mono.specs.Mono.{Monomial}
use Rattle.alg_mono.specs.Monomials.{Divides}
use Rattle.alg_mono.specs.Numbers.{exponents, integers, is_zero}
use Rattle.alg_mono.specs.Polynomials.{IsPoly, IsPolynomial, MAX}
use Rattle.alg_mono.proofs.Canonical.{first}
use Rattle.alg_mono.proofs.Norms.{norm-cons}
use Rattle.alg_mono.specs.NumberedPolynomials.{Polynomial}
use Rattle.alg_pairs.specs.Leads.{divides}
use Rattle.alg_pairs.proofs.Dividing.{divides_says, same_answer}
use Rattle.alg_groebner.specs.Leads.{lead, leading, reduces}

first_of_list : {A : Type 0} (x y : A) (xs : List A) → slice_get (x ∷ xs) 0 ≡ Some y → x ≡ y
first_of_list x y xs e = grind arith

none_first : {A : Type 0} (y : A) → slice_get [] 0 ≡ Some y → ⊥
none_first y e = grind arith

-- the leading coefficient of a polynomial that is not zero is not
pub leading_some : (p : Polynomial) → IsPolynomial nat_cmp integers p → p ≢ [] → leading p ≢ pos 0
leading_some [] s h z = absurd (h refl)
leading_some (e ∷ p) s h z =
    subst (λ (c : ℤ). T (not (is_zero c))) z (first (not (is_zero e.1)) _ s.canonical.no_none)

-- the first term of a polynomial is its lead
pub leading_small : (p : Polynomial) (x : Monomial × ℤ) → slice_get p 0 ≡ Some x → IsPoly nat_cmp p →
    (x.1 ≡ leading p) × (x.1 ≢ pos 0) × (unsigned_abs x.1 ≤ MAX)
leading_small [] x e h = absurd (none_first x e)
leading_small (y ∷ p) x e h =
    let same = first_of_list y x p e in
    let some : y.1 ≢ pos 0 = λ z. subst (λ (c : ℤ). T (not (is_zero c))) z
    (first (not (is_zero y.1)) _ h.polynomial.canonical.no_none) in
    let small : unsigned_abs y.1 ≤ MAX = let b = h.bounded in omega (arith, norm-cons y p) in
    subst (λ (w : Monomial × ℤ). (w.1 ≡ y.1) × (w.1 ≢ pos 0) × (unsigned_abs w.1 ≤ MAX)) same (refl, some, small)

-- the lead is a monomial
pub lead_small : (p : Polynomial) (x : Monomial × ℤ) → slice_get p 0 ≡ Some x → IsPoly nat_cmp p →
    (x.0 ≡ lead p) × IsCanonical nat_cmp exponents x.0
lead_small [] x e h = absurd (none_first x e)
lead_small (y ∷ p) x e h =
    subst (λ (w : Monomial × ℤ). (w.0 ≡ y.0) × IsCanonical nat_cmp exponents w.0) (first_of_list y x p e)
    (refl, h.polynomial.monomials.0)

-- ---- which lead divides which
pub reduces_is : (q p : Polynomial) (x y : Monomial × ℤ) (r : Bool) → slice_get q 0 ≡ Some x → slice_get p 0 ≡ Some y →
    IsPoly nat_cmp q → (r ≡ true) ↔ Divides nat_cmp x.0 y.0 → r ≡ reduces q p
reduces_is [] p x y r e f h t = absurd (none_first x e)
reduces_is (a ∷ q) [] x y r e f h t = absurd (none_first y f)
reduces_is (a ∷ q) (b ∷ p) x y r e f h t =
    let left = first_of_list a x q e in
    let right = first_of_list b y p f in
    same_answer r (divides a.0 b.0) (subst (λ (w : Monomial × ℤ). (r ≡ true) ↔ Divides nat_cmp w.0 b.0) (sym left)
    (subst (λ (w : Monomial × ℤ). (r ≡ true) ↔ Divides nat_cmp x.0 w.0) (sym right) t))
    (divides_says a.0 b.0 h.polynomial.monomials.0)

-- what reduces is not zero, nor is what it reduces, and its lead divides
pub reduces_says : (q p : Polynomial) → reduces q p ≡ true → (q ≢ []) × (p ≢ [])
    × (IsCanonical nat_cmp exponents (lead q) → Divides nat_cmp (lead q) (lead p))
reduces_says [] p e = absurd (let f : false ≡ true = e in grind arith)
reduces_says (f ∷ q) [] e = absurd (let f : false ≡ true = e in grind arith)
reduces_says (f ∷ q) (g ∷ p) e = (λ z. grind arith, λ z. grind arith, λ c. (divides_says f.0 g.0 c).0 e)
