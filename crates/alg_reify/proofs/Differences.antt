-- Where two polynomials first differ, and what a difference by numbers says over the atoms of a table.
use Rattle.std.specs.Prelude.{◌≡◌, ◌<◌, true, false, Bool, cond, List, [], ◌∷◌, ◌≢◌, ℤ, pos, ◌+ℤ◌, length, Contains}
use Rattle.std.proofs.Common.{refl, sym, ap, subst, ◌∙◌, T, arith}
use Rattle.std.proofs.lemmas.Int.{ints}
use Rattle.std.specs.declared.cmp.Ordering.TheVariants.{Less, Equal, Greater}
use Rattle.std.specs.Ordering.{nat_cmp, eq_by_cmp, ordering_reverse}
use Rattle.std.specs.Cmp.{nat_cmp_total}
use Rattle.std.specs.FinMap.{nat_cmp-IsAntisymmetric}
use Rattle.alg_terms.specs.declared.term.Atom.{Atom}
use Rattle.alg_mono.specs.FiniteMaps.{Each}
use Rattle.alg_mono.specs.Mono.{Monomial}
use Rattle.alg_mono.specs.Monomials.{grevlex}
use Rattle.alg_mono.specs.NumberedPolynomials.{Polynomial, before, coefficient_of, DifferFirst}
use Rattle.alg_mono.specs.Numbers.{integers, is_zero}
use Rattle.alg_mono.specs.Polynomials.{coefficient}
use Rattle.alg_mono.proofs.Canonical.{equal}
use Rattle.alg_mono.proofs.Each.{Each-weaker}
use Rattle.alg_mono.proofs.Grevlex.{falling_anti}
use Rattle.alg_mono.proofs.Monomials.{grevlex_total, grevlex_anti}
use Rattle.alg_mono.proofs.Numbers.{is_zero_only}
use Rattle.alg_meaning.specs.Atoms.{atom_cmp, falling}
use Rattle.alg_meaning.specs.Atoms as over
use Rattle.alg_meaning.specs.Orders.{atom_total, atom_anti}
use Rattle.alg_reify.specs.Numbered.{number_of, numbered, numbered_monomial, atom_at, over_atoms}
use Rattle.alg_reify.proofs.Coefficients.{ComesBack, atoms_back, images_round, coefficient_back}
use Rattle.alg_reify.proofs.FractionsIn.{IsPolynomialIn}
use Rattle.alg_reify.proofs.Images.{Each-image}
use Rattle.alg_reify.proofs.Numbering.{contained_numbered}
use Rattle.alg_reify.proofs.Undone.{monos_back}

-- equal polynomials differ nowhere
pub differ_nowhere : (p q : Polynomial) (m : Monomial) (a b : ℤ) → p ≡ q → DifferFirst p q m a b → ⊥
differ_nowhere p q m a b e d = d.differ (sym d.left ∙ ap (coefficient_of m) e ∙ d.right)

-- above the first difference there is none
not_above : (p q : Polynomial) (m n : Monomial) (a b c d : ℤ) → DifferFirst p q m a b → DifferFirst p q n c d →
    grevlex nat_cmp m n ≡ Less → ⊥
not_above p q m n a b c d first other less = other.differ (sym other.left ∙ first.same_above n less ∙ other.right)

-- the first difference is one
first_is : (p q : Polynomial) (m n : Monomial) (a b c d : ℤ) → DifferFirst p q m a b → DifferFirst p q n c d → m ≡ n
first_is p q m n a b c d first other =
    let total = grevlex_total nat_cmp_total nat_cmp-IsAntisymmetric in
    elim (grevlex nat_cmp m n) as (λ r. grevlex nat_cmp m n ≡ r → m ≡ n) [
      | Less ↦ λ e. absurd (not_above p q m n a b c d first other e)
      | Equal ↦ λ e. grevlex_anti nat_cmp_total nat_cmp-IsAntisymmetric m n e
      | Greater ↦ λ e. absurd (not_above p q n m c d a b other first (total.antisymm n m ∙ ap ordering_reverse e))
    ] refl

-- and so its coefficients
pub one_difference : (p q : Polynomial) (m n : Monomial) (a b c d : ℤ) → DifferFirst p q m a b →
    DifferFirst p q n c d → (m ≡ n) × (a ≡ c) × (b ≡ d)
one_difference p q m n a b c d first other =
    let at = first_is p q m n a b c d first other in (
      at,
      sym first.left ∙ ap (λ k. coefficient_of k p) at ∙ other.left,
      sym first.right ∙ ap (λ k. coefficient_of k q) at ∙ other.right,
    )

-- a monomial with a coefficient other than zero is one of the polynomial's
has_monomial : (P : Monomial → Type 0) (p : Polynomial) (m : Monomial) → Each P p → coefficient_of m p ≢ pos 0 → P m
has_monomial P [] m h some = absurd (some refl)
has_monomial P (e ∷ p) m h some =
    elim (eq_by_cmp before m e.0) as (λ b. eq_by_cmp before m e.0 ≡ b →
    ((cond b e.1 (pos 0) +ℤ coefficient_of m p) ≡ pos 0 → ⊥) → P m) [
      | true ↦ λ is more.
          subst P (sym (falling_anti nat_cmp_total nat_cmp-IsAntisymmetric m e.0 (equal _ (subst T (sym is) tt)))) h.0
      | false ↦ λ is more. has_monomial P p m h.1 (λ z. more (sum_zero (coefficient_of m p) z))
    ] refl some
  where
    sum_zero : (x : ℤ) → x ≡ pos 0 → pos 0 +ℤ x ≡ pos 0
    sum_zero x z = omega (arith, ints)

-- what holds of the monomials of both sides holds of the monomial of No, which is one of either
pub of_either : (P : Monomial → Type 0) (p q : Polynomial) (m : Monomial) (a b : ℤ) → Each P p → Each P q →
    DifferFirst p q m a b → P m
of_either P p q m a b left right d =
    elim (is_zero a) as (λ z. is_zero a ≡ z → P m) [
      | true ↦ λ is. has_monomial P q m right (λ zero. d.differ (is_zero_only a is ∙ sym zero ∙ d.right))
      | false ↦ λ is. has_monomial P p m left (λ zero. some a is (sym d.left ∙ zero))
    ] refl
  where
    some : (c : ℤ) → is_zero c ≡ false → c ≡ pos 0 → ⊥
    some c no' z = differ (is_zero c) no' (ap is_zero z)
      where
        differ : (t : Bool) → t ≡ false → t ≡ true → ⊥
        differ t f g = cc

-- two polynomials over the table whose numbered ones first differ at m
module _ (atoms : List Atom) (p q : over.Polynomial) (h : IsPolynomialIn atom_cmp (Contains atoms) p)
    (g : IsPolynomialIn atom_cmp (Contains atoms) q) (m : Monomial) (a b : ℤ)
    (d : DifferFirst (numbered atoms p) (numbered atoms q) m a b) where
  abbrev In : over.Polynomial → Type 0
  In r = IsPolynomialIn atom_cmp (Contains atoms) r

  -- the numbers in a numbered polynomial are numbers of the table
  numbers_of : (r : over.Polynomial) → In r → Each (λ n. Each (λ k. k < length atoms) n) (numbered atoms r)
  numbers_of r is =
      Each-image atom_cmp nat_cmp (number_of atoms) (Contains atoms) (λ k. k < length atoms)
      (λ x held. (contained_numbered atoms x held).0) r is.held

  -- so are those of the monomial
  pub over_table : Each (λ k. k < length atoms) m
  over_table =
      of_either (λ n. Each (λ k. k < length atoms) n) (numbered atoms p) (numbered atoms q) m a b (numbers_of p h)
      (numbers_of q g) d

  -- the monomials of a polynomial come back from their numbers
  abbrev Back : over.Polynomial → Type 0
  Back r = Each (ComesBack atom_total atom_anti nat_cmp_total nat_cmp-IsAntisymmetric (number_of atoms)
      (atom_at atoms)) r

  back : (r : over.Polynomial) → In r → Back r
  back r is =
      monos_back atom_total atom_anti nat_cmp_total nat_cmp-IsAntisymmetric (number_of atoms) (atom_at atoms) r
      is.polynomial.monomials (Each-weaker (λ n held. atoms_back atoms n held) r is.held)

  -- a monomial over numbers is that of its atoms
  abbrev Round : Monomial → Type 0
  Round n = numbered_monomial atoms (over_atoms atoms n) ≡ n

  rounds : (r : over.Polynomial) → In r → Each Round (numbered atoms r)
  rounds r is =
      images_round atom_total atom_anti nat_cmp_total nat_cmp-IsAntisymmetric (number_of atoms) (atom_at atoms) r
      (back r is)

  round : Round m
  round = of_either Round (numbered atoms p) (numbered atoms q) m a b (rounds p h) (rounds q g) d

  -- so the coefficient at a monomial over numbers is that at its atoms
  at_atoms : (r : over.Polynomial) → In r → (c : ℤ) → coefficient_of m (numbered atoms r) ≡ c →
      coefficient falling integers (over_atoms atoms m) r ≡ c
  at_atoms r is c at =
      coefficient_back atom_total atom_anti nat_cmp_total nat_cmp-IsAntisymmetric (number_of atoms) (atom_at atoms) m r
      round (back r is) ∙ at

  pub left_at : coefficient falling integers (over_atoms atoms m) p ≡ a
  left_at = at_atoms p h a d.left

  pub right_at : coefficient falling integers (over_atoms atoms m) q ≡ b
  right_at = at_atoms q g b d.right
