-- What holds of numbered polynomials and of the verdicts by ring.
use Rattle.std.specs.Prelude.{◌≡◌, ◌<◌, ◌≤◌, ℕ, ℤ, List, Contains, length, unsigned_abs}
use Rattle.std.specs.Ordering.{nat_cmp}
use Rattle.alg_terms.specs.declared.term.Atom.{Atom}
use Rattle.alg_terms.specs.declared.file.File.{File}
use Rattle.alg_terms.specs.declared.goals.Equation.{Equation}
use Rattle.alg_terms.specs.GoalRules.{IsEquation}
use Rattle.alg_mono.specs.FiniteMaps.{Each, IsCanonical}
use Rattle.alg_mono.specs.Monomials.{IsMono}
use Rattle.alg_mono.specs.Numbers.{exponents, integers}
use Rattle.alg_mono.specs.Polynomials.{IsPolynomial, MAX, coefficient}
use Rattle.alg_mono.specs.Mono.{Monomial}
use Rattle.alg_mono.specs.NumberedPolynomials.{coefficient_of}
use Rattle.alg_meaning.specs.Atoms.{Polynomial, atom_cmp, falling}
use Rattle.alg_reify.specs.Numbered.{numbered, numbered_monomial}
use Rattle.alg_reify.specs.RingVerdict.{RingVerdict, IsRingVerdict, SidesDiffer, own_table}

-- where a table has the atoms of a polynomial and of a monomial, the numbered polynomial has the polynomial's
-- coefficient at the numbered monomial
abbrev pub NumberedCoefficients : Type 0
NumberedCoefficients =
    (atoms : List Atom) (p : Polynomial) (m : List (Atom × ℕ)) → IsPolynomial atom_cmp integers p →
    Each (λ n. Each (Contains atoms) n) p → IsCanonical atom_cmp exponents m → Each (Contains atoms) m →
    coefficient_of (numbered_monomial atoms m) (numbered atoms p) ≡ coefficient falling integers m p

-- an equation has at most one verdict
abbrev pub OneRingVerdict : Type 0
OneRingVerdict =
    (file : File) (e : Equation) (v w : RingVerdict) → IsRingVerdict file e v → IsRingVerdict file e w → v ≡ w

-- where the verdict is No, the sides are different polynomials, with its coefficients at its monomial
abbrev pub NoDiffers : Type 0
NoDiffers =
    (file : File) (e : Equation) (m : Monomial) (a b : ℤ) → IsRingVerdict file e (RingVerdict.No m a b) →
    SidesDiffer file e m a b

-- the monomial of a verdict No is over atoms of the equation's table
abbrev pub NoIsOverTheTable : Type 0
NoIsOverTheTable =
    (file : File) (e : Equation) (m : Monomial) (a b : ℤ) → IsRingVerdict file e (RingVerdict.No m a b) →
    Each (λ k. k < length (own_table file e)) m

-- where the verdict on an equation of the file is No, neither coefficient is greater than a norm may be
abbrev pub NoIsWithinRange : Type 0
NoIsWithinRange =
    (file : File) (e : Equation) (m : Monomial) (a b : ℤ) → IsEquation file e →
    IsRingVerdict file e (RingVerdict.No m a b) → (unsigned_abs a ≤ MAX) × (unsigned_abs b ≤ MAX)

-- the monomial of a verdict No is one of a polynomial: its atoms rise, no exponent is 0, and its degree is within the
-- limit
abbrev pub NoIsAMonomial : Type 0
NoIsAMonomial =
    (file : File) (e : Equation) (m : Monomial) (a b : ℤ) → IsRingVerdict file e (RingVerdict.No m a b) →
    IsMono nat_cmp m
