-- The answer to a goal by ring.
use Rattle.std.specs.Prelude.{◌≡◌, ◌≢◌, ◌<◌, ◌≤◌, ℤ, List, [], length}
use Rattle.alg_terms.specs.declared.term.Atom.{Atom}
use Rattle.alg_terms.specs.declared.file.File.{File}
use Rattle.alg_terms.specs.declared.goals.Equation.{Equation}
use Rattle.alg_mono.specs.Outcomes.{Outcome, first_breach}
use Rattle.alg_mono.specs.Mono.{Monomial}
use Rattle.alg_mono.specs.NumberedPolynomials.{DifferFirst}
use Rattle.alg_mono.specs.Numbers.{integers}
use Rattle.alg_mono.specs.Polynomials.{coefficient}
use Rattle.alg_meaning.specs.Atoms.{falling}
use Rattle.alg_meaning.specs.PolynomialOf.{poly_of}
use Rattle.alg_meaning.specs.TermOutcome.{term_outcome}
use Rattle.alg_reify.specs.Table.{table, MAX_ATOMS}
use Rattle.alg_reify.specs.Numbered.{numbered, over_atoms}

-- there are too many atoms; a rule on norms or degrees is broken; the sides are one polynomial; or they differ, with
-- the greatest monomial where they do and its coefficients on the left and on the right
pub data RingVerdict : Type 0 where
  Atoms : RingVerdict
  Range : RingVerdict
  Degree : RingVerdict
  Proved : RingVerdict
  No : Monomial → ℤ → ℤ → RingVerdict

-- the table of an equation that uses no hypotheses
abbrev pub own_table : File → Equation → List Atom
own_table file e = table file e []

-- there are not too many atoms, and making the left side and then the right comes to this
abbrev pub ComesTo : File → Equation → Outcome → Type 0
ComesTo file e outcome =
    (length (own_table file e) ≤ MAX_ATOMS) × (first_breach (term_outcome e.left) (term_outcome e.right) ≡ outcome)

-- the verdict on an equation by ring: the atoms come first, then the rules, and then the two polynomials
abbrev pub IsRingVerdict : File → Equation → RingVerdict → Type 0
IsRingVerdict file e RingVerdict.Atoms = MAX_ATOMS < length (own_table file e)
IsRingVerdict file e RingVerdict.Range = ComesTo file e Outcome.Range
IsRingVerdict file e RingVerdict.Degree = ComesTo file e Outcome.Degree
IsRingVerdict file e RingVerdict.Proved = ComesTo file e Outcome.Fine × (poly_of e.left ≡ poly_of e.right)
IsRingVerdict file e (RingVerdict.No m a b) =
    let atoms = own_table file e in
    ComesTo file e Outcome.Fine × DifferFirst (numbered atoms (poly_of e.left)) (numbered atoms (poly_of e.right)) m a b

-- the sides are different polynomials, and at this monomial, read as atoms, they have these different coefficients
pub record SidesDiffer (file : File) (e : Equation) (m : Monomial) (a b : ℤ) : Type 0 where
  pub polynomials : poly_of e.left ≢ poly_of e.right
  pub left : coefficient falling integers (over_atoms (own_table file e) m) (poly_of e.left) ≡ a
  pub right : coefficient falling integers (over_atoms (own_table file e) m) (poly_of e.right) ≡ b
  pub differ : a ≢ b
