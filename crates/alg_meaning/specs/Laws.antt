-- The laws that carry every answer `proved`.
use Rattle.std.specs.Prelude.{◌≡◌, ℕ, List}
use Rattle.alg_terms.specs.declared.file.File.{File}
use Rattle.alg_terms.specs.declared.term.Term.{Term}
use Rattle.alg_terms.specs.Sorts.{MayStandAt}
use Rattle.alg_terms.specs.TermRules.{IsTerm, HasNoQuotient}
use Rattle.alg_universe.specs.declared.universe.Universe.{Ghosts}
use Rattle.alg_universe.specs.Value.{Fits, AreValues, value}
use Rattle.alg_meaning.specs.PolynomialOf.{poly_of}

-- a term without quotients that may stand at sort s of the file
pub record IsPlainAt (file : File) (s : ℕ) (t : Term) : Type 0 where
  pub term : IsTerm file t
  pub sort : MayStandAt file s t
  pub plain : HasNoQuotient t

-- two terms of one final sort with equal polynomials have equal values in every universe that fits the file
abbrev pub EqualPolynomials : {E : Type 0} → Ghosts E → Type 0
EqualPolynomials {E} u =
    (file : File) → Fits u file → (v : List E) → AreValues u file v → (s : ℕ) (left right : Term) →
    IsPlainAt file s left → IsPlainAt file s right → poly_of left ≡ poly_of right →
    value u file v s left ≡ value u file v s right
