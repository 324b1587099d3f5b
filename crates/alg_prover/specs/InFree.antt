-- What an answer no says among the polynomials over atoms.
use Rattle.std.specs.Prelude.{◌≢◌, ◌≡◌, ◌<◌, ℕ, ℤ, length}
use Rattle.alg_lines.specs.declared.answer.Answer.TheVariants.{No}
use Rattle.alg_meaning.specs.Atoms.{Polynomial}
use Rattle.alg_meaning.specs.FreeValues.{atoms_of}
use Rattle.alg_meaning.specs.contracts.free.FreeUniverse.TheImpl as free
use Rattle.alg_mono.specs.Mono.{Monomial}
use Rattle.alg_terms.specs.declared.declarations.Kind.TheVariants.{Domain}
use Rattle.alg_terms.specs.declared.file.File.{File}
use Rattle.alg_terms.specs.declared.goals.Equation.{Equation}
use Rattle.alg_terms.specs.declared.goals.Method.TheVariants.{ByRing}
use Rattle.alg_terms.specs.Members.{goal_at}
use Rattle.alg_terms.specs.Valid.{IsValid}
use Rattle.alg_universe.specs.declared.universe.Universe.{Ghosts}
use Rattle.alg_universe.specs.DeclaredSorts.{HasKindsTo}
use Rattle.alg_universe.specs.Value.{Fits, AreValues, value}
use Rattle.alg_prover.specs.Answers.{IsAnswer}

-- the universe of polynomials over atoms, as `Free` implements it
abbrev pub polynomials : Ghosts Polynomial
polynomials = free.ghosts

-- no sort of the file is declared as a field
abbrev pub DeclaresNoField : File → Type 0
DeclaresNoField file = HasKindsTo Domain file

-- the polynomials fit the file, and where each variable stands for its atom the sides have different values among them
pub record ValuesDiffer (file : File) (e : Equation) : Type 0 where
  pub fits : Fits polynomials file
  pub values : AreValues polynomials file (atoms_of file)
  pub differ : value polynomials file (atoms_of file) e.sort e.left ≢ value polynomials file (atoms_of file) e.sort e.right

-- where a valid file declares no field, this is so of each goal by ring that is answered no
abbrev pub NoDiffersInFree : Type 0
NoDiffersInFree =
    (file : File) (i : ℕ) (at : Monomial) (left right : ℤ) → IsValid file → DeclaresNoField file →
    i < length file.goals → (goal_at file i).method ≡ ByRing → IsAnswer file (goal_at file i) (No at left right) →
    ValuesDiffer file (goal_at file i).equation
