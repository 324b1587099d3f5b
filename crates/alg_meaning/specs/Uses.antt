-- Used hypotheses under their paths.
use Rattle.std.specs.Prelude.{ℕ, List}
use Rattle.alg_terms.specs.declared.file.File.{File}
use Rattle.alg_terms.specs.declared.goals.Use.{Use}
use Rattle.alg_terms.specs.Kinds.{IsDomain}
use Rattle.alg_terms.specs.Members.{kind_of, hyp_at}
use Rattle.alg_terms.specs.GoalRules.{IsUse}
use Rattle.alg_terms.specs.Valid.{IsValid}
use Rattle.alg_universe.specs.declared.universe.Universe.{Ghosts}
use Rattle.alg_universe.specs.Value.{Fits, AreValues}
use Rattle.alg_universe.specs.Right.{Compare, UseHolds}
use Rattle.alg_meaning.specs.Atoms.{Polynomial, minus}
use Rattle.alg_meaning.specs.PolynomialOf.{poly_of_under}
use Rattle.alg_meaning.specs.Values.{poly_in}

-- the polynomial of the used hypothesis's left side under the path, less that of its right side
abbrev pub use_difference : File → Use → Polynomial
use_difference file used =
    let equation = (hyp_at file used.hyp).equation in
    minus (poly_of_under used.path equation.left) (poly_of_under used.path equation.right)

-- where a use holds, the difference of its sides is zero at the goal's sort, or not zero where it is a `<>`
abbrev pub UsesHold : {E : Type 0} → Ghosts E → Type 0
UsesHold {E} u =
    (file : File) → IsValid file → Fits u file → (v : List E) → AreValues u file v →
    (s : ℕ) → IsDomain (kind_of file s) → (used : Use) → IsUse file s used → UseHolds u file v used →
    Compare (hyp_at file used.hyp).nonzero (poly_in u v s (use_difference file used)) (u.zero s)
