-- Sides that are different polynomials have different values among the polynomials.
use Rattle.std.proofs.Common.{◌≢◌, sym, subst, ◌∙◌}
use Rattle.std.specs.Prelude.{◌↔◌}
use Rattle.alg_meaning.specs.FreeValues.{atoms_of}
use Rattle.alg_meaning.specs.PolynomialOf.{poly_of}
use Rattle.alg_meaning.proofs.FreeValues.{value_is, atoms_are_values}
use Rattle.alg_meaning.proofs.Typed.{typed_left, typed_right, plain}
use Rattle.alg_terms.specs.declared.declarations.Kind.TheVariants.{Domain}
use Rattle.alg_terms.specs.declared.file.File.{File}
use Rattle.alg_terms.specs.declared.goals.Equation.{Equation}
use Rattle.alg_terms.specs.declared.goals.Method.{Method}
use Rattle.alg_terms.specs.GoalRules.{IsEquation, IsGoal, MayBeBy, DividesNowhere}
use Rattle.alg_terms.specs.Members.{goal_at, no_goal}
use Rattle.alg_universe.specs.DeclaredSorts.{HasKindsTo}
use Rattle.alg_universe.specs.Value.{Fits, value}
use Rattle.alg_prover.specs.InFree.{polynomials, NoDiffersInFree}
use Rattle.alg_prover.specs.Laws.{NoDiffers}

-- the sides of an equation by ring have their polynomials as values
values_apart : (file : File) (e : Equation) → IsEquation file e → DividesNowhere e → poly_of e.left ≢ poly_of e.right →
    value polynomials file (atoms_of file) e.sort e.left ≢ value polynomials file (atoms_of file) e.sort e.right
values_apart file e is apart differ same =
    differ (sym (value_is file e.sort e.left (typed_left file e is) (plain e.left apart.0)) ∙ same
    ∙ value_is file e.sort e.right (typed_right file e is) (plain e.right apart.1))

-- a goal by ring that is answered no has different values where no field is declared
pub no_differs_in_free : ((file : File) → Fits polynomials file ↔ HasKindsTo Domain file) → NoDiffers → NoDiffersInFree
no_differs_in_free fits law file i at left right valid none low by_ring answer =
    let goal = goal_at file i in
    let e = goal.equation in
    let is : IsGoal file goal = valid.goals i no_goal low in
    let apart : DividesNowhere e = let P : Method → Type 0 = λ m. MayBeBy file e m in subst P by_ring is.method in
    record {
      fits = (fits file).1 none;
      values = atoms_are_values file;
      differ = values_apart file e is.equation apart (law file i at left right by_ring answer).polynomials;
    }
