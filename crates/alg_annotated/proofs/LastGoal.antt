-- The last goal of a file: its uses are of hypotheses that are there, and the atoms of its table.
use Rattle.std.proofs.Common.{◌≡◌, ◌<◌, ◌-◌, ℕ, List, length, sym, ap, subst, ◌∙◌, arith}
use Rattle.std.specs.Prelude.{All}
use Rattle.std.proofs.lemmas.List.Elements.{All-nil, All-weaker, All-get_or}
use Rattle.alg_terms.specs.declared.file.File.{File}
use Rattle.alg_terms.specs.declared.goals.Equation.{Equation}
use Rattle.alg_terms.specs.declared.goals.Goal.{Goal}
use Rattle.alg_terms.specs.declared.goals.Method.{Method}
use Rattle.alg_terms.specs.declared.goals.Method.TheVariants.{ByRing, ByField, ByNsatz}
use Rattle.alg_terms.specs.declared.goals.Use.{Use}
use Rattle.alg_terms.specs.declared.term.Atom.{Atom}
use Rattle.alg_terms.specs.GoalRules.{IsGoal, IsUse, MayBeBy}
use Rattle.alg_terms.specs.Members.{goal_at, no_goal, uses_of}
use Rattle.alg_terms.specs.Valid.{IsValid}
use Rattle.alg_reify.specs.Table.{goal_atoms}
use Rattle.alg_annotated.specs.Rules.{last_goal}

-- the hypothesis of a use is there
abbrev HasHyp : File → Use → Type 0
HasHyp file used = used.hyp < length file.hyps

hyps_there : (file : File) (e : Equation) (method : Method) → MayBeBy file e method → All (HasHyp file) (uses_of method)
hyps_there file e ByRing rules = All-nil (HasHyp file)
hyps_there file e ByField rules = All-nil (HasHyp file)
hyps_there file e (ByNsatz uses power limit) rules =
    All-weaker (IsUse file e.sort) (HasHyp file) (λ used is. is.hyp) uses rules.each_use

last_hyps_there : (file : File) → IsValid file → 0 < length file.goals →
    All (HasHyp file) (uses_of (last_goal file).method)
last_hyps_there file valid there =
    let goal = last_goal file in
    let low : length file.goals - 1 < length file.goals = omega (arith, there) in
    let rules : IsGoal file goal = All-get_or (IsGoal file) file.goals (length file.goals - 1) no_goal low valid.goals in
    hyps_there file goal.equation goal.method rules.method

-- the goal with the last number is the last goal, of a file and of an equal one
module _ (file same : File) (goal : Goal) (n : ℕ) (file_is : same ≡ file) (number : n ≡ length file.goals - 1)
    (goal_is : goal ≡ goal_at file n) where
  is_last : goal ≡ last_goal file
  is_last = goal_is ∙ ap (λ k. goal_at file k) number

  pub has_hyps : IsValid same → 0 < length file.goals → All (λ u. u.hyp < length same.hyps) (uses_of goal.method)
  has_hyps valid there =
      subst (λ (f : File). All (HasHyp f) (uses_of goal.method)) (sym file_is)
      (subst (λ (g : Goal). All (HasHyp file) (uses_of g.method)) (sym is_last)
      (last_hyps_there file (subst IsValid file_is valid) there))

  pub has_atoms : (atoms : List Atom) → atoms ≡ goal_atoms same goal → atoms ≡ goal_atoms file (last_goal file)
  has_atoms atoms is =
      is ∙ ap (λ (f : File). goal_atoms f goal) file_is ∙ ap (λ (g : Goal). goal_atoms file g) is_last
