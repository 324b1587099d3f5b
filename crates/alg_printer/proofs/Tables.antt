-- The atoms of a goal's table are of the file.
use Rattle.std.proofs.Common.{◌<◌, ℕ, Bool, true, false, List, [], ◌∷◌, ◌++◌, flat_map, length, nat_le, sym, subst, if◌then◌else◌}
use Rattle.std.specs.Prelude.{All}
use Rattle.std.proofs.lemmas.List.{get_or_default}
use Rattle.std.proofs.lemmas.List.Elements.{All-nil, All-cons, All-head, All-tail, All-append, All-filter, All-get_or}
use Rattle.alg_terms.specs.declared.file.File.{File}
use Rattle.alg_terms.specs.declared.goals.Equation.{Equation}
use Rattle.alg_terms.specs.declared.goals.Method.{Method}
use Rattle.alg_terms.specs.declared.goals.Method.TheVariants.{ByRing, ByField, ByNsatz}
use Rattle.alg_terms.specs.declared.goals.Use.{Use}
use Rattle.alg_terms.specs.declared.term.Atom.{Atom}
use Rattle.alg_terms.specs.GoalRules.{IsGoal, IsHyp, IsUse, IsEquation, MayBeBy}
use Rattle.alg_terms.specs.Members.{hyp_at, no_hyp, goal_at, no_goal, uses_of}
use Rattle.alg_terms.specs.Valid.{IsValid}
use Rattle.alg_terms.specs.Lists.{each_once}
use Rattle.alg_reify.specs.Table.{goal_atoms, equation_leaves, use_leaves, table, MAX_ATOMS, atom_eq}
use Rattle.alg_reify.proofs.Uses.{use_leaves-at}
use Rattle.alg_printer.specs.Monomials.{IsAtomOf}
use Rattle.alg_printer.proofs.Leaves.{AreAtoms, AreNamed, equation_has}

named : (file : File) (e : Equation) → IsEquation file e → AreNamed file e
named file e rules = (rules.left.indices, rules.right.indices)

once_has : (file : File) (atoms : List Atom) → AreAtoms file atoms → AreAtoms file (each_once atom_eq atoms)
once_has file [] all = all
once_has file (a ∷ atoms) all =
    All-cons (IsAtomOf file) a _ (All-head (IsAtomOf file) a atoms all)
    (All-filter _ (IsAtomOf file) (each_once atom_eq atoms) (once_has file atoms (All-tail
    (IsAtomOf file) a atoms all)))

use_has : (file : File) (sort : ℕ) (u : Use) → IsValid file → IsUse file sort u → AreAtoms file (use_leaves file u)
use_has file sort u valid rules =
    let hyp = hyp_at file u.hyp in
    let is = use_leaves-at file u hyp rules.hyp (get_or_default file.hyps u.hyp no_hyp hyp rules.hyp) in
    subst (AreAtoms file) (sym is)
    (equation_has file u.path hyp.equation rules.path
    (named file hyp.equation (All-get_or (IsHyp file) file.hyps u.hyp no_hyp rules.hyp valid.hyps).equation))

uses_have : (file : File) (sort : ℕ) (uses : List Use) → IsValid file → All (IsUse file sort) uses →
    AreAtoms file (flat_map (use_leaves file) uses)
uses_have file sort [] valid all = All-nil (IsAtomOf file)
uses_have file sort (u ∷ uses) valid all =
    All-append (IsAtomOf file) (use_leaves file u) (flat_map (use_leaves file) uses)
    (use_has file sort u valid (All-head (IsUse file sort) u uses all))
    (uses_have file sort uses valid (All-tail (IsUse file sort) u uses all))

-- the uses of a method keep the rules of uses
pub uses_keep : (file : File) (e : Equation) (method : Method) → MayBeBy file e method →
    All (IsUse file e.sort) (uses_of method)
uses_keep file e ByRing rules = All-nil (IsUse file e.sort)
uses_keep file e ByField rules = All-nil (IsUse file e.sort)
uses_keep file e (ByNsatz uses power limit) rules = rules.each_use

some_or_none : (file : File) (b : Bool) (atoms : List Atom) → AreAtoms file atoms →
    AreAtoms file (if b then atoms else [])
some_or_none file true atoms all = all
some_or_none file false atoms all = All-nil (IsAtomOf file)

pub goal_has : (file : File) (i : ℕ) → IsValid file → i < length file.goals →
    AreAtoms file (goal_atoms file (goal_at file i))
goal_has file i valid within =
    let goal = goal_at file i in
    let uses = uses_of goal.method in
    let rules : IsGoal file goal = All-get_or (IsGoal file) file.goals i no_goal within valid.goals in
    some_or_none file (nat_le (length (table file goal.equation uses)) MAX_ATOMS) (table file goal.equation uses)
    (once_has file (equation_leaves [] goal.equation ++ flat_map (use_leaves file) uses)
    (All-append (IsAtomOf file) (equation_leaves [] goal.equation) (flat_map (use_leaves file) uses)
    (equation_has file [] goal.equation (All-nil (λ f. f < length file.homs)) (named file goal.equation rules.equation))
    (uses_have file goal.equation.sort uses valid (uses_keep file goal.equation goal.method rules.method))))
