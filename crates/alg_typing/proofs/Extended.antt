-- A valid file with one more statement, which was read without fault, is valid.
use Rattle.std.proofs.Common.{◌≡◌, ◌≢◌, ◌≤◌, ◌<◌, ◌+◌, ℕ, false, List, [], ◌∷◌, ◌++◌, length, map, None, Some, refl, sym, ◌∙◌, subst, arith, append-nil, append_assoc}
use Rattle.std.specs.Prelude.{All, flat_map}
use Rattle.std.proofs.lemmas.List.{map-append}
use Rattle.std.proofs.lemmas.List.Elements.{All-nil, All-cons, All-append}
use Rattle.alg_terms.specs.declared.file.File.{File}
use Rattle.alg_terms.specs.declared.file.Statement.TheVariants as statement
use Rattle.alg_terms.specs.declared.goals.Equation.{Equation}
use Rattle.alg_terms.specs.declared.goals.Goal.{Goal}
use Rattle.alg_terms.specs.declared.goals.Hyp.{Hyp}
use Rattle.alg_terms.specs.declared.goals.Method.{Method}
use Rattle.alg_terms.specs.declared.goals.Method.TheVariants.{ByRing, ByField, ByNsatz}
use Rattle.alg_terms.specs.Limits.{MAX_USES, MAX_TEXT}
use Rattle.alg_terms.specs.GoalRules.{IsHyp, IsUse, MayBeBy, IsGoal}
use Rattle.alg_terms.specs.Members.{no_hyp, no_goal, uses_of}
use Rattle.alg_terms.specs.Names.{IsName}
use Rattle.alg_terms.specs.Occurring.{vars_in, homs_in}
use Rattle.alg_terms.specs.Order.{Members, AreAmong, members_of}
use Rattle.alg_terms.specs.Valid.{IsValid, IsSort, IsHom, IsVar}
use Rattle.alg_reader.specs.declared.raw.RawEquation.{RawEquation}
use Rattle.alg_reader.specs.declared.raw.RawKind.{RawKind}
use Rattle.alg_reader.specs.declared.raw.RawKind.TheVariants as raws
use Rattle.alg_reader.specs.declared.raw.RawMethod.{RawMethod}
use Rattle.alg_reader.specs.declared.raw.Span.{Span}
use Rattle.alg_reader.specs.declared.reading.Raw.{Raw}
use Rattle.alg_reader.specs.WellRead.{bytes_at, IsWellKind, IsWellRead, members_in, uses_in}
use Rattle.alg_typing.specs.NameFaults.{name_faults, new_name, equation_names, method_names}
use Rattle.alg_typing.specs.Reading.{first_fault}
use Rattle.alg_typing.specs.Resolved.{extended, equation_of, method_of}
use Rattle.alg_typing.specs.Room.{HasRoom}
use Rattle.alg_typing.specs.SortFaults.{sort_faults, equation_sorts, method_sorts, may_divide_by, sort_of_sides}
use Rattle.alg_typing.proofs.Assembling.{assembled, stays}
use Rattle.alg_typing.proofs.ExtendsDeclarations.{none_among, extends_sort, extends_hom, extends_vars}
use Rattle.alg_typing.proofs.Faultless.{no_name_faults, no_sort_faults}
use Rattle.alg_typing.proofs.MoreMembers.{Further, last_at, named}
use Rattle.alg_typing.proofs.NewEquations.{sides_resolved, equation_kept, divides_nowhere}
use Rattle.alg_typing.proofs.NewlyNamed.{is_new}
use Rattle.alg_typing.proofs.NewMethods.{method_kept}
use Rattle.alg_typing.proofs.NumbersInRange.{parts_empty}
use Rattle.alg_typing.proofs.OccurringInFile.{among_numbers, vars_of_equation, homs_of_equation, homs_of_uses, hyps_of_uses}

-- what a hypothesis uses, and what a goal uses
abbrev of_hyp : Hyp → Members
of_hyp hyp = record { sorts = []; homs = homs_in hyp.equation; vars = vars_in hyp.equation; hyps = []; goals = [] }

abbrev of_goal : Goal → Members
of_goal goal = record {
  sorts = [];
  homs = homs_in goal.equation ++ flat_map (λ used. used.path) (uses_of goal.method);
  vars = vars_in goal.equation;
  hyps = map (λ used. used.hyp) (uses_of goal.method);
  goals = [];
}

module _ (file : File) (text : List ℕ) (valid : IsValid file) where
  hyp_among : (hyp : Hyp) → IsHyp file hyp → AreAmong (of_hyp hyp) (members_of file)
  hyp_among hyp h = record {
    sorts = none_among _;
    homs = among_numbers (length file.homs) (homs_in hyp.equation) (homs_of_equation file hyp.equation h.equation);
    vars = among_numbers (length file.vars) (vars_in hyp.equation) (vars_of_equation file hyp.equation h.equation);
    hyps = none_among _;
  }

  extends_hyp : (name : Span) (e : RawEquation) → IsWellKind text (raws.Hyp name e) →
      name_faults file text (raws.Hyp name e) ≡ [] → sort_faults file text (raws.Hyp name e) ≡ [] →
      HasRoom file (raws.Hyp name e) → IsValid (extended file text (raws.Hyp name e))
  extends_hyp name e well names sorts room =
      let bytes = bytes_at text name in
      let equation = equation_of file text e in
      let hyp : Hyp = record { name = bytes; equation = equation; nonzero = e.nonzero } in
      let new = extended file text (raws.Hyp name e) in
      let more : Further file new = record {
        sorts = [];
        homs = [];
        vars = [];
        hyps = hyp ∷ [];
        goals = [];
        with_sorts = sym (append-nil file.sorts);
        with_homs = sym (append-nil file.homs);
        with_vars = sym (append-nil file.vars);
        with_hyps = refl;
        with_goals = sym (append-nil file.goals);
      } in
      let (new_one, used) = parts_empty (new_name file text [] name) (equation_names file text e) names in
      let (free, _) = is_new file text [] name new_one in
      let fits : IsHyp file hyp = record {
        equation = equation_kept file text false e well.1 used sorts;
        divides_nowhere = divides_nowhere file text e sorts;
      } in
      assembled file new more (statement.Hyp (length file.hyps)) valid
      (record {
        sorts = stays file.sorts valid.counts.sorts;
        homs = stays file.homs valid.counts.homs;
        vars = stays file.vars valid.counts.vars;
        hyps = room.members;
        goals = stays file.goals valid.counts.goals;
        order = room.order;
      })
      (record {
        named = named file new
            (((map (λ sort. sort.name) file.sorts ++ map (λ hom. hom.name) file.homs)
            ++ map (λ var. var.name) file.vars) ++ map (λ hyp. hyp.name) file.hyps) (bytes ∷ []) [] valid
            (sym (append-nil _))
            (simp (map-append, append_assoc)) (All-cons IsName bytes [] well.0.name (All-nil IsName)) (tt, tt)
            (free, tt);
        sorts = All-nil IsSort;
        homs = All-nil (IsHom new);
        vars = All-nil (IsVar new);
        hyps = All-cons (IsHyp file) hyp [] fits (All-nil (IsHyp file));
        goals = All-nil (IsGoal file);
        order = refl;
        declares = refl;
        one_sorted = tt;
        among = subst (λ h. AreAmong (of_hyp h) (members_of file)) (sym (last_at file.hyps hyp no_hyp))
            (hyp_among hyp fits);
      })

  -- the uses of a goal of the file are uses of its sort
  uses_in_file : (e : Equation) (method : Method) → MayBeBy file e method → All (IsUse file e.sort) (uses_of method)
  uses_in_file e ByRing h = All-nil (IsUse file e.sort)
  uses_in_file e ByField h = All-nil (IsUse file e.sort)
  uses_in_file e (ByNsatz uses power limit) h = h.each_use

  goal_among : (goal : Goal) → IsGoal file goal → AreAmong (of_goal goal) (members_of file)
  goal_among goal h =
      let uses = uses_of goal.method in
      let each = uses_in_file goal.equation goal.method h.method in
      record {
        sorts = none_among _;
        homs = among_numbers (length file.homs) (homs_in goal.equation ++ flat_map (λ used. used.path) uses)
            (All-append (λ f. f < length file.homs) (homs_in goal.equation) (flat_map (λ used. used.path) uses)
            (homs_of_equation file goal.equation h.equation) (homs_of_uses file goal.equation.sort uses each));
        vars = among_numbers (length file.vars) (vars_in goal.equation)
            (vars_of_equation file goal.equation h.equation);
        hyps = among_numbers (length file.hyps) (map (λ used. used.hyp) uses)
            (hyps_of_uses file goal.equation.sort uses each);
      }

  extends_goal : (e : RawEquation) (method : RawMethod) (method_at : ℕ) →
      IsWellKind text (raws.Goal e method method_at) →
      name_faults file text (raws.Goal e method method_at) ≡ [] →
      sort_faults file text (raws.Goal e method method_at) ≡ [] →
      HasRoom file (raws.Goal e method method_at) → uses_in method ≤ MAX_USES →
      IsValid (extended file text (raws.Goal e method method_at))
  extends_goal e method method_at well names sorts room few =
      let equation = equation_of file text e in
      let goal : Goal = record { equation = equation; method = method_of file text method } in
      let new = extended file text (raws.Goal e method method_at) in
      let more : Further file new = record {
        sorts = [];
        homs = [];
        vars = [];
        hyps = [];
        goals = goal ∷ [];
        with_sorts = sym (append-nil file.sorts);
        with_homs = sym (append-nil file.homs);
        with_vars = sym (append-nil file.vars);
        with_hyps = sym (append-nil file.hyps);
        with_goals = refl;
      } in
      let (used, further) = parts_empty (equation_names file text e) (method_names file text method) names in
      let may_divide = may_divide_by file text method in
      let (sides, own) = parts_empty (equation_sorts file text may_divide e)
      (method_sorts file text (sort_of_sides file text e) method_at method) sorts in
      let rules = equation_kept file text may_divide e well.0 used sides in
      let sort : sort_of_sides file text e ≡ Some equation.sort = sides_resolved file text false e ∙ rules.sort in
      let at_sort = subst (λ s. method_sorts file text s method_at method ≡ []) sort own in
      let fits : IsGoal file goal = record {
        equation = rules;
        method = method_kept file text e method method_at rules further sides at_sort few;
      } in
      assembled file new more (statement.Goal (length file.goals)) valid
      (record {
        sorts = stays file.sorts valid.counts.sorts;
        homs = stays file.homs valid.counts.homs;
        vars = stays file.vars valid.counts.vars;
        hyps = stays file.hyps valid.counts.hyps;
        goals = room.members;
        order = room.order;
      })
      (record {
        named = record { spelled = valid.spelled; distinct = valid.distinct };
        sorts = All-nil IsSort;
        homs = All-nil (IsHom new);
        vars = All-nil (IsVar new);
        hyps = All-nil (IsHyp file);
        goals = All-cons (IsGoal file) goal [] fits (All-nil (IsGoal file));
        order = refl;
        declares = refl;
        one_sorted = tt;
        among = subst (λ g. AreAmong (of_goal g) (members_of file)) (sym (last_at file.goals goal no_goal))
            (goal_among goal fits);
      })

  extends_kind : (kind : RawKind) → IsWellKind text kind → name_faults file text kind ≡ [] →
      sort_faults file text kind ≡ [] → HasRoom file kind → (kind ≢ raws.End → members_in kind ≤ MAX_USES) →
      IsValid (extended file text kind)
  extends_kind raws.End well names sorts room few = valid
  extends_kind (raws.Sort kind name char0) well names sorts room few =
      extends_sort file text valid kind name char0 well names room
  extends_kind (raws.Hom name from to) well names sorts room few =
      extends_hom file text valid name from to well names room
  extends_kind (raws.Vars spans of) well names sorts room few = extends_vars file text valid spans of well names room
  extends_kind (raws.Hyp name e) well names sorts room few = extends_hyp name e well names sorts room
  extends_kind (raws.Goal e method method_at) well names sorts room few =
      let all : 1 + uses_in method ≤ MAX_USES = few (λ h. cc) in
      extends_goal e method method_at well names sorts room (omega arith)
  extends_kind (raws.Answer said) well names sorts room few = valid
  extends_kind (raws.Line a m i b n j d) well names sorts room few = valid
  extends_kind (raws.Step a b n j d) well names sorts room few = valid

-- each member and each use takes a byte of the text
few_members : (text : List ℕ) (at : ℕ) (raw : Raw) → length text ≤ MAX_TEXT → IsWellRead text at raw →
    raw.kind ≢ raws.End → members_in raw.kind ≤ MAX_USES
few_members text at raw size well goes =
    let inside = well.stops.0 in
    let long = well.long goes in
    let all : members_in raw.kind ≤ MAX_TEXT = omega arith in
    grind (arith)

-- a valid file with one more statement, which was read and has no fault, is valid
pub extended_is_valid : (file : File) (text : List ℕ) (at : ℕ) (raw : Raw) → IsValid file → length text ≤ MAX_TEXT →
    IsWellRead text at raw → HasRoom file raw.kind → first_fault file text raw ≡ None →
    IsValid (extended file text raw.kind)
extended_is_valid file text at raw valid size well room h =
    extends_kind file text valid raw.kind well.kind (no_name_faults file text raw h)
    (no_sort_faults file text raw h) room (few_members text at raw size well)
