-- Equations, hypotheses, uses and goals in a file with more members: they keep the rules that they kept.
use Rattle.std.proofs.Common.{◌≡◌, ◌<◌, ℕ, List, [], ◌∷◌, length, Option, None, Some, sym, ap, ◌∙◌, subst, arith}
use Rattle.std.specs.Prelude.{All, IfSome}
use Rattle.std.specs.Option.{option_or}
use Rattle.std.proofs.lemmas.List.Elements.{All-head, All-tail, All-nil, All-weaker}
use Rattle.alg_terms.specs.declared.file.File.{File}
use Rattle.alg_terms.specs.declared.goals.Equation.{Equation}
use Rattle.alg_terms.specs.declared.goals.Goal.{Goal}
use Rattle.alg_terms.specs.declared.goals.Hyp.{Hyp}
use Rattle.alg_terms.specs.declared.goals.Method.{Method}
use Rattle.alg_terms.specs.declared.goals.Method.TheVariants.{ByRing, ByField, ByNsatz}
use Rattle.alg_terms.specs.declared.goals.Use.{Use}
use Rattle.alg_terms.specs.declared.term.Term.{Term}
use Rattle.alg_terms.specs.declared.term.Term.TheOpen.{Term-F}
use Rattle.alg_terms.specs.GoalRules.{IsEquation, IsHyp, IsUse, MayBeBy, IsGoal}
use Rattle.alg_terms.specs.Kinds.{IsDomain, IsField}
use Rattle.alg_terms.specs.Members.{kind_of, source_of, hyp_at, no_hyp, no_hom, no_var}
use Rattle.alg_terms.specs.Nodes.{fold_term, EachNode}
use Rattle.alg_terms.specs.Sorts.{own_sort, equation_sort, Leads, hyp_sort}
use Rattle.alg_terms.specs.TermRules.{IsInRange, HasFieldQuotients, DividesInFields}
use Rattle.alg_terms.specs.Valid.{IsValid, IsHom, IsVar}
use Rattle.alg_terms.proofs.Views.{Leaf, Unary, Binary, leaf, unary, binary, induction, nodes_binary, own_binary}
use Rattle.alg_typing.proofs.Growing.{Grows, kind_same, source_same, target_same, field_same, field_targets, agree_same}
use Rattle.alg_typing.proofs.OtherFiles.{nodes_go_over}
use Rattle.alg_typing.proofs.GrowingTerms.{or_same, own_same, term_same}

-- an own sort that is there is one of the file
abbrev SortInRange : File → Option ℕ → Type 0
SortInRange file sort = IfSome sort (λ s. s < length file.sorts)

or_in_range : (file : File) (a b : Option ℕ) → SortInRange file a → SortInRange file b →
    SortInRange file (option_or a b)
or_in_range file None b h k = k
or_in_range file (Some s) b h k = h

module _ (file : File) (homs : All (IsHom file) file.homs) (vars : All (IsVar file) file.vars) where
  abbrev OwnInRange : Term → Type 0
  OwnInRange t = EachNode (IsInRange file) t → SortInRange file (own_sort file t)

  leaf_in_range : (l : Leaf) → OwnInRange (leaf l)
  unfolding fold_term EachNode
  leaf_in_range (Leaf.Variable k) r = vars k no_var r
  leaf_in_range (Leaf.Literal n) r = tt

  unary_in_range : (o : Unary) (t : Term) → OwnInRange t → OwnInRange (unary o t)
  unfolding fold_term EachNode
      Rattle.alg_terms.specs.declared.term.Term.TheBlock.hidden-the_row-Term-0 denote.Hole.Carrier.hidden
  unary_in_range Unary.Opposite t part r = part r.1
  unary_in_range (Unary.Power n) t part r = part r.1
  unary_in_range (Unary.Image f) t part r = (homs f no_hom r.0).target

  binary_in_range : (o : Binary) (t u : Term) → OwnInRange t → OwnInRange u → OwnInRange (binary o t u)
  binary_in_range o t u left right r =
      let (here, first, second) = (nodes_binary (IsInRange file) o t u).0 r in
      subst (SortInRange file) (sym (own_binary file o t u))
      (or_in_range file (own_sort file t) (own_sort file u) (left first) (right second))

  pub own_in_range : (t : Term) → OwnInRange t
  own_in_range =
      induction OwnInRange
      (record { of_leaf = leaf_in_range; of_unary = unary_in_range; of_binary = binary_in_range })

  -- the sort of two sides is one of the file
  pub sides_in_range : (left right : Term) (sort : ℕ) → EachNode (IsInRange file) left →
      EachNode (IsInRange file) right → equation_sort file left right ≡ Some sort → sort < length file.sorts
  sides_in_range left right sort l r is =
      subst (SortInRange file) is
      (or_in_range file (own_sort file left) (own_sort file right) (own_in_range left l) (own_in_range right r))

  -- and so is that of an equation
  pub equation_in_range : (e : Equation) → IsEquation file e → e.sort < length file.sorts
  equation_in_range e h = sides_in_range e.left e.right e.sort h.left.indices h.right.indices h.sort

module _ (old new : File) (grows : Grows old new) (valid : IsValid old) where
  pub equation_same : (e : Equation) → IsEquation old e → IsEquation new e
  equation_same e h =
      let left = own_same old new grows e.left h.left.indices in
      let right = own_same old new grows e.right h.right.indices in
      record {
        left = term_same old new grows e.left h.left;
        right = term_same old new grows e.right h.right;
        sides = agree_same _ _ _ _ left right h.sides;
        sort = or_same _ _ _ _ left right ∙ h.sort;
      }

  pub hyp_same : (hyp : Hyp) → IsHyp old hyp → IsHyp new hyp
  hyp_same hyp h = record { equation = equation_same hyp.equation h.equation; divides_nowhere = h.divides_nowhere }

  -- quotients of fields are so still
  field_node : (s : ℕ) (above : List ℕ) (n : Term-F Term) → s < length old.sorts →
      All (λ f. f < length old.homs) above → DividesInFields old s above n → DividesInFields new s above n
  field_node s above (Term-F.Div t u) low up h =
      (field_same old new grows s low h.0, field_targets old new grows valid.homs above up h.1)
  field_node s above _ low up h = tt

  known : (f : ℕ) (t : Term) → IsInRange old (Term-F.Hom f t) →
      (f < length old.homs) × (source_of new f < length old.sorts) × (source_of new f ≡ source_of old f)
  known f t r =
      let same = source_same old new grows f r in
      (r, subst (λ s. s < length old.sorts) (sym same) (valid.homs f no_hom r).source, same)

  pub field_quotients : (t : Term) (s : ℕ) → s < length old.sorts → EachNode (IsInRange old) t → HasFieldQuotients old s t →
      HasFieldQuotients new s t
  field_quotients t s low r h =
      nodes_go_over old new (IsInRange old) (λ s. s < length old.sorts) (λ f. f < length old.homs) known
      (DividesInFields old) (DividesInFields new) field_node t s [] low (All-nil (λ f. f < length old.homs)) r h

  -- a path leads where it led
  leads_same : (path : List ℕ) (from to : ℕ) → All (λ f. f < length old.homs) path → Leads old path from to →
      Leads new path from to
  leads_same [] from to r h = h
  leads_same (f ∷ path) from to r h =
      let here : f < length old.homs = All-head (λ g. g < length old.homs) f path r in
      let later = leads_same path from (source_of old f) (All-tail (λ g. g < length old.homs) f path r) h.1 in (
        target_same old new grows f here ∙ h.0,
        subst (Leads new path from) (sym (source_same old new grows f here)) later,
      )

  use_same : (s : ℕ) (used : Use) → IsUse old s used → IsUse new s used
  use_same s used h =
      let there : hyp_at new used.hyp ≡ hyp_at old used.hyp = grows.hyps used.hyp h.hyp in
      let sort : hyp_sort new used ≡ hyp_sort old used = ap (λ hyp. hyp.equation.sort) there in
      let low : hyp_sort old used < length old.sorts =
      equation_in_range old valid.homs valid.vars (hyp_at old used.hyp).equation
      (valid.hyps used.hyp no_hyp h.hyp).equation in
      record {
        hyp = omega (arith, h.hyp, grows.more_hyps);
        path = All-weaker (λ f. f < length old.homs) (λ f. f < length new.homs) (λ f r. omega (arith, grows.more_homs))
            used.path h.path;
        sorts = subst (λ from. Leads new used.path from s) (sym sort) (leads_same used.path _ s h.path h.sorts);
        nonzero = λ unequal some.
            subst (λ at. IsField (kind_of new at)) (sym sort)
            (field_same old new grows (hyp_sort old used) low (h.nonzero (sym (ap (λ hyp. hyp.nonzero) there) ∙ unequal)
            some));
      }

  -- what a method asks it asks still
  method_same : (e : Equation) (method : Method) → IsEquation old e → MayBeBy old e method → MayBeBy new e method
  method_same e ByRing rules h = h
  method_same e ByField rules h =
      let low = equation_in_range old valid.homs valid.vars e rules in
      record {
        field = field_same old new grows e.sort low h.field;
        left = field_quotients e.left e.sort low rules.left.indices h.left;
        right = field_quotients e.right e.sort low rules.right.indices h.right;
      }
  method_same e (ByNsatz uses power limit) rules h = record {
    domain = subst IsDomain (sym (kind_same old new grows e.sort (equation_in_range old valid.homs valid.vars e rules)))
        h.domain;
    divides_nowhere = h.divides_nowhere;
    each_use = All-weaker (IsUse old e.sort) (IsUse new e.sort) (use_same e.sort) uses h.each_use;
    few_uses = h.few_uses;
    power_low = h.power_low;
    power_high = h.power_high;
    limit_high = h.limit_high;
  }

  pub goal_same : (goal : Goal) → IsGoal old goal → IsGoal new goal
  goal_same goal h = record {
    equation = equation_same goal.equation h.equation;
    method = method_same goal.equation goal.method h.equation h.method;
  }
