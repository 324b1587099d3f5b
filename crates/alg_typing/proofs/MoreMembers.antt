-- A file with further members behind those that it had.
use Rattle.std.proofs.Common.{◌≡◌, ◌≢◌, ◌<◌, ◌≤◌, ℕ, ◌+◌, List, [], ◌∷◌, ◌++◌, length, None, sym, ap, ◌∙◌, subst, arith, zero-add, length-append}
use Rattle.std.specs.Prelude.{All, AllPairs, slice_index_or}
use Rattle.std.specs.List.{AllByRecursion}
use Rattle.std.proofs.lemmas.List.{get_or_append_left, get_or-append-add}
use Rattle.std.proofs.lemmas.List.Elements.{All-append, All-weaker}
use Rattle.alg_terms.specs.declared.declarations.HomDecl.{HomDecl}
use Rattle.alg_terms.specs.declared.declarations.Sort.{Sort}
use Rattle.alg_terms.specs.declared.declarations.VarDecl.{VarDecl}
use Rattle.alg_terms.specs.declared.file.File.{File}
use Rattle.alg_terms.specs.declared.goals.Goal.{Goal}
use Rattle.alg_terms.specs.declared.goals.Hyp.{Hyp}
use Rattle.alg_terms.specs.GoalRules.{IsHyp, IsGoal}
use Rattle.alg_terms.specs.Limits.{MEMBERS_END}
use Rattle.alg_terms.specs.Members.{no_sort, no_hom, no_var, no_hyp, no_goal}
use Rattle.alg_terms.specs.Names.{IsName}
use Rattle.alg_terms.specs.Order.{numbers_from}
use Rattle.alg_terms.specs.Valid.{IsValid, IsHom, IsVar, names_of}
use Rattle.alg_terms.proofs.JoinedLists.{all_left, all_right}
use Rattle.alg_typing.specs.Names.{declared_as}
use Rattle.alg_typing.proofs.Growing.{Grows}
use Rattle.alg_typing.proofs.GrowingGoals.{hyp_same, goal_same}
use Rattle.alg_typing.proofs.FreshNames.{AreDistinct, AreApart, not_declared, distinct_inserted, distinct_from_pairs, pairs_from_distinct, recursion_weaker, IsNew}
use Rattle.alg_typing.proofs.Ordering.{numbers-append}

-- the further members of each list
pub record Further (old new : File) : Type 0 where
  pub sorts : List Sort
  pub homs : List HomDecl
  pub vars : List VarDecl
  pub hyps : List Hyp
  pub goals : List Goal
  pub with_sorts : new.sorts ≡ old.sorts ++ sorts
  pub with_homs : new.homs ≡ old.homs ++ homs
  pub with_vars : new.vars ≡ old.vars ++ vars
  pub with_hyps : new.hyps ≡ old.hyps ++ hyps
  pub with_goals : new.goals ≡ old.goals ++ goals

-- a member stays at its number
kept_at : {X : Type 0} (old new more : List X) (d : X) (k : ℕ) → new ≡ old ++ more → k < length old →
    slice_index_or new k d ≡ slice_index_or old k d
kept_at old new more d k same low = ap (λ xs. slice_index_or xs k d) same ∙ get_or_append_left old more d k low

-- a list with further members is as long at least
longer : {X : Type 0} (old new more : List X) → new ≡ old ++ more → length old ≤ length new
longer old new more same =
    let long : length new ≡ length old + length more = ap length same ∙ length-append old more in omega arith

pub further_grows : (old new : File) → Further old new → Grows old new
further_grows old new more = record {
  sorts = λ s low. kept_at old.sorts new.sorts more.sorts no_sort s more.with_sorts low;
  homs = λ f low. kept_at old.homs new.homs more.homs no_hom f more.with_homs low;
  vars = λ k low. kept_at old.vars new.vars more.vars no_var k more.with_vars low;
  hyps = λ h low. kept_at old.hyps new.hyps more.hyps no_hyp h more.with_hyps low;
  goals = λ i low. kept_at old.goals new.goals more.goals no_goal i more.with_goals low;
  more_sorts = longer old.sorts new.sorts more.sorts more.with_sorts;
  more_homs = longer old.homs new.homs more.homs more.with_homs;
  more_vars = longer old.vars new.vars more.vars more.with_vars;
  more_hyps = longer old.hyps new.hyps more.hyps more.with_hyps;
}

-- the member behind those that were there
pub last_at : {X : Type 0} (old : List X) (x d : X) → slice_index_or (old ++ x ∷ []) (length old) d ≡ x
last_at old x d =
    let P : ℕ → Type 0 = λ n. slice_index_or (old ++ x ∷ []) n d ≡ x in
    subst P (omega arith) (get_or-append-add old (x ∷ []) 0 d)

-- the numbers of a list with further members
pub numbers_with : {X : Type 0} (old more : List X) →
    numbers_from 0 (length (old ++ more)) ≡ numbers_from 0 (length old) ++ numbers_from (length old) (length more)
numbers_with old more =
    ap (numbers_from 0) (length-append old more) ∙ numbers-append 0 (length old) (length more)
    ∙ ap (λ first. numbers_from 0 (length old) ++ numbers_from first (length more)) (zero-add (length old))

-- how many members a list has with further ones
pub count_with : {X : Type 0} (old more : List X) → length old + length more < MEMBERS_END →
    length (old ++ more) < MEMBERS_END
count_with old more room = omega (arith, length-append old more)

-- what each list keeps
module _ (old new : File) (more : Further old new) (valid : IsValid old) where
  pub homs_kept : All (IsHom new) old.homs
  homs_kept = All-weaker (IsHom old) (IsHom new) (λ hom h.
      let sorts = (further_grows old new more).more_sorts in
      record { source = omega (arith, h.source, sorts); target = omega (arith, h.target, sorts) }) old.homs valid.homs

  pub vars_kept : All (IsVar new) old.vars
  vars_kept = All-weaker (IsVar old) (IsVar new) (λ var h. omega (arith, (further_grows old new more).more_sorts))
      old.vars valid.vars

  pub hyps_kept : All (IsHyp new) old.hyps
  hyps_kept = All-weaker (IsHyp old) (IsHyp new) (hyp_same old new (further_grows old new more) valid) old.hyps
      valid.hyps

  pub goals_kept : All (IsGoal new) old.goals
  goals_kept = All-weaker (IsGoal old) (IsGoal new) (goal_same old new (further_grows old new more) valid) old.goals
      valid.goals

-- the names of a file with further names among them are names, and distinct
pub record AreNamed (file : File) : Type 0 where
  pub spelled : All IsName (names_of file)
  pub distinct : AllPairs (λ name later. name ≢ later) (names_of file)

pub named : (old new : File) (front names back : List (List ℕ)) → IsValid old → names_of old ≡ front ++ back →
    names_of new ≡ front ++ (names ++ back) → All IsName names → AreDistinct names →
    AllByRecursion (λ name. declared_as old name ≡ None) names → AreNamed new
named old new front names back valid before after spelled distinct free =
    let all = subst (All IsName) before valid.spelled in
    let pairs = distinct_from_pairs (front ++ back)
    (subst (AllPairs (λ name later. name ≢ later)) before valid.distinct) in
    let apart : AreApart names (front ++ back) =
    recursion_weaker (λ name. declared_as old name ≡ None) (λ name. IsNew name (front ++ back)) names
    (λ name none. subst (IsNew name) before (not_declared old name none)) free in
    record {
      spelled = subst (All IsName) (sym after) (All-append IsName front (names ++ back) (all_left IsName front back all)
          (All-append IsName names back spelled (all_right IsName front back all)));
      distinct = subst (AllPairs (λ name later. name ≢ later)) (sym after)
          (pairs_from_distinct (front ++ (names ++ back)) (distinct_inserted front names back pairs distinct apart));
    }
