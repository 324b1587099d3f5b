-- A valid file with one more statement is valid, where what the statement declares keeps the rules.
use Rattle.std.proofs.Common.{◌≡◌, ◌<◌, ◌+◌, List, [], ◌∷◌, ◌++◌, length, sym, ap, ◌∙◌, subst, arith}
use Rattle.std.specs.Prelude.{All}
use Rattle.std.proofs.lemmas.List.Elements.{All-append, All-weaker}
use Rattle.alg_terms.specs.declared.file.File.{File}
use Rattle.alg_terms.specs.declared.file.Statement.{Statement}
use Rattle.alg_terms.specs.GoalRules.{IsHyp, IsGoal}
use Rattle.alg_terms.specs.Limits.{MEMBERS_END}
use Rattle.alg_terms.specs.Order.{numbers_from, Members, declared_by, used_by, AreAmong, members_of, IsOneSorted}
use Rattle.alg_terms.specs.Valid.{IsValid, HasCounts, IsSort, IsHom, IsVar}
use Rattle.alg_typing.proofs.GrowingGoals.{hyp_same, goal_same}
use Rattle.alg_typing.proofs.GrowingOrder.{with_more, ordered_with}
use Rattle.alg_typing.proofs.MoreMembers.{Further, further_grows, numbers_with, count_with, homs_kept, vars_kept, hyps_kept, goals_kept, AreNamed}

-- the numbers of the further members
abbrev pub numbers_of_further : (old new : File) → Further old new → Members
numbers_of_further old new more = record {
  sorts = numbers_from (length old.sorts) (length more.sorts);
  homs = numbers_from (length old.homs) (length more.homs);
  vars = numbers_from (length old.vars) (length more.vars);
  hyps = numbers_from (length old.hyps) (length more.hyps);
  goals = numbers_from (length old.goals) (length more.goals);
}

-- room for the further members
pub record HasRoomFor (old new : File) (more : Further old new) : Type 0 where
  pub sorts : length old.sorts + length more.sorts < MEMBERS_END
  pub homs : length old.homs + length more.homs < MEMBERS_END
  pub vars : length old.vars + length more.vars < MEMBERS_END
  pub hyps : length old.hyps + length more.hyps < MEMBERS_END
  pub goals : length old.goals + length more.goals < MEMBERS_END
  pub order : length old.order + 1 < MEMBERS_END

-- a list that gets no further members has room
pub stays : {X : Type 0} (xs : List X) → length xs < MEMBERS_END → length xs + 0 < MEMBERS_END
stays xs few = omega arith

-- what the one more statement declares keeps the rules
pub record IsFit (old new : File) (more : Further old new) (s : Statement) : Type 0 where
  pub named : AreNamed new
  pub sorts : All IsSort more.sorts
  pub homs : All (IsHom new) more.homs
  pub vars : All (IsVar new) more.vars
  pub hyps : All (IsHyp old) more.hyps
  pub goals : All (IsGoal old) more.goals
  pub order : new.order ≡ old.order ++ s ∷ []
  pub declares : declared_by s ≡ numbers_of_further old new more
  pub one_sorted : IsOneSorted new s
  pub among : AreAmong (used_by new s) (members_of old)

module _ (old new : File) (more : Further old new) (s : Statement) where
  counts : HasRoomFor old new more → new.order ≡ old.order ++ s ∷ [] → HasCounts new
  counts room order = record {
    sorts = subst (λ xs. length xs < MEMBERS_END) (sym more.with_sorts) (count_with old.sorts more.sorts room.sorts);
    homs = subst (λ xs. length xs < MEMBERS_END) (sym more.with_homs) (count_with old.homs more.homs room.homs);
    vars = subst (λ xs. length xs < MEMBERS_END) (sym more.with_vars) (count_with old.vars more.vars room.vars);
    hyps = subst (λ xs. length xs < MEMBERS_END) (sym more.with_hyps) (count_with old.hyps more.hyps room.hyps);
    goals = subst (λ xs. length xs < MEMBERS_END) (sym more.with_goals) (count_with old.goals more.goals room.goals);
    order = subst (λ xs. length xs < MEMBERS_END) (sym order) (count_with old.order (s ∷ []) room.order);
  }

  -- the numbers of one list's members with the further ones
  numbers : {X : Type 0} (before after further : List X) → after ≡ before ++ further →
      numbers_from 0 (length after) ≡ numbers_from 0 (length before) ++ numbers_from (length before) (length further)
  numbers before after further same = ap (λ xs. numbers_from 0 (length xs)) same ∙ numbers_with before further

  members : members_of new ≡ with_more (members_of old) (numbers_of_further old new more)
  members =
      let sorts = numbers old.sorts new.sorts more.sorts more.with_sorts in
      let homs = numbers old.homs new.homs more.homs more.with_homs in
      let vars = numbers old.vars new.vars more.vars more.with_vars in
      let hyps = numbers old.hyps new.hyps more.hyps more.with_hyps in
      let goals = numbers old.goals new.goals more.goals more.with_goals in
      cc

  pub assembled : IsValid old → HasRoomFor old new more → IsFit old new more s → IsValid new
  assembled valid room fit =
      let grows = further_grows old new more in
      record {
        counts = counts room fit.order;
        spelled = fit.named.spelled;
        distinct = fit.named.distinct;
        sorts = subst (All IsSort) (sym more.with_sorts) (All-append IsSort old.sorts more.sorts valid.sorts fit.sorts);
        homs = subst (All (IsHom new)) (sym more.with_homs)
            (All-append (IsHom new) old.homs more.homs (homs_kept old new more valid) fit.homs);
        vars = subst (All (IsVar new)) (sym more.with_vars)
            (All-append (IsVar new) old.vars more.vars (vars_kept old new more valid) fit.vars);
        hyps = subst (All (IsHyp new)) (sym more.with_hyps)
            (All-append (IsHyp new) old.hyps more.hyps (hyps_kept old new more valid)
            (All-weaker (IsHyp old) (IsHyp new) (hyp_same old new grows valid) more.hyps fit.hyps));
        goals = subst (All (IsGoal new)) (sym more.with_goals)
            (All-append (IsGoal new) old.goals more.goals (goals_kept old new more valid)
            (All-weaker (IsGoal old) (IsGoal new) (goal_same old new grows valid) more.goals fit.goals));
        ordered = ordered_with old new grows s valid.ordered fit.order
            (members ∙ ap (with_more (members_of old)) (sym fit.declares)) fit.one_sorted fit.among;
      }
