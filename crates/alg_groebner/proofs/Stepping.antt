-- The code's moves are those of the rules.
use Rattle.std.specs.Prelude.{◌≡◌, ℕ, ◌<◌, cond, List, [], ◌∷◌, Option, Some, None, Result, Err}
use Rattle.std.proofs.Common.{refl, sym, ap, subst, ◌∙◌}
use borrow.Author.Tests.{eqb-true}
use Rattle.alg_mono.specs.Mono.{Monomial}
use Rattle.alg_mono.specs.NumberedPolynomials.{Polynomial}
use Rattle.alg_mono.specs.Outcomes.{Outcome}
use Rattle.alg_mono.specs.Refusals.{RefusesWith}
use Rattle.alg_mono.specs.declared.ends.Overrun.{Overrun}
use Rattle.alg_mono.specs.declared.ends.Overrun.TheVariants.{Range, Degree, NoMemory}
use Rattle.alg_groebner.specs.Cancelling.{quotient, reduced, reduce_outcome, left_lift, right_lift, s_polynomial, s_outcome}
use Rattle.alg_groebner.specs.Choices.{remainder_at, zero_power}
use Rattle.alg_groebner.specs.State.{End}
use Rattle.alg_groebner.specs.Steps.{Steps}
use Rattle.alg_groebner.specs.Work.{Work, member_at, member_reducer, member_reducible, with_made, with_step, with_current, work_goal_reduced, work_pair_taken}
use Rattle.alg_groebner.specs.Working.{WorkNext, GoesOn, Stops, work_made, work_counted, by_members, work_by_reducer, work_by_line, work_by_reducible, work_by_current, work_by_power, work_next}
use Rattle.alg_groebner.specs.declared.member.Member.{Member}
use Rattle.alg_groebner.specs.declared.cancel.Cancelled.{Cancelled}
use Rattle.alg_groebner.specs.declared.machine.Ending.{Ending}
use Rattle.alg_groebner.specs.declared.remainder.Remainder.{Remainder}
use Rattle.alg_groebner.proofs.Adding.{is_less}
use Rattle.alg_groebner.proofs.Found.{found}

module _ (limit : ℕ) (w : Work) (due : w.count < limit) where
  counted_is : (o : Outcome) (to : Work) → work_counted limit w o to ≡ work_made o to
  counted_is o to =
      ap (λ b. cond b (work_made o to) (Stops End.GaveUp)) (is_less w.count limit due)

  counted_goes : (o : Outcome) (to new : Work) → o ≡ Outcome.Fine → new ≡ to → work_counted limit w o to ≡ GoesOn new
  counted_goes o to new fine e = counted_is o to ∙ ap (λ x. work_made x to) fine ∙ ap GoesOn (sym e)

  counted_stops : (o : Outcome) (to old new : Work) (e : Overrun) → RefusesWith e o → Steps (work_counted limit w o to)
      (Err e) old new
  counted_stops o to old new Range t = counted_is o to ∙ ap (λ x. work_made x to) t
  counted_stops o to old new Degree t = counted_is o to ∙ ap (λ x. work_made x to) t
  counted_stops o to old new NoMemory t = tt

  -- GoalIsReduced
  module _ (hyps : List Polynomial) (r : ℕ) (b : Member) (g : Remainder)
      (chosen : Some (r, b) ≡ member_reducible w.basis 0 w.remainders) (at : g ≡ remainder_at w.remainders r) where
    pub goal_goes : (n : Monomial) (c : Cancelled) (new : Work) → reduce_outcome g.rest b.poly ≡ Outcome.Fine →
        n ≡ quotient g.rest b.poly → c ≡ reduced g.rest b.poly → new ≡ with_step w r n b.number c →
        work_by_reducible hyps limit w (member_reducible w.basis 0 w.remainders) ≡ GoesOn new
    goal_goes n c new fine ne ce is =
        ap (work_by_reducible hyps limit w) (sym chosen)
        ∙ counted_goes (reduce_outcome (remainder_at w.remainders r).rest b.poly) (work_goal_reduced w r b) new
        ((λ i. reduce_outcome (sym at i).rest b.poly) ∙ fine)
        (is ∙ (λ i. with_step w r (ne i) b.number (ce i)) ∙ (λ i. with_step w r (quotient (at i).rest b.poly) b.number
        (reduced (at i).rest b.poly)))

    pub goal_stops : (old new : Work) (e : Overrun) → RefusesWith e (reduce_outcome g.rest b.poly) →
        Steps (work_by_reducible hyps limit w (member_reducible w.basis 0 w.remainders)) (Err e) old new
    goal_stops old new e t =
        subst (λ (o : Option (ℕ × Member)). Steps (work_by_reducible hyps limit w o) (Err e) old new) chosen
        (counted_stops (reduce_outcome (remainder_at w.remainders r).rest b.poly) (work_goal_reduced w r b) old new e
        (subst (λ (x : Remainder). RefusesWith e (reduce_outcome x.rest b.poly)) at t))

  -- PairIsTaken
  module _ (i j : ℕ) (b c : Member) (first : Some b ≡ member_at w.basis i) (second : Some c ≡ member_at w.basis j) where
    number_is : (basis : List Member) (k : ℕ) (d : Member) → Some d ≡ member_at basis k → k ≡ d.number
    number_is basis k d e = sym (eqb-true d.number k (found (λ (x : Member). Rattle.std.specs.Prelude.nat_eq x.number
        k) basis d (sym e)))

    pub pair_goes : (m n : Monomial) (x : Cancelled) (new : Work) → s_outcome b.poly c.poly ≡ Outcome.Fine →
        m ≡ left_lift b.poly c.poly → n ≡ right_lift b.poly c.poly → x ≡ s_polynomial b.poly c.poly →
        new ≡ with_made w m i n j x →
        by_members limit w w.queue.pairs (member_at w.basis i) (member_at w.basis j) ≡ GoesOn new
    pair_goes m n x new fine me ne xe is =
        (λ k. by_members limit w w.queue.pairs (sym first k) (sym second k))
        ∙ counted_goes (s_outcome b.poly c.poly) (work_pair_taken w b c) new fine
        (is ∙ (λ k. with_made w (me k) (number_is w.basis i b first k) (ne k) (number_is w.basis j c second k) (xe k)))

-- ---- the current line
none_is : (o : Option ℕ) → ((x : ℕ) → o ≡ Some x → ⊥) → o ≡ None
none_is None f = refl
none_is (Some x) f = absurd (f x refl)

line_same : (limit : ℕ) (w : Work) (c : Member) (p : Polynomial) →
    work_by_line limit (record w { current = None }) c p ≡ work_by_line limit w c p
unfolding with_made
line_same limit w c [] = refl
line_same limit w c (e ∷ p) =
    elim (member_reducer w.basis (e ∷ p)) as
    (λ o. work_by_reducer limit (record w { current = None }) c o ≡ work_by_reducer limit w c o) [
      | None ↦ refl
      | Some b ↦ refl
    ]

pub line_steps : (hyps : List Polynomial) (limit : ℕ) (w : Work) (c : Member) (r : Result (Option Ending) Overrun)
    (new : Work) →
    ((x : ℕ) → zero_power w.remainders ≡ Some x → ⊥) → w.current ≡ Some c →
    Steps (work_by_line limit (record w { current = None }) c c.poly) r (with_current w c) new →
    Steps (work_next hyps limit w) r w new
unfolding work_next
line_steps hyps limit w c r new none is h =
    let old : with_current w c ≡ w = λ i. record w { current = sym is i } in
    let next : work_by_line limit (record w { current = None }) c c.poly
    ≡ work_by_power hyps limit w (zero_power w.remainders) =
    line_same limit w c c.poly ∙ (λ i. work_by_current hyps limit w (sym is i))
    ∙ (λ i. work_by_power hyps limit w (sym (none_is (zero_power w.remainders) none) i)) in
    subst (λ (x : Work). Steps (work_by_power hyps limit w (zero_power w.remainders)) r x new) old
    (subst (λ (x : WorkNext). Steps x r (with_current w c) new) next h)
