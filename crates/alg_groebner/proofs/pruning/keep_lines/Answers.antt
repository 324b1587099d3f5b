use Rattle.std.specs.Prelude.{◌≡◌, ◌+◌, ◌<◌, ◌++◌, drop, length}
use Rattle.std.proofs.Common.{get_or, ◌∙◌, arith}
use Rattle.std.proofs.lemmas.List.{get_or_default}
use Rattle.alg_groebner.specs.Pruning.{kept_lines}
use Rattle.alg_groebner.proofs.Pruned.{kept_turn, left_turn, some_line}
use Rattle.alg_groebner.proofs.pruning.keep_lines.Goals as goal
use Rattle.alg_groebner.proofs.pruning.keep_lines.Goals.{then-marks-given+in_ok-renumber_line+in_ok-push, else-marks-given}

pub loop-at-preserved : goal.loop-at-preserved
loop-at-preserved c =
    let numbers = c.args.numbers.now in
    let marks = c.args.marks.now in
    let made = c.args.made.now in
    let given = c.args.given in
    let at = c.loop-at.at in
    let out = c.loop-at.out.items in
    let here : at < length made = c.loop-at-test.true in
    let inside : given + at < length marks = let all = c.requires.all in omega arith in
    let after : given + (at + 1) ≡ given + at + 1 = omega arith in
    let all = kept_lines numbers (drop given marks) made in
    elim c.if-marks-given.branch [
      | then-marks-given+in_ok-renumber_line+in_ok-push w ↦ (
        omega arith,
        kept_turn numbers marks made (given + at) at w.index-made-at.result inside here w.index-made-at.is
            (given + (at + 1)) after out all
            c.loop-at.invariant.1 w.if-marks-given.true c.if-marks-given.out.items w.in_ok-renumber_line.field-0
            ((λ k. (w.out-is k).items) ∙ w.in_ok-push.ensures.items) w.in_ok-renumber_line.ensures,
      )
      | else-marks-given w ↦ (
        omega arith,
        (λ k. (w.out-is k).items ++ kept_lines numbers (drop (given + (at + 1)) marks) (drop (at + 1) made))
            ∙ left_turn numbers marks made (given + at) at (get_or made at (some_line made here)) inside here
            (get_or_default made at (some_line made here) (get_or made at (some_line made here)) here)
            (given + (at + 1)) after out all
            c.loop-at.invariant.1 w.if-marks-given.false,
      )
    ]
