use Rattle.std.specs.Prelude.{◌<◌, ◌≤◌, length}
use Rattle.std.proofs.Common.{rules, sym, ap, ◌∙◌}
use Rattle.std.specs.Ordering.{ordering_reverse}
use Rattle.alg_mono.specs.NumberedPolynomials.{before, sum_of}
use Rattle.alg_mono.proofs.TermOrder.{before_total}
use Rattle.alg_poly.proofs.Moves.{same_first, first_moved, second_moved, both_moved, first_ended, second_ended}
use Rattle.alg_poly.proofs.merge.merge_moved.Goals as goal
use Rattle.alg_poly.proofs.merge.merge_moved.Goals.{in_default, in_default-2}

pub loop-x-preserved-in_ok-move_first-in-Greater : goal.loop-x-preserved-in_ok-move_first-in-Greater
loop-x-preserved-in_ok-move_first-in-Greater c =
    let a = c.loop-x.a.items in
    let b = c.loop-x.b.items in
    let x = c.in-Some-Some.x.now in
    let y = c.in-Some-Some.y.now in
    let some_a : 0 < length a = search rules in
    let some_b : 0 < length b = search rules in
    let first = before_total.antisymm x.0 y.0 ∙ ap ordering_reverse (sym c.in-Greater.ensures) in
    let moved = c.in_ok-move_first-in-Greater.ensures in
    rw (moved.rest, moved.moved)
    (first_moved (sum_of c.args.a.items c.args.b.items) a b c.loop-x.out.items c.loop-x.invariant x y some_a some_b
    c.in-Some-Some.ensures.lookup c.in-Some-Some.ensures'.lookup first)

pub loop-x-preserved-in_ok-move_first-in-Less : goal.loop-x-preserved-in_ok-move_first-in-Less
loop-x-preserved-in_ok-move_first-in-Less c =
    let a = c.loop-x.a.items in
    let b = c.loop-x.b.items in
    let x = c.in-Some-Some.x.now in
    let y = c.in-Some-Some.y.now in
    let some_a : 0 < length a = search rules in
    let some_b : 0 < length b = search rules in
    let second = before_total.antisymm x.0 y.0 ∙ ap ordering_reverse (sym c.in-Less.ensures) in
    let moved = c.in_ok-move_first-in-Less.ensures in
    rw (moved.rest, moved.moved)
    (second_moved (sum_of c.args.a.items c.args.b.items) a b c.loop-x.out.items c.loop-x.invariant x y some_a some_b
    c.in-Some-Some.ensures.lookup c.in-Some-Some.ensures'.lookup second)

-- both have the monomial
pub loop-x-preserved-in_ok-push_sum-in-Equal : goal.loop-x-preserved-in_ok-push_sum-in-Equal
loop-x-preserved-in_ok-push_sum-in-Equal c =
    let a = c.loop-x.a.items in
    let b = c.loop-x.b.items in
    let x = c.in-Some-Some-2.x in
    let y = c.in-Some-Some-2.y in
    let some_a : 0 < length a = search rules in
    let some_b : 0 < length b = search rules in
    let first = c.in-Some-Some-2.ensures in
    let second = c.in-Some-Some-2.ensures' in
    let same_x = same_first a x c.in-Some-Some.x.now some_a first.lookup c.in-Some-Some.ensures.lookup in
    let same_y = same_first b y c.in-Some-Some.y.now some_b second.lookup c.in-Some-Some.ensures'.lookup in
    let tie = (λ k. before (same_x k).0 (same_y k).0)
    ∙ before_total.antisymm c.in-Some-Some.x.now.0 c.in-Some-Some.y.now.0
    ∙ ap ordering_reverse (sym c.in-Equal.ensures) in
    rw (first.rest, second.rest, c.in_ok-push_sum-in-Equal.ensures)
    (both_moved (sum_of c.args.a.items c.args.b.items) a b c.loop-x.out.items c.loop-x.invariant x y some_a some_b
    first.lookup second.lookup tie)

-- one list has ended, and the rest of the other follows
pub returns : goal.returns
returns c =
    let a = c.loop-x.a.items in
    let b = c.loop-x.b.items in
    let whole = sum_of c.args.a.items c.args.b.items in
    rw (c.in_ok-move_all-2.ensures, c.in_ok-move_all.ensures)
    (elim c.match-front.branch [
      | in_default w ↦
          let ended : length b ≤ 0 = search rules in
          second_ended whole a b c.loop-x.out.items c.loop-x.invariant ended
      | in_default-2 w ↦
          let ended : length a ≤ 0 = search rules in
          first_ended whole a b c.loop-x.out.items c.loop-x.invariant ended
    ])
