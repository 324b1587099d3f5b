use Rattle.std.specs.Prelude.{◌≡◌, ◌≢◌, ◌≤◌, length}
use Rattle.std.proofs.Common.{rules, arith, sym, ap, ◌∙◌}
use mir.Syntax.{w128}
use mir.Val.{SFits}
use Rattle.std.proofs.lemmas.Int.{to_z-of_z}
use Rattle.std.specs.Ordering.{ordering_reverse}
use Rattle.alg_mono.proofs.TermOrder.{before_total, before_anti}
use Rattle.alg_poly.proofs.DifferenceTurns.{greater_here, greater_there, other_coefficient, same_more, more_here, more_there}
use Rattle.alg_poly.proofs.difference.first_difference_of.Goals as goal
use Rattle.alg_poly.proofs.difference.first_difference_of.Goals.{then-loop-i-test+else-i-b, else-loop-i-test}

-- the first list has the greater monomial
pub returns-in-Greater : goal.returns-in-Greater
returns-in-Greater c =
    let x = c.index-a-i.result in
    let y = c.index-b-i.result in
    let i = c.loop-i.invariant in
    let fits : SFits w128 x.1 = search rules in
    simp to_z-of_z (greater_here c.args.a.now c.args.b.now c.loop-i.i c.requires.falls_a c.requires.falls_b
    i.same_front i.in_a i.in_b x y
    (omega arith) (omega arith) c.index-a-i.is c.index-b-i.is
    (before_total.antisymm x.0 y.0 ∙ ap ordering_reverse (sym c.in-Greater.ensures)))

-- the second list has it
pub returns-in-Less : goal.returns-in-Less
returns-in-Less c =
    let x = c.index-a-i.result in
    let y = c.index-b-i.result in
    let i = c.loop-i.invariant in
    let fits : SFits w128 y.1 = search rules in
    simp to_z-of_z (greater_there c.args.a.now c.args.b.now c.loop-i.i c.requires.falls_a c.requires.falls_b
    i.same_front i.in_a i.in_b x y
    (omega arith) (omega arith) c.index-a-i.is c.index-b-i.is (sym c.in-Less.ensures))

-- both have the monomial, with two coefficients
pub returns-then-x-y : goal.returns-then-x-y
returns-then-x-y c =
    let x = c.index-a-i.result in
    let y = c.index-b-i.result in
    let i = c.loop-i.invariant in
    let fits : SFits w128 x.1 = search rules in
    let fits' : SFits w128 y.1 = search rules in
    let is : x.0 ≡ y.0 = before_anti x.0 y.0 (before_total.antisymm x.0 y.0
    ∙ ap ordering_reverse (sym c.in-Equal.ensures)) in
    let differ : x.1 ≢ y.1 = search rules in
    simp to_z-of_z (other_coefficient c.args.a.now c.args.b.now c.loop-i.i c.requires.falls_a c.requires.falls_b
    i.same_front i.in_a i.in_b x y
    (omega arith) (omega arith) c.index-a-i.is c.index-b-i.is is differ)

-- both have the same term
pub loop-i-preserved : goal.loop-i-preserved
loop-i-preserved c =
    let x = c.index-a-i.result in
    let y = c.index-b-i.result in
    let i = c.loop-i.invariant in
    let is : x.0 ≡ y.0 = before_anti x.0 y.0 (before_total.antisymm x.0 y.0
    ∙ ap ordering_reverse (sym c.in-Equal.ensures)) in
    let same : x.1 ≡ y.1 = search rules in
    record {
      in_a = omega arith;
      in_b = omega arith;
      same_front = same_more c.args.a.now c.args.b.now c.loop-i.i c.requires.falls_a c.requires.falls_b i.same_front
          i.in_a i.in_b x y
          (omega arith) (omega arith) c.index-a-i.is c.index-b-i.is is same;
    }

-- the second list has ended
pub returns-then-i-a : goal.returns-then-i-a
returns-then-i-a c =
    let x = c.index-a-i-then-i-a.result in
    let i = c.loop-i.invariant in
    let fits : SFits w128 x.1 = search rules in
    let over : length c.args.b.now ≤ c.loop-i.i = elim c.loop-i-test.branch [
      | then-loop-i-test+else-i-b w ↦ omega arith
      | else-loop-i-test w ↦ omega arith
    ] in
    simp to_z-of_z (more_here c.args.a.now c.args.b.now c.loop-i.i c.requires.falls_a c.requires.falls_b
    i.same_front i.in_a i.in_b x
    (omega arith) over c.index-a-i-then-i-a.is)

-- the first list has ended
pub returns-then-i-b-2 : goal.returns-then-i-b-2
returns-then-i-b-2 c =
    let y = c.index-b-i-then-i-b-2.result in
    let i = c.loop-i.invariant in
    let fits : SFits w128 y.1 = search rules in
    simp to_z-of_z (more_there c.args.a.now c.args.b.now c.loop-i.i c.requires.falls_a c.requires.falls_b
    i.same_front i.in_a i.in_b y
    (omega arith) (omega arith) c.index-b-i-then-i-b-2.is)
