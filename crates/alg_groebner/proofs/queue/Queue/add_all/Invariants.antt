use Rattle.std.proofs.Common.{◌≡◌, drop}
use Rattle.alg_groebner.specs.Work.{with_members}
use Rattle.alg_groebner.proofs.queue.Queue.add_all.Given as goal

abbrev pub invariant-loop-member : goal.invariant-loop-member
invariant-loop-member l =
    with_members l.line (drop l.member-index l.basis) l.self ≡ with_members l.line l.basis l.initial.self
