use Rattle.alg_groebner.proofs.Found.{member_says}
use Rattle.alg_groebner.proofs.machine.Machine.step_current.Goals as goal

pub reduce-requires : goal.reduce-requires
reduce-requires c = member_says c.args.self.now.basis c.args.line.poly c.in-Some.member.now c.in-Some.ensures
