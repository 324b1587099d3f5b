use Rattle.alg_groebner.specs.Steps.{work_of}
use Rattle.alg_groebner.specs.Workable.{IsSomeMember}
use Rattle.alg_groebner.proofs.Found.{found_holds}
use Rattle.alg_groebner.proofs.Stepping.{pair_goes}
use Rattle.alg_groebner.proofs.machine.Machine.take_pair.Goals as goal

pub s_polynomial-requires-clause-p_some : goal.s_polynomial-requires-clause-p_some
s_polynomial-requires-clause-p_some c =
    let is = c.in-Some-Some.ensures in
    found_holds IsSomeMember _ c.args.self.now.basis c.in-Some-Some.first.now c.requires.basis is

pub s_polynomial-requires-clause-q_some : goal.s_polynomial-requires-clause-q_some
s_polynomial-requires-clause-q_some c =
    let is = c.in-Some-Some.ensures' in
    found_holds IsSomeMember _ c.args.self.now.basis c.in-Some-Some.second.now c.requires.basis is

pub returns : goal.returns
returns c =
    let first = c.in-Some-Some.ensures in
    let second = c.in-Some-Some.ensures' in
    let e = c.in_ok-m.ensures in
    pair_goes c.args.limit (work_of c.args.self.now) c.if-self-limit.false c.args.i c.args.j c.in-Some-Some.first.now
    c.in-Some-Some.second.now first second c.in_ok-m.m c.in_ok-m.n c.in_ok-m.made (work_of c.push_line.new.self) e.fine
    e.left e.right e.value c.in_ok-push_line.ensures
