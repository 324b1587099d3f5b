use Rattle.std.specs.Prelude.{slice_get}
use Rattle.std.proofs.Common.{sym, ap, ◌∙◌, List}
use Rattle.alg_groebner.specs.Bases.{looked_up}
use Rattle.alg_groebner.specs.Work.{member_reducer}
use Rattle.alg_groebner.specs.declared.member.Member.{Member}
use Rattle.alg_groebner.proofs.Indexed.{told, is_zero, nothing_reduces}
use Rattle.alg_groebner.proofs.basis.Basis.reducer_of.Goals as goal

-- nothing reduces zero
pub returns-in-None : goal.returns-in-None
returns-in-None c =
    let zero = is_zero c.args.p.now (c.in-None.ensures.value ∙ ap (λ l. slice_get l 0) c.terms.ensures.all) in
    sym (ap (member_reducer c.args.self.now) zero ∙ nothing_reduces c.args.self.now)

-- the index tells the line
pub returns-in-Some : goal.returns-in-Some
returns-in-Some c =
    let bs = c.self.inside.members.items in
    let first = c.in-Some.ensures.value ∙ ap (λ l. slice_get l 0) c.terms.ensures.all in
    c.look_up.ensures
    ∙ (λ i. looked_up (c.deref.ensures.value i) (c.least_divisor.ensures.least i))
    ∙ told bs c.self.inside.leads c.args.p.now c.in-Some.term.now c.self.invariant c.least_divisor.ensures.rises
    (sym first)
    ∙ ap (λ (xs : List Member). member_reducer xs c.args.p.now) c.self.view_is
