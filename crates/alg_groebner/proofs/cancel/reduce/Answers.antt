use Rattle.alg_groebner.proofs.Lifting.{quotient_there}
use Rattle.alg_groebner.proofs.cancel.reduce.Goals as goal

pub over-requires : goal.over-requires
over-requires c =
    quotient_there c.args.p.now c.args.q.now c.lead_of.result.now c.lead_of-2.result.now c.lead_of.ensures.value
    c.lead_of-2.ensures.value c.lead_of-2.ensures.sound c.requires
