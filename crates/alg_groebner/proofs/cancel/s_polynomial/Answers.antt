use Rattle.std.proofs.Common.{sym, ◌∙◌}
use Rattle.alg_groebner.proofs.Lifting.{left_divides, right_divides}
use Rattle.alg_groebner.proofs.cancel.s_polynomial.Goals as goal

pub over-requires : goal.over-requires
over-requires c =
    left_divides c.lead_of.result.now c.lead_of-2.result.now c.in-Ok.lcm c.lead_of-3.result.now c.in-Ok.ensures.ok
    (c.lead_of-3.ensures.value ∙ sym c.lead_of.ensures.value) c.lead_of-2.ensures.sound

pub over-requires-2 : goal.over-requires-2
over-requires-2 c =
    right_divides c.lead_of.result.now c.lead_of-2.result.now c.in-Ok.lcm c.lead_of-4.result.now c.in-Ok.ensures.ok
    (c.lead_of-4.ensures.value ∙ sym c.lead_of-2.ensures.value) c.lead_of-2.ensures.sound
