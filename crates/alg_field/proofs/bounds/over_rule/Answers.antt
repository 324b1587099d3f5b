use Rattle.std.proofs.Common.{sym, ◌∙◌, ◌+◌, ◌*◌}
use Rattle.alg_mono.specs.Outcomes.{outcome}
use Rattle.alg_reify.specs.FactorMaps.{norms, degrees}
use Rattle.alg_field.proofs.Measures.{each_some, each_factor, over_is}
use Rattle.alg_reify.proofs.NormsSome.{norm_some}
use Rattle.alg_field.proofs.bounds.over_rule.Goals as goal

pub returns : goal.returns
returns c =
    let p = c.args.p.now in
    let list = c.args.list.now in
    let some = norm_some p c.is_zero.ensures.sound (sym c.is_zero.ensures.test ∙ c.if-is_zero.false) in
    c.rule_of.ensures _ _ c.norm_bound.ensures c.degree_bound.ensures
    ∙ (λ i. outcome (c.size.ensures.sum i * norms list) (c.degree.ensures.greatest i + degrees list))
    ∙ sym (over_is p list some (each_some list (each_factor list c.requires)))
