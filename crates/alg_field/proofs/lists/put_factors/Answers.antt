use Rattle.std.proofs.Common.{◌≡◌, ◌∙◌, ◌+◌, ◌≤◌, sym, subst, ap, arith, drop}
use Rattle.alg_mono.specs.NumberedPolynomials.{Polynomial}
use Rattle.alg_reify.specs.FactorMaps.{FactorMap, exponent_of}
use Rattle.alg_field.specs.Lists.{MAX_POWER, IsList, put, put_all}
use Rattle.alg_field.proofs.Puts.{within_here, within_turn, put_all_turn, IsList-put}
use Rattle.alg_field.proofs.ListMaps.{factor_at}
use Rattle.alg_field.proofs.lists.put_factors.Goals as goal

pub put_factor-requires-clause-within : goal.put_factor-requires-clause-within
put_factor-requires-clause-within c =
    let x = c.factor-item.result in
    subst (λ p. exponent_of p c.loop-factor.out.items + x.1 ≤ MAX_POWER) (sym c.in_ok-q.ensures)
    (within_here c.loop-factor.out.items c.args.list.now c.loop-factor.factor-index x x (omega arith) c.factor-item.is
    c.loop-factor.invariant.2)

pub loop-factor-preserved : goal.loop-factor-preserved
loop-factor-preserved c =
    let out = c.loop-factor.out.items in
    let list = c.args.list.now in
    let i = c.loop-factor.factor-index in
    let x = c.factor-item.result in
    let inv = c.loop-factor.invariant in
    let made : c.put_factor.new.list.items ≡ put x.0 x.1 out =
    c.in_ok-put_factor.ensures ∙ ap (λ p. put p x.1 out) c.in_ok-q.ensures in (
      ap (λ r. put_all r (drop (i + 1) list)) made
          ∙ put_all_turn out list i x x (omega arith) c.factor-item.is ∙ inv.0,
      subst IsList (sym made)
          (IsList-put x.0 x.1 out (within_here out list i x x (omega arith) c.factor-item.is inv.2)
          (factor_at list i x x (omega arith) c.factor-item.is c.requires.list) inv.1),
      subst (λ (r : FactorMap). (q : Polynomial) → exponent_of q r + exponent_of q (drop (i + 1) list) ≤ MAX_POWER)
          (sym made) (within_turn out list i x x (omega arith) c.factor-item.is inv.2),
    )
