use Rattle.std.proofs.Common.{◌≡◌, ◌∙◌, ◌+◌, ◌-◌, ◌++◌, [], ap, arith, refl, drop, append-nil}
use Rattle.alg_mono.specs.FiniteMaps.{keep}
use Rattle.alg_mono.specs.Numbers.{exponents}
use Rattle.alg_reify.specs.FactorMaps.{order, exponent_of}
use Rattle.alg_field.specs.Lists.{beyond}
use Rattle.alg_field.proofs.Beyond.{beyond_turn, keep_some, keep_none}
use Rattle.alg_field.proofs.lists.what_is_beyond.Goals as goal
use Rattle.alg_field.proofs.lists.what_is_beyond.Goals.{then-left-gt0+in_ok-push_factor, else-left-gt0}

-- what is pushed is what the factor has beyond the other's exponent, where that is some
pub loop-factor-preserved : goal.loop-factor-preserved
loop-factor-preserved c =
    let list = c.args.list.now in
    let other = c.args.other.now in
    let i = c.loop-factor.factor-index in
    let x = c.factor-item.result in
    let left = c.saturating_sub-left.result in
    let is_left : left ≡ x.1 - exponent_of x.0 other = c.saturating_sub-left.ensures
    ∙ ap (λ n. x.1 - n) c.exponent.ensures in
    let kept : c.if-left-gt0.out.items ≡
    c.loop-factor.out.items ++ keep order exponents x.0 left [] = elim c.if-left-gt0.branch [
      | then-left-gt0+in_ok-push_factor w ↦
          rw (w.out-is, w.in_ok-push_factor.ensures, keep_some x.0 left [] w.if-left-gt0.true) refl
      | else-left-gt0 w ↦ rw (
        w.out-is,
        keep_none x.0 left (omega (arith, w.if-left-gt0.false)),
        append-nil c.loop-factor.out.items,
      ) refl
    ] in
    ap (λ r. r ++ beyond other (drop (i + 1) list))
    (kept ∙ ap (λ n. c.loop-factor.out.items ++ keep order exponents x.0 n []) is_left)
    ∙ beyond_turn other list c.loop-factor.out.items i x x (omega arith) c.factor-item.is
    ∙ c.loop-factor.invariant
