use Rattle.std.proofs.Common.{arith, ◌≡◌, ◌-◌, length, take, drop, ap, ◌∙◌, subst, length-drop}
use Rattle.std.proofs.lemmas.List.{take_rest}
use Rattle.alg_outside.specs.Bytes.{Appends}
use Rattle.alg_outside.proofs.Turns.{appends_more, longer_prefix}
use Rattle.alg_outside.proofs.whole.write_whole.Goals as goal

pub loop-at-preserved : goal.loop-at-preserved
loop-at-preserved g c =
    let bytes = c.args.bytes.now in
    let at = c.loop-at.at in
    let w = c.in_ok-count.ensures in
    let rest : length (take (length bytes - at) (drop at bytes)) ≡ length bytes - at =
    ap length (take_rest bytes at) ∙ length-drop at bytes in
    record {
      within = omega (arith, w.bytes.0, rest);
      count = omega (arith, w.cause.never_falls, c.loop-at.invariant.count);
      gained = subst (Appends _ _) (longer_prefix bytes at c.in_ok-count.count)
          (appends_more _ _ _ _ _ c.loop-at.invariant.gained w.bytes.1);
      flushed = w.flushed ∙ c.loop-at.invariant.flushed;
    }
