use Rattle.std.proofs.Common.{◌≡◌, ◌<◌, ◌+◌, ◌-◌, length, take, sym, ap, ◌∙◌, arith}
use Rattle.alg_reader.specs.Parts.{opposites_part}
use Rattle.alg_reader.proofs.Chains.{opposites_more}
use Rattle.alg_reader.proofs.parts.opposites.Goals as goal

pub loop-left-preserved : goal.loop-left-preserved
loop-left-preserved c =
    let k = c.loop-left.left - 1 in
    let within : k < length c.args.heads.now = omega arith in
    let step = opposites_more c.args.heads.now k within c.loop-left.part in
    let up : k + 1 ≡ c.loop-left.left = omega arith in (
      omega arith,
      let e = c.in_ok-part.ensures in rw e (sym step
          ∙ ap (λ n. opposites_part (take n c.args.heads.now) c.loop-left.part) up ∙ c.loop-left.invariant.1),
    )
