use Rattle.std.proofs.Common.{pos, arith}
use Rattle.std.proofs.lemmas.Grind.{common_steps}
use Rattle.std.proofs.lemmas.Int.{to_z-of_z}
use Rattle.std.proofs.lemmas.List.{map_more}
use Rattle.alg_reader.specs.declared.raw.RawNumber.{RawNumber}
use Rattle.alg_annotated.proofs.answers.values_of.Goals as goal

pub loop-number-preserved : goal.loop-number-preserved
loop-number-preserved c =
    let none : RawNumber = record { value = pos 0; at = 0 } in
    let more = map_more (λ (n : RawNumber). n.value) c.args.numbers.now c.loop-number.number-index none
    c.loop-number-test.true in
    grind (arith, common_steps, to_z-of_z, more)
