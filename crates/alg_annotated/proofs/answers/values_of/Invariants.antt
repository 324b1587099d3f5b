use Rattle.std.proofs.Common.{◌≡◌, map, take}
use Rattle.alg_annotated.proofs.answers.values_of.Given as goal

-- the values of the numerals so far
abbrev pub invariant-loop-number : goal.invariant-loop-number
invariant-loop-number l = l.values.items ≡ map (λ n. n.value) (take l.number-index l.numbers)
