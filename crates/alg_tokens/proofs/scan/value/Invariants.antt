use Rattle.std.proofs.Common.{◌≡◌, ◌≤◌, drop}
use Rattle.alg_tokens.specs.Pieces.{value_of}
use Rattle.alg_tokens.proofs.Values.{value_with}
use Rattle.alg_tokens.proofs.scan.value.Given as goal

-- what was read, with the digits that are left, is the value
abbrev pub invariant-loop-digit : goal.invariant-loop-digit
invariant-loop-digit l = (value_with l.value (drop l.digit-index l.digits) ≡ value_of l.digits) × (l.value ≤ l.max)
