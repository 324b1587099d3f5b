use Rattle.std.proofs.Common.{◌≡◌, ◌≤◌, take}
use Rattle.alg_cli.specs.Replies.{proofs_in}
use Rattle.alg_cli.proofs.load.proofs_in.Given as goal

-- the answers before this one are counted
abbrev pub invariant-loop-answer : goal.invariant-loop-answer
invariant-loop-answer l = (l.count ≡ proofs_in (take l.answer-index l.answers)) × (l.count ≤ l.answer-index)
