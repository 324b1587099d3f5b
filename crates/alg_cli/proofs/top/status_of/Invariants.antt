use Rattle.std.proofs.Common.{◌≡◌, drop}
use Rattle.std.specs.List.{list_all}
use Rattle.alg_cli.specs.Replies.{is_proof}
use Rattle.alg_cli.proofs.top.status_of.Given as goal

-- what is left decides
abbrev pub invariant-loop-answer : goal.invariant-loop-answer
invariant-loop-answer l = list_all is_proof l.answers ≡ list_all is_proof (drop l.answer-index l.answers)
