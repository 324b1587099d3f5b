use Rattle.std.proofs.Common.{◌≤◌, ◌+◌, arith, length}
use Rattle.alg_tokens.proofs.Steps.{refused_next, token_next}
use Rattle.alg_tokens.proofs.next.next_token.Goals as goal

pub returns-in-Err-clause-next : goal.returns-in-Err-clause-next
returns-in-Err-clause-next c =
    let within : c.args.at + c.blank_end.result ≤ length c.args.text.now = omega (
      arith,
      c.range_from-rest.ensures.len,
    ) in
    rw c.at.ensures (refused_next c.args.text.now _ _ c.args.at c.blank_end.result c.in-Err.code
    c.range_from.ensures.value c.range_from-rest.ensures.value within c.blank_end.ensures.blanks c.in-Err.ensures.token)

pub returns-in-Ok-clause-next : goal.returns-in-Ok-clause-next
returns-in-Ok-clause-next c =
    let within : c.args.at + c.blank_end.result ≤ length c.args.text.now = omega (
      arith,
      c.range_from-rest.ensures.len,
    ) in
    token_next c.args.text.now _ _ c.args.at c.blank_end.result c.in-Ok.len c.in-Ok.kind c.range_from.ensures.value
    c.range_from-rest.ensures.value within c.blank_end.ensures.blanks c.in-Ok.ensures.token
