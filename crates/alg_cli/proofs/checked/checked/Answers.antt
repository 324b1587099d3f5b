use Rattle.alg_cli.proofs.Answered.{ok_weaker}
use Rattle.alg_cli.proofs.Reported.{checked_reply}
use Rattle.alg_cli.proofs.checked.checked.Goals as goal

-- the bytes are an annotated file
pub returns-in-Ok-clause-reply : goal.returns-in-Ok-clause-reply
returns-in-Ok-clause-reply g c =
    ok_weaker _ _ c.reported.result (λ reply h.
    checked_reply g.U.Universe c.proved_is_right.ensures c.args.bytes.now c.in-Ok.all reply.text.items reply.status
    c.requires c.in-Ok.ensures.ok c.in-Ok.ensures.valid h) c.reported.ensures.reply
