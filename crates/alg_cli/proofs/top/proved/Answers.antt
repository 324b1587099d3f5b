use Rattle.alg_cli.proofs.Answered.{ok_weaker, answered_reply}
use Rattle.alg_cli.proofs.top.proved.Goals as goal

-- the bytes are a file
pub returns-in-Ok-clause-reply : goal.returns-in-Ok-clause-reply
returns-in-Ok-clause-reply g c =
    ok_weaker _ _ c.answered.result (λ reply h.
    answered_reply g.U.Universe c.proved_is_right.ensures.proved c.proved_is_right.ensures.certified
    c.no_differs.ensures.polynomials c.no_differs.ensures.values c.none_exists.ensures c.args.bytes.now c.in-Ok.file
    reply.text.items reply.status c.requires
    c.in-Ok.ensures.ok.0 c.in-Ok.ensures.ok.1 h) c.answered.ensures.reply
