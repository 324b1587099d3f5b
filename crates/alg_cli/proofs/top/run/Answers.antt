use Rattle.std.proofs.Common.{◌≡◌, ◌<◌, [], length, codes, refl, ap, ◌∙◌, sym, subst, Err, rules}
use Rattle.alg_cli.specs.declared.command.Command.TheVariants as command
use Rattle.alg_cli.specs.declared.status.Status.TheVariants.{Refused, Usage}
use Rattle.alg_cli.specs.Commands.{command_of, bytes_for, most_bytes}
use Rattle.alg_cli.specs.Replies.{IsReplyTo}
use Rattle.alg_cli.specs.Runs.{IsReply, RepliesUnlessNoMemory, change}
use Rattle.alg_cli.proofs.Commands.{works_on_input, may_refuse, no_failure, usage_reply, too_large}
use Rattle.alg_cli.proofs.Writing.{writes_by_status, always, if_told}
use Rattle.alg_cli.proofs.top.run.Goals as goal

-- the usage
pub returns-then-eq-clause-written : goal.returns-then-eq-clause-written
returns-then-eq-clause-written g c =
    let u = g.U.Universe in
    let left = g.S.Source.left c.args.source.now in
    let is : c.of-command.result ≡ command.Usage = search rules in
    let reply : IsReply u command.Usage left (codes "usage\n") Usage =
    record { replies = usage_reply u [] refl; fits = tt } in
    writes_by_status (IsReply u (command_of c.args.words.now) left) Usage c.write_reply.result _ (codes "usage\n") _
    (λ failure. failure)
    (subst (λ k. IsReply u k left (codes "usage\n") Usage) (sym is ∙ c.of-command.ensures.command) reply) c.write_reply.ensures

-- too many bytes
pub returns-in-Err-TooLarge-clause-written : goal.returns-in-Err-TooLarge-clause-written
returns-in-Err-TooLarge-clause-written g c =
    let u = g.U.Universe in
    let left = g.S.Source.left c.args.source.now in
    let k = c.of-command.result in
    let (reads, larger) = c.input_for.ensures.large (c.in-Err-TooLarge.is ∙ ap Err c.in-Err-TooLarge.field-0-is) in
    let replies = if_told left (λ bytes. most_bytes k < length bytes) _ (λ bytes large. too_large u k bytes large)
    larger in
    let reply : IsReply u k left (codes "refused large\n") Refused =
    record { replies = works_on_input k left _ reads replies; fits = may_refuse k reads } in
    writes_by_status (IsReply u (command_of c.args.words.now) left) Refused c.write_reply-in-Err-TooLarge.result _
    (codes "refused large\n") _ (λ failure. failure)
    (subst (λ k. IsReply u k left (codes "refused large\n") Refused) c.of-command.ensures.command reply)
    c.write_reply-in-Err-TooLarge.ensures

pub returns-in-Err-TooLarge-clause-always : goal.returns-in-Err-TooLarge-clause-always
returns-in-Err-TooLarge-clause-always g c = λ read never.
    let u = g.U.Universe in
    let left = g.S.Source.left c.args.source.now in
    let k = c.of-command.result in
    let result = c.write_reply-in-Err-TooLarge.result in
    let (reads, larger) = c.input_for.ensures.large (c.in-Err-TooLarge.is ∙ ap Err c.in-Err-TooLarge.field-0-is) in
    subst (λ k. RepliesUnlessNoMemory u k left result
    (change g.K.Sink c.args.sink.now c.write_reply-in-Err-TooLarge.new.sink)) c.of-command.ensures.command
    (works_on_input k left _ reads
    (if_told left (λ bytes. most_bytes k < length bytes) _ (λ bytes large.
    always u c.one_reading.ensures c.one_reading-2.ensures c.one_answer.ensures c.one_report.ensures k bytes
    (codes "refused large\n") Refused result _ _ never
    (too_large u k bytes large) c.write_reply-in-Err-TooLarge.ensures) larger))

-- the input was read whole, or is not read
pub returns-in-Ok-reply_to-clause-written : goal.returns-in-Ok-reply_to-clause-written
returns-in-Ok-reply_to-clause-written g c =
    let u = g.U.Universe in
    let left = g.S.Source.left c.args.source.now in
    let k = c.of-command.result in
    let reply = c.in-Ok-reply_to.field-0 in
    let fits = c.in-Ok-reply_to.ensures.status in
    let written = c.as_slice-in-Ok-reply_to.result.now in
    let same : reply.text.items ≡ written = sym c.as_slice-in-Ok-reply_to.ensures.value in
    let made = subst (λ bytes. IsReplyTo u k bytes reply.text.items reply.status) c.as_slice.ensures.value
    c.in-Ok-reply_to.ensures.reply in
    let replies = if_told (bytes_for k left) (λ told. told ≡ c.in-Ok.bytes.items) _
    (λ told same_bytes. subst (λ bytes. IsReplyTo u k bytes written reply.status) (sym same_bytes)
    (subst (λ text. IsReplyTo u k c.in-Ok.bytes.items text reply.status) same made)) c.in-Ok.ensures.told in
    let is : IsReply u k left written reply.status = record { replies = replies; fits = fits } in
    writes_by_status (IsReply u (command_of c.args.words.now) left) reply.status c.write_reply-in-Ok-reply_to.result _
    written _ (no_failure k reply.status fits)
    (subst (λ k. IsReply u k left written reply.status) c.of-command.ensures.command is)
    c.write_reply-in-Ok-reply_to.ensures

pub returns-in-Ok-reply_to-clause-always : goal.returns-in-Ok-reply_to-clause-always
returns-in-Ok-reply_to-clause-always g c = λ read never.
    let u = g.U.Universe in
    let left = g.S.Source.left c.args.source.now in
    let k = c.of-command.result in
    let reply = c.in-Ok-reply_to.field-0 in
    let written = c.as_slice-in-Ok-reply_to.result.now in
    let result = c.write_reply-in-Ok-reply_to.result in
    let same : reply.text.items ≡ written = sym c.as_slice-in-Ok-reply_to.ensures.value in
    let made = subst (λ bytes. IsReplyTo u k bytes reply.text.items reply.status) c.as_slice.ensures.value
    c.in-Ok-reply_to.ensures.reply in
    subst (λ k. RepliesUnlessNoMemory u k left result
    (change g.K.Sink c.args.sink.now c.write_reply-in-Ok-reply_to.new.sink)) c.of-command.ensures.command
    (if_told (bytes_for k left) (λ told. told ≡ c.in-Ok.bytes.items) _ (λ told same_bytes.
    always u c.one_reading.ensures c.one_reading-2.ensures c.one_answer.ensures c.one_report.ensures k told written
    reply.status result _ _ never
    (subst (λ bytes. IsReplyTo u k bytes written reply.status) (sym same_bytes)
    (subst (λ text. IsReplyTo u k c.in-Ok.bytes.items text reply.status) same made))
    c.write_reply-in-Ok-reply_to.ensures) c.in-Ok.ensures.told)
