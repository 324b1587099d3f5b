use Rattle.std.proofs.Common.{sym, ◌∙◌}
use Rattle.alg_pairs.proofs.Filed.{is_divided, earlier, later, not_divided}
use Rattle.alg_pairs.proofs.bucket.lesser_line.Goals as goal

-- another line is less
pub returns-then-not-is_before : goal.returns-then-not-is_before
returns-then-not-is_before c =
    later c.args.least c.args.lead.now c.args.m.now (sym c.is_before.ensures ∙ c.if-not-is_before.true)

-- the lead divides
pub returns-then-divides : goal.returns-then-divides
returns-then-divides c =
    let is = is_divided c.args.lead.now.lead c.args.m.now c.divides.result c.requires c.divides.ensures in
    earlier c.args.least c.args.lead.now c.args.m.now (sym c.is_before.ensures ∙ c.if-not-is_before.false)
    (sym is ∙ c.if-divides.true)

-- it does not
pub returns : goal.returns
returns c =
    let is = is_divided c.args.lead.now.lead c.args.m.now c.divides.result c.requires c.divides.ensures in
    not_divided c.args.least c.args.lead.now c.args.m.now (sym is ∙ c.if-divides.false)
