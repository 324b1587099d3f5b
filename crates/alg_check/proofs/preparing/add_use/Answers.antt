use Rattle.alg_reify.proofs.UseTurns.{hyp_read, held_read}
use Rattle.alg_check.proofs.preparing.add_use.Goals as goal

pub difference-requires-clause-equation : goal.difference-requires-clause-equation
difference-requires-clause-equation c =
    (hyp_read c.args.file.now c.requires.hyps c.items.result.now c.items.ensures c.args.one.now.hyp
    c.index-items-one.result c.requires.there c.index-items-one.is).equation

pub difference-requires-clause-held : goal.difference-requires-clause-held
difference-requires-clause-held c =
    held_read c.args.file.now c.args.table.now c.items.result.now c.items.ensures c.args.one.now c.items-2.result.now
    c.items-2.ensures c.index-items-one.result c.requires.there c.index-items-one.is c.requires.held
