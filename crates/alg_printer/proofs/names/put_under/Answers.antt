use Rattle.alg_printer.proofs.Paths.{under-is}
use Rattle.alg_printer.proofs.Pieces.{more, grew}
use Rattle.alg_printer.proofs.names.put_under.Goals as goal

pub returns : goal.returns
returns c =
    grew c.put_closing.result _ _ _ _ _ _ (under-is c.args.file.now c.args.path.now c.args.name.now)
    (more _ _ _ _ _ c.in_ok-put_opening.ensures c.in_ok-put.ensures) c.put_closing.ensures
