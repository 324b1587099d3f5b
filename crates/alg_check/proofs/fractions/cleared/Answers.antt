use Rattle.alg_check.proofs.fractions.cleared.Goals as goal

pub returns : goal.returns
returns c = c.both.ensures _ _ _ _ c.over.ensures c.over-2.ensures
