use Rattle.std.proofs.Common.{rules, arith}
use Rattle.alg_terms.specs.declared.term.Term.TheViews.{the_lemmas}
use Rattle.alg_terms.proofs.Built.{built}
use Rattle.alg_terms.proofs.term.+depth.Goals as goal

-- the left part is smaller, and no deeper than the whole
pub depth-requires : goal.depth-requires
depth-requires t c = (search (rules, the_lemmas), grind (arith, built))

-- so is the right part
pub depth-requires-in-Add : goal.depth-requires-in-Add
depth-requires-in-Add t c = (search (rules, the_lemmas), grind (arith, built))

-- and an only part
pub depth-requires-in-Neg : goal.depth-requires-in-Neg
depth-requires-in-Neg t c = (search (rules, the_lemmas), grind (arith, built))
