use Rattle.std.proofs.Common.{◌≡◌, ◌++◌, [], drop, codes, unwrap_or}
use Rattle.alg_printer.specs.Monomials.{factor_text, factors_text}
use Rattle.alg_printer.specs.Names.{listed}
use Rattle.alg_printer.proofs.monomials.put_factors.Given as goal

-- what is there, with what is left, makes what is wanted
abbrev pub invariant-loop-atom : goal.invariant-loop-atom
invariant-loop-atom l =
    l.text ++ listed l.front (codes "*") (factor_text l.file (unwrap_or l.atoms [])) (drop l.atom-index l.pairs)
    ≡ l.fn.text ++ factors_text l.file (unwrap_or l.atoms []) l.pairs
