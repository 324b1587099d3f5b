use Rattle.std.proofs.Common.{◌≡◌, ◌++◌, drop, codes}
use Rattle.alg_printer.specs.Names.{listed}
use Rattle.alg_printer.specs.Statements.{use_text, uses_text}
use Rattle.alg_printer.proofs.statements.put_uses.Given as goal

-- what is there, with what is left, makes what is wanted
abbrev pub invariant-loop-used : goal.invariant-loop-used
invariant-loop-used l =
    l.text ++ listed l.front (codes ", ") (use_text l.file) (drop l.used-index l.uses)
    ≡ l.fn.text ++ uses_text l.file l.uses
