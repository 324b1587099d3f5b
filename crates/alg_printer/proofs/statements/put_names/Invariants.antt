use Rattle.std.proofs.Common.{◌≡◌, ◌++◌, ◌+◌, ◌-◌}
use Rattle.alg_terms.specs.Order.{numbers_from}
use Rattle.alg_printer.specs.Statements.{names_text}
use Rattle.alg_printer.proofs.statements.put_names.Given as goal

-- what is there, with what is left, makes what is wanted
abbrev pub invariant-loop-k : goal.invariant-loop-k
invariant-loop-k l =
    l.text ++ names_text l.file (numbers_from (l.first + l.k) (l.count - l.k))
    ≡ l.fn.text ++ names_text l.file (numbers_from l.first l.count)
