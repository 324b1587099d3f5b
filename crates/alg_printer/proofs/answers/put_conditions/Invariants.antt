use Rattle.std.proofs.Common.{◌≡◌, ◌++◌, drop, codes}
use Rattle.alg_printer.specs.Answers.{conditions_text}
use Rattle.alg_printer.specs.Names.{listed}
use Rattle.alg_printer.specs.Terms.{term_text}
use Rattle.alg_printer.proofs.answers.put_conditions.Given as goal

-- what is there, with what is left, makes what is wanted
abbrev pub invariant-loop-condition : goal.invariant-loop-condition
invariant-loop-condition l =
    l.text
    ++ listed l.front (codes ", ") (λ t. term_text l.file t ++ codes " <> 0") (drop l.condition-index l.conditions)
    ≡ l.fn.text ++ conditions_text l.file l.conditions
