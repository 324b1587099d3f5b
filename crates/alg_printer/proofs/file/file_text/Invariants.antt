use Rattle.std.proofs.Common.{◌≡◌, ◌++◌, drop, flat_map}
use Rattle.alg_printer.specs.Text.{statement_text, text_of}
use Rattle.alg_printer.proofs.file.file_text.Given as goal

-- what is there, with what is left, makes what is wanted
abbrev pub invariant-loop-statement : goal.invariant-loop-statement
invariant-loop-statement l =
    l.text ++ flat_map (statement_text l.file l.answers) (drop l.statement-index l.file.order)
    ≡ text_of l.file l.answers
