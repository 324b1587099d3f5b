use Rattle.std.proofs.Common.{sym, subst}
use Rattle.std.specs.Prelude.{All}
use Rattle.std.proofs.lemmas.List.Elements.{All-get_or}
use Rattle.alg_printer.specs.Text.{IsStatementOf}
use Rattle.alg_printer.proofs.Declared.{statements_are_of}
use Rattle.alg_printer.proofs.file.file_text.Goals as goal

-- the statement is of the file
pub put_statement-requires-clause-declared : goal.put_statement-requires-clause-declared
put_statement-requires-clause-declared c =
    let file = c.args.file.now in
    All-get_or (IsStatementOf file) c.items-statement-items.result.now c.loop-statement.statement-index _
    c.loop-statement-test.true
    (subst (All (IsStatementOf file)) (sym c.items-statement-items.ensures) (statements_are_of file c.requires.valid))
