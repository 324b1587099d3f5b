use Rattle.std.proofs.lemmas.Str.{IsCharBoundary-start}
use Rattle.alg_typing_tests.proofs.answers.typed.Goals as goal

-- a text begins with a character
pub read_statement-requires-clause-boundary : goal.read_statement-requires-clause-boundary
read_statement-requires-clause-boundary c = IsCharBoundary-start c.args.text.now c.utf8.text
