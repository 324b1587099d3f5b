use Rattle.std.proofs.lemmas.Str.{IsCharBoundary-start}
use Rattle.alg_tokens.proofs.tests.first_of.Goals as goal

-- a text begins with a character
pub next_token-requires-clause-boundary : goal.next_token-requires-clause-boundary
next_token-requires-clause-boundary c = IsCharBoundary-start c.args.text.now c.utf8.text
