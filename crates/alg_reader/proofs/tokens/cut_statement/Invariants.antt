use Rattle.std.proofs.Common.{◌≡◌, ◌≤◌, ◌-◌, length}
use Rattle.std.specs.Str.{IsCharBoundary}
use Rattle.alg_terms.specs.Limits.{MAX_OPEN}
use Rattle.alg_reader.specs.Tokens.{open_after, Reaches}
use Rattle.alg_reader.proofs.tokens.cut_statement.Given as goal

abbrev pub invariant-tokens : goal.invariant-tokens
invariant-tokens l = record {
  reaches : Reaches l.text l.fn.at l.tokens.items l.stop;
  opened : l.depth ≡ open_after 0 l.tokens.items;
  few : l.depth ≤ MAX_OPEN;
  boundary : IsCharBoundary l.text l.stop;
}

abbrev pub decreases-tokens : goal.decreases-tokens
decreases-tokens l = length l.text - l.stop
