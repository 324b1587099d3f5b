use Rattle.std.proofs.Common.{◌≡◌, false, drop}
use Rattle.std.specs.Str.{IsCharBoundary}
use Rattle.alg_tokens.proofs.Blanks.{skip}
use Rattle.alg_tokens.proofs.scan.blank_end.Given as goal

abbrev pub invariant-bytes : goal.invariant-bytes
invariant-bytes l =
    (skip l.inside (drop l.at l.text) ≡ skip false l.text) × (l.inside ≡ false → IsCharBoundary l.text l.at)
