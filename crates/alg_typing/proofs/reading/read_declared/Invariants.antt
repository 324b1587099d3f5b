use Rattle.std.proofs.Common.{◌-◌, length, Result}
use Rattle.std.specs.Str.{IsCharBoundary}
use Rattle.alg_terms.specs.declared.file.File.{File}
use Rattle.alg_tokens.specs.declared.token.Refusal.{Refusal}
use Rattle.alg_typing.specs.Reading.{ReadsFile, no_statements}
use Rattle.alg_typing.proofs.RoomForStatements.{HasAtMost}
use Rattle.alg_typing.proofs.reading.read_declared.Given as goal

-- what the rest of the text is read to be decides what all of it is; each member took a byte at least
abbrev pub invariant-statements : goal.invariant-statements
invariant-statements l = record {
  decides : (outcome : Result File Refusal) → ReadsFile l.text l.at l.declared outcome →
      ReadsFile l.text 0 no_statements outcome;
  boundary : IsCharBoundary l.text l.at;
  few : HasAtMost l.declared l.at;
}

abbrev pub decreases-statements : goal.decreases-statements
decreases-statements l = length l.text - l.at
