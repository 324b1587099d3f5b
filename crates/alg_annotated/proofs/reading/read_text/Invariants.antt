use Rattle.std.proofs.Common.{◌-◌, length, Result}
use Rattle.std.specs.Str.{IsCharBoundary}
use Rattle.alg_tokens.specs.declared.token.Refusal.{Refusal}
use Rattle.alg_annotated.specs.declared.annotated.Annotated.{Annotated}
use Rattle.alg_annotated.specs.Progress.{so_far, HasTable}
use Rattle.alg_annotated.specs.Reading.{ReadsAnnotated, nothing_yet}
use Rattle.alg_annotated.proofs.TextSteps.{Holds}
use Rattle.alg_annotated.proofs.reading.read_text.Given as goal

-- what the rest of the text is read to be decides what all of it is; each member, use, line and step took a byte at
-- least; and each goal has an answer or none that keeps the rules
abbrev pub invariant-statements : goal.invariant-statements
invariant-statements l = record {
  decides : (outcome : Result Annotated Refusal) → ReadsAnnotated l.text l.at (so_far l.now) outcome →
      ReadsAnnotated l.text 0 nothing_yet outcome;
  boundary : IsCharBoundary l.text l.at;
  holds : Holds (so_far l.now) l.at;
  table : HasTable l.now.declared l.now.last;
}

abbrev pub decreases-statements : goal.decreases-statements
decreases-statements l = length l.text - l.at
