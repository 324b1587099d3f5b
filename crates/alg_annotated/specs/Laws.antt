-- Laws of reading annotated files.
use Rattle.std.specs.Prelude.{◌≡◌, ℕ, List, Result}
use Rattle.alg_tokens.specs.declared.token.Refusal.{Refusal}
use Rattle.alg_annotated.specs.declared.annotated.Annotated.{Annotated}
use Rattle.alg_annotated.specs.Reading.{IsAnnotatedReadingOf}

-- a text has at most one outcome: it is one annotated file, or has one first fault
abbrev pub OneAnnotatedReading : Type 0
OneAnnotatedReading = (bytes : List ℕ) (one other : Result Annotated Refusal) → IsAnnotatedReadingOf bytes one
    → IsAnnotatedReadingOf bytes other → one ≡ other
