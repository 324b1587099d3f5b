-- The annotated file that a text is, or its first fault.
use Rattle.std.specs.Prelude.{ℕ, List, [], Option, Result}
use Rattle.std.specs.Option.{option_or, option_map}
use Rattle.alg_lines.specs.declared.answer.Answer.{Answer}
use Rattle.alg_terms.specs.declared.file.File.{File}
use Rattle.alg_tokens.specs.declared.code.Code.TheVariants as code
use Rattle.alg_tokens.specs.declared.token.Refusal.{Refusal}
use Rattle.alg_tokens.specs.Codes.{fault_at}
use Rattle.alg_reader.specs.declared.place.Place.{Place}
use Rattle.alg_reader.specs.declared.place.Place.TheVariants.{Start}
use Rattle.alg_reader.specs.declared.raw.RawKind.{RawKind}
use Rattle.alg_reader.specs.declared.reading.Raw.{Raw}
use Rattle.alg_typing.specs.Faults.{first_of}
use Rattle.alg_typing.specs.Reading.{no_statements}
use Rattle.alg_typing.specs.Resolved.{extended}
use Rattle.alg_typing.specs.Ways.{Way, Reads, IsReadingBy}
use Rattle.alg_annotated.specs.declared.annotated.Annotated.{Annotated}
use Rattle.alg_annotated.specs.Names.{statement_names}
use Rattle.alg_annotated.specs.Places.{place_behind}
use Rattle.alg_annotated.specs.Resolved.{answers_with}
use Rattle.alg_annotated.specs.Rules.{statement_faults}

-- what an annotated text is so far: a file, an answer or none to each of its goals, and the place of the next statement
pub record SoFar : Type 0 where
  pub file : File
  pub answers : List (Option Answer)
  pub place : Place

-- before the first statement
abbrev pub nothing_yet : SoFar
nothing_yet = record { file = no_statements; answers = []; place = Start }

-- the annotated file that a text is, if it ends here
abbrev pub annotated_of : SoFar → Annotated
annotated_of now = record { file = now.file; answers = now.answers }

-- the first fault of a statement behind those of a file: a node that is too deep, else the first fault of its names,
-- else the first of its other faults
abbrev pub first_fault : File → List ℕ → Raw → Option Refusal
first_fault file text raw =
    option_or (option_map (fault_at code.Depth) raw.too_deep)
    (option_or (first_of (statement_names file text raw.kind)) (first_of (statement_faults file text raw.start raw.kind)))

-- with one more statement: declarations and goals go to the file, all else to the answer of the last goal
abbrev pub with_statement : SoFar → List ℕ → RawKind → SoFar
with_statement now text kind = record {
  file = extended now.file text kind;
  answers = answers_with now.file text kind now.answers;
  place = place_behind now.place kind;
}

-- annotated files are read with each statement at the place that those before it leave
abbrev pub annotated_way : List ℕ → Way SoFar Annotated
annotated_way text = record {
  place = λ now. now.place;
  fault = λ now raw. first_fault now.file text raw;
  next = λ now raw. with_statement now text raw.kind;
  whole = annotated_of;
}

-- from a byte on the text goes on with some statements behind those so far
abbrev pub ReadsAnnotated : List ℕ → ℕ → SoFar → Result Annotated Refusal → Type 0
ReadsAnnotated text at now outcome = Reads (annotated_way text) text at now outcome

-- the annotated file that these bytes are, or their first fault
abbrev pub IsAnnotatedReadingOf : List ℕ → Result Annotated Refusal → Type 0
IsAnnotatedReadingOf bytes outcome = IsReadingBy (annotated_way bytes) nothing_yet bytes outcome
