-- The file that a text is, or its first fault.
use Rattle.std.specs.Prelude.{ℕ, List, [], Option, Result}
use Rattle.std.specs.Option.{option_or, option_map}
use Rattle.alg_terms.specs.declared.file.File.{File}
use Rattle.alg_tokens.specs.declared.code.Code.TheVariants as code
use Rattle.alg_tokens.specs.declared.token.Refusal.{Refusal}
use Rattle.alg_tokens.specs.Codes.{fault_at}
use Rattle.alg_reader.specs.declared.place.Place.TheVariants.{Plain}
use Rattle.alg_reader.specs.declared.reading.Raw.{Raw}
use Rattle.alg_typing.specs.Faults.{first_of}
use Rattle.alg_typing.specs.NameFaults.{name_faults}
use Rattle.alg_typing.specs.Resolved.{extended}
use Rattle.alg_typing.specs.SortFaults.{sort_faults}
use Rattle.alg_typing.specs.Ways.{Way, Reads, IsReadingBy}

-- the file without statements
abbrev pub no_statements : File
no_statements = record { sorts = []; homs = []; vars = []; hyps = []; goals = []; order = [] }

-- the first fault of a statement after those of a file: a node that is too deep, else the first fault of its
-- names, else the first of its sorts
abbrev pub first_fault : File → List ℕ → Raw → Option Refusal
first_fault file text raw =
    option_or (option_map (fault_at code.Depth) raw.too_deep)
    (option_or (first_of (name_faults file text raw.kind)) (first_of (sort_faults file text raw.kind)))

-- files are read without answers, each statement added to those before it
abbrev pub file_way : List ℕ → Way File File
file_way text = record {
  place = λ file. Plain;
  fault = λ file raw. first_fault file text raw;
  next = λ file raw. extended file text raw.kind;
  whole = λ file. file;
}

-- from a byte on the text goes on with some statements behind those of a file
abbrev pub ReadsFile : List ℕ → ℕ → File → Result File Refusal → Type 0
ReadsFile text at file outcome = Reads (file_way text) text at file outcome

-- the file that these bytes are, or their first fault
abbrev pub IsReadingOf : List ℕ → Result File Refusal → Type 0
IsReadingOf bytes outcome = IsReadingBy (file_way bytes) no_statements bytes outcome
