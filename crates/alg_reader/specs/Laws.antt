-- Laws of reading.
use Rattle.std.specs.Prelude.{◌≡◌, ◌≢◌, ℕ, List, Result, Ok, Err}
use Rattle.std.specs.Str.{IsUtf8, IsCharBoundary}
use Rattle.alg_reader.specs.declared.place.Place.{Place}
use Rattle.alg_reader.specs.declared.reading.Raw.{Raw}
use Rattle.alg_reader.specs.declared.reading.FileEnd.{FileEnd}
use Rattle.alg_reader.specs.declared.reading.FileEnd.TheVariants.{NoMemory}
use Rattle.alg_reader.specs.Places.{MayStand}
use Rattle.alg_reader.specs.Statements.{IsRead}
use Rattle.alg_reader.specs.WellRead.{IsWellRead}

-- whatever is read of a text, where it may be cut, is well read
abbrev pub StatementsAreWellRead : Type 0
StatementsAreWellRead = (place : Place) (text : List ℕ) (at : ℕ) (raw : Raw) → IsUtf8 text
    → IsCharBoundary text at → IsRead place text at (Ok raw) → IsWellRead text at raw

-- whatever is read at a place may stand there
abbrev pub StatementsMayStand : Type 0
StatementsMayStand = (place : Place) (text : List ℕ) (at : ℕ) (raw : Raw) → IsUtf8 text
    → IsCharBoundary text at → IsRead place text at (Ok raw) → MayStand place raw.kind

-- at each place of a text there is at most one statement, end or first fault
abbrev pub OneOutcome : Type 0
OneOutcome = (place : Place) (text : List ℕ) (at : ℕ) (one other : Result Raw FileEnd)
    → IsRead place text at one → IsRead place text at other → one ≢ Err NoMemory →
    other ≢ Err NoMemory → one ≡ other
