-- The place behind a statement: it says what may stand next.
use Rattle.std.specs.Prelude.{◌==◌, if◌then◌else◌, Option, None, Some}
use Rattle.std.specs.Int.RustNames.{unsigned_abs}
use Rattle.alg_reader.specs.declared.place.Place.{Place}
use Rattle.alg_reader.specs.declared.place.Place.TheVariants.{Start, AfterGoal, Lines, Steps, LinesTwo, StepsTwo}
use Rattle.alg_reader.specs.declared.raw.RawAnswer.{RawAnswer}
use Rattle.alg_reader.specs.declared.raw.RawAnswer.TheVariants as answers
use Rattle.alg_reader.specs.declared.raw.RawKind.{RawKind}
use Rattle.alg_reader.specs.declared.raw.RawKind.TheVariants as raws
use Rattle.alg_reader.specs.declared.raw.RawNumber.{RawNumber}

-- the lines of a certificate of a version: the first where none is written
abbrev pub lines_of : Option RawNumber → Place
lines_of None = Lines
lines_of (Some version) = if unsigned_abs version.value == 2 then LinesTwo else Lines

-- behind an answer: the lines of its certificate, if it has one
abbrev pub place_behind_answer : RawAnswer → Place
place_behind_answer (answers.Certified version power constants) = lines_of version
place_behind_answer said = Start

-- the steps that follow lines, and steps themselves
abbrev pub steps_of : Place → Place
steps_of Lines = Steps
steps_of LinesTwo = StepsTwo
steps_of place = place

-- behind a statement that stood at a place: no line stands behind a step
abbrev pub place_behind : Place → RawKind → Place
place_behind place (raws.Goal e method method_at) = AfterGoal
place_behind place (raws.Answer said) = place_behind_answer said
place_behind place (raws.Line a m i b n j d) = place
place_behind place (raws.Step a b n j d) = steps_of place
place_behind place kind = Start
