-- The faults of a statement once all its names are resolved: those of declarations and goals, and of answers, lines
-- and steps to the goal just before.
use Rattle.std.specs.Prelude.{ℕ, Bool, true, false, not, ◌||◌, ◌==◌, ◌-◌, ◌^◌, nat_lt, List, [], ◌++◌, flat_map, length}
use Rattle.std.specs.Int.RustNames.{unsigned_abs}
use Rattle.std.specs.Option.{option_map_or}
use Rattle.alg_terms.specs.declared.file.File.{File}
use Rattle.alg_terms.specs.declared.goals.Goal.{Goal}
use Rattle.alg_terms.specs.declared.goals.Method.{Method}
use Rattle.alg_terms.specs.declared.goals.Method.TheVariants.{ByRing, ByField, ByNsatz}
use Rattle.alg_terms.specs.Members.{goal_at}
use Rattle.alg_tokens.specs.declared.code.Code.TheVariants as code
use Rattle.alg_tokens.specs.declared.token.Refusal.{Refusal}
use Rattle.alg_reader.specs.declared.raw.RawAnswer.{RawAnswer}
use Rattle.alg_reader.specs.declared.raw.RawAnswer.TheVariants as answers
use Rattle.alg_reader.specs.declared.raw.RawKind.{RawKind}
use Rattle.alg_reader.specs.declared.raw.RawKind.TheVariants as raws
use Rattle.alg_reader.specs.declared.raw.RawNumber.{RawNumber}
use Rattle.alg_reify.specs.Table.{goal_atoms}
use Rattle.alg_typing.specs.AnswerTerms.{answer_sorts}
use Rattle.alg_typing.specs.Faults.{fault_if}
use Rattle.alg_typing.specs.SortFaults.{sort_faults}
use Rattle.alg_annotated.specs.Monomials.{mono_faults}

-- the last goal of a file, which is the one just before its answer, and before the lines and steps of that
abbrev pub last_goal : File → Goal
last_goal file = goal_at file (length file.goals - 1)

-- whether the form of an answer belongs to a method
abbrev pub belongs : Method → RawAnswer → Bool
belongs ByRing (answers.Proved conditions) = true
belongs ByRing (answers.No m left right) = true
belongs ByField (answers.Proved conditions) = true
belongs ByField (answers.No m left right) = true
belongs ByField (answers.ZeroDenominator denominator) = true
belongs (ByNsatz uses power limit) (answers.Certified version least constants) = true
belongs (ByNsatz uses power limit) (answers.NoneUpTo greatest) = true
belongs (ByNsatz uses power limit) (answers.GaveUp moves) = true
belongs method answers.Range = true
belongs method answers.Degree = true
belongs method answers.Atoms = true
belongs method said = false

-- the greatest line number, power and count
abbrev pub MAX_COUNT : ℕ
MAX_COUNT = 2 ^ 32 - 1

-- the fault of a line number, a power or a count that is over the greatest
abbrev pub count_fault : RawNumber → List Refusal
count_fault n = fault_if (nat_lt MAX_COUNT (unsigned_abs n.value)) code.Line n.at

-- the fault of a version other than 1 and 2
abbrev pub version_fault : RawNumber → List Refusal
version_fault n = fault_if (not ((unsigned_abs n.value == 1) || (unsigned_abs n.value == 2))) code.Line n.at

module _ (file : File) (text : List ℕ) (goal : Goal) where
  -- the faults of the terms, the monomials and the numbers of an answer
  abbrev pub part_faults : RawAnswer → List Refusal
  part_faults (answers.Proved conditions) = flat_map (answer_sorts file text goal) conditions
  part_faults (answers.Certified version power constants) = option_map_or version_fault version [] ++ count_fault power
  part_faults (answers.No m left right) = mono_faults file text (goal_atoms file goal) m
  part_faults (answers.ZeroDenominator denominator) = answer_sorts file text goal denominator
  part_faults (answers.NoneUpTo power) = count_fault power
  part_faults (answers.GaveUp limit) = count_fault limit
  part_faults _ = []

  -- the faults of an answer that begins at a byte: its form does not belong to the goal's method, or one of its parts
  abbrev pub answer_faults : ℕ → RawAnswer → List Refusal
  answer_faults start said = fault_if (not (belongs goal.method said)) code.Answer start ++ part_faults said

-- the faults of a statement that begins at a byte
abbrev pub statement_faults : File → List ℕ → ℕ → RawKind → List Refusal
statement_faults file text start (raws.Answer said) = answer_faults file text (last_goal file) start said
statement_faults file text start (raws.Line a m i b n j d) =
    let atoms = goal_atoms file (last_goal file) in
    mono_faults file text atoms m ++ count_fault i ++ mono_faults file text atoms n ++ count_fault j
statement_faults file text start (raws.Step a b n j d) =
    mono_faults file text (goal_atoms file (last_goal file)) n ++ count_fault j
statement_faults file text start kind = sort_faults file text kind
