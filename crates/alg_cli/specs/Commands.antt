-- What the words after the program's name ask for, and what it reads then.
use Rattle.std.specs.Prelude.{ℕ, ◌≤◌, Bool, false, not, ◌&&◌, ◌||◌, ◌==◌, nat_le, List, [], ◌∷◌, length, Option, Some, None, String, string_bytes, map, codes, bytes_eq, if◌then◌else◌}
use Rattle.std.specs.Str.{all_ascii_digits}
use Rattle.std.specs.declared.alloc.Global.{Global}
use Rattle.alg_load.specs.Limits.{MAX_LOAD}
use Rattle.alg_terms.specs.Ascii.{DIGIT_0}
use Rattle.alg_tokens.specs.Pieces.{value_of}
use Rattle.alg_cli.specs.declared.command.Command.{Command}
use Rattle.alg_cli.specs.declared.command.Command.TheVariants.{Prove, Check, Load, Usage}

-- the word is `0`, or digits of which the first is not 0
abbrev pub is_number : List ℕ → Bool
is_number [] = false
is_number (digit ∷ digits) = all_ascii_digits (digit ∷ digits) && (not (digit == DIGIT_0) || length digits == 0)

-- how many goals a word asks for, where it is such a number and no greater than a loaded file may be
abbrev pub goals_of : List ℕ → Option ℕ
goals_of word = if is_number word && nat_le (value_of word) MAX_LOAD then Some (value_of word) else None

-- a file of so many goals is asked for, or the usage where there is no such file
abbrev pub loads : Option ℕ → Command
loads (Some goals) = Load goals
loads None = Usage

-- the one word `prove` asks for answers, the one word `check` for reports on them, `load` with a number for the summary
-- of a loaded file, all else for the usage
abbrev pub asked_by : List (List ℕ) → Command
asked_by (word ∷ []) =
    if bytes_eq word (codes "prove") then Prove else (if bytes_eq word (codes "check") then Check else Usage)
asked_by (word ∷ number ∷ []) = if bytes_eq word (codes "load") then loads (goals_of number) else Usage
asked_by _ = Usage

-- what the words ask for
abbrev pub command_of : List (String Global) → Command
command_of words = asked_by (map string_bytes words)

-- no more goals are asked for than a loaded file may have
abbrev pub AsksForFew : Command → Type 0
AsksForFew Prove = Unit {0}
AsksForFew Check = Unit {0}
AsksForFew (Load goals) = goals ≤ MAX_LOAD
AsksForFew Usage = Unit {0}

-- the command reads the input
abbrev pub ReadsInput : Command → Type 0
ReadsInput Prove = Unit {0}
ReadsInput Check = Unit {0}
ReadsInput (Load goals) = ⊥
ReadsInput Usage = ⊥

-- how many bytes of it at most
abbrev pub most_bytes : Command → ℕ
most_bytes Prove = 1048576
most_bytes Check = 16777216
most_bytes (Load goals) = 0
most_bytes Usage = 0

-- the bytes that it works on, where they are told: those of the input, or none where it reads nothing
abbrev pub bytes_for : Command → Option (List ℕ) → Option (List ℕ)
bytes_for Prove left = left
bytes_for Check left = left
bytes_for (Load goals) left = Some []
bytes_for Usage left = Some []
