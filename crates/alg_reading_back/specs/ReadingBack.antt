-- The law that the canonical text of a file reads back as the file.
use Rattle.std.specs.Prelude.{◌≤◌, ◌+◌, ◌-◌, ◌==◌, ℕ, if◌then◌else◌, max, List, [], ◌∷◌, All, Option, None, Ok, map}
use Rattle.alg_lines.specs.declared.answer.Answer.{Answer}
use Rattle.alg_printer.specs.Text.{text_of, statement_text}
use Rattle.alg_terms.specs.declared.file.File.{File}
use Rattle.alg_terms.specs.Limits.{MAX_OPEN}
use Rattle.alg_terms.specs.Valid.{IsValid}
use Rattle.alg_typing.specs.Reading.{IsReadingOf}

-- ---- what is asked of the file

-- the bytes of a left and of a right parenthesis
abbrev pub LEFT : ℕ
LEFT = 40

abbrev pub RIGHT : ℕ
RIGHT = 41

-- how many parentheses are open after a byte
abbrev pub open_with : ℕ → ℕ → ℕ
open_with depth byte = if byte == LEFT then depth + 1 else (if byte == RIGHT then depth - 1 else depth)

-- the most parentheses that are open at once in a text, where so many are open before it
abbrev pub most_open : ℕ → List ℕ → ℕ
most_open depth [] = depth
most_open depth (byte ∷ text) = max depth (most_open (open_with depth byte) text)

-- one absent answer for each goal
abbrev pub unanswered : File → List (Option Answer)
unanswered file = map (λ goal. None) file.goals

-- no statement of the file's text has more parentheses open at once than may be
abbrev pub OpensFew : File → Type 0
OpensFew file = All (λ s. most_open 0 (statement_text file (unanswered file) s) ≤ MAX_OPEN) file.order

-- ---- the law

-- the text of a valid file, none of its goals answered, reads as the file
abbrev pub ReadsBack : Type 0
ReadsBack = (file : File) → IsValid file → OpensFew file → IsReadingOf (text_of file (unanswered file)) (Ok file)
