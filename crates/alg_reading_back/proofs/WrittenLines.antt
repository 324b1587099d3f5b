-- The lines of the canonical text of a file with its answers, in both formats.
use Rattle.std.specs.Prelude.{ℕ, ◌+◌, List, [], ◌∷◌, ◌++◌, map, flat_map, Option, None, Some}
use Rattle.alg_lines.specs.declared.answer.Answer.{Answer}
use Rattle.alg_lines.specs.declared.answer.Answer.TheVariants as answer
use Rattle.alg_reify.specs.Table.{goal_atoms}
use Rattle.alg_terms.specs.declared.file.File.{File}
use Rattle.alg_terms.specs.declared.file.Statement.{Statement}
use Rattle.alg_terms.specs.declared.file.Statement.TheVariants as statement
use Rattle.alg_terms.specs.declared.goals.Goal.{Goal}
use Rattle.alg_terms.specs.declared.term.Atom.{Atom}
use Rattle.alg_terms.specs.Members.{goal_at}
use Rattle.alg_tokens.specs.Pieces.{Piece}
use Rattle.alg_reader.specs.declared.format.Format.{Format}
use Rattle.alg_reader.specs.declared.raw.RawKind.{RawKind}
use Rattle.alg_reader.specs.declared.raw.RawKind.TheVariants as raws
use Rattle.alg_printer.specs.Text.{answer_at}
use Rattle.alg_reading_back.proofs.WrittenAnswers.{answer_pieces, answer_raw, written_line, written_step}
use Rattle.alg_reading_back.proofs.WrittenLists.{Written}
use Rattle.alg_reading_back.proofs.WrittenStatements.{WrittenStatement, written_goal, written_statement, dot}
use Rattle.alg_reading_back.proofs.WrittenTerms.{space, line_feed}

-- a line without its line feed: its pieces, and by its place where its first token begins and what it says
pub record WrittenLine : Type 0 where
  pub pieces : List Piece
  pub first : ℕ → ℕ
  pub raw : ℕ → RawKind

-- a statement from the beginning of its line on
abbrev pub plain_line : WrittenStatement → WrittenLine
plain_line said = record { pieces = said.pieces; first = λ at. at; raw = said.raw }

-- what stands before the `.` of a statement behind two spaces
abbrev pub indented : Written RawKind → WrittenLine
indented said = record {
  pieces = space ∷ space ∷ (said.pieces ++ dot);
  first = λ at. at + 1 + 1;
  raw = λ at. said.raw (at + 1 + 1);
}

-- the pieces of lines, each with its line feed
abbrev pub lines_pieces : List WrittenLine → List Piece
lines_pieces lines = flat_map (λ l. l.pieces ++ (line_feed ∷ [])) lines

module _ (file : File) (format : Format) where
  module _ (atoms : List Atom) where
    abbrev pub written_answer : Answer → Written RawKind
    written_answer said = record {
      pieces = answer_pieces file format atoms said;
      raw = λ at. raws.Answer (answer_raw file format atoms said at);
    }

    -- the lines and steps of an answer
    abbrev pub part_lines : Answer → List WrittenLine
    part_lines (answer.Certified constants cert) =
        map (λ l. indented (written_line file format atoms l)) cert.lines
        ++ map (λ s. indented (written_step file format atoms s)) cert.steps
    part_lines said = []

  -- the lines of an answer to a goal, if there is one
  abbrev pub answer_lines : Goal → Option Answer → List WrittenLine
  answer_lines goal None = []
  answer_lines goal (Some said) =
      indented (written_answer (goal_atoms file goal) said) ∷ part_lines (goal_atoms file goal) said

  module _ (answers : List (Option Answer)) where
    -- the lines of a statement, with the answer to a goal
    abbrev pub statement_lines : Statement → List WrittenLine
    statement_lines (statement.Goal i) =
        plain_line (written_goal file (goal_at file i)) ∷ answer_lines (goal_at file i) (answer_at answers i)
    statement_lines s = plain_line (written_statement file s) ∷ []

    -- the lines of statements
    abbrev pub file_lines : List Statement → List WrittenLine
    file_lines order = flat_map statement_lines order
