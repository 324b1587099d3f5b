-- Answers, lines and steps with the numbers of what they name, and the answers to the goals of a file with one more
-- statement.
use Rattle.std.specs.Prelude.{ℕ, List, [], ◌∷◌, ◌++◌, map, Option, None, Some}
use Rattle.std.specs.Int.RustNames.{unsigned_abs}
use Rattle.alg_terms.specs.declared.file.File.{File}
use Rattle.alg_terms.specs.declared.term.Atom.{Atom}
use Rattle.alg_lines.specs.declared.answer.Answer.{Answer}
use Rattle.alg_lines.specs.declared.answer.Answer.TheVariants as answer
use Rattle.alg_lines.specs.declared.cert.GoalStep.{GoalStep}
use Rattle.alg_lines.specs.declared.cert.Line.{Line}
use Rattle.alg_reader.specs.declared.raw.RawAnswer.{RawAnswer}
use Rattle.alg_reader.specs.declared.raw.RawAnswer.TheVariants as answers
use Rattle.alg_reader.specs.declared.raw.RawKind.{RawKind}
use Rattle.alg_reader.specs.declared.raw.RawKind.TheVariants as raws
use Rattle.alg_reader.specs.declared.raw.RawMono.{RawMono}
use Rattle.alg_reader.specs.declared.raw.RawNumber.{RawNumber}
use Rattle.alg_reify.specs.Table.{goal_atoms}
use Rattle.alg_typing.specs.Resolved.{term_of}
use Rattle.alg_annotated.specs.Monomials.{monomial_of}
use Rattle.alg_annotated.specs.Rules.{last_goal}

module _ (file : File) (text : List ℕ) (atoms : List Atom) where
  -- an answer; of a certificate its lines and steps are still to come
  abbrev pub answer_of : RawAnswer → Answer
  answer_of (answers.Proved conditions) = answer.Proved (map (term_of file text) conditions)
  answer_of (answers.Certified version power constants) =
      answer.Certified (map (λ n. n.value) constants)
      (record { power = unsigned_abs power.value; lines = []; steps = [] })
  answer_of (answers.No m left right) = answer.No (monomial_of file text atoms m) left.value right.value
  answer_of (answers.ZeroDenominator denominator) = answer.ZeroDenominator (term_of file text denominator)
  answer_of (answers.NoneUpTo power) = answer.NoneUpTo (unsigned_abs power.value)
  answer_of (answers.GaveUp limit) = answer.GaveUp (unsigned_abs limit.value)
  answer_of answers.Range = answer.Range
  answer_of answers.Degree = answer.Degree
  answer_of answers.Atoms = answer.Atoms

  -- a line
  abbrev pub line_of : RawNumber → RawMono → RawNumber → RawNumber → RawMono → RawNumber → RawNumber → Line
  line_of a m i b n j d = record {
    a = a.value;
    m = monomial_of file text atoms m;
    i = unsigned_abs i.value;
    b = b.value;
    n = monomial_of file text atoms n;
    j = unsigned_abs j.value;
    d = d.value;
  }

  -- a step
  abbrev pub step_of : RawNumber → RawNumber → RawMono → RawNumber → RawNumber → GoalStep
  step_of a b n j d = record {
    a = a.value;
    b = b.value;
    n = monomial_of file text atoms n;
    j = unsigned_abs j.value;
    d = d.value;
  }

-- an answer whose certificate has one more line
abbrev pub with_line : Line → Option Answer → Option Answer
with_line l (Some (answer.Certified constants cert)) =
    Some (answer.Certified constants (record cert { lines = cert.lines ++ l ∷ [] }))
with_line l said = said

-- one whose certificate has one more step
abbrev pub with_step : GoalStep → Option Answer → Option Answer
with_step s (Some (answer.Certified constants cert)) =
    Some (answer.Certified constants (record cert { steps = cert.steps ++ s ∷ [] }))
with_step s said = said

-- an answer with one more line or step of its certificate
abbrev pub with_part : File → List ℕ → List Atom → RawKind → Option Answer → Option Answer
with_part file text atoms (raws.Line a m i b n j d) said = with_line (line_of file text atoms a m i b n j d) said
with_part file text atoms (raws.Step a b n j d) said = with_step (step_of file text atoms a b n j d) said
with_part file text atoms kind said = said

-- a list whose last member is changed
abbrev pub with_last : {X : Type 0} → (X → X) → List X → List X
with_last change [] = []
with_last change (x ∷ []) = change x ∷ []
with_last change (x ∷ xs) = x ∷ with_last change xs

-- The answers to the goals so far with one more statement of the file: a goal has none at first; an answer is the last
-- goal's, and a line and a step go to its certificate.
abbrev pub answers_with : File → List ℕ → RawKind → List (Option Answer) → List (Option Answer)
answers_with file text (raws.Goal e method method_at) given = given ++ None ∷ []
answers_with file text (raws.Answer said) given =
    with_last (λ before. Some (answer_of file text (goal_atoms file (last_goal file)) said)) given
answers_with file text (raws.Line a m i b n j d) given =
    with_last (with_part file text (goal_atoms file (last_goal file)) (raws.Line a m i b n j d)) given
answers_with file text (raws.Step a b n j d) given =
    with_last (with_part file text (goal_atoms file (last_goal file)) (raws.Step a b n j d)) given
answers_with file text kind given = given
