-- Each use, line and step takes a byte at least.
use Rattle.std.proofs.Common.{◌≡◌, ◌≢◌, ◌≤◌, ◌+◌, ℕ, List, [], ◌∷◌, ◌++◌, length, Option, None, Some, refl, ap, ◌∙◌, arith}
use Rattle.std.specs.Prelude.{sum_by}
use Rattle.std.proofs.lemmas.List.{length-map}
use Rattle.alg_lines.specs.declared.answer.Answer.{Answer}
use Rattle.alg_lines.specs.declared.answer.Answer.TheVariants as answer
use Rattle.alg_lines.specs.declared.cert.GoalStep.{GoalStep}
use Rattle.alg_lines.specs.declared.cert.Line.{Line}
use Rattle.alg_terms.specs.declared.file.File.{File}
use Rattle.alg_terms.specs.declared.goals.Goal.{Goal}
use Rattle.alg_terms.specs.declared.term.Atom.{Atom}
use Rattle.alg_terms.specs.Members.{uses_of}
use Rattle.alg_reader.specs.declared.raw.RawAnswer.{RawAnswer}
use Rattle.alg_reader.specs.declared.raw.RawAnswer.TheVariants as answers
use Rattle.alg_reader.specs.declared.raw.RawKind.{RawKind}
use Rattle.alg_reader.specs.declared.raw.RawKind.TheVariants as raws
use Rattle.alg_reader.specs.declared.raw.RawMethod.{RawMethod}
use Rattle.alg_reader.specs.declared.raw.RawMethod.TheVariants as methods
use Rattle.alg_reader.specs.declared.reading.Raw.{Raw}
use Rattle.alg_reader.specs.WellRead.{IsWellRead, members_in, uses_in}
use Rattle.alg_reify.specs.Table.{goal_atoms}
use Rattle.alg_typing.specs.Resolved.{extended, method_of}
use Rattle.alg_annotated.specs.Kept.{lines_in, size_of}
use Rattle.alg_annotated.specs.Resolved.{answer_of, answers_with, line_of, step_of, with_last, with_line, with_step, with_part}
use Rattle.alg_annotated.specs.Rules.{last_goal}
use Rattle.alg_annotated.proofs.Lasts.{empty, last, ending, one_longer, sum_with, with_last-append}

-- how many uses a goal has
abbrev uses_by : Goal → ℕ
uses_by goal = length (uses_of goal.method)

one_line : (l : Line) (said : Option Answer) → lines_in (with_line l said) ≤ lines_in said + 1
one_line l None = grind (arith)
one_line l (Some (answer.Certified constants cert)) = omega (arith, one_longer cert.lines l)
one_line l (Some (answer.Proved conditions)) = grind (arith)
one_line l (Some (answer.No at left right)) = grind (arith)
one_line l (Some (answer.ZeroDenominator denominator)) = grind (arith)
one_line l (Some (answer.NoneUpTo power)) = grind (arith)
one_line l (Some (answer.GaveUp limit)) = grind (arith)
one_line l (Some answer.Range) = grind (arith)
one_line l (Some answer.Degree) = grind (arith)
one_line l (Some answer.Atoms) = grind (arith)

one_step : (s : GoalStep) (said : Option Answer) → lines_in (with_step s said) ≤ lines_in said + 1
one_step s None = grind (arith)
one_step s (Some (answer.Certified constants cert)) = omega (arith, one_longer cert.steps s)
one_step s (Some (answer.Proved conditions)) = grind (arith)
one_step s (Some (answer.No at left right)) = grind (arith)
one_step s (Some (answer.ZeroDenominator denominator)) = grind (arith)
one_step s (Some (answer.NoneUpTo power)) = grind (arith)
one_step s (Some (answer.GaveUp limit)) = grind (arith)
one_step s (Some answer.Range) = grind (arith)
one_step s (Some answer.Degree) = grind (arith)
one_step s (Some answer.Atoms) = grind (arith)

-- an answer has no lines at first
none_yet : (file : File) (text : List ℕ) (atoms : List Atom) (said : RawAnswer) →
    lines_in (Some (answer_of file text atoms said)) ≡ 0
none_yet file text atoms (answers.Proved conditions) = refl
none_yet file text atoms (answers.Certified version power constants) = refl
none_yet file text atoms (answers.No m left right) = refl
none_yet file text atoms (answers.ZeroDenominator denominator) = refl
none_yet file text atoms (answers.NoneUpTo power) = refl
none_yet file text atoms (answers.GaveUp limit) = refl
none_yet file text atoms answers.Range = refl
none_yet file text atoms answers.Degree = refl
none_yet file text atoms answers.Atoms = refl

-- where the last answer has at most one more line, all have
last_grows : (change : Option Answer → Option Answer) (given : List (Option Answer)) →
    ((said : Option Answer) → lines_in (change said) ≤ lines_in said + 1) →
    sum_by lines_in (with_last change given) ≤ sum_by lines_in given + 1
last_grows change given most = elim (ending given) as (λ xs _. sum_by lines_in (with_last change xs)
    ≤ sum_by lines_in xs + 1) [
      | empty ↦ grind (arith)
      | last front x ↦
          let new = ap (sum_by lines_in) (with_last-append change front x) ∙ sum_with lines_in front (change x) in
          let old = sum_with lines_in front x in
          omega (arith, new, old, most x)
    ]

uses_same : (file : File) (text : List ℕ) (method : RawMethod) →
    length (uses_of (method_of file text method)) ≡ uses_in method
uses_same file text methods.Ring = refl
uses_same file text methods.Field = refl
uses_same file text (methods.Nsatz uses power limit) = length-map uses _

module _ (file : File) (text : List ℕ) (given : List (Option Answer)) where
  abbrev uses : ℕ
  uses = sum_by uses_by file.goals

  abbrev lines : ℕ
  lines = sum_by lines_in given

  abbrev atoms : List Atom
  atoms = goal_atoms file (last_goal file)

  -- with a line or a step there is at most one more
  last_part : (kind : RawKind) →
      ((said : Option Answer) → lines_in (with_part file text atoms kind said) ≤ lines_in said + 1) →
      uses + sum_by lines_in (with_last (with_part file text atoms kind) given) ≤ uses + lines + 1
  last_part kind most =
      let least : sum_by lines_in (with_last (with_part file text atoms kind) given) ≤ lines + 1 =
      last_grows (with_part file text atoms kind) given most in
      omega (arith, least)

  grown : (kind : RawKind) → kind ≢ raws.End →
      size_of (extended file text kind) (answers_with file text kind given) ≤ size_of file given + members_in kind
  grown raws.End goes = absurd (goes refl)
  grown (raws.Sort kind name char0) goes = grind (arith)
  grown (raws.Hom name from to) goes = grind (arith)
  grown (raws.Vars names sort) goes = grind (arith)
  grown (raws.Hyp name e) goes = grind (arith)
  grown (raws.Goal e method method_at) goes =
      let more : sum_by uses_by (extended file text (raws.Goal e method method_at)).goals ≡ uses + uses_in method =
      sum_with uses_by file.goals _ ∙ ap (λ n. uses + n) (uses_same file text method) in
      let same : sum_by lines_in (given ++ None ∷ []) ≡ lines + 0 = sum_with lines_in given None in
      omega (arith, more, same)
  grown (raws.Answer said) goes =
      let answer : Answer = answer_of file text atoms said in
      let least : sum_by lines_in (with_last (λ before. Some answer) given) ≤ lines + 1 =
      last_grows (λ before. Some answer) given (λ before. omega (arith, none_yet file text atoms said)) in
      omega (arith, least)
  grown (raws.Line a m i b n j d) goes =
      last_part (raws.Line a m i b n j d) (one_line (line_of file text atoms a m i b n j d))
  grown (raws.Step a b n j d) goes = last_part (raws.Step a b n j d) (one_step (step_of file text atoms a b n j d))

  -- uses, lines and steps so far are at most as many as the bytes that were read
  pub still_sized : (at : ℕ) (raw : Raw) → IsWellRead text at raw → raw.kind ≢ raws.End → size_of file given ≤ at →
      size_of (extended file text raw.kind) (answers_with file text raw.kind given) ≤ raw.stop
  still_sized at raw well goes sized = omega (arith, grown raw.kind goes, well.long goes, well.starts, sized)
