-- What one more statement without fault keeps of an annotated file.
use Rattle.std.proofs.Common.{◌≡◌, ℕ, List, [], length, Option, None, Some, refl, ap, ◌∙◌}
use Rattle.std.specs.Prelude.{not}
use Rattle.std.specs.Option.{option_or, option_map}
use Rattle.alg_lines.specs.declared.answer.Answer.{Answer}
use Rattle.alg_terms.specs.declared.file.File.{File}
use Rattle.alg_terms.specs.Valid.{IsValid}
use Rattle.alg_tokens.specs.declared.code.Code.TheVariants as code
use Rattle.alg_tokens.specs.declared.token.Refusal.{Refusal}
use Rattle.alg_tokens.specs.Codes.{fault_at}
use Rattle.alg_reader.specs.declared.raw.RawKind.{RawKind}
use Rattle.alg_reader.specs.declared.raw.RawKind.TheVariants as raws
use Rattle.alg_reader.specs.declared.reading.Raw.{Raw}
use Rattle.alg_reader.specs.WellRead.{IsWellKind}
use Rattle.alg_reify.specs.Table.{goal_atoms}
use Rattle.alg_typing.specs.Faults.{fault_if, first_of}
use Rattle.alg_typing.specs.NameFaults.{name_faults}
use Rattle.alg_typing.specs.Reading as files
use Rattle.alg_typing.specs.Resolved.{extended}
use Rattle.alg_typing.specs.SortFaults.{sort_faults}
use Rattle.alg_typing.proofs.GrowingAnswers.{extended_grows}
use Rattle.alg_annotated.specs.Kept.{AreAnswersTo}
use Rattle.alg_annotated.specs.Names.{statement_names}
use Rattle.alg_annotated.specs.Parts.{IsAnswerPart}
use Rattle.alg_annotated.specs.Reading.{first_fault}
use Rattle.alg_annotated.specs.Resolved.{answer_of, answers_with, line_of, step_of, with_part}
use Rattle.alg_annotated.specs.Rules.{belongs, last_goal, part_faults, statement_faults}
use Rattle.alg_annotated.proofs.AnswersKept.{same_goals, one_goal, last_changed, line_keeps, step_keeps}
use Rattle.alg_annotated.proofs.Clear.{both_empty, answer_stands, no_names, no_others}
use Rattle.alg_annotated.proofs.Lasts.{one_longer}

module _ (file : File) (text : List ℕ) (valid : IsValid file) (given : List (Option Answer))
    (h : AreAnswersTo file given) where
  -- a declaration adds no goal
  declared : (kind : RawKind) → length (extended file text kind).goals ≡ length file.goals →
      AreAnswersTo (extended file text kind) given
  declared kind same =
      same_goals file (extended file text kind) (extended_grows file text kind) valid given same h

  answered : (kind : RawKind) (start : ℕ) → IsWellKind text kind → statement_names file text kind ≡ [] →
      statement_faults file text start kind ≡ [] →
      AreAnswersTo (extended file text kind) (answers_with file text kind given)
  answered raws.End start well n s = h
  answered (raws.Sort kind name char0) start well n s = declared (raws.Sort kind name char0) refl
  answered (raws.Hom name from to) start well n s = declared (raws.Hom name from to) refl
  answered (raws.Vars names sort) start well n s = declared (raws.Vars names sort) refl
  answered (raws.Hyp name e) start well n s = declared (raws.Hyp name e) refl
  answered (raws.Goal e method method_at) start well n s =
      let kind = raws.Goal e method method_at in
      one_goal file (extended file text kind) (extended_grows file text kind) valid given
      (one_longer file.goals _) h
  answered (raws.Answer said) start well n s =
      let goal = last_goal file in
      let atoms = goal_atoms file goal in
      let form = fault_if (not (belongs goal.method said)) code.Answer start in
      let parts = (both_empty form (part_faults file text goal said) s).1 in
      last_changed file (λ (before : Option Answer). Some (answer_of file text atoms said))
      (λ before old. answer_stands file text goal atoms said well n parts) given h
  answered (raws.Line a m i b n j d) start well names s =
      let atoms = goal_atoms file (last_goal file) in
      last_changed file (with_part file text atoms (raws.Line a m i b n j d))
      (line_keeps file (last_goal file) (line_of file text atoms a m i b n j d)) given h
  answered (raws.Step a b n j d) start well names s =
      let atoms = goal_atoms file (last_goal file) in
      last_changed file (with_part file text atoms (raws.Step a b n j d))
      (step_keeps file (last_goal file) (step_of file text atoms a b n j d)) given h

  -- each goal has an answer or none still, whose terms keep the rules
  pub still_answers : (raw : Raw) → IsWellKind text raw.kind → first_fault file text raw ≡ None →
      AreAnswersTo (extended file text raw.kind) (answers_with file text raw.kind given)
  still_answers raw well none =
      answered raw.kind raw.start well (no_names file text raw none) (no_others file text raw none)

-- the names and the other faults of a declaration or a goal are those in a file without answers
names_same : (file : File) (text : List ℕ) (kind : RawKind) → (IsAnswerPart kind → ⊥) →
    statement_names file text kind ≡ name_faults file text kind
names_same file text raws.End other = refl
names_same file text (raws.Sort kind name char0) other = refl
names_same file text (raws.Hom name from to) other = refl
names_same file text (raws.Vars names sort) other = refl
names_same file text (raws.Hyp name e) other = refl
names_same file text (raws.Goal e method method_at) other = refl
names_same file text (raws.Answer said) other = absurd (other tt)
names_same file text (raws.Line a m i b n j d) other = absurd (other tt)
names_same file text (raws.Step a b n j d) other = absurd (other tt)

faults_same : (file : File) (text : List ℕ) (start : ℕ) (kind : RawKind) → (IsAnswerPart kind → ⊥) →
    statement_faults file text start kind ≡ sort_faults file text kind
faults_same file text start raws.End other = refl
faults_same file text start (raws.Sort kind name char0) other = refl
faults_same file text start (raws.Hom name from to) other = refl
faults_same file text start (raws.Vars names sort) other = refl
faults_same file text start (raws.Hyp name e) other = refl
faults_same file text start (raws.Goal e method method_at) other = refl
faults_same file text start (raws.Answer said) other = absurd (other tt)
faults_same file text start (raws.Line a m i b n j d) other = absurd (other tt)
faults_same file text start (raws.Step a b n j d) other = absurd (other tt)

-- and so is the first fault
pub first_is_same : (file : File) (text : List ℕ) (raw : Raw) → (IsAnswerPart raw.kind → ⊥) →
    first_fault file text raw ≡ files.first_fault file text raw
first_is_same file text raw other =
    ap (λ (fs : List Refusal). option_or (option_map (fault_at code.Depth) raw.too_deep)
    (option_or (first_of fs) (first_of (statement_faults file text raw.start raw.kind))))
    (names_same file text raw.kind other)
    ∙ ap (λ (fs : List Refusal). option_or (option_map (fault_at code.Depth) raw.too_deep)
    (option_or (first_of (name_faults file text raw.kind)) (first_of fs)))
    (faults_same file text raw.start raw.kind other)
