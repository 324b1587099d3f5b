-- What the reader holds behind one more statement.
use Rattle.std.proofs.Common.{◌≡◌, ◌≢◌, ◌<◌, ◌+◌, ℕ, List, [], ◌∷◌, ◌++◌, length, Option, None, Some, refl, ap, sym, ◌∙◌, arith}
use Rattle.std.proofs.lemmas.List.{append-nil}
use Rattle.alg_lines.specs.declared.answer.Answer.{Answer}
use Rattle.alg_terms.specs.declared.file.File.{File}
use Rattle.alg_reader.specs.declared.place.Place.{Place}
use Rattle.alg_reader.specs.declared.raw.RawAnswer.{RawAnswer}
use Rattle.alg_reader.specs.declared.raw.RawKind.{RawKind}
use Rattle.alg_reader.specs.declared.raw.RawKind.TheVariants as raws
use Rattle.alg_reader.specs.declared.raw.RawMono.{RawMono}
use Rattle.alg_reader.specs.declared.raw.RawNumber.{RawNumber}
use Rattle.alg_reader.specs.Places.{MayStand}
use Rattle.alg_reify.specs.Table.{goal_atoms}
use Rattle.alg_typing.specs.Resolved.{extended}
use Rattle.alg_annotated.specs.declared.open_answer.Answered.{Answered}
use Rattle.alg_annotated.specs.declared.open_answer.Open.{Open}
use Rattle.alg_annotated.specs.declared.open_answer.Open.TheVariants as opens
use Rattle.alg_annotated.specs.Parts.{IsAnswerPart, IsLineOrStep}
use Rattle.alg_annotated.specs.Places.{place_behind}
use Rattle.alg_annotated.specs.Progress.{answers_open, opened, place_of, HasTable}
use Rattle.alg_annotated.specs.Resolved.{answer_of, answers_with, with_part}
use Rattle.alg_annotated.specs.Rules.{last_goal}
use Rattle.alg_annotated.proofs.Lasts.{with_last-append, one_longer}

-- ---- behind a declaration or a goal

module _ (file : File) (text : List ℕ) (given : List (Option Answer)) where
  pub declared_answers : (kind : RawKind) → (IsAnswerPart kind → ⊥) →
      given ++ answers_open (opened kind) ≡ answers_with file text kind given
  declared_answers raws.End other = append-nil given
  declared_answers (raws.Sort kind name char0) other = append-nil given
  declared_answers (raws.Hom name from to) other = append-nil given
  declared_answers (raws.Vars names sort) other = append-nil given
  declared_answers (raws.Hyp name e) other = append-nil given
  declared_answers (raws.Goal e method method_at) other = refl
  declared_answers (raws.Answer said) other = absurd (other tt)
  declared_answers (raws.Line a m i b n j d) other = absurd (other tt)
  declared_answers (raws.Step a b n j d) other = absurd (other tt)

pub declared_place : (place : Place) (kind : RawKind) → (IsAnswerPart kind → ⊥) →
    place_of (opened kind) ≡ place_behind place kind
declared_place place raws.End other = refl
declared_place place (raws.Sort kind name char0) other = refl
declared_place place (raws.Hom name from to) other = refl
declared_place place (raws.Vars names sort) other = refl
declared_place place (raws.Hyp name e) other = refl
declared_place place (raws.Goal e method method_at) other = refl
declared_place place (raws.Answer said) other = absurd (other tt)
declared_place place (raws.Line a m i b n j d) other = absurd (other tt)
declared_place place (raws.Step a b n j d) other = absurd (other tt)

pub declared_table : (file : File) (kind : RawKind) → HasTable file (opened kind)
declared_table file raws.End = tt
declared_table file (raws.Sort kind name char0) = tt
declared_table file (raws.Hom name from to) = tt
declared_table file (raws.Vars names sort) = tt
declared_table file (raws.Hyp name e) = tt
declared_table file (raws.Goal e method method_at) = tt
declared_table file (raws.Answer said) = tt
declared_table file (raws.Line a m i b n j d) = tt
declared_table file (raws.Step a b n j d) = tt

-- ---- behind an answer, a line or a step

-- where something of a goal's answer may stand, there is a goal
pub goal_there : (file : File) (front : List (Option Answer)) (last : Open) (kind : RawKind) → IsAnswerPart kind →
    MayStand (place_of last) kind → length (front ++ answers_open last) ≡ length file.goals → 0 < length file.goals
goal_there file front opens.Nothing (raws.Answer said) part may count = absurd may
goal_there file front opens.Nothing (raws.Line a m i b n j d) part may count = absurd may
goal_there file front opens.Nothing (raws.Step a b n j d) part may count = absurd may
goal_there file front opens.Nothing kind part may count = absurd part
goal_there file front opens.Goal kind part may count = omega (arith, one_longer front None, count)
goal_there file front (opens.Answer answered) kind part may count =
    omega (arith, one_longer front (Some answered.answer), count)

-- a line and a step stand behind an answer
pub not_open : (last : Open) (kind : RawKind) → IsLineOrStep kind → MayStand (place_of last) kind →
    ((answered : Answered) → last ≢ opens.Answer answered) → ⊥
not_open opens.Nothing (raws.Line a m i b n j d) part may other = may
not_open opens.Nothing (raws.Step a b n j d) part may other = may
not_open opens.Nothing kind part may other = part
not_open opens.Goal (raws.Line a m i b n j d) part may other = may
not_open opens.Goal (raws.Step a b n j d) part may other = may
not_open opens.Goal kind part may other = part
not_open (opens.Answer answered) kind part may other = other answered refl

pub same_file : (file : File) (text : List ℕ) (kind : RawKind) → IsAnswerPart kind → file ≡ extended file text kind
same_file file text (raws.Answer said) part = refl
same_file file text (raws.Line a m i b n j d) part = refl
same_file file text (raws.Step a b n j d) part = refl
same_file file text kind part = absurd part

pub part_of_line : (kind : RawKind) → IsLineOrStep kind → IsAnswerPart kind
part_of_line (raws.Line a m i b n j d) part = tt
part_of_line (raws.Step a b n j d) part = tt
part_of_line kind part = absurd part

-- an answer, a line and a step aside, a statement is a declaration, a goal or the end
pub no_part : (kind : RawKind) → ((said : RawAnswer) → kind ≢ raws.Answer said) →
    ((a : RawNumber) (m : RawMono) (i b : RawNumber) (n : RawMono) (j d : RawNumber) → kind ≢ raws.Line a m i b n j d) →
    ((a b : RawNumber) (n : RawMono) (j d : RawNumber) → kind ≢ raws.Step a b n j d) → IsAnswerPart kind → ⊥
no_part (raws.Answer said) answer line step part = answer said refl
no_part (raws.Line a m i b n j d) answer line step part = line a m i b n j d refl
no_part (raws.Step a b n j d) answer line step part = step a b n j d refl
no_part kind answer line step part = part

module _ (file : File) (text : List ℕ) (front : List (Option Answer)) where
  abbrev answer_to : RawAnswer → Answer
  answer_to said = answer_of file text (goal_atoms file (last_goal file)) said

  -- the answer is the one of the last goal
  pub answered_answers : (last : Open) (said : RawAnswer) (a : Answer) → MayStand (place_of last) (raws.Answer said) →
      a ≡ answer_to said →
      front ++ Some a ∷ [] ≡ answers_with file text (raws.Answer said) (front ++ answers_open last)
  answered_answers opens.Nothing said a may is = absurd may
  answered_answers opens.Goal said a may is =
      ap (λ x. front ++ Some x ∷ []) is ∙ sym (with_last-append (λ before. Some (answer_to said)) front None)
  answered_answers (opens.Answer answered) said a may is =
      ap (λ x. front ++ Some x ∷ []) is
      ∙ sym (with_last-append (λ before. Some (answer_to said)) front (Some answered.answer))

  -- a line or a step goes to the last answer
  pub part_answers : (kind : RawKind) (old : Answer) (a : Answer) → IsLineOrStep kind →
      Some a ≡ with_part file text (goal_atoms file (last_goal file)) kind (Some old) →
      front ++ Some a ∷ [] ≡ answers_with file text kind (front ++ Some old ∷ [])
  part_answers (raws.Line l m i b n j d) old a part is =
      ap (λ (x : Option Answer). front ++ x ∷ []) is
      ∙ sym (with_last-append (with_part file text (goal_atoms file (last_goal file)) (raws.Line l m i b n j d)) front
      (Some old))
  part_answers (raws.Step l b n j d) old a part is =
      ap (λ (x : Option Answer). front ++ x ∷ []) is
      ∙ sym (with_last-append (with_part file text (goal_atoms file (last_goal file)) (raws.Step l b n j d)) front
      (Some old))
  part_answers kind old a part is = absurd part
