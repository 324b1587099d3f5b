-- What one more statement does to what the rest of an annotated text decides.
use Rattle.std.proofs.Common.{◌≡◌, ◌≢◌, ◌≤◌, ℕ, List, [], length, None, refl, sym, subst, ◌∙◌, le_refl, arith}
use Rattle.alg_terms.specs.Limits.{MAX_TEXT}
use Rattle.alg_terms.specs.Valid.{IsValid}
use Rattle.alg_reader.specs.declared.place.Place.TheVariants.{Plain}
use Rattle.alg_reader.specs.declared.raw.RawKind.{RawKind}
use Rattle.alg_reader.specs.declared.raw.RawKind.TheVariants as raws
use Rattle.alg_reader.specs.declared.reading.Raw.{Raw}
use Rattle.alg_reader.specs.Places.{MayStand}
use Rattle.alg_reader.specs.WellRead.{IsWellRead}
use Rattle.alg_typing.specs.Reading.{no_statements}
use Rattle.alg_typing.specs.Room.{HasRoom}
use Rattle.alg_typing.proofs.Extended.{extended_is_valid}
use Rattle.alg_typing.proofs.RoomForStatements.{HasAtMost, none_at_first, has_room, still_few}
use Rattle.alg_annotated.specs.Kept.{AreAnswersTo, size_of}
use Rattle.alg_annotated.specs.Parts.{IsAnswerPart}
use Rattle.alg_annotated.specs.Reading.{SoFar, first_fault, nothing_yet, with_statement}
use Rattle.alg_annotated.proofs.Sizes.{still_sized}
use Rattle.alg_annotated.proofs.Statements.{still_answers, first_is_same}

-- what holds of an annotated text so far, where so many bytes were read
pub record Holds (now : SoFar) (at : ℕ) : Type 0 where
  pub valid : IsValid now.file
  pub few : HasAtMost now.file at
  pub answers : AreAnswersTo now.file now.answers
  pub sized : size_of now.file now.answers ≤ at

none_answered : AreAnswersTo no_statements []
none_answered = record { count = refl; terms = λ i low. absurd (omega (arith, low)) }

pub holds_at_first : IsValid no_statements → Holds nothing_yet 0
holds_at_first valid = record { valid = valid; few = none_at_first; answers = none_answered; sized = le_refl 0 }

-- a declaration and a goal may stand where there are no answers
plain : (kind : RawKind) → (IsAnswerPart kind → ⊥) → MayStand Plain kind
plain raws.End other = tt
plain (raws.Sort kind name char0) other = tt
plain (raws.Hom name from to) other = tt
plain (raws.Vars names sort) other = tt
plain (raws.Hyp name e) other = tt
plain (raws.Goal e method method_at) other = tt
plain (raws.Answer said) other = absurd (other tt)
plain (raws.Line a m i b n j d) other = absurd (other tt)
plain (raws.Step a b n j d) other = absurd (other tt)

module _ (now : SoFar) (text : List ℕ) (at : ℕ) (raw : Raw) (holds : Holds now at) (well : IsWellRead text at raw)
    (goes : raw.kind ≢ raws.End) (size : length text ≤ MAX_TEXT) where
  -- there is room for a declaration or a goal
  pub room_for : (IsAnswerPart raw.kind → ⊥) → HasRoom now.file raw.kind
  room_for other = has_room now.file text at raw holds.few well goes size (plain raw.kind other)

  declared_valid : first_fault now.file text raw ≡ None → (IsAnswerPart raw.kind → ⊥) →
      IsValid (with_statement now text raw.kind).file
  declared_valid none other =
      extended_is_valid now.file text at raw holds.valid size well (room_for other)
      (sym (first_is_same now.file text raw other) ∙ none)

  other_valid : (kind : RawKind) → raw.kind ≡ kind → first_fault now.file text raw ≡ None →
      (IsAnswerPart kind → ⊥) → IsValid (with_statement now text kind).file
  other_valid kind is none other =
      subst (λ (k : RawKind). IsValid (with_statement now text k).file) is
      (declared_valid none (subst (λ (k : RawKind). IsAnswerPart k → ⊥) (sym is) other))

  -- an answer, a line and a step leave the file as it was
  valid_by : (kind : RawKind) → raw.kind ≡ kind → first_fault now.file text raw ≡ None →
      IsValid (with_statement now text kind).file
  valid_by (raws.Answer said) is none = holds.valid
  valid_by (raws.Line a m i b n j d) is none = holds.valid
  valid_by (raws.Step a b n j d) is none = holds.valid
  valid_by raws.End is none = absurd (goes is)
  valid_by (raws.Sort kind name char0) is none = other_valid (raws.Sort kind name char0) is none (λ part. part)
  valid_by (raws.Hom name from to) is none = other_valid (raws.Hom name from to) is none (λ part. part)
  valid_by (raws.Vars names sort) is none = other_valid (raws.Vars names sort) is none (λ part. part)
  valid_by (raws.Hyp name e) is none = other_valid (raws.Hyp name e) is none (λ part. part)
  valid_by (raws.Goal e method method_at) is none =
      other_valid (raws.Goal e method method_at) is none (λ part. part)

  -- what held holds behind the statement
  pub still_holds : first_fault now.file text raw ≡ None → Holds (with_statement now text raw.kind) raw.stop
  still_holds none = record {
    valid = valid_by raw.kind refl none;
    few = still_few now.file text at raw holds.few well goes size;
    answers = still_answers now.file text holds.valid now.answers holds.answers raw well.kind none;
    sized = still_sized now.file text now.answers at raw well goes holds.sized;
  }
