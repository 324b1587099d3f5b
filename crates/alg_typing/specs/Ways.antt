-- How a text is read statement by statement.
use Rattle.std.specs.Prelude.{◌≡◌, ◌≢◌, ◌⊎◌, ℕ, List, [], ◌∷◌, Option, None, Some, Result, Ok, Err}
use Rattle.std.specs.Str.{IsUtf8, IsValidUpTo}
use Rattle.alg_tokens.specs.declared.code.Code.TheVariants as code
use Rattle.alg_tokens.specs.declared.token.Refusal.{Refusal}
use Rattle.alg_tokens.specs.Codes.{fault_at}
use Rattle.alg_reader.specs.declared.place.Place.{Place}
use Rattle.alg_reader.specs.declared.raw.RawKind.TheVariants.{End}
use Rattle.alg_reader.specs.declared.reading.FileEnd.TheVariants.{Refused}
use Rattle.alg_reader.specs.declared.reading.Raw.{Raw}
use Rattle.alg_reader.specs.Statements.{IsRead}

-- A way of reading: what may stand behind the statements so far, the first fault of one more, what there is with it,
-- and what there is in all at the end of the text.
pub record Way (S X : Type 0) : Type 0 where
  pub place : S → Place
  pub fault : S → Raw → Option Refusal
  pub next : S → Raw → S
  pub whole : S → X

module _ {S X : Type 0} (way : Way S X) (text : List ℕ) where
  -- what stands at a byte behind the statements so far: the end of the text, a statement that can't be read, or one
  -- with a fault
  abbrev pub EndsWith : ℕ → S → Result X Refusal → Type 0
  EndsWith at now (Ok whole) =
      (raw : Raw) × IsRead (way.place now) text at (Ok raw) × (raw.kind ≡ End) × (whole ≡ way.whole now)
  EndsWith at now (Err first) =
      IsRead (way.place now) text at (Err (Refused first))
      ⊎ ((raw : Raw) × IsRead (way.place now) text at (Ok raw) × (raw.kind ≢ End) × (way.fault now raw ≡ Some first))

  -- from a byte on the text has these statements without fault, each read after those before it, and then its end or
  -- its first fault
  abbrev pub GoesOnWith : ℕ → S → List Raw → Result X Refusal → Type 0
  GoesOnWith at now [] outcome = EndsWith at now outcome
  GoesOnWith at now (raw ∷ raws) outcome =
      IsRead (way.place now) text at (Ok raw) × (raw.kind ≢ End) × (way.fault now raw ≡ None)
      × GoesOnWith raw.stop (way.next now raw) raws outcome

  -- from a byte on the text goes on with some statements
  abbrev pub Reads : ℕ → S → Result X Refusal → Type 0
  Reads at now outcome = (raws : List Raw) × GoesOnWith at now raws outcome

-- what these bytes are read to be, or their first fault: they are no UTF-8, or the first statement with a fault has it
abbrev pub IsReadingBy : {S X : Type 0} → Way S X → S → List ℕ → Result X Refusal → Type 0
IsReadingBy way first bytes outcome =
    (IsUtf8 bytes × Reads way bytes 0 first outcome)
    ⊎ (¬ (IsUtf8 bytes) × ((end : ℕ) × IsValidUpTo bytes end × (outcome ≡ Err (fault_at code.Utf8 end))))
