-- What one more statement does to what the rest of the text decides.
use Rattle.std.proofs.Common.{◌≡◌, ◌≢◌, ◌≤◌, ◌<◌, ◌-◌, Fits, w32, inl, inr, ℕ, List, [], ◌∷◌, None, Some, Result, Ok, Err, IfOk, IfErr, IsErrAnd, refl, sym, subst, arith}
use Rattle.std.specs.Str.{IsUtf8}
use Rattle.alg_terms.specs.Limits.{MAX_TEXT}
use Rattle.alg_tokens.specs.declared.token.Refusal.{Refusal}
use Rattle.alg_reader.specs.declared.raw.RawKind.TheVariants as raws
use Rattle.alg_reader.specs.declared.reading.FileEnd.{FileEnd}
use Rattle.alg_reader.specs.declared.reading.FileEnd.TheVariants.{Refused, NoMemory}
use Rattle.alg_reader.specs.declared.reading.Raw.{Raw}
use Rattle.alg_reader.specs.Statements.{IsRead}
use Rattle.alg_typing.specs.Ends.{RefusesWith}
use Rattle.alg_typing.specs.Ways.{Way, GoesOnWith, Reads, IsReadingBy}

module _ {S X : Type 0} (way : Way S X) (text : List ℕ) (first : S) where
  -- what the rest of the text is read to be decides what all of it is
  abbrev pub Decides : ℕ → S → Type 0
  Decides at now = (outcome : Result X Refusal) → Reads way text at now outcome → Reads way text 0 first outcome

  pub decides_still : (at : ℕ) (now then : S) (raw : Raw) → Decides at now →
      IsRead (way.place now) text at (Ok raw) → raw.kind ≢ raws.End → way.fault now raw ≡ None →
      then ≡ way.next now raw → Decides raw.stop then
  decides_still at now then raw decides read goes none is outcome (raws, on) =
      decides outcome
      (raw ∷ raws, (read, goes, none, subst (λ (s : S). GoesOnWith way text raw.stop s raws outcome) is on))

  pub ends_here : (at : ℕ) (now : S) (raw : Raw) → Decides at now → IsRead (way.place now) text at (Ok raw) →
      raw.kind ≡ raws.End → Reads way text 0 first (Ok (way.whole now))
  ends_here at now raw decides read ends = decides (Ok (way.whole now)) ([], (raw, read, ends, refl))

  -- what can't be read is told, want of memory aside
  pub told_reading : (at : ℕ) (now : S) (e : FileEnd) → Decides at now → IsRead (way.place now) text at (Err e) →
      RefusesWith e (λ fault. Reads way text 0 first (Err fault))
  told_reading at now NoMemory decides read = tt
  told_reading at now (Refused fault) decides read = decides (Err fault) ([], inl read)

  pub told_fault : (at : ℕ) (now : S) (raw : Raw) (e : FileEnd) → Decides at now →
      IsRead (way.place now) text at (Ok raw) → raw.kind ≢ raws.End →
      RefusesWith e (λ fault. way.fault now raw ≡ Some fault) →
      RefusesWith e (λ fault. Reads way text 0 first (Err fault))
  told_fault at now raw NoMemory decides read goes is = tt
  told_fault at now raw (Refused fault) decides read goes is = decides (Err fault) ([], inr (raw, read, goes, is))

-- a loop that goes on from a later place has less before it
pub smaller : (size at stop : ℕ) → at < stop → stop ≤ size → size - stop < size - at
smaller size at stop less inside = omega arith

-- where a text stops being one fits 32 bits
pub small_place : (n size : ℕ) → n < size → size ≤ MAX_TEXT → Fits w32 n
small_place n size less most = grind (arith)

-- an error that is passed on tells what it told
pub passed_on : {A : Type 0} (P : Refusal → Type 0) (r : Result A FileEnd) (e : FileEnd) → IsErrAnd r (λ x. x ≡ e) →
    RefusesWith e P → IfErr r (λ end. RefusesWith end P)
passed_on P (Ok a) e is told = absurd is
passed_on P (Err x) e is told = subst (λ (end : FileEnd). RefusesWith end P) (sym is) told

module _ {S X : Type 0} (way : List ℕ → Way S X) (first : S) (bytes text : List ℕ) (is : text ≡ bytes)
    (utf8 : IsUtf8 bytes) where
  pub is_reading : (outcome : Result X Refusal) → Reads (way text) text 0 first outcome →
      IsReadingBy (way bytes) first bytes outcome
  is_reading outcome reads = inl (utf8, subst (λ (t : List ℕ). Reads (way t) t 0 first outcome) is reads)

  -- what a text is, is what its bytes are
  pub read_all : (P : X → Type 0) (r : Result X FileEnd) → IfOk r (λ x. Reads (way text) text 0 first (Ok x) × P x) →
      IfOk r (λ x. IsReadingBy (way bytes) first bytes (Ok x) × P x)
  read_all P (Ok x) (reads, holds) = (is_reading (Ok x) reads, holds)
  read_all P (Err e) told = tt

  -- the fault of a text is that of its bytes
  pub told_all : (r : Result X FileEnd) →
      IfErr r (λ end. RefusesWith end (λ fault. Reads (way text) text 0 first (Err fault))) →
      IfErr r (λ end. RefusesWith end (λ fault. IsReadingBy (way bytes) first bytes (Err fault)))
  told_all (Ok x) told = tt
  told_all (Err NoMemory) told = tt
  told_all (Err (Refused fault)) told = is_reading (Err fault) told
