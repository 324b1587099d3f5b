-- A text has at most one outcome.
use Rattle.std.proofs.Common.{◌≡◌, ◌≢◌, inl, inr, ◌<◌, ℕ, List, [], ◌∷◌, None, Some, Result, Ok, Err, sym, ◌∙◌, ap, subst, refl, zero, suc, arith}
use Rattle.std.specs.Str.{IsValidUpTo}
use Rattle.alg_tokens.specs.declared.token.Refusal.{Refusal}
use Rattle.alg_tokens.specs.declared.code.Code.TheVariants as code
use Rattle.alg_tokens.specs.Codes.{fault_at}
use Rattle.alg_reader.specs.declared.place.Place.{Place}
use Rattle.alg_reader.specs.declared.raw.RawKind.TheVariants.{End}
use Rattle.alg_reader.specs.declared.reading.FileEnd.{FileEnd}
use Rattle.alg_reader.specs.declared.reading.FileEnd.TheVariants.{Refused, NoMemory}
use Rattle.alg_reader.specs.declared.reading.Raw.{Raw}
use Rattle.alg_reader.specs.Laws.{OneOutcome}
use Rattle.alg_reader.specs.Statements.{IsRead}
use Rattle.alg_typing.specs.Laws.{OneReading}
use Rattle.alg_typing.specs.Reading.{file_way, no_statements}
use Rattle.alg_typing.specs.Ways.{Way, EndsWith, GoesOnWith, IsReadingBy}

abbrev read : Raw → Result Raw FileEnd
read raw = Ok raw

abbrev refused : Refusal → Result Raw FileEnd
refused f = Err (Refused f)

abbrev no_memory : Result Raw FileEnd
no_memory = Err NoMemory

raw_is_raw : (a b : Raw) → read a ≡ read b → a ≡ b
raw_is_raw a b h = cc

fault_is_fault : (a b : Refusal) → refused a ≡ refused b → a ≡ b
fault_is_fault a b h = cc

some_is_some : (a b : Refusal) → Some a ≡ Some b → a ≡ b
some_is_some a b h = cc

raw_is_no_fault : (a : Raw) (b : Refusal) → read a ≡ refused b → ⊥
raw_is_no_fault a b h = absurd (cc)

raw_is_memory : (a : Raw) → read a ≢ no_memory
raw_is_memory a h = absurd (cc)

fault_is_memory : (a : Refusal) → refused a ≢ no_memory
fault_is_memory a h = absurd (cc)

module _ {S X : Type 0} (once : OneOutcome) (way : Way S X) (text : List ℕ) where
  same_raw : (site : Place) (at : ℕ) (a b : Raw) → IsRead site text at (Ok a) → IsRead site text at (Ok b) → a ≡ b
  same_raw site at a b one other =
      raw_is_raw a b (once site text at (Ok a) (Ok b) one other (raw_is_memory a) (raw_is_memory b))

  same_fault : (site : Place) (at : ℕ) (a b : Refusal) → IsRead site text at (Err (Refused a)) →
      IsRead site text at (Err (Refused b)) → a ≡ b
  same_fault site at a b one other = fault_is_fault a b
      (once site text at (Err (Refused a)) (Err (Refused b)) one other (fault_is_memory a) (fault_is_memory b))

  not_both : (site : Place) (at : ℕ) (a : Raw) (b : Refusal) → IsRead site text at (Ok a) →
      IsRead site text at (Err (Refused b)) → ⊥
  not_both site at a b one other = raw_is_no_fault a b
      (once site text at (Ok a) (Err (Refused b)) one other (raw_is_memory a) (fault_is_memory b))

  not_end : (site : Place) (at : ℕ) (a b : Raw) → IsRead site text at (Ok a) → IsRead site text at (Ok b) →
      a.kind ≡ End → b.kind ≢ End → ⊥
  not_end site at a b one other ends goes =
      goes (sym (ap (λ (r : Raw). r.kind) (same_raw site at a b one other)) ∙ ends)

  no_fault_twice : (at : ℕ) (now : S) (a b : Raw) (f : Refusal) → IsRead (way.place now) text at (Ok a) →
      IsRead (way.place now) text at (Ok b) → way.fault now a ≡ Some f → way.fault now b ≡ None → ⊥
  no_fault_twice at now a b f one other is none =
      let same = ap (way.fault now) (same_raw (way.place now) at a b one other) in
      absurd (cc)

  ends_once : (at : ℕ) (now : S) (one other : Result X Refusal) → EndsWith way text at now one →
      EndsWith way text at now other → one ≡ other
  ends_once at now (Ok f) (Ok g) (_, _, _, is) (_, _, _, same) = ap Ok (is ∙ sym same)
  ends_once at now (Ok f) (Err b) (raw, here, _, _) (inl cut) = absurd (not_both (way.place now) at raw b here cut)
  ends_once at now (Ok f) (Err b) (raw, here, ends, _) (inr (r, again, goes, _)) =
      absurd (not_end (way.place now) at raw r here again ends goes)
  ends_once at now (Err a) (Ok g) (inl cut) (raw, here, _, _) = absurd (not_both (way.place now) at raw a here cut)
  ends_once at now (Err a) (Ok g) (inr (r, again, goes, _)) (raw, here, ends, _) =
      absurd (not_end (way.place now) at raw r here again ends goes)
  ends_once at now (Err a) (Err b) (inl one) (inl other) = ap Err (same_fault (way.place now) at a b one other)
  ends_once at now (Err a) (Err b) (inl one) (inr (r, here, _, _)) =
      absurd (not_both (way.place now) at r a here one)
  ends_once at now (Err a) (Err b) (inr (r, here, _, _)) (inl other) =
      absurd (not_both (way.place now) at r b here other)
  ends_once at now (Err a) (Err b) (inr (r, here, _, is)) (inr (q, again, _, same)) =
      ap Err (some_is_some a b (sym is ∙ ap (way.fault now) (same_raw (way.place now) at r q here again) ∙ same))

  no_end_here : (at : ℕ) (now : S) (one : Result X Refusal) (b : Raw) → EndsWith way text at now one →
      IsRead (way.place now) text at (Ok b) → b.kind ≢ End → way.fault now b ≡ None → ⊥
  no_end_here at now (Ok f) b (raw, here, ends, _) again goes none =
      not_end (way.place now) at raw b here again ends goes
  no_end_here at now (Err a) b (inl cut) again goes none = not_both (way.place now) at b a again cut
  no_end_here at now (Err a) b (inr (r, here, _, is)) again goes none = no_fault_twice at now r b a here again is none

  goes_once : (at : ℕ) (now : S) (raws more : List Raw) (one other : Result X Refusal) →
      GoesOnWith way text at now raws one → GoesOnWith way text at now more other → one ≡ other
  goes_once at now [] [] one other ends same = ends_once at now one other ends same
  goes_once at now [] (b ∷ more) one other ends (here, goes, none, _) =
      absurd (no_end_here at now one b ends here goes none)
  goes_once at now (a ∷ raws) [] one other (here, goes, none, _) ends =
      absurd (no_end_here at now other a ends here goes none)
  goes_once at now (a ∷ raws) (b ∷ more) one other (here, _, _, on) (again, _, _, on_too) =
      goes_once a.stop (way.next now a) raws more one other on
      (subst (λ (r : Raw). GoesOnWith way text r.stop (way.next now r) more other)
      (sym (same_raw (way.place now) at a b here again)) on_too)

neither_less : (m n : ℕ) → (m < n → ⊥) → (n < m → ⊥) → m ≡ n
neither_less zero zero less more = refl
neither_less zero (suc n) less more = absurd (less (grind (arith)))
neither_less (suc m) zero less more = absurd (more (grind (arith)))
neither_less (suc m) (suc n) less more =
    ap suc (neither_less m n (λ h. less (grind (arith))) (λ h. more (grind (arith))))

same_longest : (bytes : List ℕ) (m n : ℕ) → IsValidUpTo bytes m → IsValidUpTo bytes n → m ≡ n
same_longest bytes m n one other =
    neither_less m n (λ h. one.longest n h other.front) (λ h. other.longest m h one.front)

-- what a text is read to be, or its first fault, is determined by the text
pub one_reading_by : {S X : Type 0} → OneOutcome → (way : Way S X) (first : S) (bytes : List ℕ)
    (one other : Result X Refusal) → IsReadingBy way first bytes one → IsReadingBy way first bytes other → one ≡ other
one_reading_by once way first bytes one other (inl (_, (raws, goes))) (inl (_, (more, same))) =
    goes_once once way bytes 0 first raws more one other goes same
one_reading_by once way first bytes one other (inl (is, _)) (inr (none, _)) = absurd (none is)
one_reading_by once way first bytes one other (inr (none, _)) (inl (is, _)) = absurd (none is)
one_reading_by once way first bytes one other (inr (_, (m, longest, is))) (inr (_, (n, too, same))) =
    is ∙ ap (λ k. Err (fault_at code.Utf8 k)) (same_longest bytes m n longest too) ∙ sym same

pub one_reading : OneOutcome → OneReading
one_reading once bytes one other h k = one_reading_by once (file_way bytes) no_statements bytes one other h k
