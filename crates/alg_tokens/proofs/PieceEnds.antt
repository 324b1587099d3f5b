-- A piece ends before a text, whatever follows there.
use Rattle.std.proofs.Common.{◌≡◌, ◌≢◌, ◌≤◌, ◌<◌, ◌≤ℤ◌, ℕ, Bool, true, false, not, ◌||◌, ◌&&◌, ◌==◌, nat_lt, List, [], ◌∷◌, ◌++◌, length, get_or, take, drop, refl, ap, sym, ◌∙◌, subst, arith, append_assoc, length-append, ℤ, pos, Some}
use Rattle.std.specs.Prelude.{encode_utf8, encode_utf8_all}
use Rattle.std.specs.Char.{IsAsciiDigit, is_ascii_digit}
use Rattle.std.specs.List.{AllByRecursion, prefix_len}
use Rattle.std.proofs.lemmas.Bool.Decides.{nat_tests}
use Rattle.std.proofs.lemmas.Str.{encode_ascii, IsCharBoundary-before_ascii}
use Rattle.std.proofs.Math.Seq.{take-append_seam, drop-append_seam, get_or-append_seam}
use Rattle.unicode_ident.proofs.IdentLemmas.{is_xid_continue-ascii}
use Rattle.alg_terms.specs.Names.{starts_name, continues_name, IsSpelledAsName, is_reserved}
use Rattle.alg_tokens.specs.declared.token.TokenKind.{TokenKind}
use Rattle.alg_tokens.specs.declared.token.TokenKind.TheVariants as kinds
use Rattle.alg_terms.specs.Limits.{MAX_LITERAL}
use Rattle.alg_tokens.specs.declared.token.Sign.{Sign}
use Rattle.alg_tokens.specs.declared.token.Sign.TheVariants as signs
use Rattle.alg_tokens.specs.Spelling.{spelling, sign_spelling}
use Rattle.alg_tokens.specs.Pieces.{Piece, Blank, Lexeme, bytes_of, IsFirst, Spells, IsNumeral, is_blank, value_of}
use Rattle.alg_tokens.specs.Runs.{IsRun, BeginsChar, sign_of}
use Rattle.alg_tokens.proofs.Blanks.{byte_first}
use Rattle.alg_tokens.proofs.Firsts.{name_first}
use Rattle.alg_tokens.proofs.Leads.{word_spelled}
use Rattle.alg_tokens.proofs.Longest.{number_first, digit_passes, none_pass, starts_continues}
use Rattle.alg_tokens.proofs.Signs.{sign_first}

-- the byte is ASCII, and goes on with no name, numeral or sign
abbrev pub is_stop : ℕ → Bool
is_stop b = ((nat_lt b 48 && not (b == 39)) || b == 58) || (b == 61 || b == 94)

-- the text begins with such a byte
abbrev pub BeginsStop : List ℕ → Type 0
BeginsStop text = (b : ℕ) × (more : List ℕ) × (text ≡ b ∷ more) × (is_stop b ≡ true)

-- the text does not begin with `>`
abbrev pub GoesOnNoSign : List ℕ → Type 0
GoesOnNoSign text = get_or text 0 0 ≢ 62

-- the piece is what it says, and ends before this text
abbrev pub EndsBefore : Piece → List ℕ → Type 0
EndsBefore (Blank bytes) next = (b : ℕ) × (bytes ≡ b ∷ []) × (is_blank b ≡ true)
EndsBefore (Lexeme kinds.Name bytes) next = IsSpelledAsName bytes × (is_reserved bytes ≡ false) × BeginsStop next
EndsBefore (Lexeme (kinds.Word word) bytes) next = (bytes ≡ spelling word) × BeginsStop next
EndsBefore (Lexeme (kinds.Number value) bytes) next =
    IsNumeral bytes × (value ≡ pos (value_of bytes)) × (value ≤ℤ MAX_LITERAL) × BeginsStop next
EndsBefore (Lexeme (kinds.Sign sign) bytes) next = (bytes ≡ sign_spelling sign) × GoesOnNoSign next
EndsBefore (Lexeme kinds.End bytes) next = ⊥

-- ---- bytes that stop

stop_low : (b : ℕ) → is_stop b ≡ true → b < 128
stop_low b h = grind (arith, nat_tests)

stop_no_digit : (b : ℕ) → is_stop b ≡ true → is_ascii_digit b ≡ false
stop_no_digit b h = grind (arith, nat_tests)

stop_no_name : (b : ℕ) → is_stop b ≡ true → continues_name b ≡ false
stop_no_name b h = let low = stop_low b h in let next = is_xid_continue-ascii b low in grind (arith, nat_tests)

pub stop_no_sign : (text : List ℕ) → BeginsStop text → GoesOnNoSign text
stop_no_sign text (b, more, e, h) greater =
    let same : b ≡ 62 = sym (ap (λ bs. get_or bs 0 0) e) ∙ greater in
    grind (arith, nat_tests)

-- where the bytes of a piece and the rest stand apart
seam_first : (kind : TokenKind) (bytes next : List ℕ) →
    let text = bytes ++ next in
    IsFirst (Lexeme kind (take (length bytes) text)) text (drop (length bytes) text) →
    IsFirst (Lexeme kind bytes) text next
seam_first kind bytes next first =
    let text = bytes ++ next in
    let P : List ℕ → Type 0 = λ bs. IsFirst (Lexeme kind bs) text (drop (length bytes) text) in
    let Q : List ℕ → Type 0 = λ bs. IsFirst (Lexeme kind bytes) text bs in
    subst Q (drop-append_seam bytes next) (subst P (take-append_seam bytes next) first)

-- ---- names and words

-- a name before a byte that stops is a run
name_run : (bytes next : List ℕ) → IsSpelledAsName bytes → BeginsStop next →
    IsRun continues_name (bytes ++ next) (length bytes)
name_run bytes next (c, chars, spelled, starts, all) (b, more, e, h) =
    let long = length-append bytes next in
    let some : 1 ≤ length next = rw e (omega arith) in
    record {
      within = omega arith;
      front = rw (take-append_seam bytes next) (
        c ∷ chars,
        spelled,
        none_pass (c ∷ chars)
            (starts_continues c starts, all),
      );
      stops = λ _. rw (drop-append_seam bytes next) (
        b,
        more,
        e ∙ ap (λ bs. bs ++ more) (sym
            (encode_ascii b (stop_low b h))),
        stop_no_name b h,
      );
      boundary = IsCharBoundary-before_ascii (bytes ++ next) (length bytes) (omega arith)
          (let same = ap (λ bs. get_or (bytes ++ bs) (length bytes) 0) e ∙ get_or-append_seam bytes b more 0 in
          let low = stop_low b h in omega arith);
    }

-- a word that is spelled as a name is the first piece before a byte that stops
name_piece_ends : (kind : TokenKind) (bytes next : List ℕ) → Spells kind bytes → IsSpelledAsName bytes →
    BeginsStop next → IsFirst (Lexeme kind bytes) (bytes ++ next) next
name_piece_ends kind bytes next is (c, chars, spelled, starts, all) stops =
    let run = name_run bytes next (c, chars, spelled, starts, all) stops in
    let begins : BeginsChar starts_name true (bytes ++ next) = (
      c,
      encode_utf8_all chars ++ next,
      ap (λ bs. bs ++ next) (sym spelled) ∙ append_assoc (encode_utf8 c) (encode_utf8_all chars) next,
      starts,
    ) in
    let there = subst (Spells kind) (sym (take-append_seam bytes next)) is in
    seam_first kind bytes next (name_first (bytes ++ next) (length bytes) kind begins run there)

-- ---- numerals

digits_run : (bytes next : List ℕ) → AllByRecursion IsAsciiDigit bytes → BeginsStop next →
    prefix_len is_ascii_digit (bytes ++ next) ≡ length bytes
digits_run [] next all (b, more, e, h) = rw (e, stop_no_digit b h) refl
digits_run (d ∷ bytes) next all stops = rw (digit_passes d all.0, digits_run bytes next all.1 stops) (omega arith)

number_piece_ends : (value : ℤ) (bytes next : List ℕ) → IsNumeral bytes → value ≡ pos (value_of bytes) →
    BeginsStop next → IsFirst (Lexeme (kinds.Number value) bytes) (bytes ++ next) next
number_piece_ends value [] next (some, all) same stops = absurd (some refl)
number_piece_ends value (d ∷ digits) next (some, all) same stops =
    let bytes = d ∷ digits in
    let long = length-append bytes next in
    let there = same ∙ ap (λ bs. pos (value_of bs)) (sym (take-append_seam bytes next)) in
    seam_first (kinds.Number value) bytes next (number_first (bytes ++ next) (length bytes) value
    (sym (digits_run bytes next all stops)) (omega arith) (omega arith) there)

-- ---- signs

-- the sign that a text begins with is told by its two first bytes
sign_told : (s : Sign) (next : List ℕ) → (get_or next 0 0 == 62) ≡ false →
    sign_of (get_or (sign_spelling s ++ next) 0 0) (get_or (sign_spelling s ++ next) 1 0)
    ≡ Some (s, length (sign_spelling s))
sign_told s next h = elim s as (λ s. sign_of (get_or (sign_spelling s ++ next) 0 0)
    (get_or (sign_spelling s ++ next) 1 0) ≡ Some (s, length (sign_spelling s))) [
      | signs.Minus ↦ rw h refl
      | _ ↦ refl
    ]

sign_piece_ends : (s : Sign) (next : List ℕ) → GoesOnNoSign next →
    IsFirst (Lexeme (kinds.Sign s) (sign_spelling s)) (sign_spelling s ++ next) next
sign_piece_ends s next no_sign =
    let bytes = sign_spelling s in
    let other : (get_or next 0 0 == 62) ≡ false = grind (arith, nat_tests, no_sign) in
    let (_, _, first) = sign_first (bytes ++ next) (s, length bytes) (sign_told s next other) in
    seam_first (kinds.Sign s) bytes next first

-- ---- every piece

-- a piece that ends before a text is the first piece
pub first_if_ends : (piece : Piece) (next : List ℕ) → EndsBefore piece next →
    IsFirst piece (bytes_of piece ++ next) next
first_if_ends (Blank bytes) next (b, e, is) = rw e (byte_first b next is)
first_if_ends (Lexeme kinds.Name bytes) next (spelled, free, stops) =
    name_piece_ends kinds.Name bytes next (spelled, free) spelled stops
first_if_ends (Lexeme (kinds.Word word) bytes) next (e, stops) =
    name_piece_ends (kinds.Word word) bytes next e (subst IsSpelledAsName (sym e) (word_spelled word)) stops
first_if_ends (Lexeme (kinds.Number value) bytes) next (is, same, small, stops) =
    number_piece_ends value bytes next is same stops
first_if_ends (Lexeme (kinds.Sign s) bytes) next (e, no_sign) = rw e (sign_piece_ends s next no_sign)
first_if_ends (Lexeme kinds.End bytes) next stands = absurd stands
