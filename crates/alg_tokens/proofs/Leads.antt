-- The first byte of a piece tells what sort of piece it is.
use Rattle.std.proofs.Common.{◌≡◌, ◌≢◌, ◌≤◌, ◌<◌, ℕ, Bool, true, false, ◌&&◌, nat_lt, List, [], ◌∷◌, ◌++◌, ◌⊎◌, inl, inr, length, get_or, refl, ap, sym, ◌∙◌, subst, arith}
use Rattle.std.specs.Prelude.{encode_utf8, encode_utf8_all}
use Rattle.std.specs.List.{list_all}
use Rattle.std.proofs.lemmas.Bool.Decides.{nat_tests}
use Rattle.std.proofs.lemmas.Str.{encode_ascii, char_from_byte, length-encode, len_utf8_bounds}
use Rattle.std.proofs.lemmas.List.{append_assoc, length-append}
use Rattle.unicode_ident.proofs.IdentLemmas.{is_xid_start-ascii, is_xid_continue-ascii}
use Rattle.alg_terms.specs.Names.{starts_name, continues_name, AllContinue, IsSpelledAsName}
use Rattle.alg_tokens.specs.declared.token.Word.{Word}
use Rattle.alg_tokens.specs.declared.token.Word.TheVariants as words
use Rattle.alg_tokens.specs.declared.token.Sign.{Sign}
use Rattle.alg_tokens.specs.declared.token.Sign.TheVariants as signs
use Rattle.alg_tokens.specs.declared.token.TokenKind.TheVariants as kinds
use Rattle.alg_tokens.specs.Spelling.{spelling, sign_spelling}
use Rattle.alg_tokens.specs.Pieces.{Piece, Blank, Lexeme, BeginsWith, IsBlank, is_blank, IsNumeral}

-- ---- reserved words are spelled as names

abbrev is_small_letter : ℕ → Bool
is_small_letter b = nat_lt 96 b && nat_lt b 123

starts_small : (b : ℕ) → is_small_letter b ≡ true → starts_name b ≡ true
starts_small b h =
    let low : b < 128 = grind (arith, nat_tests) in
    let start = is_xid_start-ascii b low in
    grind (arith, nat_tests)

continues_small : (b : ℕ) → is_small_letter b ≡ true → continues_name b ≡ true
continues_small b h =
    let low : b < 128 = grind (arith, nat_tests) in
    let more = is_xid_continue-ascii b low in
    grind (arith, nat_tests)

both_left : (a b : Bool) → (a && b) ≡ true → a ≡ true
both_left true b h = refl
both_left false b h = h

both_right : (a b : Bool) → (a && b) ≡ true → b ≡ true
both_right true b h = h
both_right false b h = cc

all_continue : (bs : List ℕ) → list_all is_small_letter bs ≡ true → AllContinue bs
all_continue [] h = tt
all_continue (b ∷ bs) h = (continues_small b (both_left _ _ h), all_continue bs (both_right _ _ h))

small_encoded : (bs : List ℕ) → list_all is_small_letter bs ≡ true → encode_utf8_all bs ≡ bs
small_encoded [] h = refl
small_encoded (b ∷ bs) h =
    let first : is_small_letter b ≡ true = both_left _ _ h in
    let low : b < 128 = grind (arith, nat_tests) in
    let rest = small_encoded bs (both_right _ _ h) in
    rw (encode_ascii b low, rest) refl

small_spelled : (bs : List ℕ) → bs ≢ [] → list_all is_small_letter bs ≡ true → IsSpelledAsName bs
small_spelled [] some h = absurd (some refl)
small_spelled (b ∷ bs) some h = (
  b,
  bs,
  small_encoded (b ∷ bs) h,
  starts_small b (both_left _ _ h),
  all_continue bs (both_right _ _ h),
)

word_letters : (word : Word) → list_all is_small_letter (spelling word) ≡ true
word_letters word = elim word as (λ w. list_all is_small_letter (spelling w)
    ≡ true) [ words.Additive ↦ refl | _ ↦ refl ]

word_bytes : (word : Word) → spelling word ≢ []
word_bytes word = elim word as (λ w. spelling w ≢ []) [ words.Additive ↦ λ h. cc | _ ↦ λ h. cc ]

pub word_spelled : (word : Word) → IsSpelledAsName (spelling word)
word_spelled word = small_spelled (spelling word) (word_bytes word) (word_letters word)

-- ---- the first byte of each piece

-- what the first byte of a text says of the piece that begins it
abbrev pub Leads : Piece → ℕ → Type 0
Leads (Blank _) b = b ≤ 35
Leads (Lexeme kinds.Name _) b = (65 ≤ b) × (b ≢ 94)
Leads (Lexeme (kinds.Word _) _) b = (65 ≤ b) × (b ≢ 94)
Leads (Lexeme (kinds.Number _) _) b = (48 ≤ b) × (b ≤ 57)
Leads (Lexeme (kinds.Sign sign) _) b = b ≡ get_or (sign_spelling sign) 0 0
Leads (Lexeme kinds.End _) b = ⊥

lt_or_le : (m n : ℕ) → (m < n) ⊎ (n ≤ m)
lt_or_le m n = grind arith

blank_low : (b : ℕ) → is_blank b ≡ true → b ≤ 35
blank_low b is = grind (arith, nat_tests)

start_char : (c : ℕ) → c < 128 → starts_name c ≡ true → (65 ≤ c) × (c ≢ 94)
start_char c low h = let start = is_xid_start-ascii c low in (grind (arith, nat_tests), λ e. grind (arith, nat_tests))

name_lead : (c : ℕ) (text more : List ℕ) → text ≡ encode_utf8 c ++ more → starts_name c ≡ true →
    (0 < length text) × (65 ≤ get_or text 0 0) × (get_or text 0 0 ≢ 94)
name_lead c text more e h =
    let long = ap length e ∙ length-append (encode_utf8 c) more in
    let bounds = len_utf8_bounds c in
    let some : 0 < length text = omega (arith, long, length-encode c, bounds.0) in
    elim (lt_or_le (get_or text 0 0) 128) [
      | inl low ↦ let same = char_from_byte text more c e low some in
          let start = start_char (get_or text 0 0) low (let P : ℕ → Type 0 = λ d. starts_name d ≡ true in
          subst P same h) in
          (some, start.0, start.1)
      | inr high ↦ (some, omega arith, λ e. omega arith)
    ]

pub spelled_lead : (bytes text more : List ℕ) → IsSpelledAsName bytes → text ≡ bytes ++ more →
    (0 < length text) × (65 ≤ get_or text 0 0) × (get_or text 0 0 ≢ 94)
spelled_lead bytes text more (c, chars, spelled, starts, _) e =
    name_lead c text (encode_utf8_all chars ++ more)
    (e ∙ ap (λ bs. bs ++ more) (sym spelled) ∙ append_assoc (encode_utf8 c) (encode_utf8_all chars) more) starts

pub sign_some : (sign : Sign) → 0 < length (sign_spelling sign)
sign_some sign = elim sign as (λ s. 0 < length (sign_spelling s)) [ signs.Dot ↦ omega arith | _ ↦ omega arith ]

sign_lead : (sign : Sign) (more : List ℕ) → get_or (sign_spelling sign ++ more) 0 0 ≡ get_or (sign_spelling sign) 0 0
sign_lead sign more = elim sign as (λ s. get_or (sign_spelling s ++ more) 0 0 ≡ get_or
    (sign_spelling s) 0 0) [ signs.Dot ↦ refl | _ ↦ refl ]

blank_lead : (bytes text more : List ℕ) → IsBlank bytes → text ≡ bytes ++ more → (0 < length text) ×
    (get_or text 0 0 ≤ 35)
blank_lead bytes text more (inl (b, alone, is)) e =
    let first : text ≡ b ∷ more = e ∙ ap (λ bs. bs ++ more) alone in
    rw first (omega arith, blank_low b is)
blank_lead bytes text more (inr (line, comment, _)) e =
    let first : text ≡ 35 ∷ (line ++ more) = e ∙ ap (λ bs. bs ++ more) comment in
    rw first (omega arith, omega arith)

numeral_lead : (bytes text more : List ℕ) → IsNumeral bytes → text ≡ bytes ++ more → (0 < length text) ×
    (48 ≤ get_or text 0 0) × (get_or text 0 0 ≤ 57)
numeral_lead [] text more (some, _) e = absurd (some refl)
numeral_lead (b ∷ bytes) text more (_, digits) e = rw e (omega arith, digits.0.0, digits.0.1)

-- the piece that begins a text shows in its first byte
pub leads : (piece : Piece) (text more : List ℕ) → BeginsWith piece text more → (0 < length text) × Leads piece
    (get_or text 0 0)
leads (Blank bytes) text more (is, e) = blank_lead bytes text more is e
leads (Lexeme kinds.Name bytes) text more (is, e) = let h = spelled_lead bytes text more is.0 e in (h.0, (h.1, h.2))
leads (Lexeme (kinds.Word word) bytes) text more (is, e) =
    let h = spelled_lead (spelling word) text more (word_spelled word) (e ∙ ap (λ bs. bs ++ more) is) in (
      h.0,
      (h.1, h.2),
    )
leads (Lexeme (kinds.Number value) bytes) text more (is, e) = let h = numeral_lead bytes text more is.0 e in
    (h.0, (h.1, h.2))
leads (Lexeme (kinds.Sign sign) bytes) text more (is, e) =
    let first : text ≡ sign_spelling sign ++ more = e ∙ ap (λ bs. bs ++ more) is in
    let long = length-append (sign_spelling sign) more in
    let some = sign_some sign in
    rw first (omega arith, sign_lead sign more)
leads (Lexeme kinds.End bytes) text more (is, e) = absurd is

-- a sign begins with no byte of a blank, a digit or a name
pub sign_is_high : (sign : Sign) → get_or (sign_spelling sign) 0 0 ≤ 35 → ⊥
sign_is_high sign = elim sign as (λ s. get_or (sign_spelling s) 0 0 ≤ 35
    → ⊥) [ signs.Dot ↦ λ h. omega arith | _ ↦ λ h. omega arith ]

pub sign_is_no_digit : (sign : Sign) → 48 ≤ get_or (sign_spelling sign) 0 0 → get_or (sign_spelling sign) 0 0 ≤ 57 → ⊥
sign_is_no_digit sign = elim sign as (λ s. 48 ≤ get_or (sign_spelling s) 0 0 → get_or
    (sign_spelling s) 0 0 ≤ 57 → ⊥) [ signs.Dot ↦ λ h k. omega arith | _ ↦ λ h k. omega arith ]

pub sign_is_no_letter : (sign : Sign) → 65 ≤ get_or (sign_spelling sign) 0 0 → get_or (sign_spelling sign) 0 0 ≢ 94 → ⊥
sign_is_no_letter sign = elim sign as (λ s. 65 ≤ get_or (sign_spelling s) 0 0 → get_or
    (sign_spelling s) 0 0 ≢ 94 → ⊥) [
      | signs.Dot ↦ λ h k. omega arith
      | signs.Caret ↦ λ h k. k refl
      | _ ↦ λ h k.
          omega arith
    ]
