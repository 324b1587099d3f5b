-- How many parentheses are open in the bytes of pieces and in their tokens.
use Rattle.std.proofs.Common.{◌≡◌, ◌≤◌, ℕ, Bool, false, ◌||◌, ◌==◌, List, [], ◌∷◌, ◌++◌, codes, refl, sym, ap, subst, arith}
use Rattle.std.specs.List.{AllByRecursion, list_any}
use Rattle.std.proofs.lemmas.Bool.{or_parts}
use Rattle.alg_tokens.specs.declared.token.Sign.{Sign}
use Rattle.alg_tokens.specs.declared.token.Sign.TheVariants as signs
use Rattle.alg_tokens.specs.declared.token.TokenKind.{TokenKind}
use Rattle.alg_tokens.specs.declared.token.TokenKind.TheVariants as kinds
use Rattle.alg_tokens.specs.Spelling.{sign_spelling}
use Rattle.alg_reader.specs.Tokens as reader
use Rattle.alg_reading_back.specs.ReadingBack.{open_with, most_open}

-- a parenthesis
abbrev pub is_paren : ℕ → Bool
is_paren b = b == 40 || b == 41

-- no byte is a parenthesis
abbrev pub NoParens : List ℕ → Type 0
NoParens bytes = AllByRecursion (λ b. is_paren b ≡ false) bytes

-- by a test of all bytes
pub no_parens : (bytes : List ℕ) → list_any is_paren bytes ≡ false → NoParens bytes
no_parens [] h = tt
no_parens (b ∷ bytes) h = ((or_parts (is_paren b) _ h).0, no_parens bytes (or_parts (is_paren b) _ h).1)

-- as many are open after another byte
stays_open : (depth byte : ℕ) → is_paren byte ≡ false → open_with depth byte ≡ depth
stays_open depth byte h =
    let (left, right) = or_parts (byte == 40) (byte == 41) h in rw (left, right) refl

-- as many are open at once as are at first
pub opens_first : (depth : ℕ) (text : List ℕ) → depth ≤ most_open depth text
opens_first depth [] = omega arith
opens_first depth (byte ∷ text) = omega arith

-- what follows other bytes
pub past_plain : (depth : ℕ) (bytes rest : List ℕ) → NoParens bytes →
    most_open depth rest ≤ most_open depth (bytes ++ rest)
past_plain depth [] rest plain = omega arith
past_plain depth (byte ∷ bytes) rest plain =
    let same = ap (λ d. most_open d (bytes ++ rest)) (stays_open depth byte plain.0) in
    let later = past_plain depth bytes rest plain.1 in
    omega arith

-- the bytes of a lexeme have the parentheses of its kind
abbrev pub IsEven : TokenKind → List ℕ → Type 0
IsEven (kinds.Sign s) bytes = bytes ≡ sign_spelling s
IsEven kinds.Name bytes = NoParens bytes
IsEven (kinds.Word w) bytes = NoParens bytes
IsEven (kinds.Number n) bytes = NoParens bytes
IsEven kinds.End bytes = NoParens bytes

-- what follows a sign, and any lexeme
past_sign : (depth : ℕ) (s : Sign) (rest : List ℕ) →
    most_open (reader.open_with depth (kinds.Sign s)) rest ≤ most_open depth (sign_spelling s ++ rest)
past_sign depth s rest = elim s as (λ s. most_open (reader.open_with depth (kinds.Sign s)) rest
    ≤ most_open depth (sign_spelling s ++ rest)) [
      | signs.ParenLeft ↦ omega arith
      | signs.ParenRight ↦ omega arith
      | signs.Dot ↦ past_plain depth (codes ".") rest (no_parens (codes ".") refl)
      | signs.Colon ↦ past_plain depth (codes ":") rest (no_parens (codes ":") refl)
      | signs.Comma ↦ past_plain depth (codes ",") rest (no_parens (codes ",") refl)
      | signs.Equal ↦ past_plain depth (codes "=") rest (no_parens (codes "=") refl)
      | signs.NotEqual ↦ past_plain depth (codes "<>") rest (no_parens (codes "<>") refl)
      | signs.Arrow ↦ past_plain depth (codes "->") rest (no_parens (codes "->") refl)
      | signs.Plus ↦ past_plain depth (codes "+") rest (no_parens (codes "+") refl)
      | signs.Minus ↦ past_plain depth (codes "-") rest (no_parens (codes "-") refl)
      | signs.Star ↦ past_plain depth (codes "*") rest (no_parens (codes "*") refl)
      | signs.Slash ↦ past_plain depth (codes "/") rest (no_parens (codes "/") refl)
      | signs.Caret ↦ past_plain depth (codes "^") rest (no_parens (codes "^") refl)
    ]

pub past_lexeme : (depth : ℕ) (kind : TokenKind) (bytes rest : List ℕ) → IsEven kind bytes →
    most_open (reader.open_with depth kind) rest ≤ most_open depth (bytes ++ rest)
past_lexeme depth (kinds.Sign s) bytes rest even =
    subst (λ bs. most_open (reader.open_with depth (kinds.Sign s)) rest ≤ most_open depth (bs ++ rest)) (sym even)
    (past_sign depth s rest)
past_lexeme depth kinds.Name bytes rest even = past_plain depth bytes rest even
past_lexeme depth (kinds.Word w) bytes rest even = past_plain depth bytes rest even
past_lexeme depth (kinds.Number n) bytes rest even = past_plain depth bytes rest even
past_lexeme depth kinds.End bytes rest even = past_plain depth bytes rest even
