-- The first piece of a text is one piece.
use Rattle.std.proofs.Common.{◌≡◌, ◌≤◌, ℕ, true, cond, List, [], ◌∷◌, ◌++◌, length, get_or, take, drop, refl, ap, sym, ◌∙◌, subst, arith, append-nil, Option, Some, None}
use Rattle.std.specs.Prelude.{bytes_eq}
use Rattle.std.specs.Option.{unwrap_or}
use Rattle.std.proofs.Math.Seq.{take-append_seam, drop-append_seam}
use Rattle.alg_terms.specs.Names.{is_reserved, reserved_words}
use Rattle.alg_tokens.specs.declared.token.TokenKind.{TokenKind}
use Rattle.alg_tokens.specs.declared.token.TokenKind.TheVariants as kinds
use Rattle.alg_tokens.specs.declared.token.Word.{Word}
use Rattle.alg_tokens.specs.declared.token.Word.TheVariants as words
use Rattle.alg_tokens.specs.declared.token.Sign.{Sign}
use Rattle.alg_tokens.specs.declared.token.Sign.TheVariants as signs
use Rattle.alg_tokens.specs.Spelling.{spelling, sign_spelling}
use Rattle.alg_tokens.specs.Pieces.{Piece, Blank, Lexeme, bytes_of, IsPiece, BeginsWith, IsFirst, Spells}
use Rattle.alg_tokens.proofs.Leads.{Leads, leads, sign_is_high, sign_is_no_digit, sign_is_no_letter}

-- ---- a spelling has one word, and one sign

word_reserved : (word : Word) → is_reserved (spelling word) ≡ true
unfolding reserved_words
word_reserved word = elim word as (λ w. is_reserved (spelling w) ≡ true) [ words.Additive ↦ refl | _ ↦ refl ]

-- the first of these that is spelled so
first_of : {A : Type 0} → (A → List ℕ) → List A → List ℕ → Option A
first_of spell [] bytes = None
first_of spell (a ∷ all) bytes = cond (bytes_eq (spell a) bytes) (Some a) (first_of spell all bytes)

all_signs : List Sign
all_signs = signs.Dot ∷ signs.Colon ∷ signs.Comma ∷ signs.Equal ∷ signs.NotEqual ∷ signs.Arrow
    ∷ signs.ParenLeft ∷ signs.ParenRight
    ∷ signs.Plus ∷ signs.Minus ∷ signs.Star ∷ signs.Slash ∷ signs.Caret ∷ []

all_words : List Word
all_words = words.Additive ∷ words.After ∷ words.And ∷ words.At ∷ words.Atoms ∷ words.By ∷ words.Char ∷
    words.Degree ∷ words.Denominator ∷ words.Domain ∷ words.Field ∷ words.Gave ∷ words.Goal ∷ words.Hom ∷
    words.Hyp ∷ words.If ∷ words.Limit ∷ words.Line ∷ words.Minus ∷ words.No ∷ words.None ∷ words.Nsatz ∷
    words.Over ∷ words.Power ∷ words.Proved ∷ words.Range ∷ words.Ring ∷ words.Semiring ∷ words.Step ∷
    words.To ∷ words.Up ∷ words.Using ∷ words.Var ∷ words.Version ∷ words.Zero ∷ []

find_word : (word : Word) → first_of spelling all_words (spelling word) ≡ Some word
unfolding first_of all_words
find_word word = elim word as (λ w. first_of spelling all_words (spelling w)
    ≡ Some w) [ words.Additive ↦ refl | _ ↦ refl ]

find_sign : (sign : Sign) → first_of sign_spelling all_signs (sign_spelling sign) ≡ Some sign
unfolding first_of all_signs
find_sign sign = elim sign as (λ s. first_of sign_spelling all_signs (sign_spelling s)
    ≡ Some s) [ signs.Dot ↦ refl | _ ↦ refl ]

some_same : {A : Type 0} (a b : A) → Some a ≡ Some b → a ≡ b
some_same a b e = ap (λ r. unwrap_or r a) e

pub one_word : (word other : Word) → spelling word ≡ spelling other → word ≡ other
one_word word other e = some_same word other (sym (find_word word) ∙ ap (first_of spelling all_words) e
    ∙ find_word other)

pub one_sign : (sign other : Sign) → sign_spelling sign ≡ sign_spelling other → sign ≡ other
one_sign sign other e = some_same sign other (sym (find_sign sign) ∙ ap (first_of sign_spelling all_signs) e
    ∙ find_sign other)

-- ---- the bytes of a piece tell the piece

-- two pieces with the same bytes, each with what its first byte says
abbrev BothLead : TokenKind → TokenKind → List ℕ → Type 0
BothLead one other bytes = Leads (Lexeme one bytes) (get_or bytes 0 0) × Leads (Lexeme other bytes) (get_or bytes 0 0)

same_kind : (one other : TokenKind) (bytes : List ℕ) → Spells one bytes → Spells other bytes
    → BothLead one other bytes → one ≡ other
same_kind kinds.End other bytes is so lead = absurd is
same_kind kinds.Name kinds.End bytes is so lead = absurd so
same_kind (kinds.Word w) kinds.End bytes is so lead = absurd so
same_kind (kinds.Number v) kinds.End bytes is so lead = absurd so
same_kind (kinds.Sign s) kinds.End bytes is so lead = absurd so
same_kind kinds.Name kinds.Name bytes is so lead = refl
same_kind kinds.Name (kinds.Word w) bytes is so lead = let yes_way = word_reserved w in let no_way = is.1 in
    let e = ap is_reserved so in cc
same_kind (kinds.Word w) kinds.Name bytes is so lead = let yes_way = word_reserved w in let no_way = so.1 in
    let e = ap is_reserved is in cc
same_kind (kinds.Word w) (kinds.Word v) bytes is so lead = ap (λ x. kinds.Word x) (one_word w v (sym is ∙ so))
same_kind (kinds.Sign s) (kinds.Sign t) bytes is so lead = ap (λ x. kinds.Sign x) (one_sign s t (sym is ∙ so))
same_kind (kinds.Number v) (kinds.Number w) bytes is so lead = ap (λ x. kinds.Number x) (is.1 ∙ sym so.1)
same_kind kinds.Name (kinds.Number v) bytes is so lead = absurd (omega (arith, lead.0.0, lead.1.1))
same_kind (kinds.Number v) kinds.Name bytes is so lead = absurd (omega (arith, lead.1.0, lead.0.1))
same_kind kinds.Name (kinds.Sign s) bytes is so lead = absurd (sign_is_no_letter s (omega (
  arith,
  lead.0.0,
  lead.1,
)) (λ e. lead.0.1 (lead.1 ∙ e)))
same_kind (kinds.Sign s) kinds.Name bytes is so lead = absurd (sign_is_no_letter s (omega (
  arith,
  lead.1.0,
  lead.0,
)) (λ e. lead.1.1 (lead.0 ∙ e)))
same_kind (kinds.Word w) (kinds.Number v) bytes is so lead = absurd (omega (arith, lead.0.0, lead.1.1))
same_kind (kinds.Number v) (kinds.Word w) bytes is so lead = absurd (omega (arith, lead.1.0, lead.0.1))
same_kind (kinds.Word w) (kinds.Sign s) bytes is so lead = absurd (sign_is_no_letter s (omega (
  arith,
  lead.0.0,
  lead.1,
)) (λ e. lead.0.1 (lead.1 ∙ e)))
same_kind (kinds.Sign s) (kinds.Word w) bytes is so lead = absurd (sign_is_no_letter s (omega (
  arith,
  lead.1.0,
  lead.0,
)) (λ e. lead.1.1 (lead.0 ∙ e)))
same_kind (kinds.Number v) (kinds.Sign s) bytes is so lead = absurd (sign_is_no_digit s (omega (
  arith,
  lead.0.0,
  lead.1,
)) (omega (arith, lead.0.1, lead.1)))
same_kind (kinds.Sign s) (kinds.Number v) bytes is so lead = absurd (sign_is_no_digit s (omega (
  arith,
  lead.1.0,
  lead.0,
)) (omega (arith, lead.1.1, lead.0)))

-- a lexeme begins with no byte of a blank
lexeme_high : (kind : TokenKind) (bytes : List ℕ) (b : ℕ) → Leads (Lexeme kind bytes) b → b ≤ 35 → ⊥
lexeme_high kinds.Name bytes b lead low = omega (arith, lead.0)
lexeme_high (kinds.Word w) bytes b lead low = omega (arith, lead.0)
lexeme_high (kinds.Number v) bytes b lead low = omega (arith, lead.0)
lexeme_high (kinds.Sign s) bytes b lead low = sign_is_high s (omega (arith, lead))
lexeme_high kinds.End bytes b lead low = lead

-- a text that begins with a lexeme begins with no blank
pub lexeme_no_blank : (kind : TokenKind) (bytes blank text rest more : List ℕ) → BeginsWith
    (Lexeme kind bytes) text rest → BeginsWith (Blank blank) text more → ⊥
lexeme_no_blank kind bytes blank text rest more is so =
    lexeme_high kind bytes (get_or text 0 0) (leads (Lexeme kind bytes) text rest is).1 (leads
    (Blank blank) text more so).1

same_piece : (one other : Piece) → IsPiece one → IsPiece other → bytes_of one ≡ bytes_of other → one ≡ other
same_piece (Blank bytes) (Blank more) is so e = ap (λ bs. Blank bs) e
same_piece (Blank bytes) (Lexeme kind more) is so e =
    absurd (lexeme_no_blank kind more bytes more [] [] (so, sym (append-nil more)) (is, sym e ∙ sym (append-nil bytes)))
same_piece (Lexeme kind bytes) (Blank more) is so e =
    absurd (lexeme_no_blank kind bytes more bytes [] [] (is, sym (append-nil bytes)) (so, e ∙ sym (append-nil more)))
same_piece (Lexeme one bytes) (Lexeme other more) is so e =
    let here = subst (Spells other) (sym e) so in
    let both : BothLead one other bytes = (
      (leads (Lexeme one bytes) bytes [] (is, sym (append-nil bytes))).1,
      (leads (Lexeme other bytes) bytes [] (here, sym (append-nil bytes))).1,
    ) in
    ap (λ kind. Lexeme kind bytes) (same_kind one other bytes is here both) ∙ ap (λ bs. Lexeme other bs) e

-- a text has one first piece, and so one rest
pub one_first : (one other : Piece) (text rest more : List ℕ) → IsFirst one text rest → IsFirst other text more
    → (one ≡ other) × (rest ≡ more)
one_first one other text rest more is so =
    let long : length (bytes_of one) ≡ length (bytes_of other) = let a = is.longest other more so.begins in
    let b = so.longest one rest is.begins in omega arith in
    let whole : bytes_of one ++ rest ≡ bytes_of other ++ more = sym is.begins.1 ∙ so.begins.1 in
    let bytes : bytes_of one ≡ bytes_of other =
    sym (take-append_seam (bytes_of one) rest) ∙ ap (take (length (bytes_of one))) whole ∙ ap (λ n. take n
    (bytes_of other ++ more)) long ∙ take-append_seam (bytes_of other) more in
    let left : rest ≡ more =
    sym (drop-append_seam (bytes_of one) rest) ∙ ap (drop (length (bytes_of one))) whole ∙ ap (λ n. drop n
    (bytes_of other ++ more)) long ∙ drop-append_seam (bytes_of other) more in
    (same_piece one other is.begins.0 so.begins.0 bytes, left)
