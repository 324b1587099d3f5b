-- The canonical text of a file is UTF-8.
use Rattle.std.proofs.Common.{◌≡◌, ◌<◌, inl, inr, ℕ, zero, suc, true, not, ◌||◌, ◌&&◌, ◌==◌, List, [], ◌∷◌, ◌++◌, refl, sym, ap, ◌∙◌, subst, arith, lit<}
use Rattle.std.specs.Char.{IsAsciiDigit}
use Rattle.std.specs.List.{AllByRecursion}
use Rattle.std.specs.Prelude.{slice_index}
use Rattle.std.specs.Str.{IsUtf8}
use Rattle.std.proofs.Math.Utf8.{scalar, scalars}
use Rattle.std.proofs.lemmas.Bool.{or_cases}
use Rattle.std.proofs.lemmas.Bool.Decides.{nat_tests}
use Rattle.std.proofs.lemmas.Str.{IsUtf8-append, IsUtf8-nil, IsUtf8-from_ascii}
use Rattle.ucd_table.specs.Rows.{Range, in_ranges}
use Rattle.ucd_table.proofs.Computing.{tables}
use Rattle.ucd_table.proofs.Facts.{Stepped-everywhere}
use Rattle.ucd_table.proofs.Stepped.{zip_stepped, of_ranges}
use Rattle.ucd_derived.proofs.BinaryLemmas.{is_xid_continue_stepped}
use Rattle.unicode_ident.specs.Ident.{is_xid_start, is_xid_continue}
use Rattle.unicode_ident.proofs.Computing.{unicode_ident}
use Rattle.unicode_ident.proofs.IdentLemmas.{is_xid_start-is_xid_continue}
use Rattle.alg_terms.specs.declared.file.File.{File}
use Rattle.alg_terms.specs.Names.{IsSpelledAsName, AllContinue, starts_name, continues_name}
use Rattle.alg_terms.specs.Valid.{IsValid}
use Rattle.alg_tokens.specs.declared.token.Sign.{Sign}
use Rattle.alg_tokens.specs.declared.token.Sign.TheVariants as signs
use Rattle.alg_tokens.specs.declared.token.TokenKind.TheVariants as kinds
use Rattle.alg_tokens.specs.Pieces.{Piece, Blank, Lexeme, bytes_of}
use Rattle.alg_tokens.specs.Spelling.{sign_spelling, spelling}
use Rattle.alg_tokens.proofs.Leads.{word_spelled}
use Rattle.alg_tokens.proofs.Neighbours.{spell, EachEnds}
use Rattle.alg_tokens.proofs.PieceEnds.{EndsBefore}
use Rattle.alg_printer.specs.Text.{text_of}
use Rattle.alg_reading_back.specs.ReadingBack.{unanswered}
use Rattle.alg_reading_back.proofs.WrittenStatements.{file_pieces}
use Rattle.alg_reading_back.proofs.SpelledStatements.{spelled_file}
use Rattle.alg_reading_back.proofs.StatementEnds.{file_pieces_end}

-- ---- characters of names

-- the Unicode scalar values
abbrev scalar_ranges : List Range
scalar_ranges = (0, 55295) ∷ (57344, 1114111) ∷ []

-- a character that may go on with an identifier is one
in_scalar_ranges : (c : ℕ) → is_xid_continue c ≡ true → in_ranges scalar_ranges c ≡ true
unfolding unicode_ident tables
in_scalar_ranges c continues =
    let both = zip_stepped (λ a b. not a || b) is_xid_continue (in_ranges scalar_ranges) is_xid_continue_stepped
    (of_ranges scalar_ranges refl) in
    subst (λ a. (not a || in_ranges scalar_ranges c) ≡ true) continues (Stepped-everywhere _ both refl c)

xid_scalar : (c : ℕ) → is_xid_continue c ≡ true → scalar c ≡ true
unfolding in_ranges
xid_scalar c continues = let there = in_scalar_ranges c continues in grind (arith, nat_tests)

continues_scalar : (c : ℕ) → continues_name c ≡ true → scalar c ≡ true
continues_scalar c h = elim (or_cases (c == 39) (is_xid_continue c) h) [
  | inl quote ↦ grind (arith, nat_tests)
  | inr continues ↦ xid_scalar c continues
]

starts_scalar : (c : ℕ) → starts_name c ≡ true → scalar c ≡ true
starts_scalar c h = elim (or_cases (c == 95) (is_xid_start c) h) [
  | inl low_line ↦ grind (arith, nat_tests)
  | inr starts ↦ xid_scalar c (is_xid_start-is_xid_continue c starts)
]

all_scalar : (chars : List ℕ) → AllContinue chars → scalars chars ≡ true
all_scalar [] h = refl
all_scalar (c ∷ chars) h =
    ap (λ b. b && scalars chars) (continues_scalar c h.0) ∙ all_scalar chars h.1

name_utf8 : (bytes : List ℕ) → IsSpelledAsName bytes → IsUtf8 bytes
name_utf8 bytes (c, chars, is, starts, more) =
    (c ∷ chars, (ap (λ b. b && scalars chars) (starts_scalar c starts) ∙ all_scalar chars more, is))

-- ---- pieces

low_ascii : (bytes : List ℕ) → AllByRecursion (λ b. b < 128) bytes → (i : ℕ) → slice_index bytes i < 128
low_ascii [] h i = lit< tt
low_ascii (b ∷ bytes) h zero = h.0
low_ascii (b ∷ bytes) h (suc n) = low_ascii bytes h.1 n

low_utf8 : (bytes : List ℕ) → AllByRecursion (λ b. b < 128) bytes → IsUtf8 bytes
low_utf8 bytes h = IsUtf8-from_ascii bytes (low_ascii bytes h)

digits_low : (bytes : List ℕ) → AllByRecursion IsAsciiDigit bytes → AllByRecursion (λ b. b < 128) bytes
digits_low [] h = tt
digits_low (b ∷ bytes) h = (let digit = h.0 in omega arith, digits_low bytes h.1)

sign_utf8 : (s : Sign) → IsUtf8 (sign_spelling s)
sign_utf8 s = elim s as (λ s. IsUtf8 (sign_spelling s)) [
  | signs.Arrow ↦ low_utf8 _ (lit< tt, (lit< tt, tt))
  | signs.NotEqual ↦ low_utf8 _ (lit< tt, (lit< tt, tt))
  | signs.Dot ↦ low_utf8 _ (lit< tt, tt)
  | _ ↦ low_utf8 _ (lit< tt, tt)
]

piece_utf8 : (piece : Piece) (next : List ℕ) → EndsBefore piece next → IsUtf8 (bytes_of piece)
piece_utf8 (Blank bytes) next (b, is, blank) =
    let low : b < 128 = grind (arith, nat_tests) in subst IsUtf8 (sym is) (low_utf8 (b ∷ []) (low, tt))
piece_utf8 (Lexeme kinds.Name bytes) next (is, free, stops) = name_utf8 bytes is
piece_utf8 (Lexeme (kinds.Word word) bytes) next (is, stops) =
    subst IsUtf8 (sym is) (name_utf8 (spelling word) (word_spelled word))
piece_utf8 (Lexeme (kinds.Number value) bytes) next (is, same, small, stops) = low_utf8 bytes (digits_low bytes is.1)
piece_utf8 (Lexeme (kinds.Sign sign) bytes) next (is, stops) = subst IsUtf8 (sym is) (sign_utf8 sign)
piece_utf8 (Lexeme kinds.End bytes) next stands = absurd stands

pub pieces_utf8 : (pieces : List Piece) (rest : List ℕ) → EachEnds pieces rest → IsUtf8 (spell pieces)
pieces_utf8 [] rest stand = IsUtf8-nil
pieces_utf8 (piece ∷ pieces) rest (stands, stand) =
    IsUtf8-append (bytes_of piece) (spell pieces) (piece_utf8 piece (spell pieces ++ rest) stands)
    (pieces_utf8 pieces rest stand)

pub text_utf8 : (file : File) → IsValid file → IsUtf8 (text_of file (unanswered file))
text_utf8 file valid =
    subst IsUtf8 (spelled_file file valid)
    (pieces_utf8 (file_pieces file file.order) [] (file_pieces_end file valid))
