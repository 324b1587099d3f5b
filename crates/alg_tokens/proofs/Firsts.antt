-- The name or the sign that begins a text is its first piece, and where neither does, nothing is.
use Rattle.std.proofs.Common.{◌≡◌, ◌≢◌, ◌≤◌, ◌<◌, ℕ, true, false, List, [], ◌∷◌, ◌++◌, length, get_or, take, drop, refl, ap, sym, ◌∙◌, arith, append-nil, take-append-drop, append_assoc, None}
use Rattle.std.specs.Prelude.{encode_utf8, encode_utf8_all}
use Rattle.std.specs.Char.{is_ascii_digit}
use Rattle.std.specs.List.{prefix_len}
use Rattle.std.proofs.lemmas.List.{length-take-le}
use Rattle.std.proofs.lemmas.Str.{encode_same}
use Rattle.alg_terms.specs.Names.{starts_name, continues_name, IsSpelledAsName}
use Rattle.alg_tokens.specs.declared.token.TokenKind.{TokenKind}
use Rattle.alg_tokens.specs.declared.token.TokenKind.TheVariants as kinds
use Rattle.alg_tokens.specs.Spelling.{spelling}
use Rattle.alg_tokens.specs.Pieces.{Piece, Blank, Lexeme, bytes_of, BeginsWith, IsFirst, Spells, IsNumeral}
use Rattle.alg_tokens.specs.Runs.{IsRun, BeginsChar, BeginsNoBlank, sign_of}
use Rattle.alg_tokens.specs.Next.{BeginsNoPiece}
use Rattle.alg_tokens.proofs.Leads.{leads, word_spelled, spelled_lead, sign_is_no_letter}
use Rattle.alg_tokens.proofs.Longest.{spelled_within, run_spelled, digits_within}
use Rattle.alg_tokens.proofs.Signs.{sign_none}

-- ---- names

name_longest : (text : List ℕ) (n : ℕ) → 65 ≤ get_or text 0 0 → get_or text 0 0 ≢ 94
    → IsRun continues_name text n → (other : Piece) (more : List ℕ) → BeginsWith other text more → length
    (bytes_of other) ≤ n
name_longest text n low no_caret run (Blank bytes) more begins = let lead = leads
    (Blank bytes) text more begins in absurd (omega arith)
name_longest text n low no_caret run (Lexeme kinds.Name bytes) more begins =
    spelled_within text bytes more n begins.0.0 begins.1 run
name_longest text n low no_caret run (Lexeme (kinds.Word word) bytes) more begins =
    rw begins.0 (spelled_within text (spelling word) more n (word_spelled word) (begins.1 ∙ ap
    (λ bs. bs ++ more) begins.0) run)
name_longest text n low no_caret run (Lexeme (kinds.Number value) bytes) more begins = let lead = leads (Lexeme
    (kinds.Number value) bytes) text more begins in absurd (omega arith)
name_longest text n low no_caret run (Lexeme (kinds.Sign sign) bytes) more begins =
    let lead = leads (Lexeme (kinds.Sign sign) bytes) text more begins in
    absurd (sign_is_no_letter sign (omega (arith, lead.1)) (λ e. no_caret (lead.1 ∙ e)))
name_longest text n low no_caret run (Lexeme kinds.End bytes) more begins = absurd begins.0

-- the run of a name is the first piece
pub name_first : (text : List ℕ) (n : ℕ) (kind : TokenKind) → BeginsChar starts_name true text
    → IsRun continues_name text n → Spells kind (take n text) → IsFirst (Lexeme kind (take n text)) text
    (drop n text)
name_first text n kind starts run is =
    let spelled = run_spelled text n starts run in
    let lead = spelled_lead (take n text) text (drop n text) spelled (sym (take-append-drop n text)) in
    let long = length-take-le n text run.within in
    record {
      begins = (is, sym (take-append-drop n text));
      longest = λ other more b. let short = name_longest text n lead.1 lead.2 run other more b in omega arith;
    }

pub name_some : (text : List ℕ) (n : ℕ) → BeginsChar starts_name true text → IsRun continues_name text n → 0 < n
name_some text n starts run =
    let spelled = run_spelled text n starts run in
    let lead = spelled_lead (take n text) (take n text) [] spelled (sym (append-nil (take n text))) in
    let long = length-take-le n text run.within in
    omega arith

-- ---- no piece

no_name : (text bytes more : List ℕ) → BeginsChar starts_name false text → IsSpelledAsName bytes → text
    ≡ bytes ++ more → ⊥
no_name text bytes more (d, tail, split, fails) (c, chars, spelled, starts, _) e =
    let whole : encode_utf8 d ++ tail ≡ encode_utf8 c ++ (encode_utf8_all chars ++ more) =
    sym split ∙ e ∙ ap (λ bs. bs ++ more) (sym spelled) ∙ append_assoc (encode_utf8 c) (encode_utf8_all chars) more in
    let same = encode_same d c tail (encode_utf8_all chars ++ more) whole in
    let k = ap starts_name same.0 in
    cc

no_digit : (text bytes more : List ℕ) → prefix_len is_ascii_digit text ≡ 0 → IsNumeral bytes → text ≡ bytes ++ more → ⊥
no_digit text [] more none (some, _) e = some refl
no_digit text (b ∷ bytes) more none (_, digits) e =
    let within = digits_within (b ∷ bytes) more digits in
    let same = ap (λ bs. prefix_len is_ascii_digit bs) e in
    omega arith

no_piece : (text : List ℕ) → BeginsNoBlank text → prefix_len is_ascii_digit text ≡ 0 → BeginsChar starts_name false text
    → sign_of (get_or text 0 0) (get_or text 1 0) ≡ None → (piece : Piece) (rest : List ℕ)
    → BeginsWith piece text rest → ⊥
no_piece text blanks digits other signless (Blank bytes) rest begins = blanks bytes rest begins
no_piece text blanks digits other signless (Lexeme kinds.Name bytes) rest (is, e) = no_name text bytes rest other is.0 e
no_piece text blanks digits other signless (Lexeme (kinds.Word word) bytes) rest (is, e) =
    no_name text (spelling word) rest other (word_spelled word) (e ∙ ap (λ bs. bs ++ rest) is)
no_piece text blanks digits other signless (Lexeme (kinds.Number value) bytes) rest (is, e) =
    no_digit text bytes rest digits is.0 e
no_piece text blanks digits other signless (Lexeme (kinds.Sign sign) bytes) rest (is, e) =
    sign_none text rest sign (e ∙ ap (λ bs. bs ++ rest) is) signless
no_piece text blanks digits other signless (Lexeme kinds.End bytes) rest (is, e) = is

-- no digit, no name and no sign: no piece
pub none_first : (text : List ℕ) → 0 < length text → BeginsNoBlank text → prefix_len is_ascii_digit text ≡ 0
    → BeginsChar starts_name false text
    → sign_of (get_or text 0 0) (get_or text 1 0) ≡ None → BeginsNoPiece text
none_first text some blanks digits other signless = (
  λ none. let zero = ap length none in omega arith,
  no_piece text blanks digits other signless,
)
