-- A text may be cut on both sides of each of its tokens.
use Rattle.std.proofs.Common.{◌≡◌, ◌≢◌, ◌≤◌, ◌<◌, ℕ, ◌+◌, ◌-◌, Bool, true, false, ◌&&◌, ◌==◌, List, [], ◌∷◌, ◌++◌, inl, inr, length, get_or, take, drop, map, refl, ap, sym, ◌∙◌, subst, arith, append_assoc, length-append, length-drop, lit<, Ok}
use Rattle.std.specs.Prelude.{encode_utf8, encode_utf8_all}
use Rattle.std.specs.Char.{IsAsciiDigit}
use Rattle.std.specs.List.{AllByRecursion}
use Rattle.std.specs.Str.{IsUtf8, IsCharBoundary}
use Rattle.std.proofs.Math.Seq.{drop-append_seam, take-append_seam, get_or-append_seam}
use Rattle.std.proofs.Math.Utf8.{scalar, scalars}
use Rattle.std.proofs.lemmas.Bool.Decides.{nat_tests}
use Rattle.std.proofs.lemmas.Str.{encode_same, encode_ascii, length-encode, len_utf8_bounds, IsUtf8-nil, IsUtf8-drop, IsCharBoundary-before_ascii, IsCharBoundary-from_drop}
use Rattle.alg_tokens.specs.declared.token.Token.{Token}
use Rattle.alg_tokens.specs.declared.token.TokenKind.{TokenKind}
use Rattle.alg_tokens.specs.declared.token.TokenKind.TheVariants as kinds
use Rattle.alg_tokens.specs.declared.token.Sign.{Sign}
use Rattle.alg_tokens.specs.declared.token.Sign.TheVariants as signs
use Rattle.alg_tokens.specs.Spelling.{sign_spelling}
use Rattle.alg_tokens.specs.Pieces.{Blank, Spells, IsBlank, IsFirst, IsCut}
use Rattle.alg_tokens.specs.Next.{IsWithinMax, IsNext}
use Rattle.alg_tokens.proofs.Leads.{word_spelled}
use Rattle.alg_reader.specs.RawNodes.{span_of}
use Rattle.alg_reader.specs.Tokens.{TokensTo}
use Rattle.alg_reader.specs.WellRead.{bytes_at}

-- ---- what follows characters

and_right : (x y : Bool) → (x && y) ≡ true → y ≡ true
and_right true y h = h
and_right false y h = cc

-- what follows characters in a text is a text
utf8_left : (cs ds rest : List ℕ) → scalars cs ≡ true → encode_utf8_all cs ≡ encode_utf8_all ds ++ rest → IsUtf8 rest
utf8_left cs [] rest all e = (cs, (all, e))
utf8_left [] (d ∷ ds) rest all e =
    let long = ap length (e ∙ append_assoc (encode_utf8 d) (encode_utf8_all ds) rest)
    ∙ length-append (encode_utf8 d) (encode_utf8_all ds ++ rest) in
    absurd (omega (arith, long, length-encode d, (len_utf8_bounds d).0))
utf8_left (c ∷ cs) (d ∷ ds) rest all e =
    let same = encode_same c d (encode_utf8_all cs) (encode_utf8_all ds ++ rest) (e ∙ append_assoc (encode_utf8 d)
    (encode_utf8_all ds) rest) in
    utf8_left cs ds rest (and_right (scalar c) (scalars cs) all) same.1

utf8_after : (text front ds rest : List ℕ) → IsUtf8 text → text ≡ front ++ rest → encode_utf8_all ds ≡ front
    → IsUtf8 rest
utf8_after text front ds rest (cs, (all, is)) e spelled =
    utf8_left cs ds rest all (is ∙ e ∙ ap (λ bs. bs ++ rest) (sym spelled))

-- small numbers are their own bytes
low_encoded : (bs : List ℕ) → AllByRecursion (λ b. b < 128) bs → encode_utf8_all bs ≡ bs
low_encoded [] h = refl
low_encoded (b ∷ bs) h = ap (λ x. x ++ encode_utf8_all bs) (encode_ascii b h.0) ∙ ap (λ x. b ∷ x) (low_encoded bs h.1)

digits_low : (bs : List ℕ) → AllByRecursion IsAsciiDigit bs → AllByRecursion (λ b. b < 128) bs
digits_low [] h = tt
digits_low (b ∷ bs) h = (let digit = h.0 in omega arith, digits_low bs h.1)

sign_low : (sign : Sign) → AllByRecursion (λ b. b < 128) (sign_spelling sign)
sign_low sign = elim sign as (λ s. AllByRecursion (λ b. b < 128) (sign_spelling s)) [
  | signs.Arrow ↦ (lit< tt, (lit< tt, tt))
  | signs.NotEqual ↦ (lit< tt, (lit< tt, tt))
  | signs.Dot ↦ (lit< tt, tt)
  | _ ↦ (lit< tt, tt)
]

-- ---- pieces

after_lexeme : (kind : TokenKind) (text bytes rest : List ℕ) → IsUtf8 text → Spells kind bytes → text ≡ bytes ++ rest
    → IsUtf8 rest
after_lexeme kinds.Name text bytes rest u ((c, chars, is, _, _), _) e = utf8_after text bytes (c ∷ chars) rest u e is
after_lexeme (kinds.Word word) text bytes rest u h e = let (c, chars, is, _, _) = word_spelled word in
    utf8_after text bytes (c ∷ chars) rest u e (is ∙ sym h)
after_lexeme (kinds.Number value) text bytes rest u h e =
    utf8_after text bytes bytes rest u e (low_encoded bytes (digits_low bytes h.0.1))
after_lexeme (kinds.Sign sign) text bytes rest u h e = utf8_after text bytes (sign_spelling sign) rest u e
    (low_encoded (sign_spelling sign) (sign_low sign) ∙ sym h)
after_lexeme kinds.End text bytes rest u h e = absurd h

-- before a line feed
before_line_feed : (text bytes rest : List ℕ) → IsUtf8 text → text ≡ bytes ++ 10 ∷ rest → IsUtf8 (10 ∷ rest)
before_line_feed text bytes rest u e =
    let long = ap length e ∙ length-append bytes (10 ∷ rest) in
    let left : drop (length bytes) text ≡ 10 ∷ rest = ap (drop (length bytes)) e ∙ drop-append_seam bytes (10 ∷ rest) in
    let next : get_or text (length bytes) 0 ≡ 10 = ap (λ bs. get_or bs (length bytes) 0) e
    ∙ get_or-append_seam bytes 10 rest 0 in
    let here = IsCharBoundary-before_ascii text (length bytes) (omega arith) (omega arith) in
    subst IsUtf8 left (IsUtf8-drop text (length bytes) u here)

all_more : (line : List ℕ) (b : ℕ) → AllByRecursion (λ byte. byte ≢ 10) line → b ≢ 10
    → AllByRecursion (λ byte. byte ≢ 10) (line ++ b ∷ [])
all_more [] b all other = (other, tt)
all_more (x ∷ line) b all other = (all.0, all_more line b all.1 other)

-- a comment goes to the end of its line
after_comment : (text bytes line rest : List ℕ) → IsUtf8 text → IsFirst (Blank bytes) text rest → bytes ≡ 35 ∷ line
    → AllByRecursion (λ byte. byte ≢ 10) line → IsUtf8 rest
after_comment text bytes line [] u first is all = IsUtf8-nil
after_comment text bytes line (b ∷ rest) u first is all = elim (b == 10) as (λ v. (b == 10) ≡ v → IsUtf8 (b ∷ rest)) [
  | true ↦ λ h.
      let ten : b ≡ 10 = grind (arith, nat_tests) in
      let P : ℕ → Type 0 = λ n. IsUtf8 (n ∷ rest) in
      subst P (sym ten) (before_line_feed text bytes rest u (first.begins.1 ∙ ap (λ n. bytes ++ n ∷ rest) ten))
  | false ↦ λ h.
      let other : b ≢ 10 = λ e. grind (arith, nat_tests) in
      let longer = first.longest (Blank (bytes ++ b ∷ [])) rest (
        inr (line ++ b ∷ [], ap (λ bs. bs ++ b ∷ []) is, all_more line b all other),
        first.begins.1 ∙ sym (append_assoc bytes (b ∷ []) rest),
      ) in
      absurd (omega (arith, length-append bytes (b ∷ [])))
] refl

after_blank : (text bytes rest : List ℕ) → IsUtf8 text → IsBlank bytes → IsFirst (Blank bytes) text rest → IsUtf8 rest
after_blank text bytes rest u (inl (b, is, blank)) first =
    let low : b < 128 = grind (arith, nat_tests) in
    utf8_after text bytes (b ∷ []) rest u first.begins.1 (low_encoded (b ∷ []) (low, tt) ∙ sym is)
after_blank text bytes rest u (inr (line, is, all)) first = after_comment text bytes line rest u first is all

after_blanks : (blanks : List (List ℕ)) (text rest : List ℕ) → IsUtf8 text → IsCut (map Blank blanks) text rest
    → IsUtf8 rest
after_blanks [] text rest u e = subst IsUtf8 e u
after_blanks (bytes ∷ blanks) text rest u (next, first, cut) =
    after_blanks blanks next rest (after_blank text bytes next u first.begins.0 first) cut

-- ---- tokens

-- a token of a text: where it stands, and what it is
pub record IsTokenAt (text : List ℕ) (t : Token) : Type 0 where
  pub starts : IsCharBoundary text t.start
  pub stops : IsCharBoundary text t.stop
  pub some : t.start < t.stop
  pub spelled : Spells t.kind (bytes_at text (span_of t))
  pub within : IsWithinMax t.kind

token_at : (text : List ℕ) (at : ℕ) (t : Token) → IsUtf8 (drop at text) → IsNext text at (Ok t) → t.kind ≢ kinds.End
    → IsTokenAt text t × IsUtf8 (drop t.stop text)
token_at text at t u (blanks, inl (end, _, _), small) lexeme = absurd (lexeme end)
token_at text at t u ((past, within, (blanks, cut)), inr (some, short, (bytes, first)), small) lexeme =
    let here = after_blanks blanks (drop at text) (drop t.start text) u cut in
    let next = after_lexeme t.kind (drop t.start text) bytes (drop t.stop text) here first.begins.0 first.begins.1 in
    let long = sym (length-drop t.start text) ∙ ap length first.begins.1
    ∙ length-append bytes (drop t.stop text) in
    let width : length bytes ≡ t.stop - t.start = omega (arith, long, length-drop t.stop text) in
    let all : bytes ≡ bytes_at text (span_of t) = sym (take-append_seam bytes (drop t.stop text))
    ∙ ap (take (length bytes)) (sym first.begins.1) ∙ ap (λ n. take n (drop t.start text)) width in (
      record {
        starts = IsCharBoundary-from_drop text t.start within here;
        stops = IsCharBoundary-from_drop text t.stop short next;
        some = some;
        spelled = subst (Spells t.kind) all first.begins.0;
        within = small;
      },
      next,
    )

-- all tokens from one place to another are tokens of the text, which may be cut where the last one stops
pub tokens_at : (text : List ℕ) (at stop : ℕ) (ts : List Token) → at ≤ length text → IsUtf8 (drop at text)
    → TokensTo text at ts stop → AllByRecursion (IsTokenAt text) ts × IsCharBoundary text stop
tokens_at text at stop [] within u e = let P : ℕ → Type 0 = λ n. IsCharBoundary text n in
    (tt, subst P e (IsCharBoundary-from_drop text at within u))
tokens_at text at stop (t ∷ ts) within u (next, lexeme, to) =
    let (here, after) = token_at text at t u next lexeme in
    let (all, boundary) = tokens_at text t.stop stop ts here.stops.0 after to in ((here, all), boundary)

-- each token takes a byte at least
pub tokens_long : (text : List ℕ) (at stop : ℕ) (ts : List Token) → TokensTo text at ts stop → at + length ts ≤ stop
tokens_long text at stop [] e = omega arith
tokens_long text at stop (t ∷ ts) ((blanks, inl (end, _, _), small), lexeme, to) = absurd (lexeme end)
tokens_long text at stop (t ∷ ts) (((past, _, _), inr (some, _, _), small), lexeme, to) =
    let rest = tokens_long text t.stop stop ts to in omega arith
