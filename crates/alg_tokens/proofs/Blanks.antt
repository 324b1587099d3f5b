-- What is left after the blanks and comments at the front of a text.
use Rattle.std.proofs.Common.{◌≡◌, ◌≢◌, ◌≤◌, ◌<◌, ℕ, suc, ◌+◌, Bool, true, false, cond, ◌==◌, List, [], ◌∷◌, ◌++◌, inl, inr, length, get_or, drop, refl, ap, sym, ◌∙◌, arith}
use Rattle.std.specs.List.{AllByRecursion}
use Rattle.std.proofs.lemmas.Bool.Decides.{nat_tests}
use Rattle.std.proofs.Math.ListN.{drop_of_length-le}
use Rattle.std.proofs.Math.Seq.{drop-length}
use Rattle.std.proofs.lemmas.List.{at_drop_more, drop_more}
use Rattle.alg_tokens.specs.declared.token.TokenKind.TheVariants as kinds
use Rattle.alg_tokens.specs.Pieces.{Piece, Blank, Lexeme, bytes_of, BeginsWith, IsFirst, IsBlank, is_blank}
use Rattle.alg_tokens.specs.Runs.{BeginsNoBlank}
use Rattle.alg_tokens.specs.Next.{FollowsBlanks}
use Rattle.alg_tokens.proofs.Leads.{leads, sign_is_high}

-- what is left of a text after its blanks; `inside` says that a comment has begun
abbrev pub skip : Bool → List ℕ → List ℕ
skip inside [] = []
skip true (b ∷ text) = cond (b == 10) (skip false text) (skip true text)
skip false (b ∷ text) = cond (is_blank b) (skip false text) (cond (b == 35) (skip true text) (b ∷ text))

-- a piece that begins where a blank does is a blank
blank_only : (b : ℕ) (text more : List ℕ) (other : Piece) → b ≤ 35 → BeginsWith other (b ∷ text) more → (IsBlank
    (bytes_of other)) × (b ∷ text ≡ bytes_of other ++ more)
blank_only b text more (Blank bytes) low begins = begins
blank_only b text more (Lexeme kinds.Name bytes) low begins = let lead = leads (Lexeme kinds.Name bytes) (b
    ∷ text) more begins in absurd (omega arith)
blank_only b text more (Lexeme (kinds.Word word) bytes) low begins = let lead = leads (Lexeme
    (kinds.Word word) bytes) (b ∷ text) more begins in absurd (omega arith)
blank_only b text more (Lexeme (kinds.Number value) bytes) low begins = let lead = leads (Lexeme
    (kinds.Number value) bytes) (b ∷ text) more begins in absurd (omega arith)
blank_only b text more (Lexeme (kinds.Sign sign) bytes) low begins =
    let lead = leads (Lexeme (kinds.Sign sign) bytes) (b ∷ text) more begins in
    absurd (sign_is_high sign (omega (arith, lead.1, low)))
blank_only b text more (Lexeme kinds.End bytes) low begins = absurd begins.0

byte_longest : (b : ℕ) (text bytes more : List ℕ) → is_blank b ≡ true → IsBlank bytes → b ∷ text
    ≡ bytes ++ more → length bytes ≤ 1
byte_longest b text bytes more is (inl (c, alone, _)) e = rw alone (omega arith)
byte_longest b text bytes more is (inr (line, comment, _)) e =
    let same : b ≡ 35 = ap (λ bs. get_or bs 0 0) (e ∙ ap (λ bs. bs ++ more) comment) in
    absurd (grind (arith, nat_tests))

-- a blank byte is the first piece
pub byte_first : (b : ℕ) (text : List ℕ) → is_blank b ≡ true → IsFirst (Blank (b ∷ [])) (b ∷ text) text
byte_first b text h =
    let low : b ≤ 35 = grind (arith, nat_tests) in
    record {
      begins = (inl (b, refl, h), refl);
      longest = λ other more begins. let (blank, e) = blank_only b text more other low begins in
          byte_longest b text (bytes_of other) more h blank e;
    }

-- a line ends here: with the text, or with a line feed
abbrev EndsLine : List ℕ → Type 0
EndsLine rest = 0 < length rest → get_or rest 0 0 ≡ 10

line_longest : (line other rest more : List ℕ) → line ++ rest ≡ other ++ more → EndsLine rest → AllByRecursion
    (λ b. b ≢ 10) other → length other ≤ length line
line_longest line [] rest more e ends all = omega arith
line_longest [] (b ∷ other) rest more e ends all =
    let some : 0 < length rest = let long = ap length e in omega arith in
    absurd (all.0 (sym (ap (λ bs. get_or bs 0 0) e) ∙ ends some))
line_longest (c ∷ line) (b ∷ other) rest more e ends all =
    let less = line_longest line other rest more (ap (drop 1) e) ends all.1 in
    omega arith

comment_longest : (line rest bytes more : List ℕ) → EndsLine rest → IsBlank bytes → 35 ∷ (line ++ rest)
    ≡ bytes ++ more → length bytes ≤ suc (length line)
comment_longest line rest bytes more ends (inl (c, alone, _)) e = rw alone (omega arith)
comment_longest line rest bytes more ends (inr (other, comment, all)) e =
    let less = line_longest line other rest more (ap (drop 1) (e ∙ ap (λ bs. bs ++ more) comment)) ends all in
    rw comment (omega arith)

-- a comment to the end of its line is the first piece
comment_first : (line rest : List ℕ) → AllByRecursion (λ b. b ≢ 10) line → EndsLine rest → IsFirst (Blank (35
    ∷ line)) (35 ∷ (line ++ rest)) rest
comment_first line rest all ends = record {
  begins = (inr (line, refl, all), refl);
  longest = λ other more begins. let (blank, e) = blank_only 35 (line ++ rest) more other (omega arith) begins in
      comment_longest line rest (bytes_of other) more ends blank e;
}

-- what is left follows blanks; inside a comment, what its line is has to be found first
abbrev Skipped : Bool → List ℕ → Type 0
Skipped false text = FollowsBlanks text (skip false text)
Skipped true text = (line : List ℕ) × (rest : List ℕ) × (text ≡ line ++ rest) × AllByRecursion
    (λ b. b ≢ 10) line × EndsLine rest × FollowsBlanks rest (skip true text)

after_byte : (b : ℕ) (text rest : List ℕ) → is_blank b ≡ true → FollowsBlanks text rest → FollowsBlanks (b ∷ text) rest
after_byte b text rest h (blanks, cut) = ((b ∷ []) ∷ blanks, (text, byte_first b text h, cut))

after_comment : (b : ℕ) (text : List ℕ) → b ≡ 35 → Skipped true text → FollowsBlanks (b ∷ text) (skip true text)
after_comment b text sharp (line, rest, e, all, ends, (blanks, cut)) =
    let first : IsFirst (Blank (35 ∷ line)) (b ∷ text) rest = rw (sharp, e) (comment_first line rest all ends) in
    ((35 ∷ line) ∷ blanks, (rest, first, cut))

comment_or_not : (b : ℕ) (text : List ℕ) → Skipped true text → FollowsBlanks (b ∷ text) (cond (b == 35)
    (skip true text) (b ∷ text))
comment_or_not b text inside = elim (b == 35) as (λ v. (b == 35) ≡ v → FollowsBlanks (b ∷ text) (cond v
    (skip true text) (b ∷ text))) [
      | true ↦ λ h. after_comment b text (grind (arith, nat_tests)) inside
      | false ↦ λ _. ([], refl)
    ] refl

skipped : (inside : Bool) (text : List ℕ) → Skipped inside text
skipped false [] = ([], refl)
skipped true [] = ([], [], refl, tt, λ h. absurd (omega arith), ([], refl))
skipped true (b ∷ text) = elim (b == 10) as (λ v. (b == 10) ≡ v → (line : List ℕ) × (rest : List ℕ) × (b ∷ text
    ≡ line ++ rest) × AllByRecursion (λ b. b ≢ 10) line
    × EndsLine rest × FollowsBlanks rest (cond v (skip false text) (skip true text))) [
      | true ↦ λ h. let feed : b ≡ 10 = grind (arith, nat_tests) in (
        [],
        b ∷ text,
        refl,
        tt,
        λ _. feed,
        after_byte b text (skip false text) (grind (arith, nat_tests))
            (skipped false text),
      )
      | false ↦ λ h. let (line, rest, e, all, ends, follows) = skipped true text in
          (b ∷ line, rest, ap (λ bs. b ∷ bs) e, (λ feed. grind (arith, nat_tests), all), ends, follows)
    ] refl
skipped false (b ∷ text) = elim (is_blank b) as (λ v. is_blank b ≡ v → FollowsBlanks (b ∷ text) (cond v
    (skip false text) (cond (b == 35) (skip true text) (b ∷ text)))) [
      | true ↦ λ h. after_byte b text (skip false text) h (skipped false text)
      | false ↦ λ _. comment_or_not b text (skipped true text)
    ] refl

-- ---- what is left begins with no blank

no_blank_byte : (b : ℕ) (text : List ℕ) → is_blank b ≡ false → (b == 35) ≡ false → BeginsNoBlank (b ∷ text)
no_blank_byte b text h k bytes rest (inl (c, alone, is), e) =
    let same : b ≡ c = ap (λ bs. get_or bs 0 0) (e ∙ ap (λ bs. bs ++ rest) alone) in
    grind (arith, nat_tests)
no_blank_byte b text h k bytes rest (inr (line, comment, _), e) =
    let same : b ≡ 35 = ap (λ bs. get_or bs 0 0) (e ∙ ap (λ bs. bs ++ rest) comment) in
    grind (arith, nat_tests)

pub no_blank_end : BeginsNoBlank []
no_blank_end bytes rest begins = let lead = leads (Blank bytes) [] rest begins in absurd (omega arith)

-- the blanks of a text are all that is skipped
pub skip_blanks : (text rest : List ℕ) → rest ≡ skip false text → FollowsBlanks text rest
skip_blanks text rest e = rw e (skipped false text)

-- a place at which the blanks are over
pub over_at : (text : List ℕ) (at : ℕ) → at < length text → is_blank (get_or text at 0) ≡ false →
    (get_or text at 0 == 35) ≡ false
    → (skip false (drop at text) ≡ drop at text) × BeginsNoBlank (drop at text)
over_at text at within h k =
    let there = drop_more text at 0 within in
    rw there (rw (h, k) refl, no_blank_byte (get_or text at 0) (drop (at + 1) text) h k)

-- one turn of the loop, outside a comment and inside
pub skip_turn : (text : List ℕ) (at : ℕ) → at < length text → skip false (drop at text) ≡
    cond (is_blank (get_or text at 0)) (skip false (drop (at + 1) text)) (cond (get_or text at 0 == 35)
    (skip true (drop (at + 1) text)) (get_or text at 0 ∷ drop (at + 1) text))
skip_turn text at h = at_drop_more (skip false) text at 0 h

pub skip_inside_turn : (text : List ℕ) (at : ℕ) → at < length text → skip true (drop at text) ≡
    cond (get_or text at 0 == 10) (skip false (drop (at + 1) text)) (skip true (drop (at + 1) text))
skip_inside_turn text at h = at_drop_more (skip true) text at 0 h

skip_nothing : (inside : Bool) → skip inside [] ≡ []
skip_nothing true = refl
skip_nothing false = refl

pub skip_end : (inside : Bool) (text : List ℕ) (at : ℕ) → length text ≤ at → skip inside (drop at text) ≡ drop
    (length text) text
skip_end inside text at past = rw (drop_of_length-le text past, drop-length text) (skip_nothing inside)
