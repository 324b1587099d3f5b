-- The sign that begins a text is its first piece.
use Rattle.std.proofs.Common.{◌≡◌, ◌≤◌, ◌<◌, ℕ, ◌+◌, ◌-◌, Bool, true, false, cond, ◌&&◌, ◌==◌, List, [], ◌∷◌, ◌++◌, ◌⊎◌, inl, inr, length, get_or, take, drop, refl, ap, sym, ◌∙◌, subst, arith, Option, Some, None, length-append, take-append-drop}
use Rattle.std.specs.Prelude.{MatchOption, unwrap_or}
use Rattle.std.proofs.Math.Seq.{take-append_seam}
use Rattle.std.proofs.lemmas.Bool.Decides.{nat_tests}
use Rattle.alg_tokens.specs.declared.token.TokenKind.TheVariants as kinds
use Rattle.alg_tokens.specs.declared.token.Sign.{Sign}
use Rattle.alg_tokens.specs.declared.token.Sign.TheVariants as signs
use Rattle.alg_tokens.specs.Spelling.{sign_spelling}
use Rattle.alg_tokens.specs.Pieces.{Piece, Blank, Lexeme, bytes_of, BeginsWith, IsFirst}
use Rattle.alg_tokens.specs.Runs.{sign_of}
use Rattle.alg_tokens.proofs.Leads.{leads, sign_some, sign_is_high, sign_is_no_digit, sign_is_no_letter}

-- the first byte spells the sign, or both bytes do
abbrev IsSpelledBy : ℕ → ℕ → Sign × ℕ → Type 0
IsSpelledBy first second found = ((sign_spelling found.0 ≡ first ∷ []) × (found.1 ≡ 1))
    ⊎ ((sign_spelling found.0 ≡ first ∷ (second ∷ [])) × (found.1 ≡ 2) × (second ≡ 62))

abbrev IsSpelled : ℕ → ℕ → Option (Sign × ℕ) → Type 0
IsSpelled first second found = MatchOption found (Unit {0}) (IsSpelledBy first second)

pick : {A : Type 0} (b : Bool) (x y : A) (P : A → Type 0) → (b ≡ true → P x) → (b ≡ false → P y) → P (cond b x y)
pick true x y P yes_way no_way = yes_way refl
pick false x y P yes_way no_way = no_way refl

equal : (a b : ℕ) → (a == b) ≡ true → a ≡ b
equal a b h = grind (arith, nat_tests)

both_equal : (a b c d : ℕ) → (a == b && c == d) ≡ true → (a ≡ b) × (c ≡ d)
both_equal a b c d h = (grind (arith, nat_tests), grind (arith, nat_tests))

one : (sign : Sign) (byte first second : ℕ) → (first == byte) ≡ true → sign_spelling sign ≡ byte ∷ []
    → IsSpelledBy first second (sign, 1)
one sign byte first second e is = inl (is ∙ ap (λ b. b ∷ []) (sym (equal first byte e)), refl)

two : (sign : Sign) (byte first second : ℕ) → (first == byte && second == 62) ≡ true → sign_spelling sign
    ≡ byte ∷ (62 ∷ []) → IsSpelledBy first second (sign, 2)
two sign byte first second e is = let (f, s) = both_equal first byte second 62 e in inr (rw (f, s) is, refl, s)

sign_spelled : (first second : ℕ) → IsSpelled first second (sign_of first second)
sign_spelled first second =
    let P : Option (Sign × ℕ) → Type 0 = IsSpelled first second in
    pick _ _ _ P (λ e. two signs.Arrow 45 first second e refl) (λ _.
    pick _ _ _ P (λ e. two signs.NotEqual 60 first second e refl) (λ _.
    pick _ _ _ P (λ e. one signs.Dot 46 first second e refl) (λ _.
    pick _ _ _ P (λ e. one signs.Colon 58 first second e refl) (λ _.
    pick _ _ _ P (λ e. one signs.Comma 44 first second e refl) (λ _.
    pick _ _ _ P (λ e. one signs.Equal 61 first second e refl) (λ _.
    pick _ _ _ P (λ e. one signs.ParenLeft 40 first second e refl) (λ _.
    pick _ _ _ P (λ e. one signs.ParenRight 41 first second e refl) (λ _.
    pick _ _ _ P (λ e. one signs.Plus 43 first second e refl) (λ _.
    pick _ _ _ P (λ e. one signs.Minus 45 first second e refl) (λ _.
    pick _ _ _ P (λ e. one signs.Star 42 first second e refl) (λ _.
    pick _ _ _ P (λ e. one signs.Slash 47 first second e refl) (λ _.
    pick _ _ _ P (λ e. one signs.Caret 94 first second e refl) (λ _.
    tt)))))))))))))

minus_fits : (arrow : Bool) → (found : Sign × ℕ) × (cond arrow (Some (signs.Arrow, 2)) (Some (signs.Minus, 1))
    ≡ Some found) × (1 ≤ found.1)
minus_fits true = (_, refl, omega arith)
minus_fits false = (_, refl, omega arith)

-- a sign that begins a text is no longer than the one that its two bytes tell
sign_fits : (sign : Sign) (more : List ℕ)
    → (found : Sign × ℕ) × (sign_of (get_or (sign_spelling sign ++ more) 0 0) (get_or
    (sign_spelling sign ++ more) 1 0) ≡ Some found) × (length (sign_spelling sign) ≤ found.1)
sign_fits sign more = elim sign as (λ s. (found : Sign × ℕ) × (sign_of (get_or (sign_spelling s ++ more) 0 0)
    (get_or (sign_spelling s ++ more) 1 0) ≡ Some found) × (length (sign_spelling s) ≤ found.1)) [
      | signs.Minus ↦ minus_fits (get_or more 0 0 == 62)
      | _ ↦ (_, refl, omega arith)
    ]

same_sign : (p q : Sign × ℕ) → Some p ≡ Some q → p ≡ q
same_sign p q e = ap (λ r. unwrap_or r p) e

sign_longest : (text : List ℕ) (found : Sign × ℕ) → get_or text 0 0 ≡ get_or (sign_spelling found.0) 0 0
    → sign_of (get_or text 0 0) (get_or text 1 0) ≡ Some found → (other : Piece) (more : List ℕ)
    → BeginsWith other text more → length (bytes_of other) ≤ found.1
sign_longest text found first e (Blank bytes) more begins =
    let lead = leads (Blank bytes) text more begins in absurd (sign_is_high found.0 (omega (arith, lead.1, first)))
sign_longest text found first e (Lexeme kinds.Name bytes) more begins =
    let lead = leads (Lexeme kinds.Name bytes) text more begins in
    absurd (sign_is_no_letter found.0 (omega (arith, lead.1.0, first)) (λ caret. lead.1.1 (first ∙ caret)))
sign_longest text found first e (Lexeme (kinds.Word word) bytes) more begins =
    let lead = leads (Lexeme (kinds.Word word) bytes) text more begins in
    absurd (sign_is_no_letter found.0 (omega (arith, lead.1.0, first)) (λ caret. lead.1.1 (first ∙ caret)))
sign_longest text found first e (Lexeme (kinds.Number value) bytes) more begins =
    let lead = leads (Lexeme (kinds.Number value) bytes) text more begins in
    absurd (sign_is_no_digit found.0 (omega (arith, lead.1.0, first)) (omega (arith, lead.1.1, first)))
sign_longest text found first e (Lexeme (kinds.Sign other) bytes) more begins =
    let whole : text ≡ sign_spelling other ++ more = begins.1 ∙ ap (λ bs. bs ++ more) begins.0 in
    let (fits, told, long) = sign_fits other more in
    let same = same_sign fits found (sym told ∙ ap (λ bs. sign_of (get_or bs 0 0) (get_or bs 1 0)) (sym whole) ∙ e) in
    rw begins.0 (let P : Sign × ℕ → Type 0 = λ p. length (sign_spelling other) ≤ p.1 in subst P same long)
sign_longest text found first e (Lexeme kinds.End bytes) more begins = absurd begins.0

-- the sign stands at the front of the text, and no longer piece does
abbrev SignIsFirst : List ℕ → Sign × ℕ → Type 0
SignIsFirst text found = (0 < found.1) × (found.1 ≤ length text) × IsFirst (Lexeme (kinds.Sign found.0)
    (take found.1 text)) text (drop found.1 text)

sign_piece_ends : (text rest : List ℕ) (found : Sign × ℕ) → text ≡ sign_spelling found.0 ++ rest → found.1 ≡ length
    (sign_spelling found.0)
    → sign_of (get_or text 0 0) (get_or text 1 0) ≡ Some found → SignIsFirst text found
sign_piece_ends text rest found whole size e =
    let bytes = sign_spelling found.0 in
    let lead = leads (Lexeme (kinds.Sign found.0) bytes) text rest (refl, whole) in
    let taken : take found.1 text ≡ bytes = rw (size, whole) (take-append_seam bytes rest) in
    let long : length text ≡ length bytes + length rest = ap length whole ∙ length-append bytes rest in
    let some = sign_some found.0 in (
      omega arith,
      omega arith,
      record {
        begins = (taken, sym (take-append-drop found.1 text));
        longest = λ other more b. let short = sign_longest text found lead.1 e other more b in rw (taken, ← size) short;
      },
    )

-- the sign that two bytes tell is the first piece
pub sign_first : (text : List ℕ) (found : Sign × ℕ) → sign_of (get_or text 0 0) (get_or text 1 0) ≡ Some found
    → SignIsFirst text found
sign_first [] found e = cc
sign_first (a ∷ []) found e = elim (subst (IsSpelled a 0) e (sign_spelled a 0)) [
  | inl (is, n) ↦ sign_piece_ends (a ∷ []) [] found (ap (λ bs. bs ++ []) (sym is)) (n ∙ ap length (sym is)) e
  | inr (is, n, second) ↦ absurd (omega (arith, second))
]
sign_first (a ∷ b ∷ rest) found e = elim (subst (IsSpelled a b) e (sign_spelled a b)) [
  | inl (is, n) ↦ sign_piece_ends (a ∷ b ∷ rest) (b ∷ rest) found (ap (λ bs. bs ++ b ∷ rest) (sym is)) (n
      ∙ ap length (sym is)) e
  | inr (is, n, second) ↦ sign_piece_ends (a ∷ b ∷ rest) rest found (ap (λ bs. bs ++ rest) (sym is)) (n ∙ ap length
      (sym is)) e
]

-- where the two bytes tell no sign, none begins the text
pub sign_none : (text more : List ℕ) (sign : Sign) → text ≡ sign_spelling sign ++ more → sign_of
    (get_or text 0 0) (get_or text 1 0) ≡ None → ⊥
sign_none text more sign whole none =
    let (found, told, long) = sign_fits sign more in
    let there : Some found ≡ None = sym told ∙ ap (λ bs. sign_of (get_or bs 0 0) (get_or bs 1 0)) (sym whole) ∙ none in
    cc

sign_low : (sign : Sign) → get_or (sign_spelling sign) 0 0 < 128
sign_low sign = elim sign as (λ s. get_or (sign_spelling s) 0 0 < 128) [ signs.Dot ↦ omega arith | _ ↦ omega arith ]

-- the last byte of the sign is ASCII
pub sign_ascii : (text : List ℕ) (found : Sign × ℕ) → sign_of (get_or text 0 0) (get_or text 1 0) ≡ Some found
    → get_or text (found.1 - 1) 0 < 128
sign_ascii text found e = elim (subst (IsSpelled (get_or text 0 0) (get_or text 1 0)) e (sign_spelled
    (get_or text 0 0) (get_or text 1 0))) [
      | inl (is, n) ↦ let low = sign_low found.0 in let same = ap (λ bs. get_or bs 0 0) is in rw n (omega arith)
      | inr (is, n, second) ↦ rw n (omega (arith, second))
    ]
