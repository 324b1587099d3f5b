-- No piece is longer than the run of digits, the run of a name, or the sign that begins a text.
use Rattle.std.proofs.Common.{◌≡◌, ◌≢◌, ◌≤◌, ◌<◌, ℕ, suc, ◌+◌, Bool, true, false, not, cond, ◌||◌, ◌==◌, List, [], ◌∷◌, ◌++◌, length, get_or, take, drop, refl, ap, sym, ◌∙◌, subst, arith, append_assoc, take-append-drop, length-append, length-drop, lit<, ℤ, pos}
use Rattle.std.specs.Prelude.{encode_utf8, encode_utf8_all}
use Rattle.std.specs.Char.{IsAsciiDigit, is_ascii_digit}
use Rattle.std.specs.List.{AllByRecursion, prefix_len}
use Rattle.std.specs.Str.{NonePass}
use Rattle.std.proofs.lemmas.Bool.Decides.{nat_tests}
use Rattle.std.proofs.lemmas.List.{length-take-le}
use Rattle.std.proofs.lemmas.Str.{encode_same, length-encode, len_utf8_bounds}
use Rattle.unicode_ident.specs.Ident.{is_xid_start}
use Rattle.unicode_ident.proofs.IdentLemmas.{is_xid_start-is_xid_continue, is_xid_continue-ascii}
use Rattle.alg_terms.specs.Names.{starts_name, continues_name, AllContinue, IsSpelledAsName}
use Rattle.alg_tokens.specs.declared.token.TokenKind.TheVariants as kinds
use Rattle.alg_tokens.specs.Pieces.{Piece, Blank, Lexeme, bytes_of, BeginsWith, IsFirst, value_of}
use Rattle.alg_tokens.specs.Runs.{IsRun, BeginsChar}
use Rattle.alg_tokens.proofs.Leads.{leads, sign_is_no_digit}

-- ---- digits

digit_test : (b : ℕ) → is_ascii_digit b ≡ true → IsAsciiDigit b
digit_test b h = (grind (arith, nat_tests), grind (arith, nat_tests))

pub digit_passes : (b : ℕ) → IsAsciiDigit b → is_ascii_digit b ≡ true
digit_passes b h = let low = h.0 in let high = h.1 in grind (arith, nat_tests)

pub digits_within : (bytes more : List ℕ) → AllByRecursion IsAsciiDigit bytes
    → length bytes ≤ prefix_len is_ascii_digit (bytes ++ more)
digits_within [] more all = omega arith
digits_within (b ∷ bytes) more all =
    let rest = digits_within bytes more all.1 in
    rw (digit_passes b all.0) (omega arith)

pub run_of_digits : (text : List ℕ) → AllByRecursion IsAsciiDigit (take (prefix_len is_ascii_digit text) text)
run_of_digits [] = tt
run_of_digits (b ∷ text) = elim (is_ascii_digit b) as (λ v. is_ascii_digit b ≡ v → AllByRecursion IsAsciiDigit
    (take (cond v (1 + prefix_len is_ascii_digit text) 0) (b ∷ text))) [
      | true ↦ λ h. let next : 1 + prefix_len is_ascii_digit text ≡ suc (prefix_len is_ascii_digit text) =
          omega arith in rw next (digit_test b h, run_of_digits text)
      | false ↦ λ h. tt
    ] refl

number_longest : (text : List ℕ) → 48 ≤ get_or text 0 0 → get_or text 0 0 ≤ 57 → (other : Piece)
    (more : List ℕ) → BeginsWith other text more → length (bytes_of other) ≤ prefix_len is_ascii_digit text
number_longest text low high (Blank bytes) more begins = let lead = leads (Blank bytes) text more begins in
    absurd (omega arith)
number_longest text low high (Lexeme kinds.Name bytes) more begins = let lead = leads
    (Lexeme kinds.Name bytes) text more begins in absurd (omega arith)
number_longest text low high (Lexeme (kinds.Word word) bytes) more begins = let lead = leads (Lexeme
    (kinds.Word word) bytes) text more begins in absurd (omega arith)
number_longest text low high (Lexeme (kinds.Number value) bytes) more begins = rw begins.1
    (digits_within bytes more begins.0.0.1)
number_longest text low high (Lexeme (kinds.Sign sign) bytes) more begins =
    let lead = leads (Lexeme (kinds.Sign sign) bytes) text more begins in
    absurd (sign_is_no_digit sign (omega (arith, lead.1)) (omega (arith, lead.1)))
number_longest text low high (Lexeme kinds.End bytes) more begins = absurd begins.0

-- the run of digits is the first piece
pub number_first : (text : List ℕ) (n : ℕ) (value : ℤ) → n ≡ prefix_len is_ascii_digit text → 0 < n
    → n ≤ length text → value ≡ pos (value_of (take n text)) → IsFirst (Lexeme (kinds.Number value)
    (take n text)) text (drop n text)
number_first text n value run some within same =
    let long : length (take n text) ≡ n = length-take-le n text within in
    let nonempty : take n text ≢ [] = λ none. let zero = ap length none in omega arith in
    let digits : AllByRecursion IsAsciiDigit (take n text) = let P : ℕ → Type 0 =
    λ k. AllByRecursion IsAsciiDigit (take k text) in subst P (sym run) (run_of_digits text) in
    let begins : BeginsWith (Lexeme (kinds.Number value) (take n text)) text (drop n text) = (
      (
        (
          nonempty,
          digits,
        ),
        same,
      ),
      sym (take-append-drop n text),
    ) in
    let lead = leads (Lexeme (kinds.Number value) (take n text)) text (drop n text) begins in
    record {
      begins = begins;
      longest = λ other more b. let short = number_longest text lead.1.0 lead.1.1 other more b in omega arith;
    }

-- ---- names

pub starts_continues : (c : ℕ) → starts_name c ≡ true → continues_name c ≡ true
starts_continues c h =
    let next = is_xid_start-is_xid_continue c in
    let low = is_xid_continue-ascii 95 (lit< tt) in
    elim (c == 95) as (λ v. (c == 95) ≡ v → (v || is_xid_start c) ≡ true → continues_name c ≡ true) [
      | true ↦ λ e _. let same : c ≡ 95 = grind (arith, nat_tests) in rw same (grind (arith, nat_tests))
      | false ↦ λ e x. grind (arith, nat_tests, next x)
    ] refl h

pub none_pass : (chars : List ℕ) → AllContinue chars → NonePass (λ c. not (continues_name c)) chars
none_pass [] all = tt
none_pass (c ∷ chars) all = (ap not all.0, none_pass chars all.1)

not_false : (b : Bool) → not b ≡ false → b ≡ true
not_false true h = refl
not_false false h = cc

all_pass : (chars : List ℕ) → NonePass (λ c. not (continues_name c)) chars → AllContinue chars
all_pass [] none = tt
all_pass (c ∷ chars) none = (not_false _ none.0, all_pass chars none.1)

-- the first character of the run is the one that begins the text
spelled_front : (text : List ℕ) (n c : ℕ) (tail : List ℕ) → text ≡ encode_utf8 c ++ tail → starts_name c ≡ true
    → IsRun continues_name text n
    → (front : List ℕ) → encode_utf8_all front ≡ take n text → NonePass (λ c. not (continues_name c)) front
    → IsSpelledAsName (take n text)
spelled_front text n c tail split starts run [] e none =
    let empty : length (take n text) ≡ 0 = ap length (sym e) in
    let zero = length-take-le n text run.within in
    let long = ap length split ∙ length-append (encode_utf8 c) tail in
    let (d, rest, stop, fails) = run.stops (omega (arith, long, length-encode c, (len_utf8_bounds c).0)) in
    let whole : encode_utf8 c ++ tail ≡ encode_utf8 d ++ rest = sym split ∙ sym (take-append-drop n text) ∙ ap
    (λ bs. bs ++ drop n text) (sym e) ∙ stop in
    let same = encode_same c d tail rest whole in
    let passes = starts_continues c starts in
    absurd (let k = ap continues_name same.0 in cc)
spelled_front text n c tail split starts run (d ∷ front) e none =
    let whole : encode_utf8 c ++ tail ≡ encode_utf8 d ++ (encode_utf8_all front ++ drop n text) = sym split
    ∙ sym (take-append-drop n text) ∙ ap (λ bs. bs ++ drop n text) (sym e) ∙ append_assoc (encode_utf8 d)
    (encode_utf8_all front) (drop n text) in
    let same = encode_same c d tail (encode_utf8_all front ++ drop n text) whole in
    (d, front, e, (let P : ℕ → Type 0 = λ x. starts_name x ≡ true in subst P same.0 starts), all_pass front none.1)

-- characters that go on with a name and begin the text are within the run of such characters
chars_within : (chars run more rest : List ℕ) → encode_utf8_all run ++ rest ≡ encode_utf8_all chars ++ more
    → AllContinue chars → (0 < length rest → BeginsChar continues_name false rest) → length
    (encode_utf8_all chars) ≤ length (encode_utf8_all run)
chars_within [] run more rest e all stops = omega arith
chars_within (d ∷ chars) [] more rest e all stops =
    let whole : rest ≡ encode_utf8 d ++ (encode_utf8_all chars ++ more) = e ∙ append_assoc (encode_utf8 d)
    (encode_utf8_all chars) more in
    let long = ap length whole ∙ length-append (encode_utf8 d) (encode_utf8_all chars ++ more) in
    let some : 0 < length rest = omega (arith, long, length-encode d, (len_utf8_bounds d).0) in
    let (c, tail, split, fails) = stops some in
    let same = encode_same c d tail (encode_utf8_all chars ++ more) (sym split ∙ whole) in
    let passes = all.0 in
    absurd (let k = ap continues_name same.0 in cc)
chars_within (d ∷ chars) (b ∷ run) more rest e all stops =
    let same = encode_same b d (encode_utf8_all run ++ rest) (encode_utf8_all chars ++ more)
    (sym (append_assoc (encode_utf8 b) (encode_utf8_all run) rest) ∙ e ∙ append_assoc (encode_utf8 d)
    (encode_utf8_all chars) more) in
    let less = chars_within chars run more rest same.1 all.1 stops in
    let heads = ap (λ x. length (encode_utf8 x)) same.0 in
    simp length-append (omega arith)

-- what stands at the place n of a text
after_run : (text : List ℕ) (n : ℕ) → IsRun continues_name text n → 0 < length (drop n text)
    → BeginsChar continues_name false (drop n text)
after_run text n run some = run.stops (omega (arith, length-drop n text))

pub spelled_within : (text bytes more : List ℕ) (n : ℕ) → IsSpelledAsName bytes → text ≡ bytes ++ more
    → IsRun continues_name text n → length bytes ≤ n
spelled_within text bytes more n (c, chars, spelled, starts, all) e run =
    let front = run.front in
    let whole : encode_utf8_all front.0 ++ drop n text ≡ encode_utf8_all (c ∷ chars) ++ more = rw (
      front.1,
      spelled,
    ) (take-append-drop n text ∙ e) in
    let less = chars_within (c ∷ chars) front.0 more (drop n text) whole (starts_continues c starts, all)
    (after_run text n run) in
    let long = ap length spelled in
    let short = ap length front.1 ∙ length-take-le n text run.within in
    omega arith

-- the run of a name is spelled as a name
pub run_spelled : (text : List ℕ) (n : ℕ) → BeginsChar starts_name true text → IsRun continues_name text n
    → IsSpelledAsName (take n text)
run_spelled text n (c, tail, split, starts) run = spelled_front text n c tail split starts run run.front.0
    run.front.1 run.front.2
