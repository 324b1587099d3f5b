-- A number in decimal is a numeral of its value.
use Rattle.std.proofs.Common.{◌≡◌, ◌≢◌, ◌≤◌, ◌<◌, ℕ, suc, ◌+◌, ◌-◌, ◌*◌, ◌^◌, ◌/◌, ◌%◌, List, [], ◌∷◌, ◌++◌, length, decimal, refl, ap, sym, ◌∙◌, arith, length-append}
use Rattle.std.specs.Char.{IsAsciiDigit}
use Rattle.std.specs.List.{AllByRecursion}
use Rattle.std.proofs.Math.Nat.{pow-suc}
use Rattle.std.proofs.lemmas.Fmt.{decimal_by_steps_wide}
use Rattle.alg_tokens.specs.Pieces.{IsNumeral, value_of}

-- one more digit makes the value ten times as great, and adds the digit
scaled : (d p q v w : ℕ) → q ≡ p * 10 → w ≡ v * 10 → d * q + w ≡ (d * p + v) * 10
scaled d p q v w e f = rw (e, f) (omega arith)

added : (a b c d : ℕ) → a + b ≡ c → a + (b + d) ≡ c + d
added a b c d e = omega arith

power_more : (digits : List ℕ) (digit : ℕ) → 10 ^ length (digits ++ digit ∷ []) ≡ 10 ^ length digits * 10
power_more digits digit =
    let long : length (digits ++ digit ∷ []) ≡ suc (length digits) = length-append digits (digit ∷ []) ∙ omega arith in
    ap (λ n. 10 ^ n) long ∙ pow-suc 10 (length digits)

value_more : (digits : List ℕ) (digit : ℕ) → value_of (digits ++ digit ∷ []) ≡ value_of digits * 10 + (digit - 48)
value_more [] digit = omega arith
value_more (d ∷ digits) digit =
    ap (λ v. (d - 48) * 10 ^ length (digits ++ digit ∷ []) + v) (value_more digits digit)
    ∙ added ((d - 48) * 10 ^ length (digits ++ digit ∷ [])) (value_of digits * 10)
    (((d - 48) * 10 ^ length digits + value_of digits) * 10) (digit - 48)
    (scaled (d - 48) (10 ^ length digits) (10 ^ length (digits ++ digit ∷ [])) (value_of digits)
    (value_of digits * 10) (power_more digits digit) refl)

digits_more : (digits : List ℕ) (digit : ℕ) → AllByRecursion IsAsciiDigit digits → IsAsciiDigit digit →
    AllByRecursion IsAsciiDigit (digits ++ digit ∷ [])
digits_more [] digit all last = (last, tt)
digits_more (d ∷ digits) digit all last = (all.0, digits_more digits digit all.1 last)

-- the bytes are a numeral of this value
abbrev IsNumeralOf : ℕ → List ℕ → Type 0
IsNumeralOf n bytes = IsNumeral bytes × (value_of bytes ≡ n)

one_digit : (n : ℕ) → n < 10 → IsNumeralOf n ((48 + n) ∷ [])
one_digit n low = (((λ none. cc), ((omega arith, omega arith), tt)), omega arith)

some_more : (digits : List ℕ) (digit : ℕ) → digits ++ digit ∷ [] ≢ []
some_more digits digit none = let long = sym (length-append digits (digit ∷ [])) ∙ ap length none in omega arith

more_digits : (n : ℕ) (bytes : List ℕ) → 10 ≤ n → IsNumeralOf (n / 10) bytes →
    IsNumeralOf n (bytes ++ ((48 + n % 10) ∷ []))
more_digits n bytes high ((some, all), value) = (
  (some_more bytes (48 + n % 10), digits_more bytes (48 + n % 10) all (omega arith, omega arith)),
  value_more bytes (48 + n % 10) ∙ ap (λ v. v * 10 + (48 + n % 10 - 48)) value ∙ omega arith,
)

-- a number in decimal is a numeral of its value
pub decimal_numeral : (n : ℕ) → n < 10 ^ 64 → IsNumeral (decimal n) × (value_of (decimal n) ≡ n)
decimal_numeral n small = decimal_by_steps_wide IsNumeralOf one_digit more_digits n small
