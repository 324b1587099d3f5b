-- The words that are numbers, and how many goals they ask for.
use Rattle.std.proofs.Common.{◌≡◌, ◌≢◌, ◌≤◌, ◌<◌, ℕ, Bool, true, false, not, List, [], ◌∷◌, length, Some, None, refl, sym, ap, ◌∙◌, subst, arith}
use Rattle.std.specs.Prelude.{◌&&◌, ◌||◌, ◌==◌, nat_le, slice_index_or, if◌then◌else◌}
use Rattle.std.specs.Str.{all_ascii_digits}
use Rattle.std.proofs.lemmas.Bool.{le-leb, lt-leb}
use Rattle.std.proofs.lemmas.Bool.Decides.{nat_tests}
use Rattle.std.proofs.lemmas.Str.Parse.{IsNumeralModel, numerals_by_weight, tells_all_ascii_digits}
use Rattle.alg_load.specs.Limits.{MAX_LOAD}
use Rattle.alg_terms.specs.Ascii.{DIGIT_0}
use Rattle.alg_tokens.specs.Pieces.{value_of}
use Rattle.alg_cli.specs.Commands.{is_number, goals_of}

-- digits of which the first is not 0 are a number
pub first_is_not_zero : (word : List ℕ) → 1 ≤ length word → all_ascii_digits word ≡ true →
    slice_index_or word 0 0 ≢ DIGIT_0 → not (slice_index_or word 0 0 == DIGIT_0) ≡ is_number word
first_is_not_zero [] some all first = absurd (omega arith)
first_is_not_zero (digit ∷ digits) some all first =
    let other : (digit == DIGIT_0) ≡ false = grind (arith, nat_tests) in
    ap not other
    ∙ sym (ap (λ b. b && (not (digit == DIGIT_0) || length digits == 0)) all
    ∙ ap (λ b. not b || length digits == 0) other)

-- where not all are digits, the word is none
pub not_all_digits : (word : List ℕ) → 1 ≤ length word → all_ascii_digits word ≡ false → false ≡ is_number word
not_all_digits [] some all = absurd (omega arith)
not_all_digits (digit ∷ digits) some all =
    sym (ap (λ b. b && (not (digit == DIGIT_0) || length digits == 0)) all)

front : (a b : Bool) → (a && b) ≡ true → a ≡ true
front true b h = refl
front false b h = absurd (cc)

-- a number is made of digits
pub digits_of : (word : List ℕ) → is_number word ≡ true → all_ascii_digits word ≡ true
digits_of [] number = absurd (cc)
digits_of (digit ∷ digits) number =
    front (all_ascii_digits (digit ∷ digits)) (not (digit == DIGIT_0) || length digits == 0) number

-- at least of one
pub some_of : (word : List ℕ) → is_number word ≡ true → 0 < length word
some_of [] number = absurd (cc)
some_of (digit ∷ digits) number = omega arith

-- what parses digits gives their value
pub numerals : IsNumeralModel (λ digits. all_ascii_digits digits ≡ true) value_of
numerals =
    numerals_by_weight _ tells_all_ascii_digits value_of (record { empty = refl; more = λ digit digits is. refl })

module _ (word : List ℕ) (number : is_number word ≡ true) where
  tested : (b : Bool) → nat_le (value_of word) MAX_LOAD ≡ b →
      goals_of word ≡ (if b then Some (value_of word) else None)
  tested b is =
      ap (λ a. if a && nat_le (value_of word) MAX_LOAD then Some (value_of word) else None) number
      ∙ ap (λ a. if a then Some (value_of word) else None) is

  -- a number that is not too great asks for so many goals
  pub asks_for : (goals : ℕ) → goals ≡ value_of word → goals ≤ MAX_LOAD → Some goals ≡ goals_of word
  asks_for goals is low =
      ap Some is ∙ sym (tested true (le-leb (value_of word) MAX_LOAD (subst (λ n. n ≤ MAX_LOAD) is low)))

  -- a greater one for none
  pub asks_for_none : MAX_LOAD < value_of word → None ≡ goals_of word
  asks_for_none great = sym (tested false (lt-leb (value_of word) MAX_LOAD great))
