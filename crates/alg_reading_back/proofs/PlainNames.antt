-- Names have no parentheses.
use Rattle.std.proofs.Common.{◌≡◌, ◌≤◌, ◌<◌, inl, inr, ℕ, true, false, List, [], ◌∷◌, suc, length, get_or, arith}
use Rattle.std.specs.Str.{NoCharPasses, NonePass}
use Rattle.std.proofs.lemmas.Bool.{cases_lt}
use Rattle.std.proofs.lemmas.Bool.Decides.{nat_tests}
use Rattle.std.proofs.lemmas.Str.{NoCharPasses-byte}
use Rattle.unicode_ident.proofs.IdentLemmas.{is_xid_start-ascii, is_xid_continue-ascii}
use Rattle.alg_terms.specs.Names.{starts_name, continues_name, AllContinue, IsSpelledAsName}
use Rattle.alg_reading_back.proofs.OpenBytes.{is_paren, NoParens}

-- bytes and characters that are no parentheses
high_byte : (c : ℕ) → 128 ≤ c → is_paren c ≡ false
high_byte c high = grind (arith, nat_tests)

start_char : (c : ℕ) → starts_name c ≡ true → is_paren c ≡ false
start_char c h = elim (cases_lt c 128) [
  | inl low ↦ let start = is_xid_start-ascii c low in grind (arith, nat_tests)
  | inr high ↦ high_byte c high
]

next_char : (c : ℕ) → continues_name c ≡ true → is_paren c ≡ false
next_char c h = elim (cases_lt c 128) [
  | inl low ↦ let next = is_xid_continue-ascii c low in grind (arith, nat_tests)
  | inr high ↦ high_byte c high
]

next_chars : (chars : List ℕ) → AllContinue chars → NonePass is_paren chars
next_chars [] all = tt
next_chars (c ∷ chars) all = (next_char c all.0, next_chars chars all.1)

-- byte by byte
by_places : (bytes : List ℕ) → ((k : ℕ) → k < length bytes → is_paren (get_or bytes k 0) ≡ false) → NoParens bytes
by_places [] h = tt
by_places (b ∷ bytes) h = (h 0 (omega arith), by_places bytes (λ k low. h (suc k) (omega arith)))

-- what is spelled as a name
pub spelled_plain : (bytes : List ℕ) → IsSpelledAsName bytes → NoParens bytes
spelled_plain bytes (c, chars, spelled, starts, all) =
    let none : NoCharPasses is_paren bytes = (c ∷ chars, spelled, (start_char c starts, next_chars chars all)) in
    by_places bytes (λ k low. elim (cases_lt (get_or bytes k 0) 128) [
      | inl small ↦ NoCharPasses-byte is_paren bytes k none low small
      | inr high ↦ high_byte (get_or bytes k 0) high
    ])
