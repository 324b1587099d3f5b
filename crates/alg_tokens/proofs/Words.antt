-- A text that is none of the words of its length is not reserved.
use Rattle.std.proofs.Common.{◌≡◌, ℕ, Bool, true, false, List, [], ◌∷◌, length, refl, ap, sym, ◌∙◌}
use Rattle.std.specs.Str.{bytes_eq}
use Rattle.std.specs.List.{list_any, filter}
use Rattle.std.proofs.lemmas.Slice.Eq.{bytes_eq-Decides}
use Rattle.std.proofs.lemmas.Map.Views.{any-filter_same}
use Rattle.alg_terms.specs.Names.{reserved_words, is_reserved}

-- the text is none of the words
abbrev pub IsNoneOf : List ℕ → List (List ℕ) → Type 0
IsNoneOf text [] = Unit {0}
IsNoneOf text (word ∷ words) = (text ≡ word → ⊥) × IsNoneOf text words

not_true : (b : Bool) → (b ≡ true → ⊥) → b ≡ false
not_true true no_way = absurd (no_way refl)
not_true false _ = refl

bytes_differ : (text word : List ℕ) → (text ≡ word → ⊥) → bytes_eq text word ≡ false
bytes_differ text word differ = not_true _ (λ e. differ ((bytes_eq-Decides text word).0 e))

none_found : (text : List ℕ) (words : List (List ℕ)) → IsNoneOf text words → list_any (bytes_eq text) words ≡ false
none_found text [] none = refl
none_found text (word ∷ words) none = rw (bytes_differ text word none.0) (none_found text words none.1)

-- the lengths that pass the test have to be looked at, and no others
pub of_lengths : (test : ℕ → Bool) (text : List ℕ) → test (length text) ≡ true → IsNoneOf text (filter
    (λ word. test (length word)) reserved_words) → is_reserved text ≡ false
of_lengths test text passes none =
    let same = any-filter_same (bytes_eq text) (λ word. test (length word)) true (λ word found. ap (λ w. test
    (length w)) (sym ((bytes_eq-Decides text word).0 found)) ∙ passes) reserved_words in
    sym same ∙ none_found text _ none
