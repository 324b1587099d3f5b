-- Names: how they are spelled, and the words that are reserved. A text is the list of its UTF-8 bytes.
use Rattle.std.specs.Prelude.{◌≡◌, ℕ, Bool, true, false, ◌||◌, ◌==◌, List, [], ◌∷◌, bytes_eq, codes, encode_utf8_all}
use Rattle.std.specs.List.{list_any}
use Rattle.alg_terms.specs.Ascii.{APOSTROPHE, UNDERSCORE}
use Rattle.unicode_ident.specs.Ident.{is_xid_start, is_xid_continue}

-- the character may begin a name: `_`, or one that may begin an identifier by Unicode
abbrev pub starts_name : ℕ → Bool
starts_name c = (c == UNDERSCORE) || is_xid_start c

-- the character may go on with a name: `'`, or one that may go on with an identifier by Unicode
abbrev pub continues_name : ℕ → Bool
continues_name c = (c == APOSTROPHE) || is_xid_continue c

-- each character may go on with a name
abbrev pub AllContinue : List ℕ → Type 0
AllContinue [] = Unit {0}
AllContinue (c ∷ chars) = (continues_name c ≡ true) × AllContinue chars

-- the bytes are a character that may begin a name, and characters that may go on with one
abbrev pub IsSpelledAsName : List ℕ → Type 0
IsSpelledAsName bytes =
    (c : ℕ) × (chars : List ℕ) × (encode_utf8_all (c ∷ chars) ≡ bytes) × (starts_name c ≡ true) × AllContinue chars

-- the words that can't be names
unfoldable pub reserved_words : List (List ℕ)
reserved_words =
    codes "additive" ∷ codes "after" ∷ codes "and" ∷ codes "at" ∷ codes "atoms" ∷ codes "by" ∷ codes "char"
    ∷ codes "degree" ∷ codes "denominator" ∷ codes "domain" ∷ codes "field" ∷ codes "gave" ∷ codes "goal"
    ∷ codes "hom" ∷ codes "hyp" ∷ codes "if" ∷ codes "limit" ∷ codes "line" ∷ codes "minus" ∷ codes "no"
    ∷ codes "none" ∷ codes "nsatz" ∷ codes "over" ∷ codes "power" ∷ codes "proved" ∷ codes "range"
    ∷ codes "ring" ∷ codes "semiring" ∷ codes "step" ∷ codes "to" ∷ codes "up" ∷ codes "using" ∷ codes "var"
    ∷ codes "version" ∷ codes "zero" ∷ []

-- the bytes are one of these words
abbrev pub is_reserved : List ℕ → Bool
is_reserved bytes = list_any (bytes_eq bytes) reserved_words

-- the bytes are a name: spelled as one, and not reserved
abbrev pub IsName : List ℕ → Type 0
IsName bytes = IsSpelledAsName bytes × (is_reserved bytes ≡ false)
