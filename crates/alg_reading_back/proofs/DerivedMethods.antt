-- The grammar derives the canonical text of each method, as the raw method that it is.
use Rattle.std.proofs.Common.{◌≡◌, ℕ, ◌+◌, List, [], ◌∷◌, ◌++◌, Some, pos, length, decimal, refl, sym, ap, ◌∙◌, subst, arith}
use Rattle.alg_terms.specs.declared.file.File.{File}
use Rattle.alg_terms.specs.declared.goals.Method.{Method}
use Rattle.alg_terms.specs.declared.goals.Method.TheVariants.{ByRing, ByField, ByNsatz}
use Rattle.alg_terms.specs.declared.goals.Use.{Use}
use Rattle.alg_tokens.specs.declared.token.Sign.TheVariants as signs
use Rattle.alg_tokens.specs.declared.token.TokenKind.TheVariants as kinds
use Rattle.alg_tokens.specs.declared.token.Word.{Word}
use Rattle.alg_tokens.specs.declared.token.Word.TheVariants as words
use Rattle.alg_tokens.specs.Spelling.{spelling}
use Rattle.alg_tokens.specs.Laws.{width, tokens_of}
use Rattle.alg_reader.specs.declared.raw.RawMethod.TheVariants as methods
use Rattle.alg_reader.specs.Forms as rules
use Rattle.alg_reader.specs.Forms.{Form, seq, many, rule}
use Rattle.alg_reader.specs.Grammar as forms
use Rattle.alg_reader.specs.Grammar.{grammar, number, option, using, inside}
use Rattle.alg_reader.specs.TermMeaning.{Value, one, two, nothing, used, method}
use Rattle.alg_reader.specs.PartMeaning.{uses_after, uses_of}
use Rattle.alg_reader.specs.Meaning.{act}
use Rattle.alg_printer.specs.Names.{hom_name}
use Rattle.alg_reading_back.proofs.WrittenTerms.{space, sign, word, numeral}
use Rattle.alg_reading_back.proofs.WrittenMethods.{hyp_name, path_pieces, path_raw, use_pieces, use_raw, later_uses, uses_pieces, uses_raw, option_pieces, method_pieces, method_raw}
use Rattle.alg_reading_back.proofs.ReadAt.{tokens_append, numeral_tree}
use Rattle.alg_reading_back.proofs.DerivedTerms.{sign_at}
use Rattle.alg_reading_back.proofs.DerivedStatements.{word_at, name_at}
use Rattle.alg_reading_back.proofs.DerivedForms.{IsDerived, token_at, one_token, first_way, other_way, given, left_out, no_more, once_more, by_rule, token_before, pieces_before, spaced_before}

-- ---- uses

-- a name under a path of morphisms
path_derived : (file : File) (path bytes : List ℕ) (at : ℕ) →
    IsDerived (rule rules.Use) (tokens_of at (path_pieces file path bytes)) (used (path_raw file at path bytes))
unfolding grammar act
path_derived file [] bytes at =
    by_rule rules.Use (name_at bytes at ∷ []) _ (token_before kinds.Name (name_at bytes at) _ [] nothing refl
    (left_out (inside (rule rules.Use))))
path_derived file (f ∷ path) bytes at =
    let start = at + length (hom_name file f) in
    let inner = path_pieces file path bytes in
    let close = one_token (kinds.Sign signs.ParenRight) (sign_at signs.ParenRight (start + 1 + width inner)) refl in
    let closed = pieces_before (rule rules.Use) (forms.sign signs.ParenRight) inner (sign signs.ParenRight ∷ [])
    (start + 1) (start + 1 + width inner) _ _ refl (path_derived file path bytes (start + 1)) close in
    let opened = token_before (kinds.Sign signs.ParenLeft) (sign_at signs.ParenLeft start) _
    (tokens_of (start + 1) (inner ++ (sign signs.ParenRight ∷ []))) _ refl closed in
    by_rule rules.Use (tokens_of at (path_pieces file (f ∷ path) bytes)) _
    (token_before kinds.Name (name_at (hom_name file f) at) _ _ _ refl (given (inside (rule rules.Use)) _ _ opened))

-- a use
use_derived : (file : File) (u : Use) (at : ℕ) →
    IsDerived (rule rules.Use) (tokens_of at (use_pieces file u)) (used (use_raw file at u))
use_derived file u at = path_derived file u.path (hyp_name file u.hyp) at

-- one more use
abbrev next_use : Form
next_use = seq (forms.sign signs.Comma) (rule rules.Use)

-- the uses behind a first one
later_derived : (file : File) (uses : List Use) (at : ℕ) → (x : Value) ×
    IsDerived (many next_use) (tokens_of at (later_uses file uses)) x × (uses_after x ≡ uses_raw file (at + 2) uses)
unfolding uses_after
later_derived file [] at = (nothing, no_more next_use, refl)
later_derived file (u ∷ uses) at =
    let first = at + 1 + 1 in
    let pieces = use_pieces file u in
    let behind = first + width pieces in
    let comma = sign_at signs.Comma at in
    let (x, derived, means) = later_derived file uses behind in
    let next = token_before (kinds.Sign signs.Comma) comma (rule rules.Use) (tokens_of first pieces) _ refl
    (use_derived file u first) in (
      two (two (one comma) (used (use_raw file first u))) x,
      subst (λ ts. IsDerived (many next_use) (comma ∷ ts) (two (two (one comma) (used (use_raw file first u))) x))
          (sym (tokens_append first pieces (later_uses file uses)))
          (once_more next_use (comma ∷ tokens_of first pieces) (tokens_of behind (later_uses file uses)) _ x next
          derived),
      ap (λ rest. use_raw file first u ∷ rest) means
          ∙ ap (λ n. use_raw file n u ∷ uses_raw file (n + width pieces + 2) uses) (omega arith),
    )

-- the uses of a goal
uses_derived : (file : File) (uses : List Use) (at : ℕ) → (x : Value) ×
    IsDerived using (tokens_of at (uses_pieces file uses)) x × (uses_of x ≡ uses_raw file (at + 7) uses)
uses_derived file [] at = (nothing, left_out _, refl)
uses_derived file (u ∷ uses) at =
    let first = at + 7 in
    let pieces = use_pieces file u in
    let behind = first + width pieces in
    let first_is : first ≡ at + 1 + 5 + 1 = omega arith in
    let (x, derived, means) = later_derived file uses behind in
    let all = pieces_before (rule rules.Use) (many next_use) pieces (later_uses file uses) first behind
    (used (use_raw file first u)) x refl (use_derived file u first) derived in
    let word_is = one_token (kinds.Word words.Using) (word_at words.Using (at + 1)) refl in (
      two (one (word_at words.Using (at + 1))) (two (used (use_raw file first u)) x),
      given _ _ _ (spaced_before (forms.word words.Using) _ (kinds.Word words.Using) (spelling words.Using)
          (pieces ++ later_uses file uses) at (at + 1) first _ refl first_is word_is all),
      ap (λ rest. use_raw file first u ∷ rest) means,
    )

-- ---- options

-- a numeral
numeral_derived : (n at : ℕ) → let t = token_at (kinds.Number (pos n)) (decimal n) at in
    IsDerived number (t ∷ []) (one t)
numeral_derived n at =
    let (v, fits, spells, means) = numeral_tree (pos n) at (at + length (decimal n)) in
    record { tree = v; fits = fits; spells = spells; means = means }

-- the word of an option and its numeral
option_derived : (w : Word) (n at place there : ℕ) → place ≡ at + 1 → there ≡ place + length (spelling w) + 1 →
    IsDerived (option (kinds.Word w)) (tokens_of at (space ∷ word w ∷ space ∷ numeral n ∷ []))
    (two (one (word_at w place)) (one (token_at (kinds.Number (pos n)) (decimal n) there)))
option_derived w n at place there place_is there_is =
    given (seq (forms.word w) number) _ _ (spaced_before (forms.word w) number (kinds.Word w) (spelling w)
    (numeral n ∷ []) at place there _ place_is there_is (one_token (kinds.Word w) (word_at w place) refl)
    (numeral_derived n there))

-- ---- methods

-- nsatz with its options, by the places of these
nsatz_derived : (file : File) (uses : List Use) (power limit at power_at limit_at : ℕ) →
    power_at ≡ at + 5 + width (uses_pieces file uses) + 7 → limit_at ≡ power_at + length (decimal power) + 7 →
    IsDerived (rule rules.Method) (tokens_of at (method_pieces file (ByNsatz uses power limit)))
    (method (methods.Nsatz (uses_raw file (at + 5 + 7) uses) (Some (record { value = pos power; at = power_at }))
    (Some (record { value = pos limit; at = limit_at }))) at)
unfolding grammar act
nsatz_derived file uses power limit at power_at limit_at power_is limit_is =
    let behind = at + 5 in
    let first_option = behind + width (uses_pieces file uses) in
    let second_option = power_at + length (decimal power) in
    let (x, derived, means) = uses_derived file uses behind in
    let second = option_derived words.Limit limit second_option (second_option + 1) limit_at refl (omega arith) in
    let first = option_derived words.Power power first_option (first_option + 1) power_at refl (omega arith) in
    let both_options = pieces_before (option (kinds.Word words.Power)) (option (kinds.Word words.Limit))
    (space ∷ word words.Power ∷ space ∷ numeral power ∷ []) (space ∷ word words.Limit ∷ space ∷ numeral limit ∷ [])
    first_option second_option _ _ (omega arith) first second in
    let all = pieces_before using (seq (option (kinds.Word words.Power)) (option (kinds.Word words.Limit)))
    (uses_pieces file uses)
    (option_pieces power limit) behind first_option x _ refl derived both_options in
    let whole = by_rule rules.Method (tokens_of at (method_pieces file (ByNsatz uses power limit))) _
    (first_way _ _ _ _ (token_before (kinds.Word words.Nsatz) (word_at words.Nsatz at) _ _ _ refl all)) in
    subst (λ us. IsDerived (rule rules.Method) (tokens_of at (method_pieces file (ByNsatz uses power limit)))
    (method (methods.Nsatz us (Some (record { value = pos power; at = power_at }))
    (Some (record { value = pos limit; at = limit_at }))) at)) means whole

-- each method
pub method_derived : (file : File) (m : Method) (at : ℕ) →
    IsDerived (rule rules.Method) (tokens_of at (method_pieces file m)) (method (method_raw file at m) at)
unfolding grammar act
method_derived file ByRing at =
    by_rule rules.Method (word_at words.Ring at ∷ []) _ (other_way _ _ _ _ (first_way _ _ _ _
    (one_token (kinds.Word words.Ring) (word_at words.Ring at) refl)))
method_derived file ByField at =
    by_rule rules.Method (word_at words.Field at ∷ []) _ (other_way _ _ _ _ (other_way _ _ _ _
    (one_token (kinds.Word words.Field) (word_at words.Field at) refl)))
method_derived file (ByNsatz uses power limit) at =
    nsatz_derived file uses power limit at _ _ refl refl
