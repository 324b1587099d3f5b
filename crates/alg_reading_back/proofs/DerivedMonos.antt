-- The grammar derives the canonical text of monomials and integers, as what they say.
use Rattle.std.proofs.Common.{◌≡◌, ℕ, ◌+◌, List, [], ◌∷◌, ◌++◌, true, false, cond, nat_lt, Some, None, pos, negsuc, suc, ℤ, length, decimal, refl, subst}
use Rattle.std.specs.Fmt.{signed_decimal}
use Rattle.alg_mono.specs.Mono.{Monomial}
use Rattle.alg_terms.specs.declared.file.File.{File}
use Rattle.alg_terms.specs.declared.term.Atom.{Atom}
use Rattle.alg_tokens.specs.declared.token.Sign.TheVariants as signs
use Rattle.alg_tokens.specs.declared.token.TokenKind.TheVariants as kinds
use Rattle.alg_tokens.specs.Laws.{width, tokens_of}
use Rattle.alg_reader.specs.AnswerMeaning.{factor_in}
use Rattle.alg_reader.specs.Forms as rules
use Rattle.alg_reader.specs.Forms.{rule}
use Rattle.alg_reader.specs.Grammar as forms
use Rattle.alg_reader.specs.Grammar.{grammar, number, option, inside}
use Rattle.alg_reader.specs.Meaning.{act}
use Rattle.alg_reader.specs.PartMeaning.{option_of}
use Rattle.alg_reader.specs.RawMonos.{mono_of, raised_factor, start_of}
use Rattle.alg_reader.specs.TermMeaning.{Value, one, two, nothing, factor, mono, int}
use Rattle.alg_printer.specs.Monomials.{atom_at}
use Rattle.alg_printer.specs.Names.{var_name, hom_name}
use Rattle.alg_reading_back.proofs.DerivedForms.{IsDerived, token_at, one_token, first_way, other_way, given, left_out, by_rule, token_before, pieces_before}
use Rattle.alg_reading_back.proofs.DerivedLists.{list_derived}
use Rattle.alg_reading_back.proofs.DerivedStatements.{name_at}
use Rattle.alg_reading_back.proofs.DerivedTerms.{sign_at}
use Rattle.alg_reading_back.proofs.ReadAt.{numeral_tree}
use Rattle.alg_reading_back.proofs.WrittenLists.{star}
use Rattle.alg_reading_back.proofs.WrittenMethods.{path_pieces}
use Rattle.alg_reading_back.proofs.WrittenMonos.{atom_raw, exponent_pieces, exponent_raw, atom_pieces, written_factor, written_factors, written_mono, written_integer}
use Rattle.alg_reading_back.proofs.WrittenTerms.{sign, numeral}

-- ---- numbers

-- a numeral
pub number_derived : (n : ℤ) (at : ℕ) → let t = token_at (kinds.Number n) (signed_decimal n) at in
    IsDerived number (t ∷ []) (one t)
number_derived n at =
    let (v, fits, spells, means) = numeral_tree n at (at + length (signed_decimal n)) in
    record { tree = v; fits = fits; spells = spells; means = means }

pub integer_derived : (b : ℤ) (at : ℕ) →
    IsDerived (rule rules.Int) (tokens_of at (written_integer b).pieces) (int ((written_integer b).raw at))
unfolding grammar act
integer_derived (pos n) at =
    by_rule rules.Int (tokens_of at (written_integer (pos n)).pieces) _ (other_way _ _ _ _ (number_derived (pos n) at))
integer_derived (negsuc n) at =
    by_rule rules.Int (tokens_of at (written_integer (negsuc n)).pieces) _ (first_way _ _ _ _
    (token_before (kinds.Sign signs.Minus) (sign_at signs.Minus at) number _ _ refl
    (number_derived (pos (suc n)) (at + 1))))

-- ---- monomials

-- a name under a path of morphisms
atom_derived : (file : File) (path bytes : List ℕ) (at : ℕ) →
    IsDerived (rule rules.Atom) (tokens_of at (path_pieces file path bytes)) (factor (atom_raw file at path bytes))
unfolding grammar act
atom_derived file [] bytes at =
    by_rule rules.Atom (name_at bytes at ∷ []) _ (token_before kinds.Name (name_at bytes at) _ [] nothing refl
    (left_out (inside (rule rules.Atom))))
atom_derived file (f ∷ path) bytes at =
    let start = at + length (hom_name file f) in
    let inner = path_pieces file path bytes in
    let close = one_token (kinds.Sign signs.ParenRight) (sign_at signs.ParenRight (start + 1 + width inner)) refl in
    let closed = pieces_before (rule rules.Atom) (forms.sign signs.ParenRight) inner (sign signs.ParenRight ∷ [])
    (start + 1) (start + 1 + width inner) _ _ refl (atom_derived file path bytes (start + 1)) close in
    let opened = token_before (kinds.Sign signs.ParenLeft) (sign_at signs.ParenLeft start) _
    (tokens_of (start + 1) (inner ++ (sign signs.ParenRight ∷ []))) _ refl closed in
    by_rule rules.Atom (tokens_of at (path_pieces file (f ∷ path) bytes)) _
    (token_before kinds.Name (name_at (hom_name file f) at) _ _ _ refl (given (inside (rule rules.Atom)) _ _ opened))

-- an exponent, if it is written
exponent_derived : (n at : ℕ) → (v : Value) ×
    IsDerived (option (kinds.Sign signs.Caret)) (tokens_of at (exponent_pieces n)) v × (option_of v ≡ exponent_raw at n)
exponent_derived n at =
    elim (nat_lt 1 n) as (λ b. (v : Value) × IsDerived (option (kinds.Sign signs.Caret)) (tokens_of at
    (cond b (sign signs.Caret ∷ numeral n ∷ []) [])) v ×
    (option_of v ≡ cond b (Some (record { value = pos n; at = at + 1 })) None)) [
      | true ↦ (
        two (one (sign_at signs.Caret at)) (one (token_at (kinds.Number (pos n)) (decimal n) (at + 1))),
        given _ _ _ (token_before (kinds.Sign signs.Caret) (sign_at signs.Caret at) number _ _ refl
            (number_derived (pos n) (at + 1))),
        refl,
      )
      | false ↦ (nothing, left_out _, refl)
    ]

factor_derived : (file : File) (atoms : List Atom) (e : ℕ × ℕ) (at : ℕ) → IsDerived (rule rules.Factor)
    (tokens_of at (written_factor file atoms e).pieces) (factor ((written_factor file atoms e).raw at))
unfolding grammar act
factor_derived file atoms e at =
    let atom = atom_at atoms e.0 in
    let pieces = atom_pieces file atom in
    let there = at + width pieces in
    let f = atom_raw file at atom.path (var_name file atom.var) in
    let (v, exponent, says) = exponent_derived e.1 there in
    let whole = by_rule rules.Factor (tokens_of at (written_factor file atoms e).pieces) _
    (pieces_before (rule rules.Atom) (option (kinds.Sign signs.Caret)) pieces (exponent_pieces e.1) at there
    (factor f) v
    refl (atom_derived file atom.path (var_name file atom.var) at) exponent) in
    subst (λ n. IsDerived (rule rules.Factor) (tokens_of at (written_factor file atoms e).pieces)
    (factor (raised_factor f n))) says whole

pub factors_derived : (file : File) (atoms : List Atom) (e : ℕ × ℕ) (m : Monomial) (at : ℕ) →
    IsDerived (rule rules.Factors) (tokens_of at (written_factors file atoms e m).pieces)
    (mono ((written_factors file atoms e m).raw at))
unfolding grammar act
factors_derived file atoms e m at =
    let write = written_factor file atoms in
    let f = (write e).raw at in
    let (v, all, says) = list_derived write star rules.Factor factor_in (λ x at. factor ((write x).raw at))
    (λ x at. refl) (factor_derived file atoms) e m at in
    let whole = by_rule rules.Factors (tokens_of at (written_factors file atoms e m).pieces) _ all in
    subst (λ fs. IsDerived (rule rules.Factors) (tokens_of at (written_factors file atoms e m).pieces)
    (mono (mono_of (start_of f) (f ∷ fs)))) says whole

pub mono_derived : (file : File) (atoms : List Atom) (m : Monomial) (at : ℕ) →
    IsDerived (rule rules.Mono) (tokens_of at (written_mono file atoms m).pieces)
    (mono ((written_mono file atoms m).raw at))
unfolding grammar act
mono_derived file atoms [] at =
    by_rule rules.Mono (tokens_of at (written_mono file atoms []).pieces) _ (first_way _ _ _ _
    (one_token (kinds.Number (pos 1)) (token_at (kinds.Number (pos 1)) (decimal 1) at) refl))
mono_derived file atoms (e ∷ m) at =
    by_rule rules.Mono (tokens_of at (written_mono file atoms (e ∷ m)).pieces) _ (other_way _ _ _ _
    (factors_derived file atoms e m at))
