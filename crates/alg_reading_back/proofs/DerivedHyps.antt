-- The grammar derives the canonical text of each hypothesis, as the raw statement that it is.
use Rattle.std.proofs.Common.{◌≡◌, ℕ, ◌+◌, Bool, true, false, List, [], ◌∷◌, ◌++◌, length, refl, sym, subst, arith, append_assoc}
use Rattle.alg_terms.specs.declared.file.File.{File}
use Rattle.alg_terms.specs.declared.goals.Hyp.{Hyp}
use Rattle.alg_tokens.specs.declared.token.Sign.TheVariants as signs
use Rattle.alg_tokens.specs.declared.token.TokenKind.TheVariants as kinds
use Rattle.alg_tokens.specs.declared.token.Word.TheVariants as words
use Rattle.alg_tokens.specs.Pieces.{Piece}
use Rattle.alg_tokens.specs.Spelling.{spelling, sign_spelling}
use Rattle.alg_tokens.specs.Laws.{width, tokens_of}
use Rattle.alg_reader.specs.declared.place.Place.TheVariants.{Plain}
use Rattle.alg_reader.specs.declared.raw.RawKind.TheVariants as raws
use Rattle.alg_reader.specs.declared.raw.RawTerm.{RawTerm}
use Rattle.alg_reader.specs.Forms as rules
use Rattle.alg_reader.specs.Forms.{Form, seq, alt, rule}
use Rattle.alg_reader.specs.Grammar as forms
use Rattle.alg_reader.specs.Grammar.{grammar}
use Rattle.alg_reader.specs.RawNodes.{is_unequal}
use Rattle.alg_reader.specs.TermMeaning as meant
use Rattle.alg_reader.specs.TermMeaning.{one, term}
use Rattle.alg_reader.specs.Meaning.{act}
use Rattle.alg_reader.specs.Statements.{IsStatement}
use Rattle.alg_reading_back.proofs.WrittenTerms.{space, sign, word, name, span, written}
use Rattle.alg_reading_back.proofs.WrittenStatements.{written_hyp, relation_sign, dot}
use Rattle.alg_reading_back.proofs.DerivedTerms.{sign_at, term_derived}
use Rattle.alg_reading_back.proofs.DerivedStatements.{StatementReads, word_at, name_at}
use Rattle.alg_reading_back.proofs.DerivedForms.{IsDerived, one_token, first_way, other_way, by_rule, term_means, token_before, pieces_before, spaced_before, front_before, statement_from}
use Rattle.alg_reading_back.proofs.DerivedGoals.{width_append}

-- one of the two relations
abbrev pub relation : Form
relation = alt (forms.sign signs.Equal) (forms.sign signs.NotEqual)

relation_derived : (nonzero : Bool) (at : ℕ) →
    IsDerived relation (sign_at (relation_sign nonzero) at ∷ []) (one (sign_at (relation_sign nonzero) at))
relation_derived true at =
    other_way _ _ _ _ (one_token (kinds.Sign signs.NotEqual) (sign_at signs.NotEqual at) refl)
relation_derived false at = first_way _ _ _ _ (one_token (kinds.Sign signs.Equal) (sign_at signs.Equal at) refl)

-- it says which
relation_said : (nonzero : Bool) → is_unequal (kinds.Sign (relation_sign nonzero)) ≡ nonzero
relation_said true = refl
relation_said false = refl

-- the pieces of a hypothesis from left to right
hyp_pieces : (bytes : List ℕ) (nonzero : Bool) (l r : List Piece) →
    ((((word words.Hyp ∷ space ∷ []) ++ (name bytes ∷ space ∷ sign signs.Colon ∷ space ∷ [])) ++ (l ++ (space ∷ [])))
    ++ (sign (relation_sign nonzero) ∷ space ∷ [])) ++ (r ++ dot) ≡
    (word words.Hyp ∷ space ∷ name bytes ∷ space ∷ sign signs.Colon ∷ space ∷
    (l ++ (space ∷ sign (relation_sign nonzero) ∷ space ∷ r))) ++ dot
hyp_pieces bytes nonzero l r = simp append_assoc

-- by the places of its parts
hyp_read : (bytes : List ℕ) (nonzero : Bool) (l r : List Piece) (t u : RawTerm)
    (at place left_at relation_at right_at : ℕ) → place ≡ at + 3 + 1 →
    left_at ≡ place + length bytes + 1 + 1 + 1 → relation_at ≡ left_at + width l + 1 →
    right_at ≡ relation_at + length (sign_spelling (relation_sign nonzero)) + 1 →
    IsDerived (rule rules.Sum) (tokens_of left_at l) (term t) →
    IsDerived (rule rules.Sum) (tokens_of right_at r) (term u) →
    IsStatement Plain (tokens_of at ((word words.Hyp ∷ space ∷ name bytes ∷ space ∷ sign signs.Colon ∷ space ∷
    (l ++ (space ∷ sign (relation_sign nonzero) ∷ space ∷ r))) ++ dot))
    (raws.Hyp (span place bytes)
    (record { left = t; relation = relation_at; nonzero = nonzero; right = u }))
unfolding grammar act
hyp_read bytes nonzero l r t u at place left_at relation_at right_at place_is left_is relation_is right_is d e =
    let s = relation_sign nonzero in
    let relation_form = seq relation (rule rules.Sum) in
    let left_form = seq (rule rules.Sum) relation_form in
    let colon_form = seq (forms.sign signs.Colon) left_form in
    let name_form = seq forms.name colon_form in
    let relation_pieces = space ∷ sign s ∷ space ∷ r in
    let left_pieces = l ++ relation_pieces in
    let colon_pieces = space ∷ sign signs.Colon ∷ space ∷ left_pieces in
    let name_pieces = name bytes ∷ colon_pieces in
    let behind = place + length bytes in
    let relation_part = spaced_before relation (rule rules.Sum) (kinds.Sign s) (sign_spelling s) r (left_at + width l)
    relation_at right_at (term u) relation_is right_is (relation_derived nonzero relation_at) e in
    let left_part = pieces_before (rule rules.Sum) relation_form l relation_pieces left_at (left_at + width l) (term t)
    _ refl d relation_part in
    let colon_part = spaced_before (forms.sign signs.Colon) left_form (kinds.Sign signs.Colon)
    (sign_spelling signs.Colon) left_pieces behind (behind + 1) left_at _ refl left_is
    (one_token (kinds.Sign signs.Colon) (sign_at signs.Colon (behind + 1)) refl) left_part in
    let name_part = token_before kinds.Name (name_at bytes place) colon_form (tokens_of behind colon_pieces) _ refl
    colon_part in
    let all = front_before (kinds.Word words.Hyp) (spelling words.Hyp) name_form name_pieces at place _ place_is
    name_part in
    statement_from (word words.Hyp ∷ space ∷ name_pieces) at
    (raws.Hyp (span place bytes) (record { left = t; relation = relation_at; nonzero = nonzero; right = u }))
    (subst (λ b. IsDerived forms.body (tokens_of at (word words.Hyp ∷ space ∷ name_pieces)) (meant.hyp
    (span place bytes) (record { left = t; relation = relation_at; nonzero = b; right = u })))
    (relation_said nonzero)
    (other_way _ _ _ _ (other_way _ _ _ _ (other_way _ _ _ _ (other_way _ _ _ _ (first_way _ _ _ _
    (by_rule rules.Hyp (word_at words.Hyp at ∷ tokens_of (at + 3 + 1) name_pieces) _ all)))))))

-- a hypothesis with either relation
pub hyp_derived : (file : File) (hyp : Hyp) → StatementReads (written_hyp file hyp)
hyp_derived file hyp at =
    let e = hyp.equation in
    let l = (written file e.left).pieces in
    let r = (written file e.right).pieces in
    let front = word words.Hyp ∷ space ∷ [] in
    let colon = front ++ (name hyp.name ∷ space ∷ sign signs.Colon ∷ space ∷ []) in
    let equal = colon ++ (l ++ (space ∷ [])) in
    let middle = equal ++ (sign (relation_sign hyp.nonzero) ∷ space ∷ []) in
    let l_wide = width_append l (space ∷ []) in
    let equal_wide = width_append colon (l ++ (space ∷ [])) in
    let middle_wide = width_append equal (sign (relation_sign hyp.nonzero) ∷ space ∷ []) in
    let raw = (written_hyp file hyp).raw at in
    subst (λ pieces. IsStatement Plain (tokens_of at pieces) raw) (sym (hyp_pieces hyp.name hyp.nonzero l r))
    (hyp_read hyp.name hyp.nonzero l r _ _ at (at + width front) (at + width colon) (at + width equal)
    (at + width middle) (omega arith) (omega arith) (omega arith) (omega arith)
    (term_means rules.Sum _ _ (term_derived file e.left (at + width colon)))
    (term_means rules.Sum _ _ (term_derived file e.right (at + width middle))))
