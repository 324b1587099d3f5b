-- The pieces of a term each end where the next begins.
use Rattle.std.proofs.Common.{◌≡◌, ◌≤◌, ◌<◌, ◌≤ℤ◌, ℕ, true, false, cond, nat_lt, List, [], ◌∷◌, ◌++◌, length, decimal, refl, ap, sym, ◌∙◌, subst, arith, append_assoc, append-nil, ℤ, pos, negsuc}
use Rattle.std.proofs.lemmas.Int.{ints}
use Rattle.alg_terms.specs.declared.file.File.{File}
use Rattle.alg_terms.specs.Limits.{MAX_LITERAL, MAX_EXPONENT}
use Rattle.alg_terms.specs.declared.term.Term.{Term, more_of-Term, Var, Int, Neg', Add', Sub', Mul', Div', Pow', Hom'}
use Rattle.alg_terms.specs.Names.{IsName}
use Rattle.alg_terms.specs.Nodes.{fold_term, EachNode}
use Rattle.alg_terms.specs.TermRules.{IsInRange, HasLiteral, HasExponent}
use Rattle.alg_tokens.specs.declared.token.Sign.{Sign}
use Rattle.alg_tokens.specs.declared.token.Sign.TheVariants as signs
use Rattle.alg_tokens.specs.declared.token.Word.{Word}
use Rattle.alg_tokens.specs.Pieces.{Piece, value_of}
use Rattle.alg_tokens.specs.Spelling.{sign_spelling}
use Rattle.alg_tokens.proofs.Leads.{spelled_lead, leads}
use Rattle.alg_tokens.proofs.Neighbours.{spell, spell_append, EachEnds, ends_append}
use Rattle.alg_tokens.proofs.Numerals.{decimal_numeral}
use Rattle.alg_tokens.proofs.PieceEnds.{BeginsStop, GoesOnNoSign, stop_no_sign}
use Rattle.alg_printer.specs.Names.{sort_name, var_name, hom_name}
use Rattle.alg_reading_back.proofs.WrittenMethods.{hyp_name}
use Rattle.alg_reading_back.proofs.WrittenTerms.{WrittenTerm, written, in_parentheses, part_pieces, space, sign, word, name, numeral, integer}

-- the pieces stand before each byte that stops, and no sign goes on with them
pub record Fits (pieces : List Piece) : Type 0 where
  pub stand : (next : List ℕ) → BeginsStop next → EachEnds pieces next
  pub opens : (next : List ℕ) → GoesOnNoSign (spell pieces ++ next)

-- ---- single pieces

-- a name
pub fits_name : (bytes : List ℕ) → IsName bytes → Fits (name bytes ∷ [])
fits_name bytes is = record {
  stand = λ next stops. ((is.0, is.1, stops), tt);
  opens = λ next e. let lead = spelled_lead bytes ((bytes ++ []) ++ next) next is.0 (ap (λ bs. bs ++ next)
      (append-nil bytes)) in omega (arith, lead.1, e);
}

-- a number up to the greatest
pub fits_numeral : (n : ℕ) → pos n ≤ℤ MAX_LITERAL → Fits (numeral n ∷ [])
fits_numeral n small =
    let (is, value) = decimal_numeral n (omega (arith, ints)) in
    let same : pos n ≡ pos (value_of (decimal n)) = ap (λ v. pos v) (sym value) in
    record {
      stand = λ next stops. ((is, same, small, stops), tt);
      opens = λ next e.
          let lead = leads (numeral n) ((decimal n ++ []) ++ next) next (
            (is, same),
            ap (λ bs. bs ++ next)
                (append-nil (decimal n)),
          ) in
          omega (arith, lead.1.0, lead.1.1, e);
    }

-- a literal
pub fits_integer : (n : ℤ) → (pos 0 ≤ℤ n) × (n ≤ℤ MAX_LITERAL) → Fits (integer n ∷ [])
fits_integer (pos n) (low, high) = fits_numeral n high
fits_integer (negsuc n) (low, high) = absurd (omega (arith, ints))

-- ---- a piece with a space behind it

-- the pieces stand before each byte that stops
abbrev pub EndsAtStop : List Piece → Type 0
EndsAtStop pieces = (next : List ℕ) → BeginsStop next → EachEnds pieces next

-- a word, a sign and a name
pub word_space : (w : Word) (pieces : List Piece) (next : List ℕ) → EachEnds pieces next →
    EachEnds (word w ∷ space ∷ pieces) next
word_space w pieces next stand = ((refl, (32, _, refl, refl)), ((32, refl, refl), stand))

pub sign_space : (s : Sign) (pieces : List Piece) (next : List ℕ) → EachEnds pieces next →
    EachEnds (sign s ∷ space ∷ pieces) next
sign_space s pieces next stand = ((refl, λ e. omega (arith, e)), ((32, refl, refl), stand))

pub name_space : (bytes : List ℕ) (pieces : List Piece) (next : List ℕ) → IsName bytes → EachEnds pieces next →
    EachEnds (name bytes ∷ space ∷ pieces) next
name_space bytes pieces next is stand = ((is.0, is.1, (32, _, refl, refl)), ((32, refl, refl), stand))

-- ---- pieces of several

-- what begins with pieces that fit
pub opens_more : (front back : List Piece) (next : List ℕ) → Fits front → GoesOnNoSign (spell (front ++ back) ++ next)
opens_more front back next fits =
    let same = ap (λ bs. bs ++ next) (spell_append front back) ∙ append_assoc (spell front) (spell back) next in
    subst GoesOnNoSign (sym same) (fits.opens (spell back ++ next))

pub fits_parentheses : (pieces : List Piece) → Fits pieces → Fits (in_parentheses pieces)
fits_parentheses pieces fits = record {
  stand = λ next stops. (
    (refl, opens_more pieces (sign signs.ParenRight ∷ []) next fits),
    ends_append pieces (sign signs.ParenRight ∷ []) next (fits.stand (41 ∷ next) (41, next, refl, refl))
        ((refl, stop_no_sign next stops), tt),
  );
  opens = λ next e. omega (arith, e);
}

fits_part : (wanted : ℕ) (part : WrittenTerm) → Fits part.pieces → Fits (part_pieces wanted part)
fits_part wanted part fits = elim (nat_lt part.level wanted) as (λ v. Fits
    (cond v (in_parentheses part.pieces) part.pieces)) [
      | true ↦ fits_parentheses part.pieces fits
      | false ↦ fits
    ]

-- a sign with a space on each side, between two that fit
fits_spaced : (op : Sign) (left right : List Piece) → Fits left → Fits right →
    Fits (left ++ (space ∷ sign op ∷ space ∷ right))
fits_spaced op left right one other = record {
  stand = λ next stops. ends_append left (space ∷ sign op ∷ space ∷ right) next
      (one.stand _ (32, _, refl, refl))
      ((32, refl, refl), ((refl, λ e. omega (arith, e)), ((32, refl, refl), other.stand next stops)));
  opens = λ next. opens_more left (space ∷ sign op ∷ space ∷ right) next one;
}

-- what begins with the sign begins with a byte that stops
abbrev Stops : Sign → Type 0
Stops op = (more next : List ℕ) → BeginsStop ((sign_spelling op ++ more) ++ next)

-- a sign without spaces
pub fits_tight : (op : Sign) (left right : List Piece) → Stops op → Fits left → Fits right →
    Fits (left ++ (sign op ∷ right))
fits_tight op left right stops one other = record {
  stand = λ next ends. ends_append left (sign op ∷ right) next (one.stand _ (stops (spell right) next))
      ((refl, other.opens next), other.stand next ends);
  opens = λ next. opens_more left (sign op ∷ right) next one;
}

-- `-` before a part
pub fits_minus : (part : List Piece) → Fits part → Fits (sign signs.Minus ∷ part)
fits_minus part fits = record {
  stand = λ next stops. ((refl, fits.opens next), fits.stand next stops);
  opens = λ next e. omega (arith, e);
}

-- a name before parentheses
pub fits_called : (bytes : List ℕ) (part : List Piece) → IsName bytes → Fits part →
    Fits (name bytes ∷ in_parentheses part)
fits_called bytes part is fits = record {
  stand = λ next stops. ((is.0, is.1, (40, _, refl, refl)), (fits_parentheses part fits).stand next stops);
  opens = λ next. opens_more (name bytes ∷ []) (in_parentheses part) next (fits_name bytes is);
}

-- ---- terms

-- the names of the file's members are names
pub record HasNames (file : File) : Type 0 where
  pub sorts : (s : ℕ) → s < length file.sorts → IsName (sort_name file s)
  pub homs : (f : ℕ) → f < length file.homs → IsName (hom_name file f)
  pub vars : (k : ℕ) → k < length file.vars → IsName (var_name file k)
  pub hyps : (h : ℕ) → h < length file.hyps → IsName (hyp_name file h)

-- the names, literals and exponents of a term can be written
abbrev pub IsWritable : File → Term → Type 0
IsWritable file t = EachNode (IsInRange file) t × EachNode HasLiteral t × EachNode HasExponent t

pub fits_term : (file : File) (t : Term) → HasNames file → IsWritable file t → Fits (written file t).pieces
unfolding fold_term EachNode
fits_term file (Var k) names (range, literals, exponents) = fits_name (var_name file k) (names.vars k range)
fits_term file (Int n) names (range, literals, exponents) = fits_integer n literals
fits_term file (Neg' _ (more_of-Term t _)) names (range, literals, exponents) =
    fits_minus (part_pieces 3 (written file t))
    (fits_part 3 (written file t) (fits_term file t names (range.1, literals.1, exponents.1)))
fits_term file (Add' _ (more_of-Term t _) _ (more_of-Term u _)) names (range, literals, exponents) =
    fits_spaced signs.Plus (part_pieces 1 (written file t)) (part_pieces 2 (written file u))
    (fits_part 1 (written file t) (fits_term file t names (range.1, literals.1, exponents.1)))
    (fits_part 2 (written file u) (fits_term file u names (range.2, literals.2, exponents.2)))
fits_term file (Sub' _ (more_of-Term t _) _ (more_of-Term u _)) names (range, literals, exponents) =
    fits_spaced signs.Minus (part_pieces 1 (written file t)) (part_pieces 2 (written file u))
    (fits_part 1 (written file t) (fits_term file t names (range.1, literals.1, exponents.1)))
    (fits_part 2 (written file u) (fits_term file u names (range.2, literals.2, exponents.2)))
fits_term file (Mul' _ (more_of-Term t _) _ (more_of-Term u _)) names (range, literals, exponents) =
    fits_tight signs.Star (part_pieces 2 (written file t)) (part_pieces 3 (written file u))
    (λ more next. (42, _, refl, refl))
    (fits_part 2 (written file t) (fits_term file t names (range.1, literals.1, exponents.1)))
    (fits_part 3 (written file u) (fits_term file u names (range.2, literals.2, exponents.2)))
fits_term file (Div' _ (more_of-Term t _) _ (more_of-Term u _)) names (range, literals, exponents) =
    fits_tight signs.Slash (part_pieces 2 (written file t)) (part_pieces 3 (written file u))
    (λ more next. (47, _, refl, refl))
    (fits_part 2 (written file t) (fits_term file t names (range.1, literals.1, exponents.1)))
    (fits_part 3 (written file u) (fits_term file u names (range.2, literals.2, exponents.2)))
fits_term file (Pow' _ (more_of-Term t _) n) names (range, literals, exponents) =
    fits_tight signs.Caret (part_pieces 5 (written file t)) (numeral n ∷ []) (λ more next. (94, _, refl, refl))
    (fits_part 5 (written file t) (fits_term file t names (range.1, literals.1, exponents.1)))
    (fits_numeral n (let low : n ≤ MAX_EXPONENT = exponents.0 in omega (arith, ints)))
fits_term file (Hom' f _ (more_of-Term t _)) names (range, literals, exponents) =
    fits_called (hom_name file f) (written file t).pieces (names.homs f range.0)
    (fits_term file t names (range.1, literals.1, exponents.1))
