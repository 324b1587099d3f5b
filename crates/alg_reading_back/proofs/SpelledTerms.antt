-- The pieces of a term spell its text.
use Rattle.std.proofs.Common.{◌≡◌, ℕ, true, false, cond, nat_lt, List, [], ◌∷◌, ◌++◌, codes, decimal, refl, ap, sym, ◌∙◌, append-nil, append_assoc}
use Rattle.alg_terms.specs.declared.file.File.{File}
use Rattle.alg_terms.specs.declared.term.Term.{Term, more_of-Term, Var, Int, Neg', Add', Sub', Mul', Div', Pow', Hom'}
use Rattle.alg_terms.specs.Nodes.{fold_term}
use Rattle.alg_tokens.specs.declared.token.Sign.{Sign}
use Rattle.alg_tokens.specs.declared.token.Sign.TheVariants as signs
use Rattle.alg_tokens.specs.Pieces.{Piece}
use Rattle.alg_tokens.specs.Spelling.{sign_spelling}
use Rattle.alg_tokens.proofs.Neighbours.{spell, spell_append}
use Rattle.alg_printer.specs.Names.{hom_name, in_parentheses}
use Rattle.alg_printer.specs.Terms.{Printed, part_text, printed, term_text}
use Rattle.alg_reading_back.proofs.WrittenTerms as written_terms
use Rattle.alg_reading_back.proofs.WrittenTerms.{WrittenTerm, written, part_pieces, space, sign, numeral}

-- a term in pieces and the term in print
record Agrees (one : WrittenTerm) (other : Printed) : Type 0 where
  level : one.level ≡ other.level
  text : spell one.pieces ≡ other.text

-- pieces in parentheses spell the text in parentheses
pub spelled_parentheses : (pieces : List Piece) (text : List ℕ) → spell pieces ≡ text →
    spell (written_terms.in_parentheses pieces) ≡ in_parentheses text
spelled_parentheses pieces text e =
    ap (λ bs. codes "(" ++ bs) (spell_append pieces (sign signs.ParenRight ∷ []) ∙ ap (λ bs. bs ++ codes ")") e)

spelled_part : (wanted : ℕ) (one : WrittenTerm) (other : Printed) → Agrees one other →
    spell (part_pieces wanted one) ≡ part_text wanted other
spelled_part wanted one other agrees =
    rw agrees.level (elim (nat_lt other.level wanted) as (λ v. spell
    (cond v (written_terms.in_parentheses one.pieces) one.pieces) ≡ cond v (in_parentheses other.text) other.text) [
      | true ↦ spelled_parentheses one.pieces other.text agrees.text
      | false ↦ agrees.text
    ])

-- an operator between two parts
between : (left middle right : List Piece) (one two three : List ℕ) → spell left ≡ one → spell middle ≡ two →
    spell right ≡ three → spell (left ++ (middle ++ right)) ≡ (one ++ two) ++ three
between left middle right one two three e f g =
    rw (spell_append left (middle ++ right), spell_append middle right, e, f, g) (sym (append_assoc one two three))

spaced_part : (op : Sign) (text : List ℕ) (a b : ℕ) (left right : WrittenTerm) (one two : Printed) → Agrees left one →
    Agrees right two → codes " " ++ (sign_spelling op ++ codes " ") ≡ text →
    spell (part_pieces a left ++ (space ∷ sign op ∷ space ∷ part_pieces b right))
    ≡ (part_text a one ++ text) ++ part_text b two
spaced_part op text a b left right one two e f spelled =
    between (part_pieces a left) (space ∷ sign op ∷ space ∷ []) (part_pieces b right) (part_text a one) text
    (part_text b two) (spelled_part a left one e) spelled (spelled_part b right two f)

tight_part : (op : Sign) (a b : ℕ) (left right : WrittenTerm) (one two : Printed) → Agrees left one → Agrees right two →
    spell (part_pieces a left ++ (sign op ∷ part_pieces b right))
    ≡ (part_text a one ++ sign_spelling op) ++ part_text b two
tight_part op a b left right one two e f =
    between (part_pieces a left) (sign op ∷ []) (part_pieces b right) (part_text a one) (sign_spelling op)
    (part_text b two) (spelled_part a left one e) (append-nil (sign_spelling op)) (spelled_part b right two f)

agrees : (file : File) (t : Term) → Agrees (written file t) (printed file t)
unfolding fold_term
agrees file (Var k) = record { level = refl; text = append-nil _ }
agrees file (Int n) = record { level = refl; text = append-nil _ }
agrees file (Neg' _ (more_of-Term t _)) = record {
  level = refl;
  text = ap (λ bs. codes "-" ++ bs) (spelled_part 3 (written file t) (printed file t) (agrees file t));
}
agrees file (Add' _ (more_of-Term t _) _ (more_of-Term u _)) = record {
  level = refl;
  text = spaced_part signs.Plus (codes " + ") 1 2 (written file t) (written file u) (printed file t) (printed file u)
      (agrees file t) (agrees file u) refl;
}
agrees file (Sub' _ (more_of-Term t _) _ (more_of-Term u _)) = record {
  level = refl;
  text = spaced_part signs.Minus (codes " - ") 1 2 (written file t) (written file u) (printed file t) (printed file u)
      (agrees file t) (agrees file u) refl;
}
agrees file (Mul' _ (more_of-Term t _) _ (more_of-Term u _)) = record {
  level = refl;
  text = tight_part signs.Star 2 3 (written file t) (written file u) (printed file t) (printed file u)
      (agrees file t) (agrees file u);
}
agrees file (Div' _ (more_of-Term t _) _ (more_of-Term u _)) = record {
  level = refl;
  text = tight_part signs.Slash 2 3 (written file t) (written file u) (printed file t) (printed file u)
      (agrees file t) (agrees file u);
}
agrees file (Pow' _ (more_of-Term t _) n) = record {
  level = refl;
  text = between (part_pieces 5 (written file t)) (sign signs.Caret ∷ []) (numeral n ∷ [])
      (part_text 5 (printed file t)) (codes "^") (decimal n)
      (spelled_part 5 (written file t) (printed file t) (agrees file t)) refl (append-nil (decimal n));
}
agrees file (Hom' f _ (more_of-Term t _)) = record {
  level = refl;
  text = ap (λ bs. hom_name file f ++ bs)
      (spelled_parentheses (written file t).pieces (term_text file t) (agrees file t).text);
}

-- the pieces of a term spell its text
pub spelled_term : (file : File) (t : Term) → spell (written file t).pieces ≡ term_text file t
spelled_term file t = (agrees file t).text
