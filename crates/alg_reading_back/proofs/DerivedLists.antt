-- The grammar derives the canonical text of lists behind separators, from a rule for one of them.
use Rattle.std.proofs.Common.{◌≡◌, ℕ, ◌+◌, List, [], ◌∷◌, ◌++◌, refl, sym, ap, ◌∙◌, subst, arith}
use Rattle.alg_tokens.specs.declared.token.TokenKind.TheVariants as kinds
use Rattle.alg_tokens.specs.Pieces.{Piece}
use Rattle.alg_tokens.specs.Laws.{width, tokens_of}
use Rattle.alg_reader.specs.AnswerMeaning.{after}
use Rattle.alg_reader.specs.Forms.{Rule, Form, seq, many, rule}
use Rattle.alg_reader.specs.Grammar as forms
use Rattle.alg_reader.specs.Grammar.{separated}
use Rattle.alg_reader.specs.TermMeaning.{Value, one, two, nothing}
use Rattle.alg_reading_back.proofs.DerivedForms.{IsDerived, no_more, once_more, token_before, pieces_before}
use Rattle.alg_reading_back.proofs.DerivedTerms.{sign_at}
use Rattle.alg_reading_back.proofs.ReadAt.{tokens_append}
use Rattle.alg_reading_back.proofs.WrittenLists.{Written, Separator, star, comma, separator_sign, separator_pieces, later_pieces, list_pieces, all_raw}
use Rattle.alg_tokens.specs.declared.token.Sign.TheVariants as signs

-- the tokens behind a separator
separator_tokens : (s : Separator) (at : ℕ) (front back : List Piece) →
    let there = at + width (separator_pieces s) in
    tokens_of at (separator_pieces s ++ (front ++ back))
    ≡ sign_at (separator_sign s) at ∷ (tokens_of there front ++ tokens_of (there + width front) back)
separator_tokens star at front back =
    let there = at + width (separator_pieces star) in
    let place : at + 1 ≡ there = omega arith in
    ap (λ n. sign_at signs.Star at ∷ tokens_of n (front ++ back)) place
    ∙ ap (λ ts. sign_at signs.Star at ∷ ts) (tokens_append there front back)
separator_tokens comma at front back =
    let there = at + width (separator_pieces comma) in
    let place : at + 1 + 1 ≡ there = omega arith in
    ap (λ n. sign_at signs.Comma at ∷ tokens_of n (front ++ back)) place
    ∙ ap (λ ts. sign_at signs.Comma at ∷ ts) (tokens_append there front back)

-- where a rule derives what one is, and `item` says it
module _ {X R : Type 0} (write : X → Written R) (s : Separator) (r : Rule) (item : Value → List R)
    (means : X → ℕ → Value) (one_item : (x : X) (at : ℕ) → item (means x at) ≡ (write x).raw at ∷ [])
    (derived : (x : X) (at : ℕ) → IsDerived (rule r) (tokens_of at (write x).pieces) (means x at)) where
  abbrev next_item : Form
  next_item = seq (forms.sign (separator_sign s)) (rule r)

  -- those behind a first one
  later_derived : (xs : List X) (at : ℕ) → (v : Value) ×
      IsDerived (many next_item) (tokens_of at (later_pieces write s xs)) v ×
      (after item v ≡ all_raw write s (at + width (separator_pieces s)) xs)
  unfolding after
  later_derived [] at = (nothing, no_more next_item, refl)
  later_derived (x ∷ xs) at =
      let first = at + width (separator_pieces s) in
      let pieces = (write x).pieces in
      let behind = first + width pieces in
      let mark = sign_at (separator_sign s) at in
      let (v, rest, says) = later_derived xs behind in
      let next = token_before (kinds.Sign (separator_sign s)) mark (rule r) (tokens_of first pieces)
      (means x first) refl
      (derived x first) in (
        two (two (one mark) (means x first)) v,
        subst (λ ts. IsDerived (many next_item) ts (two (two (one mark) (means x first)) v))
            (sym (separator_tokens s at pieces (later_pieces write s xs)))
            (once_more next_item (mark ∷ tokens_of first pieces) (tokens_of behind (later_pieces write s xs))
            (two (one mark) (means x first)) v next rest),
        ap (λ ys. item (means x first) ++ ys) says
            ∙ ap (λ ys. ys ++ all_raw write s (behind + width (separator_pieces s)) xs) (one_item x first),
      )

  -- a first one with those behind it
  pub list_derived : (x : X) (xs : List X) (at : ℕ) → (v : Value) ×
      IsDerived (separated (separator_sign s) r) (tokens_of at (list_pieces write s x xs)) (two (means x at) v) ×
      (after item v ≡ all_raw write s (at + width (write x).pieces + width (separator_pieces s)) xs)
  list_derived x xs at =
      let there = at + width (write x).pieces in
      let (v, rest, says) = later_derived xs there in (
        v,
        pieces_before (rule r) (many next_item) (write x).pieces (later_pieces write s xs) at there (means x at) v refl
            (derived x at) rest,
        says,
      )
