-- Where few parentheses are open in a text, few are open in each of its parts.
use Rattle.std.proofs.Common.{◌≤◌, ◌==◌, ℕ, ◌+◌, ◌-◌, true, false, cond, List, [], ◌∷◌, ◌++◌, refl, subst, arith}
use Rattle.alg_terms.specs.Limits.{MAX_OPEN}
use Rattle.alg_tokens.specs.Laws.{tokens_of}
use Rattle.alg_tokens.specs.Pieces.{Piece}
use Rattle.alg_tokens.proofs.Neighbours.{spell, spell_append}
use Rattle.alg_reading_back.specs.ReadingBack.{most_open, open_with, LEFT, RIGHT}
use Rattle.alg_reading_back.proofs.EvenPieces.{HasFewOpen, even_if_ends, few_open}
use Rattle.alg_reading_back.proofs.OpenBytes.{opens_first}
use Rattle.alg_reading_back.proofs.SpelledStatements.{line_pieces}
use Rattle.alg_reading_back.proofs.TermEnds.{EndsAtStop}
use Rattle.alg_reading_back.proofs.WrittenTerms.{line_feed}

-- no fewer are open behind a byte where no fewer are open before it
opens_no_fewer : (a b byte : ℕ) → a ≤ b → open_with a byte ≤ open_with b byte
opens_no_fewer a b byte low =
    elim (byte == LEFT) as (λ l. cond l (a + 1) (cond (byte == RIGHT) (a - 1) a)
    ≤ cond l (b + 1) (cond (byte == RIGHT) (b - 1) b)) [
      | true ↦ omega arith
      | false ↦ elim (byte == RIGHT) as (λ r. cond r (a - 1) a ≤ cond r (b - 1) b) [
        | true ↦ omega arith
        | false ↦ low
      ]
    ]

most_no_fewer : (a b : ℕ) (text : List ℕ) → a ≤ b → most_open a text ≤ most_open b text
most_no_fewer a b [] low = low
most_no_fewer a b (byte ∷ text) low =
    let rest = most_no_fewer (open_with a byte) (open_with b byte) text (opens_no_fewer a b byte low) in
    omega (arith, rest, low)

-- the end of a text
pub open_later : (depth : ℕ) (front back : List ℕ) → most_open 0 back ≤ most_open depth (front ++ back)
open_later depth [] back = most_no_fewer 0 depth back (omega arith)
open_later depth (byte ∷ front) back =
    let rest = open_later (open_with depth byte) front back in omega (arith, rest)

-- its beginning
pub open_first : (depth : ℕ) (front back : List ℕ) → most_open depth front ≤ most_open depth (front ++ back)
open_first depth [] back = opens_first depth back
open_first depth (byte ∷ front) back =
    let rest = open_first (open_with depth byte) front back in omega (arith, rest)

-- the tokens of a line
pub few_tokens : (pieces : List Piece) → EndsAtStop pieces → most_open 0 (spell (line_pieces pieces)) ≤ MAX_OPEN →
    (at : ℕ) → HasFewOpen 0 (tokens_of at pieces)
few_tokens pieces stands few at =
    let rest = spell (line_feed ∷ []) in
    let even = even_if_ends pieces (10 ∷ []) (stands (10 ∷ []) (10, [], refl, refl)) in
    few_open 0 at pieces rest even
    (subst (λ bs. most_open 0 bs ≤ MAX_OPEN) (spell_append pieces (line_feed ∷ [])) few)
