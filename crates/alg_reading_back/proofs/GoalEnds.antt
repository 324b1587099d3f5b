-- The pieces of hypotheses and goals each end where the next begins.
use Rattle.std.proofs.Common.{ℕ, Bool, false, List, [], ◌∷◌, ◌++◌, refl}
use Rattle.alg_terms.specs.declared.file.File.{File}
use Rattle.alg_terms.specs.declared.goals.Equation.{Equation}
use Rattle.alg_terms.specs.declared.goals.Goal.{Goal}
use Rattle.alg_terms.specs.declared.goals.Hyp.{Hyp}
use Rattle.alg_terms.specs.Names.{IsName}
use Rattle.alg_tokens.specs.declared.token.Sign.TheVariants as signs
use Rattle.alg_tokens.specs.declared.token.Word.TheVariants as words
use Rattle.alg_tokens.specs.Pieces.{Piece}
use Rattle.alg_tokens.proofs.Neighbours.{spell, EachEnds, ends_append}
use Rattle.alg_tokens.proofs.PieceEnds.{stop_no_sign}
use Rattle.alg_reading_back.proofs.WrittenMethods.{method_pieces}
use Rattle.alg_reading_back.proofs.WrittenStatements.{written_sides, written_hyp, written_goal, goal_front, relation_sign, dot}
use Rattle.alg_reading_back.proofs.WrittenTerms.{written, space, sign, word, name}
use Rattle.alg_reading_back.proofs.TermEnds.{Fits, EndsAtStop, word_space, sign_space, name_space}

-- the pieces of an equation up to its right side, behind pieces that stand before all
stand_left : (file : File) (front : List Piece) (nonzero : Bool) (e : Equation) →
    ((next : List ℕ) → EachEnds front next) → Fits (written file e.left).pieces →
    (next : List ℕ) → EachEnds (written_sides file front nonzero e).to_right next
stand_left file front nonzero e stand one next =
    let left = (written file e.left).pieces in
    let relation = sign (relation_sign nonzero) ∷ space ∷ [] in
    let after : List ℕ = spell relation ++ next in
    let left_stands = ends_append left (space ∷ []) after (one.stand _ (32, _, refl, refl)) ((32, refl, refl), tt) in
    ends_append (front ++ (left ++ (space ∷ []))) relation next
    (ends_append front (left ++ (space ∷ [])) after (stand _) left_stands)
    (sign_space (relation_sign nonzero) [] next tt)

-- pieces before the end of a statement
pub dot_pieces_end : (pieces : List Piece) → EndsAtStop pieces → EndsAtStop (pieces ++ dot)
dot_pieces_end pieces stand next stops = ends_append pieces dot next (stand (46 ∷ next) (46, next, refl, refl))
    ((refl, stop_no_sign next stops), tt)

-- a hypothesis
pub hyp_pieces_end : (file : File) (hyp : Hyp) → IsName hyp.name → Fits (written file hyp.equation.left).pieces →
    Fits (written file hyp.equation.right).pieces → EndsAtStop (written_hyp file hyp).pieces
hyp_pieces_end file hyp is one other next stops =
    let colon = sign signs.Colon ∷ space ∷ [] in
    let front = word words.Hyp ∷ space ∷ name hyp.name ∷ space ∷ colon in
    let sides = written_sides file front hyp.nonzero hyp.equation in
    let front_stands : (after : List ℕ) → EachEnds front after = λ after.
    word_space words.Hyp (name hyp.name ∷ space ∷ colon) after
    (name_space hyp.name colon after is (sign_space signs.Colon [] after tt)) in
    ends_append sides.to_right (sides.right ++ dot) next
    (stand_left file front hyp.nonzero hyp.equation front_stands one _)
    (dot_pieces_end sides.right other.stand next stops)

-- a goal, where the pieces of its method stand
pub goal_pieces_end : (file : File) (goal : Goal) → Fits (written file goal.equation.left).pieces →
    Fits (written file goal.equation.right).pieces → EndsAtStop (method_pieces file goal.method) →
    EndsAtStop (written_goal file goal).pieces
goal_pieces_end file goal one other by_method next stops =
    let front = word words.Goal ∷ space ∷ [] in
    let sides = written_sides file front false goal.equation in
    let last = space ∷ word words.By ∷ space ∷ [] in
    let end = method_pieces file goal.method ++ dot in
    let end_text : List ℕ = spell end ++ next in
    let right_piece_ends : EachEnds (sides.right ++ last) end_text = ends_append sides.right last end_text
    (other.stand _ (32, _, refl, refl)) ((32, refl, refl), word_space words.By [] end_text tt) in
    let left_stands = stand_left file front false goal.equation (λ after. word_space words.Goal [] after tt) one _ in
    ends_append (goal_front file goal.equation) end next
    (ends_append sides.to_right (sides.right ++ last) end_text left_stands right_piece_ends)
    (dot_pieces_end (method_pieces file goal.method) by_method next stops)
