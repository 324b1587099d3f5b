-- The tokens of a text that consists of lines, line by line.
use Rattle.std.proofs.Common.{◌≡◌, ◌≢◌, ℕ, ◌+◌, ◌-◌, List, [], ◌∷◌, ◌++◌, inl, inr, length, take, drop, refl, ap, sym, ◌∙◌, subst, append_assoc, append-nil, zero-add, Ok}
use Rattle.std.specs.List.{AllByRecursion}
use Rattle.std.proofs.lemmas.Grind.{flat_map-append}
use Rattle.alg_tokens.specs.declared.token.TokenKind.TheVariants as kinds
use Rattle.alg_tokens.specs.Laws.{width, tokens_of, TokensFrom, CutFromAnywhere}
use Rattle.alg_tokens.specs.Next.{IsNext}
use Rattle.alg_tokens.specs.Pieces.{Piece, bytes_of}
use Rattle.alg_tokens.proofs.Neighbours.{spell, EachEnds, ends_append, piece_there, width_append}
use Rattle.alg_reader.specs.declared.raw.RawKind.TheVariants as raws
use Rattle.alg_reader.specs.Tokens.{TokensTo, GoesPast}
use Rattle.alg_reader.proofs.Found.{all_split}
use Rattle.alg_reading_back.proofs.EvenPieces.{HasFewOpen, few_pass}
use Rattle.alg_reading_back.proofs.FileTokens.{EndsLine, EndsDot, tokens_behind, tokens_to}
use Rattle.alg_reading_back.proofs.PiecesAt.{PiecesAt, pieces_at_all}
use Rattle.alg_reading_back.proofs.SpelledStatements.{line_pieces}
use Rattle.alg_reading_back.proofs.StatementsRead.{BeginsAt, IsKept}
use Rattle.alg_reading_back.proofs.TermEnds.{EndsAtStop}
use Rattle.alg_reading_back.proofs.WrittenLines.{WrittenLine, lines_pieces}
use Rattle.alg_reading_back.proofs.WrittenStatements.{dot}
use Rattle.alg_reading_back.proofs.WrittenTerms.{line_feed}

-- what is known of a line by itself: its pieces end each where the next begins, the last one is the dot, and it is kept
-- whole
pub record IsWhole (l : WrittenLine) : Type 0 where
  pub stands : EndsAtStop l.pieces
  pub dotted : EndsDot l.pieces
  pub begins : (at : ℕ) → BeginsAt (l.first at) (tokens_of at l.pieces)
  pub kept : (at : ℕ) → IsKept (l.raw at)
  pub goes_on : (at : ℕ) → l.raw at ≢ raws.End

-- and few parentheses are open at once
pub record IsLine (l : WrittenLine) : Type 0 where
  pub whole : IsWhole l
  pub few : (at : ℕ) → HasFewOpen 0 (tokens_of at l.pieces)

lines_end : (lines : List WrittenLine) → EndsLine (lines_pieces lines)
lines_end [] = inl refl
lines_end (l ∷ lines) =
    elim (lines_end lines) [
      | inl none ↦ inr (l.pieces, ap (λ more. line_pieces l.pieces ++ more) none ∙ append-nil (line_pieces l.pieces))
      | inr (front, e) ↦ inr (
        line_pieces l.pieces ++ front,
        ap (λ more. line_pieces l.pieces ++ more) e
            ∙ sym (append_assoc (line_pieces l.pieces) front (line_feed ∷ [])),
      )
    ]

pub lines_stand : (lines : List WrittenLine) → AllByRecursion IsLine lines → (next : List ℕ) →
    EachEnds (lines_pieces lines) next
lines_stand [] all next = tt
lines_stand (l ∷ lines) all next =
    let after : List ℕ = spell (lines_pieces lines) ++ next in
    ends_append (line_pieces l.pieces) (lines_pieces lines) next
    (ends_append l.pieces (line_feed ∷ []) after
    (all.0.whole.stands (10 ∷ after) (10, after, refl, refl)) ((10, refl, refl), tt))
    (lines_stand lines all.1 next)

-- the pieces of lines in two parts
pub lines_split : (before after : List WrittenLine) →
    lines_pieces (before ++ after) ≡ lines_pieces before ++ lines_pieces after
lines_split before after = flat_map-append (λ l. line_pieces l.pieces) before after

-- where lines begin behind others and one more
pub next_begin : (before : List WrittenLine) (l : WrittenLine) →
    width (lines_pieces (before ++ l ∷ [])) ≡ width (lines_pieces before) + width (line_pieces l.pieces)
next_begin before l =
    ap width (lines_split before (l ∷ []) ∙ ap (λ ps. lines_pieces before ++ ps) (append-nil (line_pieces l.pieces)))
    ∙ width_append (lines_pieces before) (line_pieces l.pieces)

module _ (law : CutFromAnywhere) (text : List ℕ) (all : List WrittenLine) (are : AllByRecursion IsLine all)
    (same : spell (lines_pieces all) ≡ text) where
  -- the line is one of them
  pub line_of : (before after : List WrittenLine) (l : WrittenLine) → all ≡ before ++ (l ∷ after) → IsLine l
  line_of before after l split =
      (all_split IsLine before (l ∷ after) (subst (AllByRecursion IsLine) split are)).1.0

  -- the pieces before a line, those of the line, and those behind it
  around : (before after : List WrittenLine) (l : WrittenLine) → all ≡ before ++ (l ∷ after) →
      lines_pieces all ≡ lines_pieces before ++ (l.pieces ++ (line_feed ∷ lines_pieces after))
  around before after l split =
      ap lines_pieces split ∙ lines_split before (l ∷ after)
      ∙ ap (λ ps. lines_pieces before ++ ps) (append_assoc l.pieces (line_feed ∷ []) (lines_pieces after))

  -- the tokens of a line, from behind the dot of the line before it
  pub line_tokens : (before after : List WrittenLine) (l : WrittenLine) → all ≡ before ++ (l ∷ after) →
      let at = width (lines_pieces before) in
      TokensTo text (at - 1) (tokens_of at l.pieces) (at + width l.pieces)
  line_tokens before after l split =
      let at = width (lines_pieces before) in
      let rest = line_feed ∷ lines_pieces after in
      let whole = around before after l split in
      let P : List Piece → Type 0 = λ ps. EachEnds ps [] in
      let tokens = tokens_behind law text (lines_pieces before) (l.pieces ++ rest) (lines_end before)
      (sym same ∙ ap spell whole) (subst P whole (lines_stand all are [])) in
      let (front, e) = (line_of before after l split).whole.dotted in
      let Q : List Piece → Type 0 = λ ps. TokensFrom text (at - 1) (tokens_of at ps) in
      let R : List Piece → Type 0 = λ ps. TokensTo text (at - 1) (tokens_of at ps) (at + width ps) in
      let parts : l.pieces ++ rest ≡ front ++ (dot ++ rest) = ap (λ ps. ps ++ rest) e ∙ append_assoc front dot rest in
      subst R (sym e) (tokens_to text (at - 1) at front rest _ _ (subst Q parts tokens))

  -- behind the last line the text ends
  pub lines_stop : IsNext text (width (lines_pieces all) - 1)
      (Ok (record { kind = kinds.End; start = length text; stop = length text }))
  lines_stop =
      let pieces = lines_pieces all in
      let P : List Piece → Type 0 = λ ps. EachEnds ps [] in
      tokens_behind law text pieces [] (lines_end all) (sym same ∙ ap spell (sym (append-nil pieces)))
      (subst P (sym (append-nil pieces)) (lines_stand all are []))

  -- reading goes past each line
  pub line_passed : (before after : List WrittenLine) (l : WrittenLine) → all ≡ before ++ (l ∷ after) → (at : ℕ) →
      GoesPast 0 (tokens_of at l.pieces)
  line_passed before after l split at = few_pass 0 (tokens_of at l.pieces) ((line_of before after l split).few at)

  -- all pieces stand in the text
  pub lines_there : PiecesAt text 0 (lines_pieces all)
  lines_there = pieces_at_all text 0 (lines_pieces all) (λ front back piece e.
      let long = length (bytes_of piece) in
      subst (λ n. take long (drop n text) ≡ bytes_of piece) (sym (zero-add (width front)))
      (ap (λ bs. take long (drop (width front) bs)) (sym same ∙ ap spell e) ∙ piece_there front back piece))
