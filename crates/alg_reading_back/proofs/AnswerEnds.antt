-- The pieces of answers, lines and steps each end where the next begins.
use Rattle.std.proofs.Common.{ℕ, true, false, cond, List, [], ◌∷◌, ◌++◌, refl, arith, ℤ, pos}
use Rattle.std.specs.List.{AllByRecursion}
use Rattle.std.specs.Ordering.{int_eq}
use Rattle.std.proofs.lemmas.Int.{ints}
use Rattle.std.proofs.lemmas.List.Elements.{recursion_from_All}
use Rattle.alg_lines.specs.declared.answer.Answer.{Answer}
use Rattle.alg_lines.specs.declared.answer.Answer.TheVariants as answer
use Rattle.alg_lines.specs.declared.cert.GoalStep.{GoalStep}
use Rattle.alg_lines.specs.declared.cert.Line.{Line}
use Rattle.alg_mono.specs.Mono.{Monomial}
use Rattle.alg_reify.specs.Table.{goal_atoms}
use Rattle.alg_terms.specs.AnswerRules.{IsAnswerTerm}
use Rattle.alg_terms.specs.declared.file.File.{File}
use Rattle.alg_terms.specs.declared.goals.Goal.{Goal}
use Rattle.alg_terms.specs.declared.term.Atom.{Atom}
use Rattle.alg_terms.specs.declared.term.Term.{Term}
use Rattle.alg_reader.specs.declared.format.Format.{Format}
use Rattle.alg_reader.specs.declared.format.Format.TheVariants as formats
use Rattle.alg_reader.specs.declared.raw.RawKind.{RawKind}
use Rattle.alg_tokens.specs.declared.token.Sign.TheVariants as signs
use Rattle.alg_tokens.specs.declared.token.Word.TheVariants as words
use Rattle.alg_tokens.specs.Pieces.{Piece}
use Rattle.alg_tokens.proofs.Neighbours.{spell, EachEnds, ends_append}
use Rattle.alg_tokens.proofs.PieceEnds.{BeginsStop}
use Rattle.alg_printer.specs.Printable.{HasParts, IsCount, IsInteger, IsLineOver, IsMonomialOver, IsNumeral, IsStepOver}
use Rattle.alg_printer.proofs.Leaves.{AreAtoms}
use Rattle.alg_reading_back.proofs.GoalEnds.{dot_pieces_end}
use Rattle.alg_reading_back.proofs.ListEnds.{fits_before, fits_list}
use Rattle.alg_reading_back.proofs.MonoEnds.{fits_mono, fits_signed}
use Rattle.alg_reading_back.proofs.StatementEnds.{fits}
use Rattle.alg_reading_back.proofs.TermEnds.{Fits, HasNames, EndsAtStop, fits_integer, fits_numeral, opens_more, sign_space, word_space}
use Rattle.alg_reading_back.proofs.WrittenAnswers.{not_zero, written_condition, written_constant, if_pieces, power_front, answer_pieces, cofactor_pieces, over_pieces, divisor_pieces, written_combined, written_line, written_step}
use Rattle.alg_reading_back.proofs.WrittenLines.{indented}
use Rattle.alg_reading_back.proofs.WrittenLists.{Written, comma, list_pieces}
use Rattle.alg_reading_back.proofs.WrittenMonos.{written_mono, written_integer}
use Rattle.alg_reading_back.proofs.WrittenTerms.{written, space, sign, word, numeral, integer}

-- a statement behind two spaces
pub indented_ends : (said : Written RawKind) → EndsAtStop said.pieces → EndsAtStop (indented said).pieces
indented_ends said stand next stops =
    ((32, refl, refl), ((32, refl, refl), dot_pieces_end said.pieces stand next stops))

-- a count
fits_count : (n : ℕ) → IsCount n → Fits (numeral n ∷ [])
fits_count n low = fits_numeral n (omega (arith, ints, low))

-- ---- conditions and constants

not_zero_ends : EndsAtStop not_zero
not_zero_ends next stops = (
  (32, refl, refl),
  sign_space signs.NotEqual (numeral 0 ∷ []) next
      ((fits_numeral 0 (omega (arith, ints))).stand next stops),
)

fits_not_zero : (pieces : List Piece) → Fits pieces → Fits (pieces ++ not_zero)
fits_not_zero pieces one = record {
  stand = λ next stops. fits_before pieces not_zero next one (32, _, refl, refl) (not_zero_ends next stops);
  opens = λ next. opens_more pieces not_zero next one;
}

module _ {X R : Type 0} (write : X → Written R) (P : X → Type 0) (each : (x : X) → P x → Fits (write x).pieces) where
  if_stop : (xs : List X) (next : List ℕ) → BeginsStop next → BeginsStop (spell (if_pieces write xs) ++ next)
  if_stop [] next stops = stops
  if_stop (x ∷ xs) next stops = (32, _, refl, refl)

  if_ends : (xs : List X) → AllByRecursion P xs → EndsAtStop (if_pieces write xs)
  if_ends [] all next stops = tt
  if_ends (x ∷ xs) all next stops = (
    (32, refl, refl),
    word_space words.If (list_pieces write comma x xs) next
        ((fits_list write comma P each x xs all.0 all.1).stand next stops),
  )

-- ---- lines and steps

divisor_stop : (format : Format) (d : ℤ) (next : List ℕ) → BeginsStop next →
    BeginsStop (spell (divisor_pieces format d) ++ next)
divisor_stop formats.One d next stops = (32, _, refl, refl)
divisor_stop formats.Two d next stops =
    elim (int_eq d (pos 1)) as (λ b. BeginsStop (spell (cond b [] (over_pieces d)) ++ next)) [
      | true ↦ stops
      | false ↦ (32, _, refl, refl)
    ]

over_ends : (d : ℤ) → IsNumeral d → EndsAtStop (over_pieces d)
over_ends d is next stops =
    ((32, refl, refl), word_space words.Over (integer d ∷ []) next ((fits_integer d is).stand next stops))

divisor_ends : (format : Format) (d : ℤ) → IsNumeral d → EndsAtStop (divisor_pieces format d)
divisor_ends formats.One d is next stops = over_ends d is next stops
divisor_ends formats.Two d is next stops =
    elim (int_eq d (pos 1)) as (λ b. EachEnds (cond b [] (over_pieces d)) next) [
      | true ↦ tt
      | false ↦ over_ends d is next stops
    ]

module _ (file : File) (names : HasNames file) (atoms : List Atom) (are : AreAtoms file atoms) where
  mono_comma_ends : (m : Monomial) → IsMonomialOver atoms m → (next : List ℕ) →
      EachEnds ((written_mono file atoms m).pieces ++ (sign signs.Comma ∷ space ∷ [])) next
  mono_comma_ends m is next =
      fits_before (written_mono file atoms m).pieces (sign signs.Comma ∷ space ∷ []) next
      (fits_mono file names atoms are m is) (44, _, refl, refl) (sign_space signs.Comma [] next tt)

  cofactor_ends : (format : Format) (m : Monomial) → IsMonomialOver atoms m → (next : List ℕ) →
      EachEnds (cofactor_pieces file format atoms m) next
  cofactor_ends formats.One m is next = mono_comma_ends m is next
  cofactor_ends formats.Two [] is next = tt
  cofactor_ends formats.Two (e ∷ m) is next = mono_comma_ends (e ∷ m) is next

  combined_ends : (format : Format) (first b : ℤ) (n : Monomial) (j : ℕ) (d : ℤ) → IsNumeral first → IsInteger b →
      IsMonomialOver atoms n → IsCount j → IsNumeral d →
      EndsAtStop (written_combined file format atoms first b n j d).pieces
  combined_ends format first b n j d first_is b_is n_is j_is d_is next stops =
      let end = numeral j ∷ divisor_pieces format d in
      let from_n = cofactor_pieces file format atoms n ++ end in
      let from_b = (written_integer b).pieces ++ (sign signs.Comma ∷ space ∷ from_n) in
      let end_stands = fits_before (numeral j ∷ []) (divisor_pieces format d) next (fits_count j j_is)
      (divisor_stop format d next stops) (divisor_ends format d d_is next stops) in
      let n_stands = ends_append (cofactor_pieces file format atoms n) end next
      (cofactor_ends format n n_is (spell end ++ next)) end_stands in
      let b_stands = fits_before (written_integer b).pieces (sign signs.Comma ∷ space ∷ from_n) next
      (fits_signed b b_is) (44, _, refl, refl) (sign_space signs.Comma from_n next n_stands) in
      fits_before (integer first ∷ []) (space ∷ word words.Minus ∷ space ∷ from_b) next
      (fits_integer first first_is) (32, _, refl, refl) ((32, refl, refl), word_space words.Minus from_b next b_stands)

  pub line_ends : (format : Format) (l : Line) → IsLineOver atoms l →
      EndsAtStop (written_line file format atoms l).pieces
  line_ends format l is next stops =
      let combined = written_combined file format atoms (pos l.i) l.b l.n l.j l.d in
      let from_m = cofactor_pieces file format atoms l.m ++ combined.pieces in
      let i_is : IsNumeral (pos l.i) = let low : IsCount l.i = is.i in (
        omega (arith, ints),
        omega
            (arith, ints, low),
      ) in
      let stands = combined_ends format (pos l.i) l.b l.n l.j l.d i_is is.b is.n is.j is.d next stops in
      let m_stands = ends_append (cofactor_pieces file format atoms l.m) combined.pieces next
      (cofactor_ends format l.m is.m (spell combined.pieces ++ next)) stands in
      word_space words.Line (integer l.a ∷ sign signs.Comma ∷ space ∷ from_m) next
      (fits_before (integer l.a ∷ []) (sign signs.Comma ∷ space ∷ from_m) next (fits_integer l.a is.a)
      (44, _, refl, refl) (sign_space signs.Comma from_m next m_stands))

  pub step_ends : (format : Format) (s : GoalStep) → IsStepOver atoms s →
      EndsAtStop (written_step file format atoms s).pieces
  step_ends format s is next stops =
      word_space words.Step (written_combined file format atoms s.a s.b s.n s.j s.d).pieces next
      (combined_ends format s.a s.b s.n s.j s.d is.a is.b is.n is.j is.d next stops)

-- ---- answers

-- a term of an answer
fits_answer_term : (file : File) (goal : Goal) → HasNames file → (t : Term) → IsAnswerTerm file goal t →
    Fits (written file t).pieces
fits_answer_term file goal names t is = fits file t names is.term

front_ends : (format : Format) (pieces : List Piece) (next : List ℕ) → EachEnds pieces next →
    EachEnds (power_front format ++ pieces) next
front_ends formats.One pieces next stand =
    word_space words.Proved (word words.Power ∷ space ∷ pieces) next (word_space words.Power pieces next stand)
front_ends formats.Two pieces next stand =
    let power = word words.Power ∷ space ∷ pieces in
    word_space words.Proved (word words.Version ∷ space ∷ numeral 2 ∷ space ∷ power) next
    (word_space words.Version (numeral 2 ∷ space ∷ power) next
    (fits_before (numeral 2 ∷ []) (space ∷ power) next (fits_numeral 2 (omega (arith, ints))) (32, _, refl, refl)
    ((32, refl, refl), word_space words.Power pieces next stand)))

pub answer_ends : (file : File) (format : Format) (goal : Goal) → HasNames file → AreAtoms file (goal_atoms file goal) →
    (said : Answer) → HasParts file goal said → EndsAtStop (answer_pieces file format (goal_atoms file goal) said)
answer_ends file format goal names are (answer.Proved conditions) parts next stops =
    let P : Term → Type 0 = IsAnswerTerm file goal in
    let each : (t : Term) → P t → Fits (written_condition file t).pieces =
    λ t is. fits_not_zero (written file t).pieces (fits_answer_term file goal names t is) in (
      (refl, if_stop (written_condition file) P each conditions next stops),
      if_ends (written_condition file) P each conditions (recursion_from_All P conditions parts) next stops,
    )
answer_ends file format goal names are (answer.Certified constants cert) parts next stops =
    let each : (c : ℤ) → IsNumeral c → Fits (written_constant c).pieces =
    λ c is. fits_not_zero (integer c ∷ []) (fits_integer c is) in
    let ifs = if_pieces written_constant constants in
    front_ends format (numeral cert.power ∷ ifs) next
    (fits_before (numeral cert.power ∷ []) ifs next (fits_count cert.power parts.1.power)
    (if_stop written_constant IsNumeral each constants next stops)
    (if_ends written_constant IsNumeral each constants (recursion_from_All IsNumeral constants parts.0) next stops))
answer_ends file format goal names are (answer.No at left right) parts next stops =
    let atoms = goal_atoms file goal in
    let last = (written_integer right).pieces in
    let and = space ∷ word words.And ∷ space ∷ last in
    let from_left = (written_integer left).pieces ++ and in
    let colon = space ∷ sign signs.Colon ∷ space ∷ from_left in
    let from_mono = (written_mono file atoms at).pieces ++ colon in
    let and_stands : EachEnds and next =
    ((32, refl, refl), word_space words.And last next ((fits_signed right parts.2).stand next stops)) in
    let left_stands = fits_before (written_integer left).pieces and next (fits_signed left parts.1) (32, _, refl, refl)
    and_stands in
    let mono_stands = fits_before (written_mono file atoms at).pieces colon next
    (fits_mono file names atoms are at parts.0) (32, _, refl, refl)
    ((32, refl, refl), sign_space signs.Colon from_left next left_stands) in
    word_space words.No (word words.At ∷ space ∷ from_mono) next (word_space words.At from_mono next mono_stands)
answer_ends file format goal names are (answer.ZeroDenominator denominator) parts next stops =
    let pieces = (written file denominator).pieces in
    word_space words.Zero (word words.Denominator ∷ space ∷ pieces) next
    (word_space words.Denominator pieces next
    ((fits_answer_term file goal names denominator parts).stand next stops))
answer_ends file format goal names are (answer.NoneUpTo power) parts next stops =
    let last = word words.Power ∷ space ∷ numeral power ∷ [] in
    word_space words.None (word words.Up ∷ space ∷ word words.To ∷ space ∷ last) next
    (word_space words.Up (word words.To ∷ space ∷ last) next
    (word_space words.To last next
    (word_space words.Power (numeral power ∷ []) next ((fits_count power parts).stand next stops))))
answer_ends file format goal names are (answer.GaveUp limit) parts next stops =
    word_space words.Gave (word words.Up ∷ space ∷ word words.After ∷ space ∷ numeral limit ∷ []) next
    (word_space words.Up (word words.After ∷ space ∷ numeral limit ∷ []) next
    (word_space words.After (numeral limit ∷ []) next ((fits_count limit parts).stand next stops)))
answer_ends file format goal names are answer.Atoms parts next stops = ((refl, stops), tt)
answer_ends file format goal names are answer.Range parts next stops = ((refl, stops), tt)
answer_ends file format goal names are answer.Degree parts next stops = ((refl, stops), tt)
