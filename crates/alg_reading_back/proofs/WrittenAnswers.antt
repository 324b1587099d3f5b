-- The canonical texts of answers, lines and steps in both formats, cut into pieces, and the raw statements that these
-- are, by the place where they begin.
use Rattle.std.specs.Prelude.{ℕ, ◌+◌, List, [], ◌∷◌, ◌++◌, length, decimal, if◌then◌else◌, Option, None, Some, unwrap_or, ℤ, pos}
use Rattle.std.specs.Fmt.{signed_decimal}
use Rattle.std.specs.Ordering.{int_eq}
use Rattle.alg_lines.specs.declared.answer.Answer.{Answer}
use Rattle.alg_lines.specs.declared.answer.Answer.TheVariants as answer
use Rattle.alg_lines.specs.declared.cert.GoalStep.{GoalStep}
use Rattle.alg_lines.specs.declared.cert.Line.{Line}
use Rattle.alg_mono.specs.Mono.{Monomial}
use Rattle.alg_terms.specs.declared.file.File.{File}
use Rattle.alg_terms.specs.declared.term.Atom.{Atom}
use Rattle.alg_terms.specs.declared.term.Term.{Term}
use Rattle.alg_tokens.specs.declared.token.Sign.TheVariants as signs
use Rattle.alg_tokens.specs.declared.token.Word.TheVariants as words
use Rattle.alg_tokens.specs.Laws.{width}
use Rattle.alg_tokens.specs.Pieces.{Piece}
use Rattle.alg_reader.specs.declared.certificates.Combined.{Combined}
use Rattle.alg_reader.specs.declared.format.Format.{Format}
use Rattle.alg_reader.specs.declared.format.Format.TheVariants as formats
use Rattle.alg_reader.specs.declared.raw.RawAnswer.{RawAnswer}
use Rattle.alg_reader.specs.declared.raw.RawAnswer.TheVariants as answers
use Rattle.alg_reader.specs.declared.raw.RawKind.{RawKind}
use Rattle.alg_reader.specs.declared.raw.RawKind.TheVariants as raws
use Rattle.alg_reader.specs.declared.raw.RawMono.{RawMono}
use Rattle.alg_reader.specs.declared.raw.RawNumber.{RawNumber}
use Rattle.alg_reader.specs.declared.raw.RawTerm.{RawTerm}
use Rattle.alg_reader.specs.RawMonos.{mono_one, number_one}
use Rattle.alg_reading_back.proofs.WrittenLists.{Written, comma, list_pieces, all_raw}
use Rattle.alg_reading_back.proofs.WrittenMonos.{written_mono, written_factors, written_integer}
use Rattle.alg_reading_back.proofs.WrittenTerms.{written, space, sign, word, numeral, integer}

-- ---- answers

-- `<> 0`, behind a space
abbrev pub not_zero : List Piece
not_zero = space ∷ sign signs.NotEqual ∷ space ∷ numeral 0 ∷ []

abbrev pub written_condition : File → Term → Written RawTerm
written_condition file t = record { pieces = (written file t).pieces ++ not_zero; raw = (written file t).raw }

abbrev pub written_constant : ℤ → Written RawNumber
written_constant c = record { pieces = integer c ∷ not_zero; raw = λ at. record { value = c; at = at } }

-- conditions or constants: none, or ` if ` and each with `<> 0`
abbrev pub if_pieces : {X R : Type 0} → (X → Written R) → List X → List Piece
if_pieces write [] = []
if_pieces write (x ∷ xs) = space ∷ word words.If ∷ space ∷ list_pieces write comma x xs

-- the version of a format, with a space behind it
abbrev pub version_pieces : Format → List Piece
version_pieces formats.One = []
version_pieces formats.Two = word words.Version ∷ space ∷ numeral 2 ∷ space ∷ []

abbrev pub version_raw : Format → ℕ → Option RawNumber
version_raw formats.One at = None
version_raw formats.Two at = Some (record { value = pos 2; at = at + 7 + 1 })

-- the pieces of a certificate's answer up to its power
abbrev pub power_front : Format → List Piece
power_front format = word words.Proved ∷ space ∷ (version_pieces format ++ (word words.Power ∷ space ∷ []))

-- where the power stands
abbrev pub power_place : Format → ℕ → ℕ
power_place formats.One at = at + 6 + 1 + 5 + 1
power_place formats.Two at = at + 6 + 1 + 7 + 1 + length (decimal 2) + 1 + 5 + 1

-- an answer, without its `.`
abbrev pub answer_pieces : File → Format → List Atom → Answer → List Piece
answer_pieces file format atoms (answer.Proved conditions) =
    word words.Proved ∷ if_pieces (written_condition file) conditions
answer_pieces file format atoms (answer.Certified constants cert) =
    power_front format ++ (numeral cert.power ∷ if_pieces written_constant constants)
answer_pieces file format atoms (answer.No at left right) =
    word words.No ∷ space ∷ word words.At ∷ space ∷ ((written_mono file atoms at).pieces
    ++ (space ∷ sign signs.Colon ∷ space ∷ ((written_integer left).pieces
    ++ (space ∷ word words.And ∷ space ∷ (written_integer right).pieces))))
answer_pieces file format atoms (answer.ZeroDenominator denominator) =
    word words.Zero ∷ space ∷ word words.Denominator ∷ space ∷ (written file denominator).pieces
answer_pieces file format atoms (answer.NoneUpTo power) =
    word words.None ∷ space ∷ word words.Up ∷ space ∷ word words.To ∷ space ∷ word words.Power ∷ space ∷ numeral power
    ∷ []
answer_pieces file format atoms (answer.GaveUp limit) =
    word words.Gave ∷ space ∷ word words.Up ∷ space ∷ word words.After ∷ space ∷ numeral limit ∷ []
answer_pieces file format atoms answer.Atoms = word words.Atoms ∷ []
answer_pieces file format atoms answer.Range = word words.Range ∷ []
answer_pieces file format atoms answer.Degree = word words.Degree ∷ []

-- what it says
abbrev pub answer_raw : File → Format → List Atom → Answer → ℕ → RawAnswer
answer_raw file format atoms (answer.Proved conditions) at =
    answers.Proved (all_raw (written_condition file) comma (at + 6 + 1 + 2 + 1) conditions)
answer_raw file format atoms (answer.Certified constants cert) at =
    let power_at = power_place format at in
    answers.Certified (version_raw format (at + 6 + 1)) (record { value = pos cert.power; at = power_at })
    (all_raw written_constant comma (power_at + length (decimal cert.power) + 1 + 2 + 1) constants)
answer_raw file format atoms (answer.No m left right) at =
    let mono_at = at + 2 + 1 + 2 + 1 in
    let left_at = mono_at + width (written_mono file atoms m).pieces + 1 + 1 + 1 in
    let right_at = left_at + width (written_integer left).pieces + 1 + 3 + 1 in
    answers.No ((written_mono file atoms m).raw mono_at) ((written_integer left).raw left_at)
    ((written_integer right).raw right_at)
answer_raw file format atoms (answer.ZeroDenominator denominator) at =
    answers.ZeroDenominator ((written file denominator).raw (at + 4 + 1 + 11 + 1))
answer_raw file format atoms (answer.NoneUpTo power) at =
    answers.NoneUpTo (record { value = pos power; at = at + 4 + 1 + 2 + 1 + 2 + 1 + 5 + 1 })
answer_raw file format atoms (answer.GaveUp limit) at =
    answers.GaveUp (record { value = pos limit; at = at + 4 + 1 + 2 + 1 + 5 + 1 })
answer_raw file format atoms answer.Atoms at = answers.Atoms
answer_raw file format atoms answer.Range at = answers.Range
answer_raw file format atoms answer.Degree at = answers.Degree

-- ---- lines and steps

-- a monomial of a combination and what stands behind it: format 2 leaves the monomial 1 out
abbrev pub cofactor_pieces : File → Format → List Atom → Monomial → List Piece
cofactor_pieces file formats.One atoms m = (written_mono file atoms m).pieces ++ (sign signs.Comma ∷ space ∷ [])
cofactor_pieces file formats.Two atoms [] = []
cofactor_pieces file formats.Two atoms (e ∷ m) =
    (written_factors file atoms e m).pieces ++ (sign signs.Comma ∷ space ∷ [])

abbrev pub cofactor_raw : File → Format → List Atom → Monomial → ℕ → Option RawMono
cofactor_raw file formats.One atoms m at = Some ((written_mono file atoms m).raw at)
cofactor_raw file formats.Two atoms [] at = None
cofactor_raw file formats.Two atoms (e ∷ m) at = Some ((written_factors file atoms e m).raw at)

-- the divisor of a combination: format 2 leaves the divisor 1 out
abbrev pub over_pieces : ℤ → List Piece
over_pieces d = space ∷ word words.Over ∷ space ∷ integer d ∷ []

abbrev pub divisor_pieces : Format → ℤ → List Piece
divisor_pieces formats.One d = over_pieces d
divisor_pieces formats.Two d = if int_eq d (pos 1) then [] else over_pieces d

abbrev pub over_raw : ℤ → ℕ → RawNumber
over_raw d at = record { value = d; at = at + 1 + 4 + 1 }

abbrev pub divisor_raw : Format → ℤ → ℕ → Option RawNumber
divisor_raw formats.One d at = Some (over_raw d at)
divisor_raw formats.Two d at = if int_eq d (pos 1) then None else Some (over_raw d at)

-- what a line and a step end with: a number, and the multiple that is subtracted, with the divisor
abbrev pub written_combined : File → Format → List Atom → ℤ → ℤ → Monomial → ℕ → ℤ → Written Combined
written_combined file format atoms first b n j d = record {
  pieces = integer first ∷ space ∷ word words.Minus ∷ space ∷ ((written_integer b).pieces
      ++ (sign signs.Comma ∷ space ∷ (cofactor_pieces file format atoms n
      ++ (numeral j ∷ divisor_pieces format d))));
  raw = λ at.
      let b_at = at + length (signed_decimal first) + 1 + 5 + 1 in
      let n_at = b_at + width (written_integer b).pieces + 1 + 1 in
      let j_at = n_at + width (cofactor_pieces file format atoms n) in
      record {
        first = record { value = first; at = at };
        b = (written_integer b).raw b_at;
        n = cofactor_raw file format atoms n n_at;
        j = record { value = pos j; at = j_at };
        d = divisor_raw format d (j_at + length (decimal j));
      };
}

-- a line, without its `.`
abbrev pub written_line : File → Format → List Atom → Line → Written RawKind
written_line file format atoms l =
    let combined = written_combined file format atoms (pos l.i) l.b l.n l.j l.d in
    record {
      pieces = word words.Line ∷ space ∷ integer l.a ∷ sign signs.Comma ∷ space
          ∷ (cofactor_pieces file format atoms l.m ++ combined.pieces);
      raw = λ at.
          let m_at = at + 4 + 1 + length (signed_decimal l.a) + 1 + 1 in
          let c = combined.raw (m_at + width (cofactor_pieces file format atoms l.m)) in
          raws.Line (record { value = l.a; at = at + 4 + 1 })
          (unwrap_or (cofactor_raw file format atoms l.m m_at) (mono_one at)) c.first c.b
          (unwrap_or c.n (mono_one at)) c.j (unwrap_or c.d (number_one at));
    }

-- a step, without its `.`
abbrev pub written_step : File → Format → List Atom → GoalStep → Written RawKind
written_step file format atoms s =
    let combined = written_combined file format atoms s.a s.b s.n s.j s.d in
    record {
      pieces = word words.Step ∷ space ∷ combined.pieces;
      raw = λ at.
          let c = combined.raw (at + 4 + 1) in
          raws.Step c.first c.b (unwrap_or c.n (mono_one at)) c.j (unwrap_or c.d (number_one at));
    }
