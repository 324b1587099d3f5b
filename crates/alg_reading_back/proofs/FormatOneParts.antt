-- Few parentheses are open in the lines and steps of certificates in format 1, as in those in format 2.
use Rattle.std.proofs.Common.{◌≡◌, ◌≤◌, ℕ, true, false, cond, List, [], ◌∷◌, ◌++◌, refl, sym, subst, arith, ℤ, pos, negsuc}
use Rattle.std.specs.Ordering.{int_eq}
use Rattle.alg_lines.specs.declared.cert.GoalStep.{GoalStep}
use Rattle.alg_lines.specs.declared.cert.Line.{Line}
use Rattle.alg_mono.specs.Mono.{Monomial}
use Rattle.alg_terms.specs.declared.file.File.{File}
use Rattle.alg_terms.specs.declared.term.Atom.{Atom}
use Rattle.alg_terms.specs.Limits.{MAX_OPEN}
use Rattle.alg_tokens.specs.declared.token.Sign.TheVariants as signs
use Rattle.alg_tokens.specs.Pieces.{Piece}
use Rattle.alg_reader.specs.declared.format.Format.{Format}
use Rattle.alg_reader.specs.declared.format.Format.TheVariants as formats
use Rattle.alg_reading_back.proofs.FewPieces.{OpenFew, few_left, few_right, few_both, open_behind, Closes, closes_both, closes_mono, closes_integer}
use Rattle.alg_reading_back.proofs.WrittenAnswers.{cofactor_pieces, divisor_pieces, over_pieces, written_combined, written_line, written_step}
use Rattle.alg_reading_back.proofs.WrittenMonos.{written_mono, written_integer}
use Rattle.alg_reading_back.proofs.WrittenTerms.{space, sign, numeral}

-- none is open
pub none_open : 0 ≤ MAX_OPEN
none_open = omega arith

-- ---- pieces of combinations

module _ (file : File) (atoms : List Atom) where
  pub closes_cofactor : (format : Format) (m : Monomial) → Closes (cofactor_pieces file format atoms m)
  closes_cofactor formats.One m =
      closes_both (written_mono file atoms m).pieces (sign signs.Comma ∷ space ∷ []) (closes_mono file atoms m)
      (λ d. refl)
  closes_cofactor formats.Two [] = λ d. refl
  closes_cofactor formats.Two (e ∷ m) =
      closes_both (written_mono file atoms (e ∷ m)).pieces (sign signs.Comma ∷ space ∷ [])
      (closes_mono file atoms (e ∷ m)) (λ d. refl)

  -- behind pieces that close what they open
  few_behind : (front back : List Piece) → Closes front → OpenFew 0 (front ++ back) → OpenFew 0 back
  few_behind front back closes few = subst (λ d. OpenFew d back) (closes 0) (few_right 0 front back few)

  pub few_before : (front back : List Piece) → Closes front → OpenFew 0 front → OpenFew 0 back → OpenFew 0
      (front ++ back)
  few_before front back closes one other =
      few_both 0 front back one (subst (λ d. OpenFew d back) (sym (closes 0)) other)

  -- a monomial in format 1, by the one in format 2
  cofactor_one : (m : Monomial) → OpenFew 0 (cofactor_pieces file formats.Two atoms m) →
      OpenFew 0 (cofactor_pieces file formats.One atoms m)
  cofactor_one [] few = (none_open, (none_open, tt))
  cofactor_one (e ∷ m) few = few

  few_integer : (b : ℤ) → OpenFew 0 (written_integer b).pieces
  few_integer (pos n) = (none_open, tt)
  few_integer (negsuc n) = (none_open, (none_open, tt))

  combined_one : (first b : ℤ) (n : Monomial) (j : ℕ) (d : ℤ) →
      OpenFew 0 (written_combined file formats.Two atoms first b n j d).pieces →
      OpenFew 0 (written_combined file formats.One atoms first b n j d).pieces
  combined_one first b n j d few =
      let end = numeral j ∷ divisor_pieces formats.Two d in
      let there = few_behind (written_integer b).pieces
      (sign signs.Comma ∷ space ∷ (cofactor_pieces file formats.Two atoms n ++ end)) (closes_integer b) few.1.1 in
      let last = few_before (cofactor_pieces file formats.One atoms n) (numeral j ∷ over_pieces d)
      (closes_cofactor formats.One n)
      (cofactor_one n (few_left 0 (cofactor_pieces file formats.Two atoms n) end there.1))
      (none_open, (none_open, (none_open, tt))) in (
        none_open,
        (
          none_open,
          few_before (written_integer b).pieces
              (sign signs.Comma ∷ space ∷ (cofactor_pieces file formats.One atoms n ++ (numeral j ∷ over_pieces d)))
              (closes_integer b) (few_integer b) (none_open, last),
        ),
      )

  pub closes_combined : (format : Format) (first b : ℤ) (n : Monomial) (j : ℕ) (d : ℤ) →
      Closes (written_combined file format atoms first b n j d).pieces
  closes_combined format first b n j d =
      let end = numeral j ∷ divisor_pieces format d in
      closes_both (written_integer b).pieces (sign signs.Comma ∷ space ∷ (cofactor_pieces file format atoms n ++ end))
      (closes_integer b) (closes_both (cofactor_pieces file format atoms n) end (closes_cofactor format n)
      (closes_divisor format d))
    where
      closes_divisor : (format : Format) (d : ℤ) → Closes (divisor_pieces format d)
      closes_divisor formats.One d depth = refl
      closes_divisor formats.Two d depth =
          elim (int_eq d (pos 1)) as (λ b. open_behind depth (cond b [] (over_pieces d)) ≡ depth) [
            | true ↦ refl
            | false ↦ refl
          ]

  -- a line, without its dot
  pub line_one : (l : Line) → OpenFew 0 (written_line file formats.Two atoms l).pieces →
      OpenFew 0 (written_line file formats.One atoms l).pieces
  line_one l few =
      let two = written_combined file formats.Two atoms (pos l.i) l.b l.n l.j l.d in
      let one = written_combined file formats.One atoms (pos l.i) l.b l.n l.j l.d in
      let there = few.1.1.1 in (
        none_open,
        (
          none_open,
          (
            none_open,
            few_before (cofactor_pieces file formats.One atoms l.m) one.pieces
                (closes_cofactor formats.One l.m)
                (cofactor_one l.m (few_left 0 (cofactor_pieces file formats.Two atoms l.m) two.pieces there))
                (combined_one (pos l.i) l.b l.n l.j l.d
                (few_behind (cofactor_pieces file formats.Two atoms l.m) two.pieces
                (closes_cofactor formats.Two l.m) there)),
          ),
        ),
      )

  pub step_one : (s : GoalStep) → OpenFew 0 (written_step file formats.Two atoms s).pieces →
      OpenFew 0 (written_step file formats.One atoms s).pieces
  step_one s few = (none_open, combined_one s.a s.b s.n s.j s.d few.1)
