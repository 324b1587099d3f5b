-- The raw lines and steps of a canonical text come back as the lines and steps, without fault, behind their answer.
use Rattle.std.proofs.Common.{◌≡◌, ℕ, ◌+◌, true, false, cond, List, [], ◌∷◌, ◌++◌, length, decimal, Some, None, ℤ, pos, refl, sym, ap, ◌∙◌}
use Rattle.std.specs.Fmt.{signed_decimal}
use Rattle.std.specs.Ordering.{int_eq}
use Rattle.std.specs.Prelude.{unwrap_or}
use Rattle.std.proofs.lemmas.Bool.Decides.{Decides-int_eq}
use Rattle.alg_lines.specs.declared.cert.GoalStep.{GoalStep}
use Rattle.alg_lines.specs.declared.cert.Line.{Line}
use Rattle.alg_mono.specs.Mono.{Monomial}
use Rattle.alg_terms.specs.declared.file.File.{File}
use Rattle.alg_terms.specs.declared.term.Atom.{Atom}
use Rattle.alg_terms.specs.Valid.{names_of}
use Rattle.alg_tokens.specs.declared.token.Sign.TheVariants as signs
use Rattle.alg_tokens.specs.Laws.{width}
use Rattle.alg_reader.specs.declared.format.Format.{Format}
use Rattle.alg_reader.specs.declared.format.Format.TheVariants as formats
use Rattle.alg_reader.specs.declared.raw.RawMono.{RawMono}
use Rattle.alg_reader.specs.declared.raw.RawNumber.{RawNumber}
use Rattle.alg_reader.specs.RawMonos.{mono_one, number_one}
use Rattle.alg_typing.proofs.FreshNames.{AreDistinct}
use Rattle.alg_typing.proofs.Growing.{Grows}
use Rattle.alg_annotated.specs.Monomials.{mono_names, mono_faults}
use Rattle.alg_annotated.specs.Resolved.{line_of, step_of}
use Rattle.alg_annotated.specs.Rules.{count_fault}
use Rattle.alg_printer.specs.Printable.{IsLineOver, IsMonomialOver, IsStepOver}
use Rattle.alg_printer.proofs.Leaves.{AreAtoms}
use Rattle.alg_reading_back.proofs.AnswersBack.{count_clear}
use Rattle.alg_reading_back.proofs.AtomNumbers.{AreOnce}
use Rattle.alg_reading_back.proofs.MonosBack.{IsMonoBack, one_back, mono_back}
use Rattle.alg_reading_back.proofs.NamesTaken.{two_empty}
use Rattle.alg_reading_back.proofs.PiecesAt.{PiecesAt, pieces_at_left, pieces_at_right}
use Rattle.alg_reading_back.proofs.WrittenAnswers.{cofactor_pieces, cofactor_raw, over_raw, divisor_pieces, divisor_raw, written_combined, written_line, written_step}
use Rattle.alg_reading_back.proofs.WrittenMonos.{written_mono, written_integer}
use Rattle.alg_reading_back.proofs.WrittenTerms.{space, sign, numeral}

-- a divisor that is left out is 1
divisor_back : (format : Format) (d : ℤ) (at start : ℕ) →
    (unwrap_or (divisor_raw format d at) (number_one start)).value ≡ d
divisor_back formats.One d at start = refl
divisor_back formats.Two d at start =
    elim (int_eq d (pos 1)) as (λ b. int_eq d (pos 1) ≡ b →
    (unwrap_or (cond b None (Some (over_raw d at))) (number_one start)).value ≡ d) [
      | true ↦ λ e. sym ((Decides-int_eq d (pos 1)).0 e)
      | false ↦ λ e. refl
    ] refl

module _ (file g : File) (text : List ℕ) (distinct : AreDistinct (names_of g)) (grows : Grows g file)
    (atoms : List Atom) (are : AreAtoms g atoms) (once : AreOnce atoms) (format : Format) where
  -- a monomial that comes back
  abbrev IsBack : Monomial → RawMono → Type 0
  IsBack m raw = IsMonoBack file g text distinct grows atoms are once m raw

  -- one that is left out is 1
  cofactor_back : (format : Format) (m : Monomial) → IsMonomialOver atoms m → (at start : ℕ) →
      PiecesAt text at (cofactor_pieces file format atoms m) →
      IsBack m (unwrap_or (cofactor_raw file format atoms m at) (mono_one start))
  cofactor_back formats.One m is at start placed =
      mono_back file g text distinct grows atoms are once m is at
      (pieces_at_left text at (written_mono file atoms m).pieces (sign signs.Comma ∷ space ∷ []) placed)
  cofactor_back formats.Two [] is at start placed = one_back file g text distinct grows atoms are once is start
  cofactor_back formats.Two (e ∷ m) is at start placed =
      mono_back file g text distinct grows atoms are once (e ∷ m) is at
      (pieces_at_left text at (written_mono file atoms (e ∷ m)).pieces (sign signs.Comma ∷ space ∷ []) placed)

  -- the monomial of the line that is subtracted
  combined_back : (first b : ℤ) (n : Monomial) (j : ℕ) (d : ℤ) → IsMonomialOver atoms n → (at start : ℕ) →
      PiecesAt text at (written_combined file format atoms first b n j d).pieces →
      IsBack n (unwrap_or ((written_combined file format atoms first b n j d).raw at).n (mono_one start))
  combined_back first b n j d is at start placed =
      let b_at = at + length (signed_decimal first) + 1 + 5 + 1 in
      let end = numeral j ∷ divisor_pieces format d in
      let from_n = cofactor_pieces file format atoms n ++ end in
      let behind = pieces_at_right text b_at (written_integer b).pieces (sign signs.Comma ∷ space ∷ from_n)
      placed.1.1.1.1 in
      let n_at = b_at + width (written_integer b).pieces + 1 + 1 in
      cofactor_back format n is n_at start (pieces_at_left text n_at
      (cofactor_pieces file format atoms n) end behind.1.1)

  -- a line that comes back: it has no faults of names and no others, and is the line
  pub record IsLineBack (l : Line) (a : RawNumber) (m : RawMono) (i b : RawNumber) (n : RawMono)
      (j d : RawNumber) : Type 0 where
    pub names : mono_names g text m ++ mono_names g text n ≡ []
    pub clear : ((mono_faults g text atoms m ++ count_fault i) ++ mono_faults g text atoms n) ++ count_fault j ≡ []
    pub same : line_of g text atoms a m i b n j d ≡ l

  line_by : (l : Line) (m n : Monomial) (d : ℤ) → m ≡ l.m → n ≡ l.n → d ≡ l.d →
      record { a = l.a; m = m; i = l.i; b = l.b; n = n; j = l.j; d = d } ≡ l
  line_by l m n d p q r =
      ap (λ x. record { a = l.a; m = x; i = l.i; b = l.b; n = n; j = l.j; d = d }) p
      ∙ ap (λ x. record { a = l.a; m = l.m; i = l.i; b = l.b; n = x; j = l.j; d = d }) q
      ∙ ap (λ x. record { a = l.a; m = l.m; i = l.i; b = l.b; n = l.n; j = l.j; d = x }) r

  pub line_back : (l : Line) → IsLineOver atoms l → (at : ℕ) →
      PiecesAt text at (written_line file format atoms l).pieces →
      let m_at = at + 4 + 1 + length (signed_decimal l.a) + 1 + 1 in
      let c = (written_combined file format atoms (pos l.i) l.b l.n l.j l.d).raw
      (m_at + width (cofactor_pieces file format atoms l.m)) in
      IsLineBack l (record { value = l.a; at = at + 4 + 1 })
      (unwrap_or (cofactor_raw file format atoms l.m m_at) (mono_one at)) c.first c.b
      (unwrap_or c.n (mono_one at)) c.j (unwrap_or c.d (number_one at))
  line_back l is at placed =
      let m_at = at + 4 + 1 + length (signed_decimal l.a) + 1 + 1 in
      let i_at = m_at + width (cofactor_pieces file format atoms l.m) in
      let last = written_combined file format atoms (pos l.i) l.b l.n l.j l.d in
      let c = last.raw i_at in
      let there = placed.1.1.1.1.1 in
      let m = cofactor_back format l.m is.m m_at at
      (pieces_at_left text m_at (cofactor_pieces file format atoms l.m) last.pieces there) in
      let n = combined_back (pos l.i) l.b l.n l.j l.d is.n i_at at
      (pieces_at_right text m_at (cofactor_pieces file format atoms l.m) last.pieces there) in
      record {
        names = two_empty _ _ m.names n.names;
        clear = two_empty _ _ (two_empty _ _ (two_empty _ _ m.clear (count_clear l.i c.first.at is.i)) n.clear)
            (count_clear l.j c.j.at is.j);
        same = line_by l _ _ _ m.same n.same (divisor_back format l.d (c.j.at + length (decimal l.j)) at);
      }

  -- a step that comes back
  pub record IsStepBack (s : GoalStep) (a b : RawNumber) (n : RawMono) (j d : RawNumber) : Type 0 where
    pub names : mono_names g text n ≡ []
    pub clear : mono_faults g text atoms n ++ count_fault j ≡ []
    pub same : step_of g text atoms a b n j d ≡ s

  step_by : (s : GoalStep) (n : Monomial) (d : ℤ) → n ≡ s.n → d ≡ s.d →
      record { a = s.a; b = s.b; n = n; j = s.j; d = d } ≡ s
  step_by s n d q r =
      ap (λ x. record { a = s.a; b = s.b; n = x; j = s.j; d = d }) q
      ∙ ap (λ x. record { a = s.a; b = s.b; n = s.n; j = s.j; d = x }) r

  pub step_back : (s : GoalStep) → IsStepOver atoms s → (at : ℕ) →
      PiecesAt text at (written_step file format atoms s).pieces →
      let c = (written_combined file format atoms s.a s.b s.n s.j s.d).raw (at + 4 + 1) in
      IsStepBack s c.first c.b (unwrap_or c.n (mono_one at)) c.j (unwrap_or c.d (number_one at))
  step_back s is at placed =
      let c = (written_combined file format atoms s.a s.b s.n s.j s.d).raw (at + 4 + 1) in
      let n = combined_back s.a s.b s.n s.j s.d is.n (at + 4 + 1) at placed.1.1 in
      record {
        names = n.names;
        clear = two_empty _ _ n.clear (count_clear s.j c.j.at is.j);
        same = step_by s _ _ n.same (divisor_back format s.d (c.j.at + length (decimal s.j)) at);
      }
