-- The grammar derives the canonical text of lines and steps, as the raw lines and steps that they are, and each line of
-- a text as a statement of its place.
use Rattle.std.proofs.Common.{◌≡◌, ℕ, ◌+◌, List, [], ◌∷◌, ◌++◌, true, false, cond, Option, Some, None, pos, ℤ, length, decimal, refl, subst}
use Rattle.std.specs.Fmt.{signed_decimal}
use Rattle.std.specs.Ordering.{int_eq}
use Rattle.std.specs.Prelude.{unwrap_or}
use Rattle.alg_lines.specs.declared.cert.GoalStep.{GoalStep}
use Rattle.alg_lines.specs.declared.cert.Line.{Line}
use Rattle.alg_mono.specs.Mono.{Monomial}
use Rattle.alg_terms.specs.declared.file.File.{File}
use Rattle.alg_terms.specs.declared.term.Atom.{Atom}
use Rattle.alg_tokens.specs.declared.token.Sign.TheVariants as signs
use Rattle.alg_tokens.specs.declared.token.TokenKind.TheVariants as kinds
use Rattle.alg_tokens.specs.declared.token.Word.TheVariants as words
use Rattle.alg_tokens.specs.Laws.{width, tokens_of}
use Rattle.alg_reader.specs.AnswerMeaning.{cofactor_of}
use Rattle.alg_reader.specs.declared.format.Format.{Format}
use Rattle.alg_reader.specs.declared.format.Format.TheVariants as formats
use Rattle.alg_reader.specs.declared.raw.RawMono.{RawMono}
use Rattle.alg_reader.specs.declared.raw.RawNumber.{RawNumber}
use Rattle.alg_reader.specs.Forms as rules
use Rattle.alg_reader.specs.Forms.{seq, rule}
use Rattle.alg_reader.specs.Grammar as forms
use Rattle.alg_reader.specs.Grammar.{grammar, number, option, cofactor, divisor}
use Rattle.alg_reader.specs.Meaning.{act, kind_value}
use Rattle.alg_reader.specs.PartMeaning.{option_of}
use Rattle.alg_reader.specs.RawMonos.{mono_one, number_one}
use Rattle.alg_reader.specs.TermMeaning.{Value, one, two, nothing, mono, combined}
use Rattle.alg_reader.specs.TermMeaning as values
use Rattle.alg_reading_back.proofs.DerivedConditions.{word_before, sign_before, number_before, number_at}
use Rattle.alg_reading_back.proofs.DerivedForms.{IsDerived, one_token, given, left_out, by_rule, pieces_before}
use Rattle.alg_reading_back.proofs.DerivedMonos.{number_derived, integer_derived, factors_derived, mono_derived}
use Rattle.alg_reading_back.proofs.DerivedStatements.{word_at}
use Rattle.alg_reading_back.proofs.DerivedTerms.{sign_at}
use Rattle.alg_reading_back.proofs.WrittenAnswers.{cofactor_pieces, cofactor_raw, over_pieces, over_raw, divisor_pieces, divisor_raw, written_combined, written_line, written_step}
use Rattle.alg_reading_back.proofs.WrittenMonos.{written_mono, written_factors, written_integer}
use Rattle.alg_reading_back.proofs.WrittenTerms.{space, sign, word, numeral, integer}

-- `, ` behind a monomial
comma_derived : (at : ℕ) → IsDerived (forms.sign signs.Comma) (tokens_of at (sign signs.Comma ∷ space ∷ []))
    (one (sign_at signs.Comma at))
comma_derived at = one_token (kinds.Sign signs.Comma) (sign_at signs.Comma at) refl

-- a monomial and its comma, if they are there
cofactor_derived : (file : File) (format : Format) (atoms : List Atom) (m : Monomial) (at : ℕ) → (v : Value) ×
    IsDerived (cofactor format) (tokens_of at (cofactor_pieces file format atoms m)) v ×
    (cofactor_of v ≡ cofactor_raw file format atoms m at)
cofactor_derived file formats.One atoms m at =
    let pieces = (written_mono file atoms m).pieces in
    let there = at + width pieces in (
      two (mono ((written_mono file atoms m).raw at)) (one (sign_at signs.Comma there)),
      pieces_before (rule rules.Mono) (forms.sign signs.Comma) pieces (sign signs.Comma ∷ space ∷ []) at there _ _ refl
          (mono_derived file atoms m at) (comma_derived there),
      refl,
    )
cofactor_derived file formats.Two atoms [] at = (nothing, left_out _, refl)
cofactor_derived file formats.Two atoms (e ∷ m) at =
    let pieces = (written_factors file atoms e m).pieces in
    let there = at + width pieces in (
      two (mono ((written_factors file atoms e m).raw at)) (one (sign_at signs.Comma there)),
      given _ _ _ (pieces_before (rule rules.Factors) (forms.sign signs.Comma) pieces (sign signs.Comma ∷ space ∷ []) at
          there _ _ refl (factors_derived file atoms e m at) (comma_derived there)),
      refl,
    )

-- a divisor, if it is there
over_derived : (d : ℤ) (at : ℕ) → IsDerived (seq (forms.word words.Over) number) (tokens_of at (over_pieces d))
    (two (one (word_at words.Over (at + 1))) (number_at d (at + 1 + 4 + 1)))
over_derived d at =
    word_before words.Over number (integer d ∷ []) (at + 1) (number_at d (at + 1 + 4 + 1))
    (number_derived d (at + 1 + 4 + 1))

divisor_derived : (format : Format) (d : ℤ) (at : ℕ) → (v : Value) ×
    IsDerived (divisor format) (tokens_of at (divisor_pieces format d)) v × (option_of v ≡ divisor_raw format d at)
divisor_derived formats.One d at =
    (two (one (word_at words.Over (at + 1))) (number_at d (at + 1 + 4 + 1)), over_derived d at, refl)
divisor_derived formats.Two d at =
    elim (int_eq d (pos 1)) as (λ b. (v : Value) × IsDerived (option (kinds.Word words.Over)) (tokens_of at
    (cond b [] (over_pieces d))) v × (option_of v ≡ cond b None (Some (over_raw d at)))) [
      | true ↦ (nothing, left_out _, refl)
      | false ↦ (
        two (one (word_at words.Over (at + 1))) (number_at d (at + 1 + 4 + 1)),
        given _ _ _ (over_derived d at),
        refl,
      )
    ]

-- the end of a line and of a step
combined_derived : (file : File) (format : Format) (atoms : List Atom) (first b : ℤ) (n : Monomial) (j : ℕ) (d : ℤ)
    (at : ℕ) → IsDerived (rule (rules.Combined format))
    (tokens_of at (written_combined file format atoms first b n j d).pieces)
    (combined ((written_combined file format atoms first b n j d).raw at))
unfolding grammar act
combined_derived file format atoms first b n j d at =
    let write = written_combined file format atoms first b n j d in
    let minus_at = at + length (signed_decimal first) + 1 in
    let b_at = minus_at + 5 + 1 in
    let comma_at = b_at + width (written_integer b).pieces in
    let n_at = comma_at + 1 + 1 in
    let j_at = n_at + width (cofactor_pieces file format atoms n) in
    let over_at = j_at + length (decimal j) in
    let end = numeral j ∷ divisor_pieces format d in
    let from_n = cofactor_pieces file format atoms n ++ end in
    let from_b = (written_integer b).pieces ++ (sign signs.Comma ∷ space ∷ from_n) in
    let (n_value, n_derived, n_says) = cofactor_derived file format atoms n n_at in
    let (d_value, d_derived, d_says) = divisor_derived format d over_at in
    let said_end = number_before (pos j) (divisor format) (divisor_pieces format d) j_at d_value d_derived in
    let said_n = pieces_before (cofactor format) _ (cofactor_pieces file format atoms n) end n_at j_at n_value _ refl
    n_derived said_end in
    let said_comma = sign_before signs.Comma _ (space ∷ from_n) comma_at _ said_n in
    let said_b = pieces_before (rule rules.Int) _ (written_integer b).pieces (sign signs.Comma ∷ space ∷ from_n) b_at
    comma_at _ _ refl (integer_derived b b_at) said_comma in
    let said_minus = word_before words.Minus _ from_b minus_at _ said_b in
    let whole = by_rule (rules.Combined format) (tokens_of at write.pieces) _
    (number_before first _ (space ∷ word words.Minus ∷ space ∷ from_b) at _ said_minus) in
    let by_parts : Option RawMono → Option RawNumber → Value = λ x y. combined (record {
      first = record { value = first; at = at };
      b = record { value = b; at = b_at };
      n = x;
      j = record { value = pos j; at = j_at };
      d = y;
    }) in
    subst (λ y. IsDerived (rule (rules.Combined format)) (tokens_of at write.pieces)
    (by_parts (cofactor_raw file format atoms n n_at) y)) d_says
    (subst (λ x. IsDerived (rule (rules.Combined format)) (tokens_of at write.pieces)
    (by_parts x (option_of d_value))) n_says whole)

pub line_derived : (file : File) (format : Format) (atoms : List Atom) (l : Line) (at : ℕ) →
    IsDerived (rule (rules.Line format)) (tokens_of at (written_line file format atoms l).pieces)
    (kind_value ((written_line file format atoms l).raw at))
unfolding grammar act
line_derived file format atoms l at =
    let write = written_line file format atoms l in
    let last = written_combined file format atoms (pos l.i) l.b l.n l.j l.d in
    let a_at = at + 4 + 1 in
    let comma_at = a_at + length (signed_decimal l.a) in
    let m_at = comma_at + 1 + 1 in
    let i_at = m_at + width (cofactor_pieces file format atoms l.m) in
    let from_m = cofactor_pieces file format atoms l.m ++ last.pieces in
    let (m_value, m_derived, m_says) = cofactor_derived file format atoms l.m m_at in
    let said_m = pieces_before (cofactor format) (rule (rules.Combined format)) (cofactor_pieces file format atoms l.m)
    last.pieces m_at i_at m_value _ refl m_derived
    (combined_derived file format atoms (pos l.i) l.b l.n l.j l.d i_at) in
    let said_comma = sign_before signs.Comma _ (space ∷ from_m) comma_at _ said_m in
    let said_a = number_before l.a _ (sign signs.Comma ∷ space ∷ from_m) a_at _ said_comma in
    let whole = by_rule (rules.Line format) (tokens_of at write.pieces) _
    (word_before words.Line _ (integer l.a ∷ sign signs.Comma ∷ space ∷ from_m) at _ said_a) in
    let c = last.raw i_at in
    subst (λ x. IsDerived (rule (rules.Line format)) (tokens_of at write.pieces)
    (values.line (record { value = l.a; at = a_at }) (unwrap_or x (mono_one at)) c.first c.b (unwrap_or c.n
    (mono_one at))
    c.j (unwrap_or c.d (number_one at)))) m_says whole

pub step_derived : (file : File) (format : Format) (atoms : List Atom) (s : GoalStep) (at : ℕ) →
    IsDerived (rule (rules.Step format)) (tokens_of at (written_step file format atoms s).pieces)
    (kind_value ((written_step file format atoms s).raw at))
unfolding grammar act
step_derived file format atoms s at =
    let last = written_combined file format atoms s.a s.b s.n s.j s.d in
    by_rule (rules.Step format) (tokens_of at (written_step file format atoms s).pieces) _
    (word_before words.Step (rule (rules.Combined format)) last.pieces at _
    (combined_derived file format atoms s.a s.b s.n s.j s.d (at + 4 + 1)))
