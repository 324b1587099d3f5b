-- The pieces of answers, lines and steps spell their texts, in both formats.
use Rattle.std.proofs.Common.{◌≡◌, ℕ, true, false, cond, List, [], ◌∷◌, ◌++◌, codes, decimal, refl, ap, ◌∙◌, append-nil, arith, ℤ, pos}
use Rattle.std.specs.Fmt.{signed_decimal}
use Rattle.std.specs.Ordering.{int_eq}
use Rattle.std.proofs.lemmas.Fmt.{decimal_digit}
use Rattle.alg_lines.specs.declared.answer.Answer.{Answer}
use Rattle.alg_lines.specs.declared.answer.Answer.TheVariants as answer
use Rattle.alg_lines.specs.declared.cert.GoalStep.{GoalStep}
use Rattle.alg_lines.specs.declared.cert.Line.{Line}
use Rattle.alg_mono.specs.Mono.{Monomial}
use Rattle.alg_terms.specs.declared.file.File.{File}
use Rattle.alg_terms.specs.declared.term.Atom.{Atom}
use Rattle.alg_terms.specs.declared.term.Term.{Term}
use Rattle.alg_reader.specs.declared.format.Format.{Format}
use Rattle.alg_reader.specs.declared.format.Format.TheVariants as formats
use Rattle.alg_tokens.specs.declared.token.Sign.TheVariants as signs
use Rattle.alg_tokens.specs.declared.token.Word.TheVariants as words
use Rattle.alg_tokens.specs.Pieces.{Piece}
use Rattle.alg_tokens.proofs.Neighbours.{spell, spell_append}
use Rattle.alg_printer.specs.Answers.{conditions_text, constants_text, scale_text, over_text}
use Rattle.alg_printer.specs.Monomials.{mono_text}
use Rattle.alg_printer.specs.Names.{listed}
use Rattle.alg_printer.specs.Terms.{term_text}
use Rattle.alg_reading_back.proofs.SpelledLists.{spelled_list}
use Rattle.alg_reading_back.proofs.SpelledMonos.{spelled_factors, spelled_mono, spelled_integer}
use Rattle.alg_reading_back.proofs.SpelledTerms.{spelled_term}
use Rattle.alg_reading_back.proofs.WrittenAnswers.{not_zero, written_condition, written_constant, if_pieces, power_front, answer_pieces, cofactor_pieces, over_pieces, divisor_pieces, written_combined, written_line, written_step}
use Rattle.alg_reading_back.proofs.WrittenLists.{Written, comma}
use Rattle.alg_reading_back.proofs.WrittenMonos.{written_mono, written_factors, written_integer}
use Rattle.alg_reading_back.proofs.WrittenTerms.{written, space, sign, word, numeral}

-- ---- conditions and constants

not_zero_text : spell not_zero ≡ codes " <> 0"
not_zero_text = ap (λ bs. codes " <> " ++ bs) (append-nil (decimal 0) ∙ decimal_digit 0 (omega arith))

spelled_condition : (file : File) (t : Term) →
    spell (written_condition file t).pieces ≡ term_text file t ++ codes " <> 0"
spelled_condition file t =
    spell_append (written file t).pieces not_zero ∙ ap (λ bs. bs ++ spell not_zero) (spelled_term file t)
    ∙ ap (λ bs. term_text file t ++ bs) not_zero_text

spelled_constant : (c : ℤ) → spell (written_constant c).pieces ≡ signed_decimal c ++ codes " <> 0"
spelled_constant c = ap (λ bs. signed_decimal c ++ bs) not_zero_text

spelled_if : {X R : Type 0} (write : X → Written R) (text : X → List ℕ) → ((x : X) → spell (write x).pieces ≡ text x) →
    (xs : List X) → spell (if_pieces write xs) ≡ listed (codes " if ") (codes ", ") text xs
spelled_if write text spelled [] = refl
spelled_if write text spelled (x ∷ xs) = ap (λ bs. codes " if " ++ bs) (spelled_list write comma text spelled x xs)

-- ---- answers

-- the text of a certificate's answer up to its power
abbrev pub front_text : Format → List ℕ
front_text formats.One = codes "proved power "
front_text formats.Two = codes "proved version 2 power "

spelled_front : (format : Format) → spell (power_front format) ≡ front_text format
spelled_front formats.One = refl
spelled_front formats.Two =
    ap (λ digits. codes "proved version " ++ (digits ++ codes " power ")) (decimal_digit 2 (omega arith))

-- the text of an answer between its two spaces and its `.`
abbrev pub body_text : File → Format → List Atom → Answer → List ℕ
body_text file format atoms (answer.Proved conditions) = codes "proved" ++ conditions_text file conditions
body_text file format atoms (answer.Certified constants cert) =
    front_text format ++ (decimal cert.power ++ constants_text constants)
body_text file format atoms (answer.No at left right) =
    codes "no at " ++ (mono_text file atoms at ++ (codes " : " ++ (signed_decimal left
    ++ (codes " and " ++ signed_decimal right))))
body_text file format atoms (answer.ZeroDenominator denominator) = codes "zero denominator " ++ term_text file
    denominator
body_text file format atoms (answer.NoneUpTo power) = codes "none up to power " ++ decimal power
body_text file format atoms (answer.GaveUp limit) = codes "gave up after " ++ decimal limit
body_text file format atoms answer.Atoms = codes "atoms"
body_text file format atoms answer.Range = codes "range"
body_text file format atoms answer.Degree = codes "degree"

-- pieces with others behind them
spelled_before : (front back : List Piece) (one two : List ℕ) → spell front ≡ one → spell back ≡ two →
    spell (front ++ back) ≡ one ++ two
spelled_before front back one two e f =
    spell_append front back ∙ ap (λ bs. bs ++ spell back) e ∙ ap (λ bs. one ++ bs) f

pub spelled_body : (file : File) (format : Format) (atoms : List Atom) (said : Answer) →
    spell (answer_pieces file format atoms said) ≡ body_text file format atoms said
spelled_body file format atoms (answer.Proved conditions) =
    ap (λ bs. codes "proved" ++ bs)
    (spelled_if (written_condition file) (λ t. term_text file t ++ codes " <> 0") (spelled_condition file) conditions)
spelled_body file format atoms (answer.Certified constants cert) =
    spelled_before (power_front format) (numeral cert.power ∷ if_pieces written_constant constants)
    (front_text format) (decimal cert.power ++ constants_text constants) (spelled_front format)
    (ap (λ bs. decimal cert.power ++ bs)
    (spelled_if written_constant (λ c. signed_decimal c ++ codes " <> 0") spelled_constant constants))
spelled_body file format atoms (answer.No at left right) =
    let and = space ∷ word words.And ∷ space ∷ (written_integer right).pieces in
    let colon = space ∷ sign signs.Colon ∷ space ∷ ((written_integer left).pieces ++ and) in
    ap (λ bs. codes "no at " ++ bs) (spelled_before (written_mono file atoms at).pieces colon _ _
    (spelled_mono file atoms at)
    (ap (λ bs. codes " : " ++ bs) (spelled_before (written_integer left).pieces and _ _ (spelled_integer left)
    (ap (λ bs. codes " and " ++ bs) (spelled_integer right)))))
spelled_body file format atoms (answer.ZeroDenominator denominator) =
    ap (λ bs. codes "zero denominator " ++ bs) (spelled_term file denominator)
spelled_body file format atoms (answer.NoneUpTo power) =
    ap (λ bs. codes "none up to power " ++ bs) (append-nil (decimal power))
spelled_body file format atoms (answer.GaveUp limit) =
    ap (λ bs. codes "gave up after " ++ bs) (append-nil (decimal limit))
spelled_body file format atoms answer.Atoms = refl
spelled_body file format atoms answer.Range = refl
spelled_body file format atoms answer.Degree = refl

-- ---- lines and steps

-- a monomial with its comma, and a divisor
abbrev pub cofactor_text : File → Format → List Atom → Monomial → List ℕ
cofactor_text file formats.One atoms m = mono_text file atoms m ++ codes ", "
cofactor_text file formats.Two atoms m = scale_text file atoms m

abbrev pub over_text_of : Format → ℤ → List ℕ
over_text_of formats.One d = codes " over " ++ signed_decimal d
over_text_of formats.Two d = over_text d

spelled_cofactor : (file : File) (format : Format) (atoms : List Atom) (m : Monomial) →
    spell (cofactor_pieces file format atoms m) ≡ cofactor_text file format atoms m
spelled_cofactor file formats.One atoms m =
    spelled_before (written_mono file atoms m).pieces (sign signs.Comma ∷ space ∷ []) _ _
    (spelled_mono file atoms m) refl
spelled_cofactor file formats.Two atoms [] = refl
spelled_cofactor file formats.Two atoms (e ∷ m) =
    spelled_before (written_factors file atoms e m).pieces (sign signs.Comma ∷ space ∷ []) _ _
    (spelled_factors file atoms e m) refl

spelled_over : (d : ℤ) → spell (over_pieces d) ≡ codes " over " ++ signed_decimal d
spelled_over d = ap (λ bs. codes " over " ++ bs) (append-nil (signed_decimal d))

spelled_divisor : (format : Format) (d : ℤ) → spell (divisor_pieces format d) ≡ over_text_of format d
spelled_divisor formats.One d = spelled_over d
spelled_divisor formats.Two d =
    elim (int_eq d (pos 1)) as (λ b. spell (cond b [] (over_pieces d))
    ≡ cond b [] (codes " over " ++ signed_decimal d)) [ true ↦ refl | false ↦ spelled_over d ]

-- the end of a line and of a step
abbrev pub combined_text : File → Format → List Atom → ℤ → ℤ → Monomial → ℕ → ℤ → List ℕ
combined_text file format atoms first b n j d =
    signed_decimal first ++ (codes " minus " ++ (signed_decimal b ++ (codes ", " ++ (cofactor_text file format atoms n
    ++ (decimal j ++ over_text_of format d)))))

spelled_combined : (file : File) (format : Format) (atoms : List Atom) (first b : ℤ) (n : Monomial) (j : ℕ) (d : ℤ) →
    spell (written_combined file format atoms first b n j d).pieces ≡ combined_text file format atoms first b n j d
spelled_combined file format atoms first b n j d =
    let end = numeral j ∷ divisor_pieces format d in
    let from_comma = sign signs.Comma ∷ space ∷ (cofactor_pieces file format atoms n ++ end) in
    ap (λ bs. signed_decimal first ++ (codes " minus " ++ bs)) (spelled_before (written_integer b).pieces from_comma _ _
    (spelled_integer b)
    (ap (λ bs. codes ", " ++ bs) (spelled_before (cofactor_pieces file format atoms n) end _ _
    (spelled_cofactor file format atoms n) (ap (λ bs. decimal j ++ bs) (spelled_divisor format d)))))

pub spelled_line : (file : File) (format : Format) (atoms : List Atom) (l : Line) →
    spell (written_line file format atoms l).pieces
    ≡ codes "line " ++ (signed_decimal l.a ++ (codes ", " ++ (cofactor_text file format atoms l.m
    ++ combined_text file format atoms (pos l.i) l.b l.n l.j l.d)))
spelled_line file format atoms l =
    let combined = written_combined file format atoms (pos l.i) l.b l.n l.j l.d in
    ap (λ bs. codes "line " ++ (signed_decimal l.a ++ (codes ", " ++ bs)))
    (spelled_before (cofactor_pieces file format atoms l.m) combined.pieces _ _
    (spelled_cofactor file format atoms l.m) (spelled_combined file format atoms (pos l.i) l.b l.n l.j l.d))

pub spelled_step : (file : File) (format : Format) (atoms : List Atom) (s : GoalStep) →
    spell (written_step file format atoms s).pieces
    ≡ codes "step " ++ combined_text file format atoms s.a s.b s.n s.j s.d
spelled_step file format atoms s =
    ap (λ bs. codes "step " ++ bs) (spelled_combined file format atoms s.a s.b s.n s.j s.d)
