-- The lines of an answer spell its text, in both formats.
use Rattle.std.proofs.Common.{◌≡◌, ℕ, List, [], ◌∷◌, ◌++◌, map, flat_map, codes, decimal, refl, ap, sym, ◌∙◌, append-nil, append_assoc, ℤ, Option, None, Some}
use Rattle.std.specs.Fmt.{signed_decimal}
use Rattle.alg_lines.specs.declared.answer.Answer.{Answer}
use Rattle.alg_lines.specs.declared.answer.Answer.TheVariants as answer
use Rattle.alg_lines.specs.declared.cert.Cert.{Cert}
use Rattle.alg_lines.specs.declared.cert.GoalStep.{GoalStep}
use Rattle.alg_lines.specs.declared.cert.Line.{Line}
use Rattle.alg_reify.specs.Table.{goal_atoms}
use Rattle.alg_terms.specs.declared.file.File.{File}
use Rattle.alg_terms.specs.declared.goals.Goal.{Goal}
use Rattle.alg_terms.specs.declared.term.Atom.{Atom}
use Rattle.alg_reader.specs.declared.format.Format.{Format}
use Rattle.alg_reader.specs.declared.format.Format.TheVariants as formats
use Rattle.alg_reader.specs.declared.raw.RawKind.{RawKind}
use Rattle.alg_tokens.proofs.Neighbours.{spell, spell_append}
use Rattle.alg_printer.specs.Answers.{answer_text, optional_text, line_text, step_text, scale_text, over_text, constants_text}
use Rattle.alg_printer.specs.FormatOne.{answer_one_of, line_one_of, step_one_of}
use Rattle.alg_printer.specs.Monomials.{mono_text}
use Rattle.alg_reading_back.proofs.SpelledAnswers.{body_text, spelled_body, spelled_line, spelled_step}
use Rattle.alg_reading_back.proofs.SpelledStatements.{line_pieces}
use Rattle.alg_reading_back.proofs.WrittenAnswers.{written_line, written_step}
use Rattle.alg_reading_back.proofs.WrittenLines.{WrittenLine, indented, lines_pieces, written_answer, part_lines, answer_lines}
use Rattle.alg_reading_back.proofs.WrittenLists.{Written}
use Rattle.alg_reading_back.proofs.WrittenStatements.{dot}
use Rattle.alg_reading_back.proofs.WrittenTerms.{line_feed}

-- a line behind two spaces
spelled_indented : (said : Written RawKind) (text : List ℕ) → spell said.pieces ≡ text →
    spell (line_pieces (indented said).pieces) ≡ (codes "  " ++ text) ++ codes ".\n"
spelled_indented said text e =
    ap (λ bs. codes "  " ++ bs) (ap spell (append_assoc said.pieces dot (line_feed ∷ []))
    ∙ spell_append said.pieces (dot ++ (line_feed ∷ [])) ∙ ap (λ bs. bs ++ codes ".\n") e)

-- lines of one form, one for each of a list
spelled_map : {X : Type 0} (write : X → WrittenLine) (text : X → List ℕ) →
    ((x : X) → spell (line_pieces (write x).pieces) ≡ text x) → (xs : List X) →
    spell (lines_pieces (map write xs)) ≡ flat_map text xs
spelled_map write text each [] = refl
spelled_map write text each (x ∷ xs) =
    spell_append (line_pieces (write x).pieces) (lines_pieces (map write xs))
    ∙ ap (λ bs. bs ++ spell (lines_pieces (map write xs))) (each x)
    ∙ ap (λ bs. text x ++ bs) (spelled_map write text each xs)

pub lines_append : (one other : List WrittenLine) →
    spell (lines_pieces (one ++ other)) ≡ spell (lines_pieces one) ++ spell (lines_pieces other)
lines_append [] other = refl
lines_append (l ∷ one) other =
    spell_append (line_pieces l.pieces) (lines_pieces (one ++ other))
    ∙ ap (λ bs. spell (line_pieces l.pieces) ++ bs) (lines_append one other)
    ∙ sym (append_assoc (spell (line_pieces l.pieces)) (spell (lines_pieces one)) (spell (lines_pieces other)))
    ∙ ap (λ bs. bs ++ spell (lines_pieces other)) (sym (spell_append (line_pieces l.pieces) (lines_pieces one)))

-- ---- lines and steps

line_regrouped : (l a c m i k b n j o d : List ℕ) →
    (l ++ (a ++ (c ++ (m ++ (i ++ (k ++ (b ++ (c ++ (n ++ (j ++ o)))))))))) ++ d
    ≡ (((l ++ (((a ++ c) ++ m) ++ i)) ++ k) ++ (((b ++ c) ++ n) ++ j)) ++ (o ++ d)
line_regrouped l a c m i k b n j o d = simp append_assoc refl

line_one_regrouped : (l a c m i k b n j o d : List ℕ) →
    (l ++ (a ++ (c ++ ((m ++ c) ++ (i ++ (k ++ (b ++ (c ++ ((n ++ c) ++ (j ++ o)))))))))) ++ d
    ≡ (((l ++ ((((a ++ c) ++ m) ++ c) ++ i)) ++ k) ++ ((((b ++ c) ++ n) ++ c) ++ j)) ++ (o ++ d)
line_one_regrouped l a c m i k b n j o d = simp append_assoc refl

step_regrouped : (l a k b c n j o d : List ℕ) →
    (l ++ (a ++ (k ++ (b ++ (c ++ (n ++ (j ++ o))))))) ++ d
    ≡ (((l ++ a) ++ k) ++ (((b ++ c) ++ n) ++ j)) ++ (o ++ d)
step_regrouped l a k b c n j o d = simp append_assoc refl

step_one_regrouped : (l a k b c n j o d : List ℕ) →
    (l ++ (a ++ (k ++ (b ++ (c ++ ((n ++ c) ++ (j ++ o))))))) ++ d
    ≡ (((l ++ a) ++ k) ++ ((((b ++ c) ++ n) ++ c) ++ j)) ++ (o ++ d)
step_one_regrouped l a k b c n j o d = simp append_assoc refl

-- the texts of a line and of a step in a format
abbrev line_in : Format → File → List Atom → Line → List ℕ
line_in formats.One file atoms l = line_one_of file atoms l
line_in formats.Two file atoms l = line_text file atoms l

abbrev step_in : Format → File → List Atom → GoalStep → List ℕ
step_in formats.One file atoms s = step_one_of file atoms s
step_in formats.Two file atoms s = step_text file atoms s

line_spelled : (format : Format) (file : File) (atoms : List Atom) (l : Line) →
    spell (line_pieces (indented (written_line file format atoms l)).pieces) ≡ line_in format file atoms l
line_spelled formats.One file atoms l =
    spelled_indented (written_line file formats.One atoms l) _ (spelled_line file formats.One atoms l)
    ∙ line_one_regrouped (codes "  line ") (signed_decimal l.a) (codes ", ") (mono_text file atoms l.m) (decimal l.i)
    (codes " minus ") (signed_decimal l.b) (mono_text file atoms l.n) (decimal l.j)
    (codes " over " ++ signed_decimal l.d) (codes ".\n")
line_spelled formats.Two file atoms l =
    spelled_indented (written_line file formats.Two atoms l) _ (spelled_line file formats.Two atoms l)
    ∙ line_regrouped (codes "  line ") (signed_decimal l.a) (codes ", ") (scale_text file atoms l.m) (decimal l.i)
    (codes " minus ") (signed_decimal l.b) (scale_text file atoms l.n) (decimal l.j) (over_text l.d) (codes ".\n")

step_spelled : (format : Format) (file : File) (atoms : List Atom) (s : GoalStep) →
    spell (line_pieces (indented (written_step file format atoms s)).pieces) ≡ step_in format file atoms s
step_spelled formats.One file atoms s =
    spelled_indented (written_step file formats.One atoms s) _ (spelled_step file formats.One atoms s)
    ∙ step_one_regrouped (codes "  step ") (signed_decimal s.a) (codes " minus ") (signed_decimal s.b) (codes ", ")
    (mono_text file atoms s.n) (decimal s.j) (codes " over " ++ signed_decimal s.d) (codes ".\n")
step_spelled formats.Two file atoms s =
    spelled_indented (written_step file formats.Two atoms s) _ (spelled_step file formats.Two atoms s)
    ∙ step_regrouped (codes "  step ") (signed_decimal s.a) (codes " minus ") (signed_decimal s.b) (codes ", ")
    (scale_text file atoms s.n) (decimal s.j) (over_text s.d) (codes ".\n")

-- ---- answers

-- the text of an answer in a format
abbrev pub answer_in : Format → File → Goal → Option Answer → List ℕ
answer_in formats.One file goal said = answer_one_of file goal said
answer_in formats.Two file goal said = optional_text file goal said

-- the lines of an answer
head_and_parts : (format : Format) (file : File) (atoms : List Atom) (said : Answer) →
    spell (lines_pieces (indented (written_answer file format atoms said) ∷ part_lines file format atoms said))
    ≡ ((codes "  " ++ body_text file format atoms said) ++ codes ".\n")
    ++ spell (lines_pieces (part_lines file format atoms said))
head_and_parts format file atoms said =
    let head = indented (written_answer file format atoms said) in
    let parts = part_lines file format atoms said in
    spell_append (line_pieces head.pieces) (lines_pieces parts)
    ∙ ap (λ bs. bs ++ spell (lines_pieces parts))
    (spelled_indented (written_answer file format atoms said) _ (spelled_body file format atoms said))

-- the text of a certificate in four pieces
cert_regrouped : (f p c d l s : List ℕ) → ((f ++ (p ++ c)) ++ d) ++ (l ++ s) ≡ ((((f ++ p) ++ c) ++ d) ++ l) ++ s
cert_regrouped f p c d l s = simp append_assoc refl

parts_spelled : (format : Format) (file : File) (atoms : List Atom) (lines : List Line) (steps : List GoalStep) →
    spell (lines_pieces (map (λ l. indented (written_line file format atoms l)) lines
    ++ map (λ s. indented (written_step file format atoms s)) steps))
    ≡ flat_map (line_in format file atoms) lines ++ flat_map (step_in format file atoms) steps
parts_spelled format file atoms lines steps =
    let write_line : Line → WrittenLine = λ l. indented (written_line file format atoms l) in
    let write_step : GoalStep → WrittenLine = λ s. indented (written_step file format atoms s) in
    lines_append (map write_line lines) (map write_step steps)
    ∙ ap (λ bs. bs ++ spell (lines_pieces (map write_step steps)))
    (spelled_map write_line (line_in format file atoms) (line_spelled format file atoms) lines)
    ∙ ap (λ bs. flat_map (line_in format file atoms) lines ++ bs)
    (spelled_map write_step (step_in format file atoms) (step_spelled format file atoms) steps)

no_regrouped : (f m c l a r d : List ℕ) →
    (f ++ (m ++ (c ++ (l ++ (a ++ r))))) ++ d ≡ (((((f ++ m) ++ c) ++ l) ++ a) ++ r) ++ d
no_regrouped f m c l a r d = simp append_assoc refl

-- an answer without a certificate has one text in both formats
plain_spelled : (format : Format) (file : File) (goal : Goal) (said : Answer) →
    answer_one_of file goal (Some said) ≡ answer_text file goal said →
    (codes "  " ++ body_text file format (goal_atoms file goal) said) ++ codes ".\n" ≡ answer_text file goal said →
    part_lines file format (goal_atoms file goal) said ≡ [] →
    spell (lines_pieces (answer_lines file format goal (Some said))) ≡ answer_in format file goal (Some said)
plain_spelled format file goal said one e none =
    head_and_parts format file (goal_atoms file goal) said
    ∙ ap (λ ls. ((codes "  " ++ body_text file format (goal_atoms file goal) said) ++ codes ".\n")
    ++ spell (lines_pieces ls)) none
    ∙ append-nil _ ∙ e ∙ in_format format
  where
    in_format : (format : Format) → answer_text file goal said ≡ answer_in format file goal (Some said)
    in_format formats.One = sym one
    in_format formats.Two = refl

cert_spelled : (format : Format) (file : File) (goal : Goal) (constants : List ℤ) (cert : Cert) →
    spell (lines_pieces (answer_lines file format goal (Some (answer.Certified constants cert))))
    ≡ answer_in format file goal (Some (answer.Certified constants cert))
cert_spelled formats.One file goal constants cert =
    let atoms = goal_atoms file goal in
    head_and_parts formats.One file atoms (answer.Certified constants cert)
    ∙ ap (λ bs. ((codes "  " ++ body_text file formats.One atoms (answer.Certified constants cert)) ++ codes ".\n")
    ++ bs)
    (parts_spelled formats.One file atoms cert.lines cert.steps)
    ∙ cert_regrouped (codes "  proved power ") (decimal cert.power) (constants_text constants) (codes ".\n")
    (flat_map (line_one_of file atoms) cert.lines) (flat_map (step_one_of file atoms) cert.steps)
cert_spelled formats.Two file goal constants cert =
    let atoms = goal_atoms file goal in
    head_and_parts formats.Two file atoms (answer.Certified constants cert)
    ∙ ap (λ bs. ((codes "  " ++ body_text file formats.Two atoms (answer.Certified constants cert)) ++ codes ".\n")
    ++ bs)
    (parts_spelled formats.Two file atoms cert.lines cert.steps)
    ∙ cert_regrouped (codes "  proved version 2 power ") (decimal cert.power) (constants_text constants) (codes ".\n")
    (flat_map (line_text file atoms) cert.lines) (flat_map (step_text file atoms) cert.steps)

-- the lines of an answer spell its text
pub answer_spelled : (format : Format) (file : File) (goal : Goal) (said : Option Answer) →
    spell (lines_pieces (answer_lines file format goal said)) ≡ answer_in format file goal said
answer_spelled formats.One file goal None = refl
answer_spelled formats.Two file goal None = refl
answer_spelled format file goal (Some (answer.Proved conditions)) =
    plain_spelled format file goal (answer.Proved conditions) refl refl refl
answer_spelled format file goal (Some (answer.Certified constants cert)) = cert_spelled format file goal constants cert
answer_spelled format file goal (Some (answer.No at left right)) =
    plain_spelled format file goal (answer.No at left right) refl
    (no_regrouped (codes "  no at ") (mono_text file (goal_atoms file goal) at) (codes " : ")
    (signed_decimal left) (codes " and ") (signed_decimal right) (codes ".\n")) refl
answer_spelled format file goal (Some (answer.ZeroDenominator denominator)) =
    plain_spelled format file goal (answer.ZeroDenominator denominator) refl refl refl
answer_spelled format file goal (Some (answer.NoneUpTo power)) =
    plain_spelled format file goal (answer.NoneUpTo power) refl refl refl
answer_spelled format file goal (Some (answer.GaveUp limit)) =
    plain_spelled format file goal (answer.GaveUp limit) refl refl refl
answer_spelled format file goal (Some answer.Atoms) = plain_spelled format file goal answer.Atoms refl refl refl
answer_spelled format file goal (Some answer.Range) = plain_spelled format file goal answer.Range refl refl refl
answer_spelled format file goal (Some answer.Degree) = plain_spelled format file goal answer.Degree refl refl refl
