-- The text of an answer, each line after two spaces.
use Rattle.std.specs.Prelude.{ℕ, ℤ, pos, List, [], ◌∷◌, ◌++◌, codes, decimal, if◌then◌else◌, Option, None, Some}
use Rattle.std.specs.Fmt.{signed_decimal}
use Rattle.std.specs.List.{flat_map}
use Rattle.std.specs.Ordering.{int_eq}
use Rattle.alg_lines.specs.declared.answer.Answer.{Answer}
use Rattle.alg_lines.specs.declared.answer.Answer.TheVariants.{Proved, Certified, No, ZeroDenominator, NoneUpTo, GaveUp, Atoms, Range, Degree}
use Rattle.alg_lines.specs.declared.cert.Cert.{Cert}
use Rattle.alg_lines.specs.declared.cert.GoalStep.{GoalStep}
use Rattle.alg_lines.specs.declared.cert.Line.{Line}
use Rattle.alg_mono.specs.Mono.{Monomial}
use Rattle.alg_terms.specs.declared.file.File.{File}
use Rattle.alg_terms.specs.declared.goals.Goal.{Goal}
use Rattle.alg_terms.specs.declared.term.Atom.{Atom}
use Rattle.alg_terms.specs.declared.term.Term.{Term}
use Rattle.alg_printer.specs.Monomials.{factors_text, mono_text}
use Rattle.alg_reify.specs.Table.{goal_atoms}
use Rattle.alg_printer.specs.Names.{listed}
use Rattle.alg_printer.specs.Terms.{term_text}

-- conditions: none, or each with `<> 0`
abbrev pub conditions_text : File → List Term → List ℕ
conditions_text file conditions =
    listed (codes " if ") (codes ", ") (λ t. term_text file t ++ codes " <> 0") conditions

-- constants: none, or each with `<> 0`
abbrev pub constants_text : List ℤ → List ℕ
constants_text constants = listed (codes " if ") (codes ", ") (λ c. signed_decimal c ++ codes " <> 0") constants

-- a monomial of a combination with the comma behind it; the monomial 1 is left out
abbrev pub scale_text : File → List Atom → Monomial → List ℕ
scale_text file atoms [] = []
scale_text file atoms (e ∷ m) = factors_text file atoms (e ∷ m) ++ codes ", "

-- a multiple of a line: the factor, the monomial, the line's number
abbrev pub multiple_text : File → List Atom → ℤ → Monomial → ℕ → List ℕ
multiple_text file atoms a m i = signed_decimal a ++ codes ", " ++ scale_text file atoms m ++ decimal i

-- the divisor of a combination; the divisor 1 is left out
abbrev pub over_text : ℤ → List ℕ
over_text d = if int_eq d (pos 1) then [] else codes " over " ++ signed_decimal d

-- the divisor, at the end of its line
abbrev pub divisor_text : ℤ → List ℕ
divisor_text d = over_text d ++ codes ".\n"

-- a line of a certificate
abbrev pub line_text : File → List Atom → Line → List ℕ
line_text file atoms line =
    codes "  line " ++ multiple_text file atoms line.a line.m line.i ++ codes " minus "
    ++ multiple_text file atoms line.b line.n line.j ++ divisor_text line.d

-- a step of a certificate
abbrev pub step_text : File → List Atom → GoalStep → List ℕ
step_text file atoms step =
    codes "  step " ++ signed_decimal step.a ++ codes " minus " ++ multiple_text file atoms step.b step.n step.j
    ++ divisor_text step.d

-- the power of a certificate, with the constants
abbrev pub power_text : ℕ → List ℤ → List ℕ
power_text power constants =
    codes "  proved version 2 power " ++ decimal power ++ constants_text constants ++ codes ".\n"

-- a certificate in format 2: the power, then the lines, then the steps
abbrev pub cert_text : File → List Atom → List ℤ → Cert → List ℕ
cert_text file atoms constants cert =
    power_text cert.power constants ++ flat_map (line_text file atoms) cert.lines
    ++ flat_map (step_text file atoms) cert.steps

-- the greatest monomial where the sides differ, and its coefficients
abbrev pub no_text : File → List Atom → Monomial → ℤ → ℤ → List ℕ
no_text file atoms at left right =
    codes "  no at " ++ mono_text file atoms at ++ codes " : " ++ signed_decimal left ++ codes " and "
    ++ signed_decimal right ++ codes ".\n"

-- the answer to a goal
abbrev pub answer_text : File → Goal → Answer → List ℕ
answer_text file goal (Proved conditions) = codes "  proved" ++ conditions_text file conditions ++ codes ".\n"
answer_text file goal (Certified constants cert) = cert_text file (goal_atoms file goal) constants cert
answer_text file goal (No at left right) = no_text file (goal_atoms file goal) at left right
answer_text file goal (ZeroDenominator denominator) =
    codes "  zero denominator " ++ term_text file denominator ++ codes ".\n"
answer_text file goal (NoneUpTo power) = codes "  none up to power " ++ decimal power ++ codes ".\n"
answer_text file goal (GaveUp limit) = codes "  gave up after " ++ decimal limit ++ codes ".\n"
answer_text file goal Atoms = codes "  atoms.\n"
answer_text file goal Range = codes "  range.\n"
answer_text file goal Degree = codes "  degree.\n"

-- an answer where there is one
abbrev pub optional_text : File → Goal → Option Answer → List ℕ
optional_text file goal None = []
optional_text file goal (Some answer) = answer_text file goal answer
