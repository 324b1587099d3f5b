-- The text of a file in format 1, the earlier format of certificates, which is still read and no more printed. It has no
-- version, and leaves out neither the monomial 1 nor the divisor 1.
use Rattle.std.specs.Prelude.{ℕ, ℤ, List, [], ◌++◌, codes, decimal, Option, None, Some}
use Rattle.std.specs.Fmt.{signed_decimal}
use Rattle.std.specs.List.{flat_map}
use Rattle.alg_lines.specs.declared.answer.Answer.{Answer}
use Rattle.alg_lines.specs.declared.answer.Answer.TheVariants.{Certified}
use Rattle.alg_lines.specs.declared.cert.Cert.{Cert}
use Rattle.alg_lines.specs.declared.cert.GoalStep.{GoalStep}
use Rattle.alg_lines.specs.declared.cert.Line.{Line}
use Rattle.alg_mono.specs.Mono.{Monomial}
use Rattle.alg_terms.specs.declared.file.File.{File}
use Rattle.alg_terms.specs.declared.file.Statement.{Statement}
use Rattle.alg_terms.specs.declared.file.Statement.TheVariants as statement
use Rattle.alg_terms.specs.declared.goals.Goal.{Goal}
use Rattle.alg_terms.specs.declared.term.Atom.{Atom}
use Rattle.alg_terms.specs.Members.{goal_at}
use Rattle.alg_printer.specs.Answers.{answer_text, constants_text}
use Rattle.alg_printer.specs.Monomials.{mono_text}
use Rattle.alg_reify.specs.Table.{goal_atoms}
use Rattle.alg_printer.specs.Statements.{goal_text}
use Rattle.alg_printer.specs.Text.{answer_at, statement_text}

-- a multiple of a line: the factor, the monomial, the line's number
abbrev pub multiple_one_of : File → List Atom → ℤ → Monomial → ℕ → List ℕ
multiple_one_of file atoms a m i = signed_decimal a ++ codes ", " ++ mono_text file atoms m ++ codes ", " ++ decimal i

-- the divisor of a combination, at the end of its line
abbrev pub divisor_one_of : ℤ → List ℕ
divisor_one_of d = codes " over " ++ signed_decimal d ++ codes ".\n"

-- a line of a certificate
abbrev pub line_one_of : File → List Atom → Line → List ℕ
line_one_of file atoms line =
    codes "  line " ++ multiple_one_of file atoms line.a line.m line.i ++ codes " minus "
    ++ multiple_one_of file atoms line.b line.n line.j ++ divisor_one_of line.d

-- a step of a certificate
abbrev pub step_one_of : File → List Atom → GoalStep → List ℕ
step_one_of file atoms step =
    codes "  step " ++ signed_decimal step.a ++ codes " minus " ++ multiple_one_of file atoms step.b step.n step.j
    ++ divisor_one_of step.d

-- the power of a certificate, with the constants
abbrev pub power_one_of : ℕ → List ℤ → List ℕ
power_one_of power constants = codes "  proved power " ++ decimal power ++ constants_text constants ++ codes ".\n"

-- the power, then the lines, then the steps
abbrev pub cert_one_of : File → List Atom → List ℤ → Cert → List ℕ
cert_one_of file atoms constants cert =
    power_one_of cert.power constants ++ flat_map (line_one_of file atoms) cert.lines
    ++ flat_map (step_one_of file atoms) cert.steps

-- the answer to a goal: only certificates have another text
abbrev pub answer_one_of : File → Goal → Option Answer → List ℕ
answer_one_of file goal None = []
answer_one_of file goal (Some (Certified constants cert)) = cert_one_of file (goal_atoms file goal) constants cert
answer_one_of file goal (Some answer) = answer_text file goal answer

-- a statement
abbrev pub statement_one_of : File → List (Option Answer) → Statement → List ℕ
statement_one_of file answers (statement.Goal i) =
    goal_text file (goal_at file i) ++ answer_one_of file (goal_at file i) (answer_at answers i)
statement_one_of file answers other = statement_text file answers other

-- the statements of the file in their order
abbrev pub text_one_of : File → List (Option Answer) → List ℕ
text_one_of file answers = flat_map (statement_one_of file answers) file.order
