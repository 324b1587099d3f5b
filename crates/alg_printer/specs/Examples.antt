-- Examples that tests alone cite: terms over a few names, and answers to the goals of the small file.
use Rattle.std.specs.Prelude.{◌≡◌, List, [], ◌∷◌, length, pos, negsuc, Option, None, Some}
use Rattle.alg_lines.specs.declared.answer.Answer.{Answer}
use Rattle.alg_lines.specs.declared.answer.Answer.TheVariants.{Proved, Certified, ZeroDenominator}
use Rattle.alg_lines.specs.declared.cert.GoalStep.{GoalStep}
use Rattle.alg_lines.specs.declared.cert.Line.{Line}
use Rattle.alg_terms.specs.declared.file.File.{File}
use Rattle.alg_terms.specs.declared.term.Term.{Term}
use Rattle.alg_terms.specs.declared.term.Term.TheVariants.{Var}
use Rattle.alg_printer.specs.Terms.{IsNamed}

-- three variables and two morphisms
abbrev pub HasLetters : File → Type 0
HasLetters file = (length file.vars ≡ 3) × (length file.homs ≡ 2)

-- a term over these
abbrev pub IsOfLetters : Term → Type 0
IsOfLetters t = (file : File) → HasLetters file → IsNamed file t

-- an answer to the first goal of the small file, with a condition
abbrev pub inverse_answer : Answer
inverse_answer = Proved (Var 1 ∷ [])

-- the line of a certificate
abbrev pub one_line : List Line
one_line = record { a = pos 1; m = []; i = 1; b = negsuc 0; n = []; j = 1; d = pos 2 } ∷ []

-- its step
abbrev pub one_step : List GoalStep
one_step = record { a = pos 1; b = pos 1; n = []; j = 2; d = pos 1 } ∷ []

-- an answer to the second goal, by a certificate with a constant
abbrev pub image_answer : Answer
image_answer = Certified (pos 2 ∷ []) (record { power = 1; lines = one_line; steps = one_step })

-- both answers
abbrev pub small_answers : List (Option Answer)
small_answers = Some inverse_answer ∷ Some image_answer ∷ []

-- a denominator that is zero for the first goal, and no answer to the second
abbrev pub zero_answers : List (Option Answer)
zero_answers = Some (ZeroDenominator (Var 1)) ∷ None ∷ []
