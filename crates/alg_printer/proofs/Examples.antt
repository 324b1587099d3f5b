-- The answers that the printing is tried on can be printed.
use Rattle.std.proofs.Common.{◌≡◌, ◌<◌, ℕ, zero, suc, List, [], length, refl, subst, sym, arith, rules, lit<, lit≤, pos}
use Rattle.std.specs.Prelude.{All, IfSome, Option}
use Rattle.std.proofs.lemmas.List.Elements.{All-nil, All-cons}
use Rattle.alg_lines.specs.declared.answer.Answer.{Answer}
use Rattle.alg_terms.specs.AnswerRules.{IsAnswerTerm}
use Rattle.alg_terms.specs.declared.file.File.{File}
use Rattle.alg_terms.specs.declared.term.Atom.{Atom}
use Rattle.alg_terms.specs.declared.term.Term.TheVariants.{Var}
use Rattle.alg_terms.specs.Members.{goal_at}
use Rattle.alg_terms.specs.Nodes.{fold_term, EachNode}
use Rattle.alg_terms.specs.SmallFile.{small, inverse_is_itself, image_of_square}
use Rattle.alg_terms.specs.Sorts.{EachNodeAt}
use Rattle.alg_terms.specs.TermRules.{IsTerm}
use Rattle.alg_terms.specs.Valid.{IsValid}
use Rattle.alg_terms.proofs.SmallFile.{small_is_valid}
use Rattle.alg_reify.specs.Table.{goal_atoms}
use Rattle.alg_printer.specs.Printable.{ArePrintable, IsPrintable, IsNumeral, IsMonomialOver, IsLineOver, IsStepOver}
use Rattle.alg_printer.specs.Text.{answer_at}
use Rattle.alg_printer.specs.Examples.{inverse_answer, image_answer, one_line, one_step, small_answers, zero_answers}

variable_is : IsTerm small (Var 1)
unfolding fold_term EachNode
variable_is = record {
  indices = search rules;
  literals = search rules;
  exponents = search rules;
  depth = search rules;
  parts = search rules;
  arguments = search rules;
}

condition : IsAnswerTerm small inverse_is_itself (Var 1)
unfolding EachNodeAt
condition = record { term = variable_is; quotients = tt }

inverse : IsPrintable small inverse_is_itself inverse_answer
inverse = record {
  form = tt;
  parts = All-cons (IsAnswerTerm small inverse_is_itself) (Var 1) [] condition
      (All-nil (IsAnswerTerm small inverse_is_itself));
}

one : (atoms : List Atom) → IsMonomialOver atoms []
one atoms = record {
  canonical = record { canonical = record { rises = tt; no_none = tt }; small = lit≤ tt };
  over = All-nil (λ e. e.0 < length atoms);
}

two : IsNumeral (pos 2)
two = search rules

unit : IsNumeral (pos 1)
unit = search rules

line : (atoms : List Atom) → All (IsLineOver atoms) one_line
line atoms =
    All-cons (IsLineOver atoms) _ []
    (record { a = unit; m = one atoms; i = lit≤ tt; b = lit< tt; n = one atoms; j = lit≤ tt; d = two })
    (All-nil (IsLineOver atoms))

step : (atoms : List Atom) → All (IsStepOver atoms) one_step
step atoms =
    All-cons (IsStepOver atoms) _ [] (record { a = unit; b = lit< tt; n = one atoms; j = lit≤ tt; d = unit })
    (All-nil (IsStepOver atoms))

image : IsPrintable small image_of_square image_answer
image = record {
  form = tt;
  parts = (
    All-cons IsNumeral (pos 2) [] two (All-nil IsNumeral),
    record {
      power = lit≤ tt;
      lines = line (goal_atoms small image_of_square);
      steps = step (goal_atoms small image_of_square);
    },
  );
}

each : (i : ℕ) → i < length small.goals → IfSome (answer_at small_answers i) (IsPrintable small (goal_at small i))
each zero within = inverse
each (suc zero) within = image
each (suc (suc i)) within = absurd (omega arith)

printable : ArePrintable small small_answers
printable = record { count = refl; each = each }

each_zero : (i : ℕ) → i < length small.goals → IfSome (answer_at zero_answers i) (IsPrintable small (goal_at small i))
each_zero zero within = record { form = tt; parts = condition }
each_zero (suc zero) within = tt
each_zero (suc (suc i)) within = absurd (omega arith)

zero_printable : ArePrintable small zero_answers
zero_printable = record { count = refl; each = each_zero }

-- what equals the small file is valid, and what equals these answers can be printed
pub is_valid : (file : File) → file ≡ small → IsValid file
is_valid file is = subst IsValid (sym is) small_is_valid

pub are_printable : (file : File) (answers : List (Option Answer)) → file ≡ small → answers ≡ small_answers →
    ArePrintable file answers
are_printable file answers is are =
    subst (λ f. ArePrintable f answers) (sym is) (subst (ArePrintable small) (sym are) printable)

pub zero_are_printable : (file : File) (answers : List (Option Answer)) → file ≡ small → answers ≡ zero_answers →
    ArePrintable file answers
zero_are_printable file answers is are =
    subst (λ f. ArePrintable f answers) (sym is) (subst (ArePrintable small) (sym are) zero_printable)
