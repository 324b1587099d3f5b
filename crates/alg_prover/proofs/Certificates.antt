-- The answers to goals by nsatz can be printed.
use Rattle.std.specs.Prelude.{◌≡◌, ◌<◌, ◌^◌, ℕ, ℤ, List, length, All}
use Rattle.std.proofs.Common.{refl, sym, subst, arith}
use Rattle.std.proofs.lemmas.Int.{ints}
use Rattle.std.proofs.lemmas.List.Elements.{All-weaker}
use Rattle.alg_terms.specs.declared.file.File.{File}
use Rattle.alg_terms.specs.declared.goals.Goal.{Goal}
use Rattle.alg_terms.specs.declared.goals.Method.{Method}
use Rattle.alg_terms.specs.declared.goals.Method.TheVariants.{ByRing, ByField, ByNsatz}
use Rattle.alg_terms.specs.declared.goals.Equation.{Equation}
use Rattle.alg_terms.specs.declared.goals.Use.{Use}
use Rattle.alg_terms.specs.declared.term.Atom.{Atom}
use Rattle.alg_terms.specs.GoalRules.{IsGoal, IsHyp}
use Rattle.alg_terms.specs.Members.{uses_of}
use Rattle.alg_mono.specs.Mono.{Monomial}
use Rattle.alg_lines.specs.declared.answer.Answer.{Answer}
use Rattle.alg_lines.specs.declared.answer.Answer.TheVariants.{Certified, NoneUpTo, GaveUp}
use Rattle.alg_lines.specs.declared.cert.Cert.{Cert}
use Rattle.alg_lines.specs.declared.cert.GoalStep.{GoalStep}
use Rattle.alg_lines.specs.declared.cert.Line.{Line}
use Rattle.alg_groebner.specs.Within.{IsCertWithin, IsLineWithin, IsMagnitude, IsMonoWithin, IsStepWithin}
use Rattle.alg_nsatz.specs.Laws.{ProvedIsWithin}
use Rattle.alg_nsatz.specs.Verdict.{NsatzVerdict, IsNsatzVerdict, IsVerdictBy}
use Rattle.alg_reify.specs.Table.{goal_atoms}
use Rattle.alg_printer.specs.Printable.{IsPrintable, HasForm, IsNumeral, IsMonomialOver, IsLineOver, IsStepOver, IsCertOver}
use Rattle.alg_reify.specs.Preparing.{IsByNsatz}
use Rattle.alg_reify.specs.Table.{table}
use Rattle.alg_prover.specs.Answers.{IsAnswer, IsAnswerBy, nsatz_answer_of}
use Rattle.alg_prover.proofs.Printing.{each_over, few}

-- ---- what is within the limits can be printed
numeral : (c : ℤ) → IsMagnitude c → IsNumeral c
numeral c h = let low = h.0 in let high = h.1 in (low, omega (arith, ints))

module _ (atoms : List Atom) where
  monomial : (m : Monomial) → IsMonoWithin (length atoms) m → IsMonomialOver atoms m
  monomial m h = record { canonical = h.mono; over = each_over atoms m h.atoms }

  line : (l : Line) → IsLineWithin (length atoms) l → IsLineOver atoms l
  line l h = record {
    a = numeral l.a h.within.first;
    m = monomial l.m h.within.first_mono;
    i = let i = h.i in omega arith;
    b = let b = h.within.second in omega arith;
    n = monomial l.n h.within.second_mono;
    j = let j = h.j in omega arith;
    d = numeral l.d h.within.divisor;
  }

  step : (s : GoalStep) → IsStepWithin (length atoms) s → IsStepOver atoms s
  step s h = record {
    a = numeral s.a h.within.first;
    b = let b = h.within.second in omega arith;
    n = monomial s.n h.within.second_mono;
    j = let j = h.j in omega arith;
    d = numeral s.d h.within.divisor;
  }

  certificate : (cert : Cert) → IsCertWithin (length atoms) cert → IsCertOver atoms cert
  certificate cert h = record {
    power = let p = h.power in omega arith;
    lines = All-weaker (IsLineWithin (length atoms)) (IsLineOver atoms) line cert.lines h.lines;
    steps = All-weaker (IsStepWithin (length atoms)) (IsStepOver atoms) step cert.steps h.steps;
  }

-- the answers that a goal by nsatz may have
form : (method : Method) (answer : Answer) →
    ((uses : List Use) (power limit : ℕ) → HasForm (ByNsatz uses power limit) answer) → IsByNsatz method → HasForm method answer
form ByRing answer may by = absurd by
form ByField answer may by = absurd by
form (ByNsatz uses power limit) answer may by = may uses power limit

module _ (file : File) (goal : Goal) (by : IsByNsatz goal.method) where
  pub certified_is_printable : ProvedIsWithin → All (IsHyp file) file.hyps → IsGoal file goal →
      (constants : List ℤ) (cert : Cert) → IsNsatzVerdict file goal (NsatzVerdict.Proved constants cert) →
      IsPrintable file goal (Certified constants cert)
  certified_is_printable law hyps is constants cert verdict =
      let atoms = table file goal.equation (uses_of goal.method) in
      let within = law file goal hyps is constants cert verdict in
      let same : goal_atoms file goal ≡ atoms = few atoms within.0 in
      record {
        form = form goal.method (Certified constants cert) (λ uses power limit. tt) by;
        parts = (
          All-weaker IsMagnitude IsNumeral numeral constants within.2,
          subst (λ xs. IsCertOver xs cert) (sym same) (certificate atoms cert within.1),
        );
      }

  pub none_is_printable : (power : ℕ) → power < 2 ^ 32 → IsPrintable file goal (NoneUpTo power)
  none_is_printable power h =
      record { form = form goal.method (NoneUpTo power) (λ uses power limit. tt) by; parts = omega arith }

  pub gave_up_is_printable : (limit : ℕ) → limit < 2 ^ 32 → IsPrintable file goal (GaveUp limit)
  gave_up_is_printable limit h =
      record { form = form goal.method (GaveUp limit) (λ uses power limit. tt) by; parts = omega arith }

-- ---- a verdict by nsatz is an answer
answer_by : (file : File) (e : Equation) (method : Method) (v : NsatzVerdict) → IsVerdictBy file e method v →
    IsAnswerBy file e method (nsatz_answer_of v)
answer_by file e ByRing v h = absurd h
answer_by file e ByField v h = absurd h
answer_by file e (ByNsatz uses power limit) v h = (v, h, refl)

pub answer_is : (file : File) (goal : Goal) (v : NsatzVerdict) → IsNsatzVerdict file goal v →
    IsAnswer file goal (nsatz_answer_of v)
answer_is file goal v h = answer_by file goal.equation goal.method v h
