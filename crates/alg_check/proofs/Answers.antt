-- The answer that the code comes to is the goal's, and an answer is the goal's where it is that one.
use Rattle.std.specs.Prelude.{◌≡◌, []}
use Rattle.std.proofs.Common.{refl, sym, ap, subst, ◌∙◌}
use Rattle.alg_terms.specs.declared.file.File.{File}
use Rattle.alg_terms.specs.declared.goals.Equation.{Equation}
use Rattle.alg_mono.specs.Outcomes.{Outcome, first_breach}
use Rattle.alg_mono.specs.NumberedPolynomials.{Polynomial}
use Rattle.alg_lines.specs.declared.answer.Answer.{Answer}
use Rattle.alg_lines.specs.declared.answer.GoalCheck.{GoalCheck}
use Rattle.alg_meaning.specs.TermOutcome.{term_outcome}
use Rattle.alg_reify.specs.declared.stop.Stop.{Stop}
use Rattle.alg_reify.specs.Answers.{IsRingAnswer, ring_answer}
use Rattle.alg_reify.specs.RingVerdict.{RingVerdict, ComesTo, own_table}
use Rattle.alg_reify.specs.Stops.{StopsWith}
use Rattle.alg_reify.proofs.Made.{made}
use Rattle.alg_reify.proofs.RingSides.{equal_sides, different_sides}
use Rattle.alg_reify.proofs.Verdicts.{one_ring_verdict}
use Rattle.alg_check.specs.Answers.{IsComparison, IsStopped, HasNoCertificate}
use Rattle.alg_check.specs.Reports.{Compares}

-- the report by an answer is the report by what holds of that answer alone
pub compares_by : (P : Answer → Type 0) (own given : Answer) (report : GoalCheck) → P own →
    (P given → given ≡ own) → Compares (given ≡ own) given report → Compares (P given) given report
compares_by P own given GoalCheck.OkProved here only h = (subst P (sym h.0) here, h.1)
compares_by P own given GoalCheck.OkOther here only h = (subst P (sym h.0) here, h.1)
compares_by P own given (GoalCheck.Bad at) here only h = ((λ other. h.0 (only other)), h.1)
compares_by P own given GoalCheck.Unchecked here only h = absurd h
compares_by P own given GoalCheck.Atoms here only h = absurd h
compares_by P own given GoalCheck.Range here only h = absurd h
compares_by P own given GoalCheck.Degree here only h = absurd h

module _ (file : File) (e : Equation) where
  -- ---- by ring
  -- both sides were made and compared
  pub ring_compared : ComesTo file e Outcome.Fine → (p q : Polynomial) → p ≡ made (own_table file e) [] e.left →
      q ≡ made (own_table file e) [] e.right → (answer : Answer) → IsComparison p q [] answer →
      IsRingAnswer file e answer
  ring_compared fine p q left right (Answer.Proved all) h =
      (RingVerdict.Proved, equal_sides file e fine p q left right h.0, ap (λ terms. Answer.Proved terms) h.1)
  ring_compared fine p q left right (Answer.No at a b) h =
      (RingVerdict.No at a b, different_sides file e fine p q left right at a b h, refl)
  ring_compared fine p q left right (Answer.Certified numbers cert) h = absurd h
  ring_compared fine p q left right (Answer.ZeroDenominator t) h = absurd h
  ring_compared fine p q left right (Answer.NoneUpTo power) h = absurd h
  ring_compared fine p q left right (Answer.GaveUp limit) h = absurd h
  ring_compared fine p q left right Answer.Atoms h = absurd h
  ring_compared fine p q left right Answer.Range h = absurd h
  ring_compared fine p q left right Answer.Degree h = absurd h

  -- they could not be made
  pub ring_stopped : (stop : Stop) →
      StopsWith (own_table file e) (first_breach (term_outcome e.left) (term_outcome e.right)) stop →
      (answer : Answer) → IsStopped stop answer → IsRingAnswer file e answer
  ring_stopped Stop.Atoms h answer is = (RingVerdict.Atoms, h, is)
  ring_stopped Stop.Range h answer is = (RingVerdict.Range, h, is)
  ring_stopped Stop.Degree h answer is = (RingVerdict.Degree, h, is)
  ring_stopped Stop.NoMemory h answer is = absurd is

  -- there is one answer
  pub one_ring_answer : (own given : Answer) → IsRingAnswer file e own → IsRingAnswer file e given → given ≡ own
  one_ring_answer own given (v, h, p) (w, k, q) =
      q ∙ ap ring_answer (one_ring_verdict file e w v k h) ∙ sym p

  -- and it has no certificate
  ring_plain : (v : RingVerdict) → HasNoCertificate (ring_answer v)
  ring_plain RingVerdict.Atoms = tt
  ring_plain RingVerdict.Range = tt
  ring_plain RingVerdict.Degree = tt
  ring_plain RingVerdict.Proved = tt
  ring_plain (RingVerdict.No at a b) = tt

  pub ring_no_certificate : (own : Answer) → IsRingAnswer file e own → HasNoCertificate own
  ring_no_certificate own (v, h, p) = subst HasNoCertificate (sym p) (ring_plain v)
