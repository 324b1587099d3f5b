-- The comparison of the numbered sides is the verdict on the equation.
use Rattle.std.specs.Prelude.{◌≡◌, ◌≤◌, List, [], length}
use Rattle.std.proofs.Common.{ap, ◌∙◌}
use Rattle.alg_terms.specs.declared.term.Atom.{Atom}
use Rattle.alg_terms.specs.declared.file.File.{File}
use Rattle.alg_terms.specs.declared.goals.Equation.{Equation}
use Rattle.alg_mono.specs.Outcomes.{Outcome, first_breach}
use Rattle.alg_mono.specs.NumberedPolynomials.{Polynomial}
use Rattle.alg_meaning.specs.TermOutcome.{term_outcome}
use Rattle.alg_reify.specs.Table.{MAX_ATOMS}
use Rattle.alg_reify.specs.RingVerdict.{ComesTo, IsRingVerdict, own_table}
use Rattle.alg_reify.proofs.Made.{made}
use Rattle.alg_reify.proofs.RingSides.{equal_sides, different_sides}
use Rattle.alg_ring.specs.declared.decide.RingAnswer.{RingAnswer}
use Rattle.alg_ring.specs.Answers.{verdict_of, IsComparison}

module _ (file : File) (e : Equation) (small : length (own_table file e) ≤ MAX_ATOMS)
    (left : term_outcome e.left ≡ Outcome.Fine)
    (right : term_outcome e.right ≡ Outcome.Fine) where
  fine : ComesTo file e Outcome.Fine
  fine = (small, (λ i. first_breach (left i) (right i)))

  compared : (p q : Polynomial) (answer : RingAnswer) → p ≡ made (own_table file e) [] e.left →
      q ≡ made (own_table file e) [] e.right → IsComparison p q answer → IsRingVerdict file e (verdict_of answer)
  compared p q RingAnswer.Proved is also same = equal_sides file e fine p q is also same
  compared p q (RingAnswer.No at a b) is also differ = different_sides file e fine p q is also at a b differ

  -- the same over the table that the code has
  pub answered : (atoms : List Atom) (p q : Polynomial) (answer : RingAnswer) → atoms ≡ own_table file e →
      p ≡ made atoms [] e.left → q ≡ made atoms [] e.right → IsComparison p q answer →
      IsRingVerdict file e (verdict_of answer)
  answered atoms p q answer table is also result =
      compared p q answer (is ∙ ap (λ x. made x [] e.left) table) (also ∙ ap (λ x. made x [] e.right) table) result
