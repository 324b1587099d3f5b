-- The answer that the code comes to by field is the goal's.
use Rattle.std.specs.Prelude.{◌≡◌, ◌≤◌, List, length}
use Rattle.std.proofs.Common.{refl, sym, ap, subst, ◌∙◌}
use Rattle.alg_terms.specs.declared.term.Term.{Term}
use Rattle.alg_terms.specs.declared.file.File.{File}
use Rattle.alg_terms.specs.declared.goals.Equation.{Equation}
use Rattle.alg_mono.specs.declared.ends.Overrun.{Overrun}
use Rattle.alg_mono.specs.NumberedPolynomials.{Polynomial}
use Rattle.alg_lines.specs.declared.answer.Answer.{Answer}
use Rattle.alg_reify.specs.Answers.{IsFieldAnswer, field_answer}
use Rattle.alg_reify.specs.declared.ends.FractionEnd.{FractionEnd}
use Rattle.alg_reify.specs.Ends.{EndsFractionWith}
use Rattle.alg_reify.specs.FieldVerdict.{FieldVerdict, sides_outcome}
use Rattle.alg_reify.specs.MadeSides.{AreCleared}
use Rattle.alg_reify.specs.RingVerdict.{own_table}
use Rattle.alg_reify.specs.Table.{MAX_ATOMS}
use Rattle.alg_reify.proofs.FieldSides.{equal_numerators, different_numerators}
use Rattle.alg_reify.proofs.FieldVerdicts.{one_field_verdict}
use Rattle.alg_check.specs.Answers.{IsComparison, HasNoCertificate}
use Rattle.alg_check.specs.Fields.{IsEnded}

module _ (file : File) (e : Equation) where
  module _ (small : length (own_table file e) ≤ MAX_ATOMS) where
    -- both numerators were made and compared
    pub field_compared : (all : List Term) (p q : Polynomial) → AreCleared file e all p q → (answer : Answer) →
        IsComparison p q all answer → IsFieldAnswer file e answer
    field_compared all p q are (Answer.Proved terms) h =
        (FieldVerdict.Proved terms, equal_numerators file e small all p q are terms h.0 h.1, refl)
    field_compared all p q are (Answer.No at a b) h =
        (FieldVerdict.No at a b, different_numerators file e small all p q are at a b h, refl)
    field_compared all p q are (Answer.Certified numbers cert) h = absurd h
    field_compared all p q are (Answer.ZeroDenominator t) h = absurd h
    field_compared all p q are (Answer.NoneUpTo power) h = absurd h
    field_compared all p q are (Answer.GaveUp limit) h = absurd h
    field_compared all p q are Answer.Atoms h = absurd h
    field_compared all p q are Answer.Range h = absurd h
    field_compared all p q are Answer.Degree h = absurd h

    -- they could not be made
    pub field_ended : (end : FractionEnd) → EndsFractionWith end (sides_outcome e) → (answer : Answer) →
        IsEnded end answer → IsFieldAnswer file e answer
    field_ended (FractionEnd.Refused Overrun.Range) told answer is = (FieldVerdict.Range, (small, told), is)
    field_ended (FractionEnd.Refused Overrun.Degree) told answer is = (FieldVerdict.Degree, (small, told), is)
    field_ended (FractionEnd.Refused Overrun.NoMemory) told answer is = absurd is
    field_ended (FractionEnd.ZeroDenominator t) told answer is = (FieldVerdict.ZeroDenominator t, (small, told), is)

  -- there is one answer
  pub one_field_answer : (own given : Answer) → IsFieldAnswer file e own → IsFieldAnswer file e given → given ≡ own
  one_field_answer own given (v, h, p) (w, k, q) =
      q ∙ ap field_answer (one_field_verdict file e w v k h) ∙ sym p

  -- and it has no certificate
  field_plain : (v : FieldVerdict) → HasNoCertificate (field_answer v)
  field_plain FieldVerdict.Atoms = tt
  field_plain FieldVerdict.Range = tt
  field_plain FieldVerdict.Degree = tt
  field_plain (FieldVerdict.ZeroDenominator t) = tt
  field_plain (FieldVerdict.Proved conditions) = tt
  field_plain (FieldVerdict.No at a b) = tt

  pub field_no_certificate : (own : Answer) → IsFieldAnswer file e own → HasNoCertificate own
  field_no_certificate own (v, h, p) = subst HasNoCertificate (sym p) (field_plain v)
