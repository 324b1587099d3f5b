-- One more line and one more step behind good ones.
use Rattle.std.specs.Prelude.{List, [], ◌∷◌, ◌++◌}
use Rattle.std.proofs.Common.{refl, ap, subst}
use Rattle.alg_mono.specs.NumberedPolynomials.{Polynomial}
use Rattle.alg_lines.specs.Lines.{IsLineOf, IsStepOf}
use Rattle.alg_lines.specs.Accepting.{IsGoodLine, IsGoodStep, AreLines, AreSteps}
use Rattle.alg_lines.specs.declared.cert.Line.{Line}
use Rattle.alg_lines.specs.declared.cert.GoalStep.{GoalStep}

pub lines_more : (lines : List Polynomial) (ls : List Line) (all : List Polynomial) (l : Line) (new : Polynomial) →
    AreLines lines ls all → IsGoodLine all l × IsLineOf all l new → AreLines lines (ls ++ l ∷ []) (all ++ new ∷ [])
lines_more lines [] all l new h g = (
  new,
  subst (λ (xs : List Polynomial). IsGoodLine xs l × IsLineOf xs l new) h g,
  ap
      (λ (xs : List Polynomial). xs ++ new ∷ []) h,
)
lines_more lines (k ∷ ls) all l new h g = (h.0, h.1, lines_more (lines ++ h.0 ∷ []) ls all l new h.2 g)

pub steps_more : (lines : List Polynomial) (g : Polynomial) (ss : List GoalStep) (h : Polynomial) (s : GoalStep)
    (after : Polynomial) →
    AreSteps lines g ss h → IsGoodStep lines s h × IsStepOf lines s h after → AreSteps lines g (ss ++ s ∷ []) after
steps_more lines g [] h s after a b =
    (after, subst (λ (x : Polynomial). IsGoodStep lines s x × IsStepOf lines s x after) a b, refl)
steps_more lines g (t ∷ ss) h s after a b = (a.0, a.1, steps_more lines a.0 ss h s after a.2 b)
