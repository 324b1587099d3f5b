-- What a certificate is tried on, and how it is made.
use Rattle.std.specs.Prelude.{◌≡◌, cond, List, [], ◌∷◌, ◌++◌}
use Rattle.std.specs.declared.result.Result.{Result}
use Rattle.std.specs.declared.result.Result.TheVariants.{Ok, Err}
use Rattle.alg_terms.specs.declared.term.Atom.{Atom}
use Rattle.alg_terms.specs.declared.file.File.{File}
use Rattle.alg_terms.specs.declared.goals.Equation.{Equation}
use Rattle.alg_terms.specs.declared.goals.Use.{Use}
use Rattle.alg_mono.specs.declared.ends.Overrun.{Overrun}
use Rattle.alg_mono.specs.Outcomes.{Outcome}
use Rattle.alg_mono.specs.Refusals.{RefusesWith}
use Rattle.alg_reify.specs.Preparing.{PreparesTo, difference_outcome, is_nonzero, prepared_goal, prepared_hyps, used_difference, used_equation}
use Rattle.alg_check.specs.declared.preparing.Prepared.{Prepared}
use Rattle.alg_check.specs.declared.preparing.Used.{Used}

-- the hypotheses and the goal of an equation with its uses, none of which breaks a rule
pub record IsPrepared (file : File) (e : Equation) (uses : List Use) (p : Prepared) : Type 0 where
  pub fine : PreparesTo file e uses Outcome.Fine
  pub hyps : p.hyps.items ≡ prepared_hyps file e uses
  pub goal : p.goal ≡ prepared_goal file e uses

module _ (file : File) (atoms : List Atom) (u : Use) where
  -- the difference of a use, which breaks no rule, went last to those of its kind
  pub record HasAdded (before after : Used) : Type 0 where
    pub fine : difference_outcome u.path (used_equation file u) ≡ Outcome.Fine
    pub zero : after.zero.items ≡ before.zero.items ++ cond (is_nonzero file u) [] (used_difference file atoms u ∷ [])
    pub factors : after.factors.items
        ≡ before.factors.items ++ cond (is_nonzero file u) (used_difference file atoms u ∷ []) []

  -- so it did, or the rule that it breaks is told
  abbrev pub AddsUse : Used → Used → Result (Unit {0}) Overrun → Type 0
  AddsUse before after (Ok _) = HasAdded before after
  AddsUse before after (Err end) = RefusesWith end (difference_outcome u.path (used_equation file u))
