-- What it is to put the difference of a used hypothesis to those of its kind.
use Rattle.std.specs.Prelude.{◌≡◌, cond, List, [], ◌∷◌, ◌++◌}
use Rattle.std.specs.declared.result.Result.{Result}
use Rattle.std.specs.declared.result.Result.TheVariants.{Ok, Err}
use Rattle.alg_terms.specs.declared.term.Atom.{Atom}
use Rattle.alg_terms.specs.declared.file.File.{File}
use Rattle.alg_terms.specs.declared.goals.Use.{Use}
use Rattle.alg_mono.specs.declared.ends.Overrun.{Overrun}
use Rattle.alg_mono.specs.Outcomes.{Outcome}
use Rattle.alg_mono.specs.Refusals.{RefusesWith}
use Rattle.alg_reify.specs.Preparing.{difference_outcome, is_nonzero, used_difference, used_equation}
use Rattle.alg_nsatz.specs.declared.preparing.Differences.{Differences}

module _ (file : File) (atoms : List Atom) (u : Use) where
  -- the difference of the use went last to those of its kind, and breaks no rule
  pub record HasPut (before after : Differences) : Type 0 where
    pub fine : difference_outcome u.path (used_equation file u) ≡ Outcome.Fine
    pub equations : after.equations.items
        ≡ before.equations.items ++ cond (is_nonzero file u) [] (used_difference file atoms u ∷ [])
    pub nonzero : after.nonzero.items
        ≡ before.nonzero.items ++ cond (is_nonzero file u) (used_difference file atoms u ∷ []) []

  -- so it was, or the rule that it breaks is told
  abbrev pub PutsUse : Differences → Differences → Result (Unit {0}) Overrun → Type 0
  PutsUse before after (Ok _) = HasPut before after
  PutsUse before after (Err e) = RefusesWith e (difference_outcome u.path (used_equation file u))
