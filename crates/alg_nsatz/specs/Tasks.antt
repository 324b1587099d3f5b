-- What is prepared for a search, and what stops it.
use Rattle.std.specs.Prelude.{◌≡◌, List, length}
use Rattle.alg_terms.specs.declared.file.File.{File}
use Rattle.alg_terms.specs.declared.goals.Equation.{Equation}
use Rattle.alg_terms.specs.declared.goals.Goal.{Goal}
use Rattle.alg_terms.specs.declared.goals.Method.{Method}
use Rattle.alg_terms.specs.declared.goals.Method.TheVariants.{ByRing, ByField, ByNsatz}
use Rattle.alg_terms.specs.declared.goals.Use.{Use}
use Rattle.alg_mono.specs.Outcomes.{Outcome}
use Rattle.alg_reify.specs.declared.stop.Stop.{Stop}
use Rattle.alg_reify.specs.Preparing.{PreparesTo, StopsPreparing, prepared_goal, prepared_hyps}
use Rattle.alg_reify.specs.Table.{table}
use Rattle.alg_nsatz.specs.declared.preparing.Task.{Task}

module _ (file : File) (e : Equation) (uses : List Use) where
  -- the polynomials that are prepared for an equation, none of which breaks a rule, over so many atoms
  pub record IsPrepared (t : Task) : Type 0 where
    pub fine : PreparesTo file e uses Outcome.Fine
    pub atoms : t.atoms ≡ length (table file e uses)
    pub hyps : t.hyps ≡ prepared_hyps file e uses
    pub goal : t.goal ≡ prepared_goal file e uses

-- the task of an equation by a method: its polynomials, with the method's power and limit
abbrev pub IsTaskBy : File → Equation → Method → Task → Type 0
IsTaskBy file e ByRing t = ⊥
IsTaskBy file e ByField t = ⊥
IsTaskBy file e (ByNsatz uses power limit) t = IsPrepared file e uses t × (t.power ≡ power) × (t.limit ≡ limit)

-- what stops the making of a task
abbrev pub StopsTask : File → Equation → Method → Stop → Type 0
StopsTask file e ByRing stop = ⊥
StopsTask file e ByField stop = ⊥
StopsTask file e (ByNsatz uses power limit) stop = StopsPreparing file e uses stop

-- the task of a goal
abbrev pub IsTask : File → Goal → Task → Type 0
IsTask file goal t = IsTaskBy file goal.equation goal.method t
