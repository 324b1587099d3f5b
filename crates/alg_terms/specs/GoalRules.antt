-- The rules of equations, hypotheses, uses and goals.
use Rattle.std.specs.Prelude.{◌≡◌, ◌≢◌, ◌≤◌, ◌<◌, ℕ, true, List, [], length, All, Some}
use Rattle.alg_terms.specs.declared.file.File.{File}
use Rattle.alg_terms.specs.declared.goals.Equation.{Equation}
use Rattle.alg_terms.specs.declared.goals.Goal.{Goal}
use Rattle.alg_terms.specs.declared.goals.Hyp.{Hyp}
use Rattle.alg_terms.specs.declared.goals.Method.{Method}
use Rattle.alg_terms.specs.declared.goals.Method.TheVariants.{ByRing, ByField, ByNsatz}
use Rattle.alg_terms.specs.declared.goals.Use.{Use}
use Rattle.alg_terms.specs.Kinds.{IsDomain, IsField}
use Rattle.alg_terms.specs.Limits.{MIN_POWER, MAX_POWER, MAX_LIMIT, MAX_USES}
use Rattle.alg_terms.specs.Members.{kind_of, hyp_at}
use Rattle.alg_terms.specs.Sorts.{own_sort, equation_sort, Agree, Leads, hyp_sort}
use Rattle.alg_terms.specs.TermRules.{IsTerm, HasNoQuotient, HasFieldQuotients}

-- an equation of the file, apart from where it may have quotients
pub record IsEquation (file : File) (e : Equation) : Type 0 where
  pub left : IsTerm file e.left
  pub right : IsTerm file e.right
  -- the own sorts of the sides don't differ
  pub sides : Agree (own_sort file e.left) (own_sort file e.right)
  -- a side has an own sort, and the equation's sort is that one
  pub sort : equation_sort file e.left e.right ≡ Some e.sort

-- both sides are without quotients
abbrev pub DividesNowhere : Equation → Type 0
DividesNowhere e = HasNoQuotient e.left × HasNoQuotient e.right

-- a hypothesis of the file
pub record IsHyp (file : File) (hyp : Hyp) : Type 0 where
  pub equation : IsEquation file hyp.equation
  pub divides_nowhere : DividesNowhere hyp.equation

-- a use of the file in a goal of this sort
pub record IsUse (file : File) (goal_sort : ℕ) (used : Use) : Type 0 where
  pub hyp : used.hyp < length file.hyps
  pub path : All (λ f. f < length file.homs) used.path
  -- each morphism's source is the sort of what it is used on, and the use's sort is the goal's
  pub sorts : Leads file used.path (hyp_sort file used) goal_sort
  -- a `<>` under a morphism is one of a field
  pub nonzero : (hyp_at file used.hyp).nonzero ≡ true → used.path ≢ [] → IsField (kind_of file (hyp_sort file used))

-- a goal by nsatz over a domain, without quotients
pub record IsNsatz (file : File) (e : Equation) (uses : List Use) (power limit : ℕ) : Type 0 where
  pub domain : IsDomain (kind_of file e.sort)
  pub divides_nowhere : DividesNowhere e
  pub each_use : All (IsUse file e.sort) uses
  pub few_uses : length uses ≤ MAX_USES
  pub power_low : MIN_POWER ≤ power
  pub power_high : power ≤ MAX_POWER
  pub limit_high : limit ≤ MAX_LIMIT

-- a goal by field over a field, with quotients in fields alone
pub record IsByField (file : File) (e : Equation) : Type 0 where
  pub field : IsField (kind_of file e.sort)
  pub left : HasFieldQuotients file e.sort e.left
  pub right : HasFieldQuotients file e.sort e.right

-- what a method asks of its equation
abbrev pub MayBeBy : File → Equation → Method → Type 0
MayBeBy file e ByRing = DividesNowhere e
MayBeBy file e ByField = IsByField file e
MayBeBy file e (ByNsatz uses power limit) = IsNsatz file e uses power limit

-- a goal of the file
pub record IsGoal (file : File) (goal : Goal) : Type 0 where
  pub equation : IsEquation file goal.equation
  pub method : MayBeBy file goal.equation goal.method
