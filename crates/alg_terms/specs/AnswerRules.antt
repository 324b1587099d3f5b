-- The rules of terms in answers to goals.
use Rattle.std.specs.Prelude.{ℕ}
use Rattle.alg_terms.specs.declared.file.File.{File}
use Rattle.alg_terms.specs.declared.goals.Goal.{Goal}
use Rattle.alg_terms.specs.declared.goals.Method.{Method}
use Rattle.alg_terms.specs.declared.goals.Method.TheVariants.{ByField}
use Rattle.alg_terms.specs.declared.term.Term.{Term}
use Rattle.alg_terms.specs.Sorts.{sort_beside}
use Rattle.alg_terms.specs.TermRules.{IsTerm, HasNoQuotient, HasFieldQuotients}

-- quotients of a term at sort s stand where an answer to a goal by this method may have them
abbrev pub MayDivide : File → Method → ℕ → Term → Type 0
MayDivide file ByField s t = HasFieldQuotients file s t
MayDivide file _ s t = HasNoQuotient t

-- a term of the file that may stand in the answer to a goal: its sort is its own, or the goal's where it has none
pub record IsAnswerTerm (file : File) (goal : Goal) (t : Term) : Type 0 where
  pub term : IsTerm file t
  pub quotients : MayDivide file goal.method (sort_beside file goal.equation.sort t) t
