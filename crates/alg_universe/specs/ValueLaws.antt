-- What is always so of values.
use Rattle.std.specs.Prelude.{ℕ, List}
use Rattle.alg_terms.specs.declared.file.File.{File}
use Rattle.alg_terms.specs.declared.term.Term.{Term}
use Rattle.alg_terms.specs.Sorts.{MayStandAt}
use Rattle.alg_terms.specs.TermRules.{IsTerm}
use Rattle.alg_universe.specs.declared.universe.Universe.{Ghosts}
use Rattle.alg_universe.specs.Value.{Fits, AreValues, value}

-- the value of a term that may stand at a sort is an element of that sort's carrier
abbrev pub ValuesAreElements : {E : Type 0} → Ghosts E → Type 0
ValuesAreElements {E} u =
    (file : File) → Fits u file → (v : List E) → AreValues u file v → (s : ℕ) (t : Term) → IsTerm file t →
    MayStandAt file s t → u.has s (value u file v s t)
