-- The first faults of terms of answers to goals of a file.
use Rattle.std.specs.Prelude.{ℕ, Bool, true, false, List, Option, Some, unwrap_or}
use Rattle.std.specs.Option.{option_or}
use Rattle.alg_terms.specs.declared.file.File.{File}
use Rattle.alg_terms.specs.declared.goals.Goal.{Goal}
use Rattle.alg_terms.specs.declared.goals.Method.{Method}
use Rattle.alg_terms.specs.declared.goals.Method.TheVariants.{ByField}
use Rattle.alg_tokens.specs.declared.token.Refusal.{Refusal}
use Rattle.alg_reader.specs.declared.raw.RawTerm.{RawTerm}
use Rattle.alg_typing.specs.Faults.{first_of}
use Rattle.alg_typing.specs.NameFaults.{term_names}
use Rattle.alg_typing.specs.TermSorts.{sorted}

-- whether an answer to a goal by this method may have quotients
abbrev pub may_divide : Method → Bool
may_divide ByField = true
may_divide _ = false

module _ (file : File) (text : List ℕ) (goal : Goal) where
  -- the faults of a term's sorts, where its final sort is its own, or the goal's where it has none
  abbrev pub answer_sorts : RawTerm → List Refusal
  answer_sorts t =
      let term = sorted file text (may_divide goal.method) t in
      term.faults (Some (unwrap_or term.own goal.equation.sort)) true

  -- the first fault of a term: the first of its names, else the first of its sorts
  abbrev pub first_fault_of_term : RawTerm → Option Refusal
  first_fault_of_term t = option_or (first_of (term_names file text t)) (first_of (answer_sorts t))
