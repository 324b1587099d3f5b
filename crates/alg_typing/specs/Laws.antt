-- Laws of reading, and of the sorts of terms that were read.
use Rattle.std.specs.Prelude.{◌≡◌, ◌↔◌, ℕ, Bool, true, false, List, [], Some, Result}
use Rattle.alg_terms.specs.declared.file.File.{File}
use Rattle.alg_terms.specs.declared.term.Term.{Term}
use Rattle.alg_terms.specs.Nodes.{EachNode}
use Rattle.alg_terms.specs.Sorts.{own_sort, equation_sort}
use Rattle.alg_terms.specs.TermRules.{HasExponent, HasAgreeingParts, HasFittingArgument, HasNoQuotient, HasFieldQuotients}
use Rattle.alg_tokens.specs.declared.token.Refusal.{Refusal}
use Rattle.alg_reader.specs.declared.raw.RawEquation.{RawEquation}
use Rattle.alg_reader.specs.declared.raw.RawTerm.{RawTerm}
use Rattle.alg_typing.specs.Reading.{IsReadingOf}
use Rattle.alg_typing.specs.Resolved.{term_of}
use Rattle.alg_typing.specs.SortFaults.{sort_of_sides}
use Rattle.alg_typing.specs.TermSorts.{sorted}

-- a text has at most one outcome: it is one file, or has one first fault
abbrev pub OneReading : Type 0
OneReading = (bytes : List ℕ) (one other : Result File Refusal) → IsReadingOf bytes one → IsReadingOf bytes other
    → one ≡ other

-- the own sort of a term that was read is the own sort of the term with its names resolved
abbrev pub OneOwnSort : Type 0
OneOwnSort = (file : File) (text : List ℕ) (may_divide : Bool) (t : RawTerm) →
    (sorted file text may_divide t).own ≡ own_sort file (term_of file text t)

-- and so is the sort of an equation
abbrev pub OneEquationSort : Type 0
OneEquationSort = (file : File) (text : List ℕ) (e : RawEquation) →
    sort_of_sides file text e ≡ equation_sort file (term_of file text e.left) (term_of file text e.right)

-- where a term at final sort s may have quotients, it has them in fields alone, and elsewhere none
abbrev pub DividesAt : File → Bool → ℕ → Term → Type 0
DividesAt file false s t = HasNoQuotient t
DividesAt file true s t = HasFieldQuotients file s t

-- a term at final sort s keeps the rules of exponents, sorts and quotients
pub record KeepsSorts (file : File) (may_divide : Bool) (s : ℕ) (t : Term) : Type 0 where
  pub exponents : EachNode HasExponent t
  pub parts : EachNode (HasAgreeingParts file) t
  pub arguments : EachNode (HasFittingArgument file) t
  pub quotients : DividesAt file may_divide s t

-- a term that was read has no faults at its final sort exactly where, with its names resolved, it keeps the rules
-- there: so both speak of the same final sort of each node
abbrev pub OneFinalSort : Type 0
OneFinalSort = (file : File) (text : List ℕ) (may_divide : Bool) (t : RawTerm) (s : ℕ) →
    ((sorted file text may_divide t).faults (Some s) true ≡ []) ↔ KeepsSorts file may_divide s (term_of file text t)
