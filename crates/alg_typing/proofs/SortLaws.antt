-- The sorts of terms that were read are those of the terms with their names resolved.
use Rattle.std.proofs.Common.{◌≡◌, ℕ, Bool, true, false, List, [], Some, refl, sym}
use Rattle.std.proofs.lemmas.List.Elements.{All-nil}
use Rattle.alg_terms.specs.declared.file.File.{File}
use Rattle.alg_terms.specs.declared.term.Term.{Term}
use Rattle.alg_terms.specs.declared.term.Term.TheOpen.{Term-F}
use Rattle.alg_terms.specs.Kinds.{IsField}
use Rattle.alg_terms.specs.Members.{kind_of, target_of}
use Rattle.alg_terms.specs.TermRules.{IsNoQuotient, DividesInFields, HasNoQuotient}
use Rattle.alg_terms.proofs.EveryNode.{nodes_all, nodes_at_all, nodes_at_imply}
use Rattle.alg_reader.specs.declared.raw.RawTerm.{RawTerm}
use Rattle.alg_typing.specs.Laws.{OneOwnSort, OneEquationSort, OneFinalSort, DividesAt}
use Rattle.alg_typing.specs.Resolved.{term_of}
use Rattle.alg_typing.specs.TermSorts.{sorted}
use Rattle.alg_typing.proofs.Quotients.{no_quotient, in_fields}
use Rattle.alg_typing.proofs.Resolving.{own_resolved}
use Rattle.alg_typing.proofs.Small.{equation_sort-sides}
use Rattle.alg_typing.proofs.SortedTerms.{rules_kept}
use Rattle.alg_typing.proofs.SortsClear.{DividesWhere, Divides, clear}

pub one_own_sort : OneOwnSort
one_own_sort file text may t = own_resolved file text may t.head t.node

pub one_equation_sort : OneEquationSort
one_equation_sort file text e = sym (equation_sort-sides file text e)

-- a node that is no quotient divides nowhere, and one in fields where there may be quotients
plain_node : (file : File) (may : Bool) (s : ℕ) (above : List ℕ) (n : Term-F Term) → IsNoQuotient n → Unit {0} →
    DividesWhere file may s above n
plain_node file may s above (Term-F.Div t u) h _ = absurd h
plain_node file may s above _ h _ = tt

field_node : (file : File) (s : ℕ) (above : List ℕ) (n : Term-F Term) → Unit {0} → DividesInFields file s above n →
    DividesWhere file true s above n
field_node file s above (Term-F.Div t u) _ h = (refl, h)
field_node file s above _ _ h = tt

-- a term without quotients, and one that divides in fields, divide only where they may
pub plain_divides : (file : File) (may : Bool) (t : Term) (s : ℕ) (above : List ℕ) → HasNoQuotient t →
    Divides file may s above t
plain_divides file may t s above h =
    nodes_at_imply file IsNoQuotient (λ s above n. Unit {0}) (DividesWhere file may) (plain_node file may) t s above h
    (nodes_at_all file (λ s above n. Unit {0}) (λ s above n. tt) t s above)

pub divides : (file : File) (may : Bool) (s : ℕ) (t : Term) → DividesAt file may s t → Divides file may s [] t
divides file false s t h = plain_divides file false t s [] h
divides file true s t h =
    nodes_at_imply file (λ n. Unit {0}) (DividesInFields file) (DividesWhere file true) (field_node file) t s []
    (nodes_all (λ n. Unit {0}) (λ n. tt) t) h

divides_kept : (file : File) (text : List ℕ) (may : Bool) (t : RawTerm) (s : ℕ) →
    (sorted file text may t).faults (Some s) true ≡ [] → DividesAt file may s (term_of file text t)
divides_kept file text false t s h = no_quotient file text t.head t.node (Some s) true h
divides_kept file text true t s h =
    in_fields file text t.head t.node s true [] (λ e. All-nil (λ f. IsField (kind_of file (target_of file f)))) h

pub one_final_sort : OneFinalSort
one_final_sort file text may t s = (
  λ h. let (e, p, a) = rules_kept file text may t.head t.node (Some s) true h in
      record { exponents = e; parts = p; arguments = a; quotients = divides_kept file text may t s h },
  λ k. clear file text may t.head t.node s true [] (λ all. refl) k.exponents k.parts k.arguments
      (divides file may s (term_of file text t) k.quotients),
)
