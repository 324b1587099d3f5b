-- Where terms of a file divide, they divide in its front.
use Rattle.std.proofs.Common.{◌<◌, ℕ, true, List, length, refl, subst, ◌≡◌, sym}
use Rattle.std.specs.Prelude.{All, slice_index_or}
use Rattle.alg_terms.specs.declared.file.File.{File}
use Rattle.alg_terms.specs.declared.term.Term.{Term}
use Rattle.alg_terms.specs.declared.term.Term.TheOpen.{Term-F}
use Rattle.alg_terms.specs.Kinds.{IsField}
use Rattle.alg_terms.specs.Members.{kind_of, source_of, target_of, no_hom}
use Rattle.alg_terms.specs.Nodes.{EachNode}
use Rattle.alg_terms.specs.Sorts.{EachNodeAt}
use Rattle.alg_terms.specs.TermRules.{IsInRange, DividesInFields}
use Rattle.alg_typing.proofs.OtherFiles.{nodes_go_over}
use Rattle.alg_typing.proofs.Growing.{Grows, kind_same, source_same, target_same}
use Rattle.alg_typing.proofs.SortsClear.{Divides, DividesWhere}
use Rattle.alg_reading_back.proofs.Closed.{IsClosed}

module _ (g file : File) (grows : Grows g file) (closed : IsClosed g) where
  -- a sort of the front that is a field in the file is one there
  field_back : (s : ℕ) → s < length g.sorts → IsField (kind_of file s) → IsField (kind_of g s)
  field_back s low field = subst IsField (kind_same g file grows s low) field

  -- and so are the targets of its morphisms
  targets_back : (above : List ℕ) → All (λ f. f < length g.homs) above →
      All (λ f. IsField (kind_of file (target_of file f))) above → All (λ f. IsField (kind_of g (target_of g f))) above
  targets_back above range fields = λ k d h.
      let f : ℕ = slice_index_or above k d in
      let here : f < length g.homs = range k d h in
      let target : target_of g f < length g.sorts = (closed.homs f no_hom here).target in
      field_back (target_of g f) target
      (subst (λ s. IsField (kind_of file s)) (target_same g file grows f here) (fields k d h))

  -- a term that divides in fields of the file does so in the front
  field_node : (s : ℕ) (above : List ℕ) (n : Term-F Term) → s < length g.sorts → All (λ f. f < length g.homs) above →
      DividesInFields file s above n → DividesWhere g true s above n
  field_node s above (Term-F.Div t u) low up h = (refl, (field_back s low h.0, targets_back above up h.1))
  field_node s above _ low up h = tt

  known : (f : ℕ) (t : Term) → IsInRange g (Term-F.Hom f t) →
      (f < length g.homs) × (source_of g f < length g.sorts) × (source_of g f ≡ source_of file f)
  known f t r = (r, (closed.homs f no_hom r).source, sym (source_same g file grows f r))

  pub fields_divide : (t : Term) (s : ℕ) (above : List ℕ) → s < length g.sorts → EachNode (IsInRange g) t →
      All (λ f. f < length g.homs) above → EachNodeAt file (DividesInFields file) s above t → Divides g true s above t
  fields_divide t s above low r up h =
      nodes_go_over file g (IsInRange g) (λ s. s < length g.sorts) (λ f. f < length g.homs) known
      (DividesInFields file) (DividesWhere g true) field_node t s above low up r h
