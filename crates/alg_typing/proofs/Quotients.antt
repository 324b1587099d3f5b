-- A term whose sorts have no faults has quotients where it may have them alone.
use Rattle.std.proofs.Common.{◌≡◌, ℕ, Bool, true, false, List, [], ◌∷◌, ◌++◌, Option, Some, refl}
use Rattle.std.specs.Prelude.{All, not, ◌&&◌, ◌||◌}
use Rattle.std.proofs.lemmas.Bool.{or_parts, and_parts}
use Rattle.std.proofs.lemmas.List.Elements.{All-cons}
use Rattle.alg_terms.specs.declared.declarations.Kind.{Kind}
use Rattle.alg_terms.specs.declared.declarations.Kind.TheVariants.{Ring, Domain, Field}
use Rattle.alg_terms.specs.declared.file.File.{File}
use Rattle.alg_terms.specs.declared.term.Term.{Term}
use Rattle.alg_terms.specs.Kinds.{IsDomain, IsField}
use Rattle.alg_terms.specs.Members.{kind_of, source_of, target_of}
use Rattle.alg_terms.specs.Nodes.{EachNode}
use Rattle.alg_terms.specs.Sorts.{EachNodeAt}
use Rattle.alg_terms.specs.TermRules.{IsNoQuotient, DividesInFields}
use Rattle.alg_tokens.specs.declared.code.Code.TheVariants as code
use Rattle.alg_reader.specs.declared.raw.RawNode.{RawNode}
use Rattle.alg_reader.proofs.RawViews.{AreRelated, related}
use Rattle.alg_typing.specs.Resolved.{number_at, node_term}
use Rattle.alg_typing.specs.TermSorts.{Sorted, is_field, is_ring, operator, quotient, node_sorted}
use Rattle.alg_typing.proofs.NumbersInRange.{parts_empty, no_fault}
use Rattle.alg_typing.proofs.Resolving.{resolved, sorted_under}

pub field_if : (kind : Kind) → is_field kind ≡ true → IsField kind
field_if Ring h = absurd (cc)
field_if Domain h = absurd (cc)
field_if Field h = tt

pub domain_if : (kind : Kind) → is_ring kind ≡ false → IsDomain kind
domain_if Ring h = absurd (cc)
domain_if Domain h = tt
domain_if Field h = tt

pub not_false : (b : Bool) → not b ≡ false → b ≡ true
not_false true h = refl
not_false false h = absurd (cc)

-- of three lists that are empty together, the two last
both_empty : {X : Type 0} (a b c : List X) → a ++ b ++ c ≡ [] → (b ≡ []) × (c ≡ [])
both_empty a b c h = let (front, back) = parts_empty (a ++ b) c h in ((parts_empty a b front).1, back)

module _ (file : File) (text : List ℕ) where
  -- the term of a node without faults has no quotient
  abbrev HasNone : Sorted → Term → Type 0
  HasNone s t = (final : Option ℕ) (in_fields : Bool) → s.faults final in_fields ≡ [] → EachNode IsNoQuotient t

  none_in_both : (b : Bool) (head k l : ℕ) (t u : RawNode) →
      HasNone (sorted_under file text b k t) (resolved file text k t) →
      HasNone (sorted_under file text b l u) (resolved file text l u) → (final : Option ℕ) (in_fields : Bool) →
      (operator head (sorted_under file text b k t) (sorted_under file text b l u)).faults final in_fields ≡ [] →
      Unit {0} × EachNode IsNoQuotient (resolved file text k t) × EachNode IsNoQuotient (resolved file text l u)
  none_in_both b head k l t u left right final in_fields h =
      let (front, back) = both_empty _ _ _ h in (tt, left final in_fields front, right final in_fields back)

  nodes_without : AreRelated (node_sorted file text false) (node_term file text) HasNone
  unfolding EachNode
      Rattle.alg_terms.specs.declared.term.Term.TheBlock.hidden-the_row-Term-0 denote.Hole.Carrier.hidden
  nodes_without = record {
    name = λ head span final in_fields h. tt;
    literal = λ head n final in_fields h. tt;
    opposite = λ head k t below final in_fields h. (tt, below final in_fields h);
    power = λ head k t n below final in_fields h. (tt, below final in_fields (parts_empty _ _ h).1);
    image = λ head k t span below final in_fields h. (tt, below _ _ (parts_empty _ _ h).1);
    sum = none_in_both false;
    difference = none_in_both false;
    product = none_in_both false;
    quotient = λ head k l t u left right final in_fields h.
        let never = no_fault true code.Division head (parts_empty _ _ h).0 in absurd (cc);
  }

  -- where no quotient may stand, none does
  pub no_quotient : (head : ℕ) (node : RawNode) →
      HasNone (sorted_under file text false head node) (resolved file text head node)
  no_quotient = related _ _ _ nodes_without

  -- a quotient without fault stands at a field, below morphisms to fields
  may_stand : (head s : ℕ) (b : Bool) → quotient file text true head (Some s) b ≡ [] →
      IsField (kind_of file s) × (b ≡ true)
  may_stand head s b h =
      let none = no_fault ((false || not (is_field (kind_of file s))) || not b) code.Division head h in
      let (some, below) = or_parts (false || not (is_field (kind_of file s))) (not b) none in
      (field_if (kind_of file s) (not_false (is_field (kind_of file s)) some), not_false b below)

  -- the morphisms over a term all go to fields, where the test says so
  abbrev AllToFields : Bool → List ℕ → Type 0
  AllToFields only_fields above = only_fields ≡ true → All (λ f. IsField (kind_of file (target_of file f))) above

  abbrev Divides : ℕ → List ℕ → Term → Type 0
  Divides = EachNodeAt file (DividesInFields file)

  -- the term of a node without faults has quotients in fields alone
  abbrev HasInFields : Sorted → Term → Type 0
  HasInFields s t = (sort : ℕ) (only_fields : Bool) (above : List ℕ) → AllToFields only_fields above →
      s.faults (Some sort) only_fields ≡ [] → Divides sort above t

  in_both : (head k l : ℕ) (t u : RawNode) →
      HasInFields (sorted_under file text true k t) (resolved file text k t) →
      HasInFields (sorted_under file text true l u) (resolved file text l u) →
      (sort : ℕ) (only_fields : Bool) (above : List ℕ) → AllToFields only_fields above →
      (operator head (sorted_under file text true k t) (sorted_under file text true l u)).faults (Some sort) only_fields
      ≡ [] →
      Unit {0} × Divides sort above (resolved file text k t) × Divides sort above (resolved file text l u)
  in_both head k l t u left right sort b above up h =
      let (front, back) = both_empty _ _ _ h in (tt, left sort b above up front, right sort b above up back)

  nodes_in_fields : AreRelated (node_sorted file text true) (node_term file text) HasInFields
  unfolding EachNodeAt
      Rattle.alg_terms.specs.declared.term.Term.TheBlock.hidden-the_row-Term-0 denote.Hole.Carrier.hidden
  nodes_in_fields = record {
    name = λ head span sort b above up h. tt;
    literal = λ head n sort b above up h. tt;
    opposite = λ head k t below sort b above up h. (tt, below sort b above up h);
    power = λ head k t n below sort b above up h. (tt, below sort b above up (parts_empty _ _ h).1);
    image = λ head k t span below sort b above up h.
        let f = number_at file text span in
        let further : AllToFields (b && is_field (kind_of file (target_of file f))) (f ∷ above) =
        λ both. let (all, field) = and_parts _ _ both in
        All-cons (λ g. IsField (kind_of file (target_of file g))) f above (field_if _ field) (up all) in
        (tt, below (source_of file f) _ (f ∷ above) further (parts_empty _ _ h).1);
    sum = in_both;
    difference = in_both;
    product = in_both;
    quotient = λ head k l t u left right sort b above up h.
        let (here, rest) = parts_empty (quotient file text true head (Some sort) b) _ h in
        let (field, all) = may_stand head sort b here in
        let (plain, front, back) = in_both head k l t u left right sort b above up rest in
        ((field, up all), front, back);
  }

  -- where quotients may stand, they do so in fields alone
  pub in_fields : (head : ℕ) (node : RawNode) →
      HasInFields (sorted_under file text true head node) (resolved file text head node)
  in_fields = related _ _ _ nodes_in_fields
