-- What is without fault of sorts has small exponents and options, and the own sorts of terms that were built.
use Rattle.std.proofs.Common.{◌≡◌, ◌<◌, ◌^◌, ℕ, Bool, true, false, ◌||◌, nat_lt, List, [], ◌++◌, sym, All, Option, None, Some, arith, IfSome}
use Rattle.std.specs.Int.RustNames.{unsigned_abs}
use Rattle.std.specs.Option.{option_or}
use Rattle.std.proofs.lemmas.Bool.Decides.{nat_tests}
use Rattle.std.proofs.lemmas.List.Elements.{All-append, All-cons, All-nil}
use Rattle.alg_terms.specs.declared.file.File.{File}
use Rattle.alg_terms.specs.Limits.{MIN_POWER, MAX_POWER, MIN_LIMIT, MAX_LIMIT}
use Rattle.alg_terms.specs.Sorts.{equation_sort}
use Rattle.alg_tokens.specs.declared.code.Code.TheVariants as code
use Rattle.alg_reader.specs.declared.raw.RawEquation.{RawEquation}
use Rattle.alg_reader.specs.declared.raw.RawMethod.{RawMethod}
use Rattle.alg_reader.specs.declared.raw.RawMethod.TheVariants as methods
use Rattle.alg_reader.specs.declared.raw.RawNode.{RawNode}
use Rattle.alg_reader.specs.declared.raw.RawNumber.{RawNumber}
use Rattle.alg_reader.specs.declared.raw.RawTerm.{RawTerm}
use Rattle.alg_reader.specs.RawTerms.{fold_under, exponents_of_node}
use Rattle.alg_reader.specs.WellRead.{IsWellEquation, IsWellTerm}
use Rattle.alg_reader.proofs.RawViews.{AreRelated, related}
use Rattle.alg_typing.specs.Resolved.{term_of}
use Rattle.alg_typing.specs.SortFaults.{option_range, equation_sorts, method_sorts, sort_of_sides}
use Rattle.alg_typing.specs.TermSorts.{Sorted, sorted, node_sorted, exponent, operator}
use Rattle.alg_typing.specs.TermsOf.{IsExponent, IsSmallTermOf, HasSmallOptions}
use Rattle.alg_typing.proofs.GrowingTerms.{or_same}
use Rattle.alg_typing.proofs.NumbersInRange.{parts_empty, no_fault}
use Rattle.alg_typing.proofs.RawParts.{own_and_parts}
use Rattle.alg_typing.proofs.Resolving.{own_resolved}
use Rattle.alg_typing.proofs.SortedTerms.{exponent_in_range}

module _ (file : File) (text : List ℕ) (may : Bool) where
  -- the exponents of a node without faults are small
  abbrev AreSmall : Sorted → List RawNumber → Type 0
  AreSmall s exponents = (final : Option ℕ) (in_fields : Bool) → s.faults final in_fields ≡ [] → All IsExponent exponents

  abbrev under : ℕ → RawNode → Sorted
  under = fold_under (node_sorted file text may)

  abbrev exponents_under : ℕ → RawNode → List RawNumber
  exponents_under = fold_under (own_and_parts exponents_of_node)

  both_small : (head k l : ℕ) (t u : RawNode) → AreSmall (under k t) (exponents_under k t) →
      AreSmall (under l u) (exponents_under l u) → (final : Option ℕ) (in_fields : Bool) →
      (operator head (under k t) (under l u)).faults final in_fields ≡ [] →
      All IsExponent (exponents_under k t ++ exponents_under l u)
  both_small head k l t u left right final in_fields h =
      let (front, back) = parts_empty _ _ h in
      All-append IsExponent _ _ (left final in_fields (parts_empty _ _ front).1) (right final in_fields back)

  exponent_nodes : AreRelated (node_sorted file text may) (own_and_parts exponents_of_node) AreSmall
  exponent_nodes = record {
    name = λ head span final in_fields h. All-nil IsExponent;
    literal = λ head n final in_fields h. All-nil IsExponent;
    opposite = λ head k t below. below;
    power = λ head k t n below final in_fields h.
        let parts = parts_empty (exponent n) _ h in
        All-cons IsExponent n _ (exponent_in_range n parts.0) (below final in_fields parts.1);
    image = λ head k t span below final in_fields h. below _ _ (parts_empty _ _ h).1;
    sum = both_small;
    difference = both_small;
    product = both_small;
    quotient = λ head k l t u left right final in_fields h.
        both_small head k l t u left right final in_fields (parts_empty _ _ h).1;
  }

  -- a term without faults of its sorts
  pub small_term : (t : RawTerm) (final : Option ℕ) (in_fields : Bool) → IsWellTerm text t →
      (sorted file text may t).faults final in_fields ≡ [] → IsSmallTermOf text t
  small_term t final in_fields well h =
      record { names = well.names; exponents = related _ _ _ exponent_nodes t.head t.node final in_fields h }

  -- the sides of an equation without faults of its sorts
  pub small_sides : (e : RawEquation) → IsWellEquation text e → equation_sorts file text may e ≡ [] →
      IsSmallTermOf text e.left × IsSmallTermOf text e.right
  small_sides e well h =
      let l = sorted file text may e.left in
      let r = sorted file text may e.right in
      let final = option_or l.own r.own in
      let three = parts_empty _ _ h in
      let two = parts_empty _ _ three.0 in
      let one = parts_empty (l.faults final true) (r.faults final true) two.0 in
      (small_term e.left final true well.left one.0, small_term e.right final true well.right one.1)

module _ (file : File) (text : List ℕ) where
  -- the sort of an equation that was built is that of the one that was read
  pub equation_sort-sides : (e : RawEquation) →
      equation_sort file (term_of file text e.left) (term_of file text e.right) ≡ sort_of_sides file text e
  equation_sort-sides e =
      sym (or_same _ _ _ _ (own_resolved file text false e.left.head e.left.node)
      (own_resolved file text false e.right.head e.right.node))

-- an option's numeral without fault
small_option : (low high : ℕ) (number : Option RawNumber) → high < 2 ^ 32 → option_range low high number ≡ [] →
    IfSome number (λ n. unsigned_abs n.value < 2 ^ 32)
small_option low high None bound h = tt
small_option low high (Some n) bound h =
    let e = no_fault (nat_lt (unsigned_abs n.value) low || nat_lt high (unsigned_abs n.value)) code.Option n.at h in
    grind (arith, nat_tests)

-- the options of a method without fault
pub small_options : (file : File) (text : List ℕ) (final : Option ℕ) (at : ℕ) (method : RawMethod) →
    method_sorts file text final at method ≡ [] → HasSmallOptions method
small_options file text final at methods.Ring h = tt
small_options file text final at methods.Field h = tt
small_options file text final at (methods.Nsatz uses power limit) h =
    let two = parts_empty _ (option_range MIN_LIMIT MAX_LIMIT limit) h in
    let one = parts_empty _ (option_range MIN_POWER MAX_POWER power) two.0 in (
      small_option MIN_POWER MAX_POWER power (omega arith) one.1,
      small_option MIN_LIMIT MAX_LIMIT limit
          (omega arith) two.1,
    )
