-- Equations without faults are equations of the file once they are resolved.
use Rattle.std.proofs.Common.{◌≡◌, ◌≤◌, ℕ, pos, Bool, true, false, List, [], ◌++◌, Option, None, Some, refl, sym, ◌∙◌, subst}
use Rattle.std.specs.Prelude.{◌≤ℤ◌, is_none, unwrap_or}
use Rattle.std.specs.Option.{option_or}
use Rattle.std.proofs.lemmas.List.Elements.{All-nil, recursion_from_All}
use Rattle.alg_terms.specs.declared.file.File.{File}
use Rattle.alg_terms.specs.Limits.{MAX_LITERAL, MAX_DEPTH}
use Rattle.alg_terms.specs.GoalRules.{IsEquation, DividesNowhere}
use Rattle.alg_terms.specs.Kinds.{IsField}
use Rattle.alg_terms.specs.Members.{kind_of, target_of}
use Rattle.alg_terms.specs.Sorts.{equation_sort}
use Rattle.alg_terms.specs.TermRules.{IsTerm, HasFieldQuotients}
use Rattle.alg_tokens.specs.declared.code.Code.TheVariants as code
use Rattle.alg_reader.specs.declared.raw.RawEquation.{RawEquation}
use Rattle.alg_reader.specs.declared.raw.RawTerm.{RawTerm}
use Rattle.alg_reader.specs.WellRead.{IsWellTerm, IsWellEquation}
use Rattle.alg_reader.specs.RawTerms.{literals_in}
use Rattle.alg_typing.specs.NameFaults.{term_names, equation_names}
use Rattle.alg_typing.specs.Resolved.{term_of, equation_of}
use Rattle.alg_typing.specs.SortFaults.{equation_sorts}
use Rattle.alg_typing.specs.TermSorts.{sorted}
use Rattle.alg_typing.proofs.GrowingTerms.{or_same}
use Rattle.alg_typing.proofs.NumbersInRange.{parts_empty, no_fault}
use Rattle.alg_typing.proofs.Quotients.{no_quotient, in_fields}
use Rattle.alg_typing.proofs.Resolving.{in_range, own_resolved, depth_resolved}
use Rattle.alg_typing.proofs.SortedTerms.{agree, literals, rules_kept}

-- a sort that is there is what it is read as
some_sort : (sort : Option ℕ) → is_none sort ≡ false → sort ≡ Some (unwrap_or sort 0)
some_sort None h = absurd (cc)
some_sort (Some s) h = refl

module _ (file : File) (text : List ℕ) where
  -- a term whose names and sorts have no faults is one of the file
  pub term_kept : (b : Bool) (t : RawTerm) (final : Option ℕ) (only_fields : Bool) → IsWellTerm text t →
      term_names file text t ≡ [] → (sorted file text b t).faults final only_fields ≡ [] →
      IsTerm file (term_of file text t)
  term_kept b t final only_fields well names sorts =
      let (exponents, parts, arguments) = rules_kept file text b t.head t.node final only_fields sorts in
      record {
        indices = in_range file text t.head t.node names;
        literals = literals file text t.head t.node
            (recursion_from_All (λ n. (pos 0 ≤ℤ n) × (n ≤ℤ MAX_LITERAL)) (literals_in t) well.literals);
        exponents = exponents;
        depth = subst (λ d. d ≤ MAX_DEPTH) (sym (depth_resolved file text t.head t.node)) well.depth;
        parts = parts;
        arguments = arguments;
      }

  -- the sort of the sides before and after they are resolved
  pub sides_resolved : (b : Bool) (e : RawEquation) →
      option_or (sorted file text b e.left).own (sorted file text b e.right).own ≡
      equation_sort file (term_of file text e.left) (term_of file text e.right)
  sides_resolved b e =
      or_same _ _ _ _ (own_resolved file text b e.left.head e.left.node)
      (own_resolved file text b e.right.head e.right.node)

  -- the parts of an equation without faults
  record HasNoFaults (b : Bool) (e : RawEquation) : Type 0 where
    left : (sorted file text b e.left).faults (Some (equation_of file text e).sort) true ≡ []
    right : (sorted file text b e.right).faults (Some (equation_of file text e).sort) true ≡ []
    sort : equation_sort file (term_of file text e.left) (term_of file text e.right)
        ≡ Some (equation_of file text e).sort

  no_faults : (b : Bool) (e : RawEquation) → equation_sorts file text b e ≡ [] → HasNoFaults b e
  no_faults b e h =
      let left = sorted file text b e.left in
      let right = sorted file text b e.right in
      let final = option_or left.own right.own in
      let (front, some) = parts_empty _ _ h in
      let (sides, differ) = parts_empty (left.faults final true ++ right.faults final true) _ front in
      let (first, second) = parts_empty (left.faults final true) (right.faults final true) sides in
      let same = sides_resolved b e in
      let there : is_none (equation_sort file (term_of file text e.left) (term_of file text e.right)) ≡ false =
      subst (λ s. is_none s ≡ false) same (no_fault (is_none final) code.NoSort e.relation some) in
      let sort = some_sort _ there in
      record {
        left = subst (λ s. left.faults s true ≡ []) (same ∙ sort) first;
        right = subst (λ s. right.faults s true ≡ []) (same ∙ sort) second;
        sort = sort;
      }

  -- an equation whose names and sorts have no faults is one of the file
  pub equation_kept : (b : Bool) (e : RawEquation) → IsWellEquation text e → equation_names file text e ≡ [] →
      equation_sorts file text b e ≡ [] → IsEquation file (equation_of file text e)
  equation_kept b e well names sorts =
      let clear = no_faults b e sorts in
      let (in_left, in_right) = parts_empty (term_names file text e.left) (term_names file text e.right) names in
      let (front, some) = parts_empty _ _ sorts in
      let (sides, differ) =
      parts_empty ((sorted file text b e.left).faults _ true ++ (sorted file text b e.right).faults _ true)
      _ front in
      record {
        left = term_kept b e.left _ true well.left in_left clear.left;
        right = term_kept b e.right _ true well.right in_right clear.right;
        sides = agree file text b e.left.head e.left.node e.right.head e.right.node
            (no_fault _ code.Sort e.relation differ);
        sort = clear.sort;
      }

  -- where no quotient may stand, none does
  pub divides_nowhere : (e : RawEquation) → equation_sorts file text false e ≡ [] →
      DividesNowhere (equation_of file text e)
  divides_nowhere e sorts =
      let clear = no_faults false e sorts in (
        no_quotient file text e.left.head e.left.node _ true clear.left,
        no_quotient file text e.right.head e.right.node _ true clear.right,
      )

  -- where quotients may stand, they do so in fields alone
  pub divides_in_fields : (e : RawEquation) → equation_sorts file text true e ≡ [] →
      HasFieldQuotients file (equation_of file text e).sort (term_of file text e.left)
      × HasFieldQuotients file (equation_of file text e).sort (term_of file text e.right)
  divides_in_fields e sorts =
      let clear = no_faults true e sorts in
      let sort = (equation_of file text e).sort in
      let nothing_above = All-nil (λ f. IsField (kind_of file (target_of file f))) in (
        in_fields file text e.left.head e.left.node sort true [] (λ h. nothing_above) clear.left,
        in_fields file text e.right.head e.right.node sort true [] (λ h. nothing_above) clear.right,
      )
