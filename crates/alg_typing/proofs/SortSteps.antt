-- The first fault of an equation by its sides, and of a path by its morphisms.
use Rattle.std.proofs.Common.{◌≡◌, ℕ, ◌+◌, ◌<◌, ◌==◌, Bool, true, not, List, ◌++◌, length, get_or, drop, sym, ◌∙◌, ap, Option, is_none}
use Rattle.std.specs.Option.{option_or}
use Rattle.std.proofs.lemmas.List.{at_drop_more}
use Rattle.alg_terms.specs.declared.file.File.{File}
use Rattle.alg_terms.specs.Members.{source_of}
use Rattle.alg_tokens.specs.declared.token.Refusal.{Refusal}
use Rattle.alg_tokens.specs.declared.code.Code.TheVariants as code
use Rattle.alg_reader.specs.declared.raw.RawEquation.{RawEquation}
use Rattle.alg_reader.specs.declared.raw.Span.{Span}
use Rattle.alg_typing.specs.declared.sorts.Checked.{Checked}
use Rattle.alg_typing.specs.Checks.{IsCheckOf}
use Rattle.alg_typing.specs.Faults.{earlier_of, fault_if, first_of}
use Rattle.alg_typing.specs.Resolved.{number_at}
use Rattle.alg_typing.specs.SortFaults.{equation_sorts, path_sorts, sort_along, sort_of_sides}
use Rattle.alg_typing.specs.TermSorts.{differ, sorted}
use Rattle.alg_typing.proofs.Firsts.{first_of-append, earlier_of-assoc}
use Rattle.alg_typing.proofs.Sorted.{first_of-three, sorted_own}

pub first_of-four : (ws xs ys zs : List Refusal) → first_of (ws ++ xs ++ ys ++ zs)
    ≡ earlier_of (first_of ws) (earlier_of (first_of xs) (earlier_of (first_of ys) (first_of zs)))
first_of-four ws xs ys zs =
    first_of-append (ws ++ xs ++ ys) zs ∙ ap (λ o. earlier_of o (first_of zs)) (first_of-three ws xs ys)
    ∙ earlier_of-assoc (first_of ws) (earlier_of (first_of xs) (first_of ys)) (first_of zs)
    ∙ ap (earlier_of (first_of ws)) (earlier_of-assoc (first_of xs) (first_of ys) (first_of zs))

module _ (file : File) (text : List ℕ) where
  -- an equation by its sides
  pub equation_checked : (may : Bool) (e : RawEquation) (sort : Option ℕ) (left right : Checked)
      (differs missing : Option Refusal) → sort ≡ sort_of_sides file text e →
      IsCheckOf file text (record { sort = sort; in_fields = true; may_divide = may }) e.left left →
      IsCheckOf file text (record { sort = sort; in_fields = true; may_divide = may }) e.right right →
      differs ≡ first_of (fault_if (differ left.own right.own) code.Sort e.relation) →
      missing ≡ first_of (fault_if (is_none sort) code.NoSort e.relation) →
      earlier_of left.fault (earlier_of right.fault (earlier_of differs missing))
      ≡ first_of (equation_sorts file text may e)
  equation_checked may e sort left right differs missing is_sort is_left is_right is_differs is_missing =
      let l = sorted file text may e.left in
      let r = sorted file text may e.right in
      let final =
      is_sort
      ∙ sym (λ i. option_or (sorted_own file text may e.left i) (sorted_own file text may e.right i)) in
      (λ i. earlier_of ((is_left.fault ∙ ap (λ s. first_of (l.faults s true)) final) i)
      (earlier_of ((is_right.fault ∙ ap (λ s. first_of (r.faults s true)) final) i)
      (earlier_of ((is_differs
      ∙ (λ j. first_of (fault_if (differ (is_left.own j) (is_right.own j)) code.Sort e.relation))) i)
      ((is_missing ∙ ap (λ s. first_of (fault_if (is_none s) code.NoSort e.relation)) final) i))))
      ∙ sym (first_of-four (l.faults (option_or l.own r.own) true) (r.faults (option_or l.own r.own) true)
      (fault_if (differ l.own r.own) code.Sort e.relation)
      (fault_if (is_none (option_or l.own r.own)) code.NoSort e.relation))

  -- a path by its next morphism
  pub path_sorts-turn : (path : List Span) (hyp i : ℕ) (d : Span) (first next fault : Option Refusal) (differs : Bool) →
      i < length path →
      differs ≡
      not (sort_along file text (drop (i + 1) path) hyp == source_of file (number_at file text (get_or path i d))) →
      fault ≡ first_of (fault_if differs code.Sort (get_or path i d).start) → next ≡ earlier_of first fault →
      earlier_of next (first_of (path_sorts file text (drop (i + 1) path) hyp))
      ≡ earlier_of first (first_of (path_sorts file text (drop i path) hyp))
  path_sorts-turn path hyp i d first next fault differs within is is_fault is_next =
      let name = get_or path i d in
      let rest = path_sorts file text (drop (i + 1) path) hyp in
      let here = is_fault ∙ ap (λ b. first_of (fault_if b code.Sort name.start)) is in
      ap (λ o. earlier_of o (first_of rest)) (is_next ∙ ap (earlier_of first) here)
      ∙ earlier_of-assoc first _ (first_of rest)
      ∙ ap (earlier_of first) (sym (first_of-append _ rest)
      ∙ sym (at_drop_more (λ ns. first_of (path_sorts file text ns hyp)) path i d within))
