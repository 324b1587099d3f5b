-- Adding each denominator that is not dropped and not there yet keeps each tree once, where it comes first.
use Rattle.std.specs.Prelude.{◌≡◌, ◌≢◌, Bool, true, false, ◌||◌, ◌&&◌, not, cond, List, [], ◌∷◌, ◌++◌, filter}
use Rattle.std.proofs.Common.{refl, sym, ap, ◌∙◌, append_assoc, append-nil}
use Rattle.std.specs.List.{list_any}
use Rattle.std.proofs.lemmas.List.Folds.{list_any-append}
use Rattle.alg_terms.specs.declared.term.Term.{Term}
use Rattle.alg_meaning.specs.Conditions.{is_dropped}
use Rattle.alg_terms.specs.Lists.{each_once}
use Rattle.alg_meaning.specs.Trees.{same_tree}
use Rattle.alg_meaning.proofs.SameTrees.{same_trees, same_tree_itself}
use Rattle.alg_reify.proofs.Once.{same_test, filter_both}
use Rattle.alg_reify.specs.Added.{add_condition, add_conditions}

-- the test on trees
pub tree_is : (t u : Term) → t ≡ u → same_tree t u ≡ true
tree_is t u e = ap (same_tree t) (sym e) ∙ same_tree_itself t

pub tree_is_not : (t u : Term) → t ≢ u → same_tree t u ≡ false
tree_is_not t u other =
    elim (same_tree t u) as (λ b. same_tree t u ≡ b → b ≡ false) [
      | true ↦ λ e. absurd (other (same_trees t u e))
      | false ↦ λ e. refl
    ] refl

swapped : (t u : Term) → same_tree t u ≡ same_tree u t
swapped t u =
    same_test (same_tree t u) (same_tree u t) (λ e. tree_is u t (sym (same_trees t u e)))
    (λ e. tree_is t u (sym (same_trees u t e)))

-- ---- filters
filter_same : (p q : Term → Bool) → ((y : Term) → p y ≡ q y) → (ys : List Term) → filter p ys ≡ filter q ys
filter_same p q same [] = refl
filter_same p q same (y ∷ ys) = λ i. cond (same y i) (y ∷ filter_same p q same ys i) (filter_same p q same ys i)

filter_all : (p : Term → Bool) → ((y : Term) → p y ≡ true) → (ys : List Term) → filter p ys ≡ ys
filter_all p all [] = refl
filter_all p all (y ∷ ys) =
    ap (λ b. cond b (y ∷ filter p ys) (filter p ys)) (all y) ∙ ap (λ zs. y ∷ zs) (filter_all p all ys)

-- a filter after another keeps what both keep
abbrev both : (Term → Bool) → (Term → Bool) → Term → Bool
both p q y = q y && p y

filter_twice : (p q : Term → Bool) (ys : List Term) → filter p (filter q ys) ≡ filter (both p q) ys
filter_twice p q ys = filter_both p q (both p q) (λ y. refl) ys

-- ---- the terms that go last
abbrev is_new : List Term → Term → Bool
is_new seen y = not (list_any (same_tree y) seen)

abbrev is_other : Term → Term → Bool
is_other t y = not (same_tree t y)

module _ (char0 : Bool) where
  abbrev is_kept : Term → Bool
  is_kept y = not (is_dropped char0 y)

  -- what is kept and new of terms
  abbrev rest : List Term → List Term → List Term
  rest seen ys = filter (is_new seen) (filter is_kept ys)

  rest_is : (seen ys : List Term) → rest seen ys ≡ filter (both (is_new seen) is_kept) ys
  rest_is seen ys = filter_twice (is_new seen) is_kept ys

  -- without the tree t
  rest_without : (seen : List Term) (t : Term) (ys : List Term) →
      rest seen (filter (is_other t) ys) ≡ filter (both (both (is_new seen) is_kept) (is_other t)) ys
  rest_without seen t ys =
      rest_is seen (filter (is_other t) ys) ∙ filter_twice (both (is_new seen) is_kept) (is_other t) ys

  -- a tree that passes neither changes nothing
  skipped : (seen : List Term) (t : Term) (ys : List Term) → both (is_new seen) is_kept t ≡ false →
      rest seen ys ≡ rest seen (filter (is_other t) ys)
  skipped seen t ys none =
      rest_is seen ys
      ∙ filter_same (both (is_new seen) is_kept) (both (both (is_new seen) is_kept) (is_other t)) at ys
      ∙ sym (rest_without seen t ys)
    where
      at : (y : Term) → both (is_new seen) is_kept y ≡ both (both (is_new seen) is_kept) (is_other t) y
      at y =
          elim (same_tree t y) as (λ b. same_tree t y ≡ b →
          both (is_new seen) is_kept y ≡ not b && both (is_new seen) is_kept y) [
            | true ↦ λ e. ap (both (is_new seen) is_kept) (sym (same_trees t y e)) ∙ none
            | false ↦ λ e. refl
          ] refl

  -- one that was added is not new any more
  after_added : (seen : List Term) (t : Term) (ys : List Term) →
      rest (seen ++ t ∷ []) ys ≡ rest seen (filter (is_other t) ys)
  after_added seen t ys =
      rest_is (seen ++ t ∷ []) ys
      ∙ filter_same (both (is_new (seen ++ t ∷ [])) is_kept) (both (both (is_new seen) is_kept) (is_other t)) at ys
      ∙ sym (rest_without seen t ys)
    where
      new_after : (k x b : Bool) → k && not (x || (b || false)) ≡ not b && (k && not x)
      new_after true true true = refl
      new_after true true false = refl
      new_after true false true = refl
      new_after true false false = refl
      new_after false true true = refl
      new_after false true false = refl
      new_after false false true = refl
      new_after false false false = refl

      at : (y : Term) →
          both (is_new (seen ++ t ∷ [])) is_kept y ≡ both (both (is_new seen) is_kept) (is_other t) y
      at y =
          ap (λ b. is_kept y && not b) (list_any-append (same_tree y) seen (t ∷ []))
          ∙ new_after (is_kept y) (list_any (same_tree y) seen) (same_tree y t)
          ∙ ap (λ b. not b && (is_kept y && is_new seen y)) (swapped y t)

  -- one term: where it is dropped, where it is there already, and else
  one_more : (seen : List Term) (t : Term) (ys : List Term) (d x : Bool) → is_dropped char0 t ≡ d →
      list_any (same_tree t) seen ≡ x →
      cond (d || x) seen (seen ++ t ∷ []) ++ rest (cond (d || x) seen (seen ++ t ∷ [])) ys
      ≡ seen ++ rest seen (t ∷ filter (is_other t) ys)
  one_more seen t ys true x e f =
      let none : both (is_new seen) is_kept t ≡ false = ap (λ b. not b && is_new seen t) e in
      ap (λ zs. seen ++ zs) (skipped seen t ys none
      ∙ sym (ap (λ b. filter (is_new seen) (cond (not b) (t ∷ filter is_kept (filter (is_other t) ys))
      (filter is_kept (filter (is_other t) ys)))) e))
  one_more seen t ys false true e f =
      let none : both (is_new seen) is_kept t ≡ false = (λ i. not (e i) && not (f i)) in
      ap (λ zs. seen ++ zs) (skipped seen t ys none
      ∙ sym (ap (λ b. filter (is_new seen) (cond (not b) (t ∷ filter is_kept (filter (is_other t) ys))
      (filter is_kept (filter (is_other t) ys)))) e
      ∙ ap (λ b. cond (not b) (t ∷ rest seen (filter (is_other t) ys)) (rest seen (filter (is_other t) ys))) f))
  one_more seen t ys false false e f =
      append_assoc seen (t ∷ []) (rest (seen ++ t ∷ []) ys)
      ∙ ap (λ zs. seen ++ t ∷ zs) (after_added seen t ys)
      ∙ ap (λ zs. seen ++ zs) (sym (ap (λ b. filter (is_new seen) (cond (not b)
      (t ∷ filter is_kept (filter (is_other t) ys)) (filter is_kept (filter (is_other t) ys)))) e
      ∙ ap (λ b. cond (not b) (t ∷ rest seen (filter (is_other t) ys)) (rest seen (filter (is_other t) ys))) f))

  added_are : (seen ts : List Term) → add_conditions char0 seen ts ≡ seen ++ rest seen (each_once same_tree ts)
  added_are seen [] = sym (append-nil seen)
  added_are seen (t ∷ ts) =
      added_are (add_condition (is_dropped char0 t) seen t) ts
      ∙ one_more seen t (each_once same_tree ts) (is_dropped char0 t) (list_any (same_tree t) seen) refl refl

  -- from nothing on, they are the terms that are kept, each once
  pub conditions_are : (ts : List Term) → add_conditions char0 [] ts ≡ filter is_kept (each_once same_tree ts)
  conditions_are ts = added_are [] ts ∙ filter_all (is_new []) (λ y. refl) (filter is_kept (each_once same_tree ts))
