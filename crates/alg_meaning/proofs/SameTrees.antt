-- The test on trees tells that two terms are equal, and a list holds of each term where it holds of each tree once.
use Rattle.std.specs.Prelude.{◌≡◌, Bool, true, false, cond, not, ◌&&◌, ◌==◌, List, [], ◌∷◌, filter}
use Rattle.std.proofs.Common.{refl, sym, ap, subst, eq-eqb}
use borrow.Author.Tests.{eqb-true}
use mathlib.Core.Bool.{true≢false}
use Rattle.std.proofs.lemmas.Bool.Decides.{Decides-int_eq}
use Rattle.alg_terms.specs.declared.term.Term.{Term, more_of-Term, end_of-Term, Var, Int, Neg', Add', Sub', Mul', Div', Pow', Hom'}
use Rattle.alg_terms.specs.Lists.{each_once}
use Rattle.alg_meaning.specs.Trees.{same_tree}

pub both_true : (a b : Bool) → a && b ≡ true → (a ≡ true) × (b ≡ true)
both_true true b e = (refl, e)
both_true false b e = absurd (true≢false (sym e))

pub same_trees : (t u : Term) → same_tree t u ≡ true → t ≡ u
unfolding same_tree
same_trees (Var k) (Var l) h = ap (λ n. Var n) (eqb-true k l h)
same_trees (Int m) (Int n) h = ap (λ z. Int z) ((Decides-int_eq m n).0 h)
same_trees (Neg' p (more_of-Term t end_of-Term)) (Neg' q (more_of-Term u end_of-Term)) h =
    λ i. Neg' p (more_of-Term (same_trees t u h i) end_of-Term)
same_trees (Add' p (more_of-Term t end_of-Term) p' (more_of-Term t' end_of-Term))
    (Add' q (more_of-Term u end_of-Term) q' (more_of-Term u' end_of-Term)) h =
    let b = both_true (same_tree t u) (same_tree t' u') h in
    λ i. Add' p (more_of-Term (same_trees t u b.0 i) end_of-Term) p' (more_of-Term (same_trees t' u' b.1 i) end_of-Term)
same_trees (Sub' p (more_of-Term t end_of-Term) p' (more_of-Term t' end_of-Term))
    (Sub' q (more_of-Term u end_of-Term) q' (more_of-Term u' end_of-Term)) h =
    let b = both_true (same_tree t u) (same_tree t' u') h in
    λ i. Sub' p (more_of-Term (same_trees t u b.0 i) end_of-Term) p' (more_of-Term (same_trees t' u' b.1 i) end_of-Term)
same_trees (Mul' p (more_of-Term t end_of-Term) p' (more_of-Term t' end_of-Term))
    (Mul' q (more_of-Term u end_of-Term) q' (more_of-Term u' end_of-Term)) h =
    let b = both_true (same_tree t u) (same_tree t' u') h in
    λ i. Mul' p (more_of-Term (same_trees t u b.0 i) end_of-Term) p' (more_of-Term (same_trees t' u' b.1 i) end_of-Term)
same_trees (Div' p (more_of-Term t end_of-Term) p' (more_of-Term t' end_of-Term))
    (Div' q (more_of-Term u end_of-Term) q' (more_of-Term u' end_of-Term)) h =
    let b = both_true (same_tree t u) (same_tree t' u') h in
    λ i. Div' p (more_of-Term (same_trees t u b.0 i) end_of-Term) p' (more_of-Term (same_trees t' u' b.1 i) end_of-Term)
same_trees (Pow' p (more_of-Term t end_of-Term) m) (Pow' q (more_of-Term u end_of-Term) n) h =
    let b = both_true (same_tree t u) (m == n) h in
    λ i. Pow' p (more_of-Term (same_trees t u b.0 i) end_of-Term) (eqb-true m n b.1 i)
same_trees (Hom' f p (more_of-Term t end_of-Term)) (Hom' g q (more_of-Term u end_of-Term)) h =
    let b = both_true (f == g) (same_tree t u) h in
    λ i. Hom' (eqb-true f g b.0 i) p (more_of-Term (same_trees t u b.1 i) end_of-Term)
same_trees _ _ h = absurd (true≢false (sym h))

-- a term is the same tree as itself
pub same_tree_itself : (t : Term) → same_tree t t ≡ true
unfolding same_tree
same_tree_itself (Var k) = eq-eqb k k refl
same_tree_itself (Int n) = (Decides-int_eq n n).1 refl
same_tree_itself (Neg' p (more_of-Term t r)) = same_tree_itself t
same_tree_itself (Add' p (more_of-Term t r) p' (more_of-Term t' r')) =
    λ i. same_tree_itself t i && same_tree_itself t' i
same_tree_itself (Sub' p (more_of-Term t r) p' (more_of-Term t' r')) =
    λ i. same_tree_itself t i && same_tree_itself t' i
same_tree_itself (Mul' p (more_of-Term t r) p' (more_of-Term t' r')) =
    λ i. same_tree_itself t i && same_tree_itself t' i
same_tree_itself (Div' p (more_of-Term t r) p' (more_of-Term t' r')) =
    λ i. same_tree_itself t i && same_tree_itself t' i
same_tree_itself (Pow' p (more_of-Term t r) n) = λ i. same_tree_itself t i && eq-eqb n n refl i
same_tree_itself (Hom' f p (more_of-Term t r)) = λ i. eq-eqb f f refl i && same_tree_itself t i

-- Q holds of each term of a list
abbrev pub EachTerm : (Term → Type 0) → List Term → Type 0
EachTerm Q [] = Unit {0}
EachTerm Q (t ∷ ts) = Q t × EachTerm Q ts

-- what holds of what passes a test and of what does not holds of all
pub unfiltered : (Q : Term → Type 0) (p : Term → Bool) → ((t : Term) → p t ≡ false → Q t) → (ts : List Term) →
    EachTerm Q (filter p ts) → EachTerm Q ts
unfiltered Q p rest [] h = tt
unfiltered Q p rest (t ∷ ts) h =
    elim (p t) as (λ b. p t ≡ b → EachTerm Q (cond b (t ∷ filter p ts) (filter p ts)) → Q t × EachTerm Q ts) [
      | true ↦ λ e h. (h.0, unfiltered Q p rest ts h.1)
      | false ↦ λ e h. (rest t e, unfiltered Q p rest ts h)
    ] refl h

pub once_is_all : (Q : Term → Type 0) (ts : List Term) → EachTerm Q (each_once same_tree ts) → EachTerm Q ts
once_is_all Q [] h = tt
once_is_all Q (t ∷ ts) h = (
  h.0,
  once_is_all Q ts (unfiltered Q (λ u. not (same_tree t u))
      (λ u e. subst Q (same_trees t u (not_false (same_tree t u) e)) h.0) (each_once same_tree ts) h.1),
)
  where
    not_false : (b : Bool) → not b ≡ false → b ≡ true
    not_false true e = refl
    not_false false e = absurd (true≢false e)
