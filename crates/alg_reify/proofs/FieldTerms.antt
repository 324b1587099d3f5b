-- The denominators of a goal by field are terms that may stand in an answer to it.
use Rattle.std.specs.Prelude.{◌≡◌, ℕ, ◌+◌, ◌≤◌, max, List, [], ◌∷◌, ◌++◌, All, Option, None, Some, unwrap_or}
use Rattle.std.specs.Option.{option_or}
use Rattle.std.proofs.Common.{refl, sym, subst, arith}
use Rattle.std.proofs.lemmas.List.Elements.{All-nil, All-cons, All-head, All-tail}
use Rattle.alg_terms.specs.declared.file.File.{File}
use Rattle.alg_terms.specs.declared.term.Term.{Term, more_of-Term, Var, Int, Neg', Add', Sub', Mul', Div', Pow', Hom'}
use Rattle.alg_terms.specs.declared.term.Term.TheOpen.{Term-F}
use Rattle.alg_terms.specs.Kinds.{IsField}
use Rattle.alg_terms.specs.Members.{kind_of, source_of, target_of}
use Rattle.alg_terms.specs.Nodes.{fold_term, EachNode}
use Rattle.alg_terms.specs.Sorts.{own_sort, sort_beside, Agree, MayStandAt, EachNodeAt}
use Rattle.alg_terms.specs.Term.{depth_of}
use Rattle.alg_terms.specs.TermRules.{DividesInFields, HasFieldQuotients}
use Rattle.alg_meaning.specs.Conditions.{denominators}
use Rattle.alg_meaning.proofs.SameTrees.{EachTerm}
use Rattle.alg_meaning.proofs.Typed.{IsTyped}

-- what holds of each of two lists holds of both
pub joined : (Q : Term → Type 0) (ts us : List Term) → EachTerm Q ts → EachTerm Q us → EachTerm Q (ts ++ us)
joined Q [] us h g = g
joined Q (t ∷ ts) us h g = (h.0, joined Q ts us h.1 g)

-- what holds of each node holds of each node of each denominator
pub each_in : (P : Term-F Term → Type 0) (t : Term) → EachNode P t → EachTerm (EachNode P) (denominators t)
unfolding EachNode denominators
each_in P (Var k) h = tt
each_in P (Int n) h = tt
each_in P (Neg' _ (more_of-Term t _)) h = each_in P t h.1
each_in P (Add' _ (more_of-Term t _) _ (more_of-Term u _)) h =
    joined _ (denominators t) (denominators u) (each_in P t h.1) (each_in P u h.2)
each_in P (Sub' _ (more_of-Term t _) _ (more_of-Term u _)) h =
    joined _ (denominators t) (denominators u) (each_in P t h.1) (each_in P u h.2)
each_in P (Mul' _ (more_of-Term t _) _ (more_of-Term u _)) h =
    joined _ (denominators t) (denominators u) (each_in P t h.1) (each_in P u h.2)
each_in P (Div' _ (more_of-Term t _) _ (more_of-Term u _)) h =
    joined _ (denominators t) (denominators u ++ u ∷ []) (each_in P t h.1)
    (joined _ (denominators u) (u ∷ []) (each_in P u h.2) (h.2, tt))
each_in P (Pow' _ (more_of-Term t _) n) h = each_in P t h.1
each_in P (Hom' f _ (more_of-Term t _)) h = each_in P t h.1

below : (d n : ℕ) → 1 + d ≤ n → d ≤ n
below d n h = omega (arith, h)

both_below : (d e n : ℕ) → 1 + max d e ≤ n → (d ≤ n) × (e ≤ n)
both_below d e n h = grind (arith, h)

-- no denominator is deeper
pub deep : (n : ℕ) (t : Term) → depth_of t ≤ n → EachTerm (λ u. depth_of u ≤ n) (denominators t)
unfolding fold_term denominators
deep n (Var k) h = tt
deep n (Int m) h = tt
deep n (Neg' _ (more_of-Term t _)) h = deep n t (below (depth_of t) n h)
deep n (Add' _ (more_of-Term t _) _ (more_of-Term u _)) h =
    let b = both_below (depth_of t) (depth_of u) n h in
    joined _ (denominators t) (denominators u) (deep n t b.0) (deep n u b.1)
deep n (Sub' _ (more_of-Term t _) _ (more_of-Term u _)) h =
    let b = both_below (depth_of t) (depth_of u) n h in
    joined _ (denominators t) (denominators u) (deep n t b.0) (deep n u b.1)
deep n (Mul' _ (more_of-Term t _) _ (more_of-Term u _)) h =
    let b = both_below (depth_of t) (depth_of u) n h in
    joined _ (denominators t) (denominators u) (deep n t b.0) (deep n u b.1)
deep n (Div' _ (more_of-Term t _) _ (more_of-Term u _)) h =
    let b = both_below (depth_of t) (depth_of u) n h in
    joined _ (denominators t) (denominators u ++ u ∷ []) (deep n t b.0)
    (joined _ (denominators u) (u ∷ []) (deep n u b.1) (b.1, tt))
deep n (Pow' _ (more_of-Term t _) m) h = deep n t (below (depth_of t) n h)
deep n (Hom' f _ (more_of-Term t _)) h = deep n t (below (depth_of t) n h)

module _ (file : File) where
  -- a term that is typed at a sort may stand there
  either_agrees : (a b : Option ℕ) (s : ℕ) → Agree a (Some s) → Agree b (Some s) → Agree (option_or a b) (Some s)
  either_agrees None b s h g = g
  either_agrees (Some x) b s h g = h

  stands : (s : ℕ) (t : Term) → IsTyped file s t → MayStandAt file s t
  unfolding fold_term
  stands s (Var k) h = h.1
  stands s (Int n) h = tt
  stands s (Neg' _ (more_of-Term t _)) h = stands s t h
  stands s (Add' _ (more_of-Term t _) _ (more_of-Term u _)) h =
      either_agrees (own_sort file t) (own_sort file u) s (stands s t h.0) (stands s u h.1)
  stands s (Sub' _ (more_of-Term t _) _ (more_of-Term u _)) h =
      either_agrees (own_sort file t) (own_sort file u) s (stands s t h.0) (stands s u h.1)
  stands s (Mul' _ (more_of-Term t _) _ (more_of-Term u _)) h =
      either_agrees (own_sort file t) (own_sort file u) s (stands s t h.0) (stands s u h.1)
  stands s (Div' _ (more_of-Term t _) _ (more_of-Term u _)) h =
      either_agrees (own_sort file t) (own_sort file u) s (stands s t h.0) (stands s u h.1)
  stands s (Pow' _ (more_of-Term t _) n) h = stands s t h
  stands s (Hom' f _ (more_of-Term t _)) h = h.1

  abbrev Rule : ℕ → List ℕ → Term → Type 0
  Rule s above t = EachNodeAt file (DividesInFields file) s above t

  -- the morphisms further out do not matter
  fewer : (s : ℕ) (near far : List ℕ) (t : Term) → Rule s (near ++ far) t → Rule s near t
  unfolding EachNodeAt
  fewer s near far (Var k) h = tt
  fewer s near far (Int n) h = tt
  fewer s near far (Neg' _ (more_of-Term t _)) h = (tt, fewer s near far t h.1)
  fewer s near far (Add' _ (more_of-Term t _) _ (more_of-Term u _)) h =
      (tt, fewer s near far t h.1, fewer s near far u h.2)
  fewer s near far (Sub' _ (more_of-Term t _) _ (more_of-Term u _)) h =
      (tt, fewer s near far t h.1, fewer s near far u h.2)
  fewer s near far (Mul' _ (more_of-Term t _) _ (more_of-Term u _)) h =
      (tt, fewer s near far t h.1, fewer s near far u h.2)
  fewer s near far (Div' _ (more_of-Term t _) _ (more_of-Term u _)) h =
      ((h.0.0, first near far h.0.1), fewer s near far t h.1, fewer s near far u h.2)
    where
      first : (near far : List ℕ) → All (λ f. IsField (kind_of file (target_of file f))) (near ++ far) →
          All (λ f. IsField (kind_of file (target_of file f))) near
      first [] far h = All-nil (λ f. IsField (kind_of file (target_of file f)))
      first (f ∷ near) far h =
          let To = λ (f : ℕ). IsField (kind_of file (target_of file f)) in
          All-cons To f near (All-head To f (near ++ far) h) (first near far (All-tail To f (near ++ far) h))
  fewer s near far (Pow' _ (more_of-Term t _) n) h = (tt, fewer s near far t h.1)
  fewer s near far (Hom' f _ (more_of-Term t _)) h = (tt, fewer (source_of file f) (f ∷ near) far t h.1)

  -- a term without an own sort is of literals alone, so its quotients are of the sort at which it stands
  none_of : (a b : Option ℕ) → option_or a b ≡ None → (a ≡ None) × (b ≡ None)
  none_of None b h = (refl, h)
  none_of (Some x) b h = absurd (cc)

  without_sort : (s : ℕ) (t : Term) → IsField (kind_of file s) → own_sort file t ≡ None → Rule s [] t
  unfolding fold_term EachNodeAt
  without_sort s (Var k) field none = absurd (cc)
  without_sort s (Int n) field none = tt
  without_sort s (Neg' _ (more_of-Term t _)) field none = (tt, without_sort s t field none)
  without_sort s (Add' _ (more_of-Term t _) _ (more_of-Term u _)) field none =
      let n = none_of (own_sort file t) (own_sort file u) none in
      (tt, without_sort s t field n.0, without_sort s u field n.1)
  without_sort s (Sub' _ (more_of-Term t _) _ (more_of-Term u _)) field none =
      let n = none_of (own_sort file t) (own_sort file u) none in
      (tt, without_sort s t field n.0, without_sort s u field n.1)
  without_sort s (Mul' _ (more_of-Term t _) _ (more_of-Term u _)) field none =
      let n = none_of (own_sort file t) (own_sort file u) none in
      (tt, without_sort s t field n.0, without_sort s u field n.1)
  without_sort s (Div' _ (more_of-Term t _) _ (more_of-Term u _)) field none =
      let n = none_of (own_sort file t) (own_sort file u) none in
      let To = λ (f : ℕ). IsField (kind_of file (target_of file f)) in
      ((field, All-nil To), without_sort s t field n.0, without_sort s u field n.1)
  without_sort s (Pow' _ (more_of-Term t _) n) field none = (tt, without_sort s t field none)
  without_sort s (Hom' f _ (more_of-Term t _)) field none = absurd (cc)

  -- a term of a sort beside the goal's, where the goal's is a field
  beside : (goal s : ℕ) (t : Term) → IsField (kind_of file goal) → MayStandAt file s t → Rule s [] t →
      HasFieldQuotients file (sort_beside file goal t) t
  beside goal s t field may rule =
      elim (own_sort file t) as (λ o. own_sort file t ≡ o → Agree o (Some s) → Rule (unwrap_or o goal) [] t) [
        | None ↦ λ is agrees. without_sort goal t field is
        | Some x ↦ λ is agrees. subst (λ w. Rule w [] t) (sym agrees) rule
      ] refl may

  -- the quotients of each denominator are of fields
  pub quotients : (goal s : ℕ) (above : List ℕ) (t : Term) → IsField (kind_of file goal) → IsTyped file s t →
      Rule s above t → EachTerm (λ u. HasFieldQuotients file (sort_beside file goal u) u) (denominators t)
  unfolding EachNodeAt denominators
  quotients goal s above (Var k) field h r = tt
  quotients goal s above (Int n) field h r = tt
  quotients goal s above (Neg' _ (more_of-Term t _)) field h r = quotients goal s above t field h r.1
  quotients goal s above (Add' _ (more_of-Term t _) _ (more_of-Term u _)) field h r =
      joined _ (denominators t) (denominators u) (quotients goal s above t field h.0 r.1)
      (quotients goal s above u field h.1 r.2)
  quotients goal s above (Sub' _ (more_of-Term t _) _ (more_of-Term u _)) field h r =
      joined _ (denominators t) (denominators u) (quotients goal s above t field h.0 r.1)
      (quotients goal s above u field h.1 r.2)
  quotients goal s above (Mul' _ (more_of-Term t _) _ (more_of-Term u _)) field h r =
      joined _ (denominators t) (denominators u) (quotients goal s above t field h.0 r.1)
      (quotients goal s above u field h.1 r.2)
  quotients goal s above (Div' _ (more_of-Term t _) _ (more_of-Term u _)) field h r =
      joined _ (denominators t) (denominators u ++ u ∷ []) (quotients goal s above t field h.0 r.1)
      (joined _ (denominators u) (u ∷ []) (quotients goal s above u field h.1 r.2)
      (beside goal s u field (stands s u h.1) (fewer s [] above u r.2), tt))
  quotients goal s above (Pow' _ (more_of-Term t _) n) field h r = quotients goal s above t field h r.1
  quotients goal s above (Hom' f _ (more_of-Term t _)) field h r =
      quotients goal (source_of file f) (f ∷ above) t field h.2 r.1
