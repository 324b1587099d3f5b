-- Lists of items that lead from a state to a state, each item from one state to at most one.
use Rattle.std.specs.Prelude.{◌≡◌, suc, List, [], ◌∷◌, ◌++◌, length}
use Rattle.std.proofs.Common.{get_or, drop, refl, sym, ap, subst, ◌∙◌}

module _ {S I : Type 0} (Leads : S → I → S → Type 0) where
  -- the items lead from s to t
  abbrev pub Chain : S → List I → S → Type 0
  Chain s [] t = t ≡ s
  Chain s (i ∷ is) t = (next : S) × Leads s i next × Chain next is t

  -- an item leads from s to some state
  abbrev pub CanTake : S → I → Type 0
  CanTake s i = (next : S) × Leads s i next

  -- and to one alone
  abbrev pub IsOnce : Type 0
  IsOnce = (s : S) (i : I) (t u : S) → Leads s i t → Leads s i u → t ≡ u

  module _ (once : IsOnce) where
    pub chain_once : (s : S) (is : List I) (t u : S) → Chain s is t → Chain s is u → t ≡ u
    chain_once s [] t u a b = a ∙ sym b
    chain_once s (i ∷ is) t u a b =
        chain_once a.0 is t u a.2
        (subst (λ (n : S). Chain n is u) (once s i b.0 a.0 b.1 a.1) b.2)

    -- each item of a chain can be taken where those before it lead
    pub each_taken : (s : S) (before : List I) (i : I) (after : List I) (t u : S) →
        Chain s (before ++ i ∷ after) t → Chain s before u → CanTake u i
    each_taken s [] i after t u a b = subst (λ (n : S). CanTake n i) (sym b) (a.0, a.1)
    each_taken s (j ∷ before) i after t u a b =
        each_taken a.0 before i after t u a.2
        (subst (λ (n : S). Chain n before u) (once s j b.0 a.0 b.1 a.1) b.2)

    -- the first item that can't be taken has one place
    pub first_place : (s : S) (before other : List I) (i j : I) (after rest : List I) (t u : S) →
        before ++ i ∷ after ≡ other ++ j ∷ rest → Chain s before t → Chain s other u → (CanTake t i → ⊥) →
        (CanTake u j → ⊥) → length before ≡ length other
    first_place s [] [] i j after rest t u e a b never none = refl
    first_place s [] (k ∷ other) i j after rest t u e a b never none =
        let same : i ≡ k = ap (λ (xs : List I). get_or xs 0 i) e in
        absurd (never (subst (λ (n : S). CanTake n i) (sym a)
        (subst (CanTake s) (sym same) (b.0, b.1))))
    first_place s (k ∷ before) [] i j after rest t u e a b never none =
        let same : k ≡ j = ap (λ (xs : List I). get_or xs 0 i) e in
        absurd (none (subst (λ (n : S). CanTake n j) (sym b) (subst (CanTake s) same (a.0, a.1))))
    first_place s (k ∷ before) (l ∷ other) i j after rest t u e a b never none =
        let same : k ≡ l = ap (λ (xs : List I). get_or xs 0 i) e in
        let next = once s k b.0 a.0 (subst (λ (x : I). Leads s x b.0) (sym same) b.1) a.1 in
        ap suc (first_place a.0 before other i j after rest t u (ap (drop 1) e) a.2
        (subst (λ (n : S). Chain n other u) next b.2) never none)
