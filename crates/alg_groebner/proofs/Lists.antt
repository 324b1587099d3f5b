-- The least of a list that passes a test, and whether the first pair of a list is the least.
use Rattle.std.specs.Prelude.{◌≡◌, ℕ, ◌≤◌, ◌⊎◌, Bool, true, false, List, [], ◌∷◌, All}
use Rattle.std.proofs.Common.{refl, sym, ap, subst, ◌∙◌, inl, inr, arith}
use Rattle.std.proofs.lemmas.Bool.{cases_lt}
use Rattle.std.proofs.lemmas.List.Elements.{All-nil, All-cons, All-head, All-tail}
use Rattle.std.specs.declared.cmp.Ordering.TheVariants.{Less, Equal, Greater}
use Rattle.alg_pairs.specs.Order.{pair_cmp}
use Rattle.alg_pairs.specs.declared.pair.Pair.{Pair}
use Rattle.alg_groebner.specs.Sound.{IsIn}
use Rattle.alg_groebner.proofs.Least.{IsFirst, differ}

-- ---- the least of a list that passes, whatever its order
pub least_of : (test : ℕ → Bool) (ks : List ℕ) →
    ((k : ℕ) × IsFirst test ks k) ⊎ ((i : ℕ) → IsIn ks i → test i ≡ true → ⊥)
least_of test [] = inr (λ i h p. h)
least_of test (k ∷ ks) =
    elim (test k) as (λ t. test k ≡ t →
    ((j : ℕ) × IsFirst test (k ∷ ks) j) ⊎ ((i : ℕ) → IsIn (k ∷ ks) i → test i ≡ true → ⊥)) [
      | true ↦ λ t. inl (passing t (least_of test ks))
      | false ↦ λ t. failing t (least_of test ks)
    ] refl
  where
    passing : test k ≡ true → ((j : ℕ) × IsFirst test ks j) ⊎ ((i : ℕ) → IsIn ks i → test i ≡ true → ⊥) →
        (j : ℕ) × IsFirst test (k ∷ ks) j
    passing t (inr never) = (
      k,
      record {
        inside = inl refl;
        passes = t;
        least = λ i h p. elim h as (λ h. k ≤ i) [
          | inl e ↦ omega arith
          | inr h ↦ absurd (never i h p)
        ];
      },
    )
    passing t (inl w) =
        elim (cases_lt k w.0) [
          | inl l ↦ (
            k,
            record {
              inside = inl refl;
              passes = t;
              least = λ i h p. elim h as (λ h. k ≤ i) [
                | inl e ↦ omega arith
                | inr h ↦ let more = w.1.least i h p in omega arith
              ];
            },
          )
          | inr l ↦ (
            w.0,
            record {
              inside = inr w.1.inside;
              passes = w.1.passes;
              least = λ i h p. elim h as (λ h. w.0 ≤ i) [
                | inl e ↦ omega arith
                | inr h ↦ w.1.least i h p
              ];
            },
          )
        ]

    failing : test k ≡ false → ((j : ℕ) × IsFirst test ks j) ⊎ ((i : ℕ) → IsIn ks i → test i ≡ true → ⊥) →
        ((j : ℕ) × IsFirst test (k ∷ ks) j) ⊎ ((i : ℕ) → IsIn (k ∷ ks) i → test i ≡ true → ⊥)
    failing t (inr never) = inr (λ i h p. elim h as (λ h. ⊥) [
      | inl e ↦ differ (sym p ∙ ap test (sym e) ∙ t)
      | inr h ↦ never i h p
    ])
    failing t (inl w) = inl (
      w.0,
      record {
        inside = inr w.1.inside;
        passes = w.1.passes;
        least = λ i h p. elim h as (λ h. w.0 ≤ i) [
          | inl e ↦ differ (sym p ∙ ap test (sym e) ∙ t)
          | inr h ↦ w.1.least i h p
        ];
      },
    )

-- ---- whether the first pair is the least
abbrev pub Least : Pair → List Pair → Type 0
Least x ys = All (λ y. pair_cmp x y ≡ Less) ys

is_least : (x : Pair) (ys : List Pair) → Least x ys ⊎ (Least x ys → ⊥)
is_least x [] = inl (All-nil (λ y. pair_cmp x y ≡ Less))
is_least x (y ∷ ys) =
    let P = λ (z : Pair). pair_cmp x z ≡ Less in
    elim (pair_cmp x y) as (λ o. pair_cmp x y ≡ o → Least x (y ∷ ys) ⊎ (Least x (y ∷ ys) → ⊥)) [
      | Less ↦ λ e. elim (is_least x ys) [
        | inl h ↦ inl (All-cons P y ys e h)
        | inr never ↦ inr (λ h. never (All-tail P y ys h))
      ]
      | Equal ↦ λ e. inr (λ h. let f : Equal ≡ Less = sym e ∙ All-head P y ys h in grind arith)
      | Greater ↦ λ e. inr (λ h. let f : Greater ≡ Less = sym e ∙ All-head P y ys h in grind arith)
    ] refl

abbrev pub First : List Pair → Type 0
First xs = (x : Pair) × (others : List Pair) × ((xs ≡ x ∷ others) × Least x others)

pub least_pair : (xs : List Pair) → First xs ⊎ (First xs → ⊥)
least_pair [] = inr (λ w. let e = w.2.0 in grind arith)
least_pair (x ∷ xs) =
    elim (is_least x xs) [
      | inl h ↦ inl (x, xs, (refl, h))
      | inr never ↦ inr (λ w. never (moved w.0 w.1 w.2.0 w.2.1))
    ]
  where
    moved : (y : Pair) (ys : List Pair) → ◌≡◌ {A = List Pair} (x ∷ xs) (y ∷ ys) → Least y ys → Least x xs
    moved y ys e h =
        let p : x ≡ y = cc e in
        let ps : xs ≡ ys = cc e in
        subst (λ z. Least z xs) (sym p) (subst (Least y) (sym ps) h)
