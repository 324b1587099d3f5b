-- A turn of the comparison of two lists of terms.
use Rattle.std.specs.Prelude.{◌≡◌, ℕ, zero, suc, ◌+◌, ◌<◌, ◌≤◌, List, [], ◌∷◌, length, drop}
use Rattle.std.proofs.Common.{get_or, refl, sym, ap, ◌∙◌, arith}
use Rattle.alg_terms.specs.declared.term.Term.{Term}
use Rattle.alg_mono.proofs.MergeTurns.{drop_at}

module _ (xs ys : List Term) (i : ℕ) (x y : Term) (h : i < length xs) (g : i < length ys) (p : x ≡ get_or xs i x)
    (q : y ≡ get_or ys i y) where
  -- the next two are the same
  pub same_turn : x ≡ y → (drop i xs ≡ drop i ys → xs ≡ ys) → drop (i + 1) xs ≡ drop (i + 1) ys → xs ≡ ys
  same_turn same decides rest =
      decides (drop_at xs i x x h p ∙ (λ j. same j ∷ rest j) ∙ sym (drop_at ys i y y g q))

  -- they differ
  pub differ_turn : (x ≡ y → ⊥) → xs ≡ ys → ⊥
  differ_turn other same =
      let both : x ∷ drop (i + 1) xs ≡ y ∷ drop (i + 1) ys =
      sym (drop_at xs i x x h p) ∙ ap (drop i) same ∙ drop_at ys i y y g q in
      let heads : x ≡ y = cc in
      other heads

-- nothing is left at the end
nothing_left : (xs : List Term) (i : ℕ) → length xs ≤ i → drop i xs ≡ []
nothing_left [] zero h = refl
nothing_left [] (suc i) h = refl
nothing_left (x ∷ xs) zero h = absurd (omega arith)
nothing_left (x ∷ xs) (suc i) h = nothing_left xs i (omega arith)

pub same_end : (xs ys : List Term) (i : ℕ) → length xs ≤ i → length ys ≤ i →
    (drop i xs ≡ drop i ys → xs ≡ ys) → xs ≡ ys
same_end xs ys i h g decides = decides (nothing_left xs i h ∙ sym (nothing_left ys i g))
