-- A key's place in a rising list.
use Rattle.std.specs.Prelude.{◌≡◌, ℕ, ◌+◌, ◌<◌, ◌≤◌, List, [], ◌∷◌, ◌++◌, drop, take, length}
use Rattle.std.proofs.Common.{get_or, sym, ap, ◌∙◌, arith}
use Rattle.std.proofs.lemmas.List.{at_drop_more, at_drop_all, take_more, append_assoc, take-append-drop}
use Rattle.std.specs.declared.cmp.Ordering.{Ordering}
use Rattle.std.specs.declared.cmp.Ordering.TheVariants.{Less, Equal, Greater}
use Rattle.std.specs.Ordering.{match_ordering}
use Rattle.std.specs.BTreeSet.{insert_key}
use Rattle.std.specs.List.{insert}

-- one turn of a look at each item
module _ {X Y : Type 0} (F : List X → Y) where
  pub turn : (xs : List X) (i : ℕ) (x : X) → i < length xs → x ≡ get_or xs i x → F (drop i xs) ≡ F (x ∷ drop (i + 1) xs)
  turn xs i x h e = at_drop_more F xs i x h ∙ ap (λ z. F (z ∷ drop (i + 1) xs)) (sym e)

-- ---- a key's place in a rising list
module _ {X : Type 0} (cmp : X → X → Ordering) where
  abbrev pub Decides : List X → X → ℕ → Type 0
  Decides xs k at = (at ≤ length xs) × (insert_key cmp xs k ≡ take at xs ++ insert_key cmp (drop at xs) k)

  here_or : (xs : List X) (k x : X) (n : ℕ) (o : Ordering) → n < length xs → x ≡ get_or xs n x → cmp k x ≡ o →
      insert_key cmp (drop n xs) k
      ≡ match_ordering o (k ∷ x ∷ drop (n + 1) xs) (x ∷ drop (n + 1) xs) (x ∷ insert_key cmp (drop (n + 1) xs) k)
  here_or xs k x n o h e c =
      turn (λ ys. insert_key cmp ys k) xs n x h e
      ∙ ap (λ o. match_ordering o (k ∷ x ∷ drop (n + 1) xs) (x ∷ drop (n + 1) xs)
      (x ∷ insert_key cmp (drop (n + 1) xs) k)) c

  pub further : (xs : List X) (k x : X) (n : ℕ) → n < length xs → x ≡ get_or xs n x → cmp k x ≡ Greater →
      Decides xs k n → Decides xs k (n + 1)
  further xs k x n h e c d = (
    omega arith,
    d.1 ∙ ap (λ z. take n xs ++ z) (here_or xs k x n Greater h e c)
        ∙ sym (append_assoc (take n xs) (x ∷ []) (insert_key cmp (drop (n + 1) xs) k))
        ∙ ap (λ z. z ++ insert_key cmp (drop (n + 1) xs) k) (sym
        (take_more xs n x h ∙ ap (λ z. take n xs ++ z ∷ []) (sym e))),
  )

  pub there : (xs : List X) (k x : X) (n : ℕ) → n < length xs → x ≡ get_or xs n x → cmp k x ≡ Equal → Decides xs k n →
      xs ≡ insert_key cmp xs k
  there xs k x n h e c d =
      sym (d.1 ∙ ap (λ z. take n xs ++ z) (here_or xs k x n Equal h e c ∙ sym (turn (λ ys. ys) xs n x h e)) ∙
      take-append-drop n xs)

  pub here : (xs : List X) (k x : X) (n : ℕ) → n < length xs → x ≡ get_or xs n x → cmp k x ≡ Less → Decides xs k n →
      insert xs n k ≡ insert_key cmp xs k
  here xs k x n h e c d =
      sym (d.1 ∙ ap (λ z. take n xs ++ z) (here_or xs k x n Less h e c ∙ ap (λ z. k ∷ z)
      (sym (turn (λ ys. ys) xs n x h e))))

  pub last : (xs : List X) (k : X) (n : ℕ) → length xs ≤ n → Decides xs k n → insert xs n k ≡ insert_key cmp xs k
  last xs k n h d =
      sym (d.1 ∙ (λ i. take n xs ++ insert_key cmp (at_drop_all (λ ys. ys) xs n h i) k) ∙
      (λ i. take n xs ++ k ∷ sym (at_drop_all (λ ys. ys) xs n h) i))
