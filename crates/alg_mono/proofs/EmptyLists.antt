-- Where one of two lists is empty, their lengths decide.
use Rattle.std.proofs.Common.{◌≡◌, ℕ, ◌≤◌, ◌<◌, length, List, [], ◌∷◌, ◌⊎◌, inl, inr, sym, ◌∙◌, arith, take, reverse}
use Rattle.std.specs.declared.cmp.Ordering.{Ordering}
use Rattle.std.specs.declared.cmp.Ordering.TheVariants.{Less, Equal, Greater}
use Rattle.std.specs.Ordering.{nat_cmp}
use Rattle.std.specs.Cmp.Lexicographic.{slice_cmp}
use Rattle.std.proofs.lemmas.List.{length-reverse, length-take}

less_when : (i j : ℕ) → i < j → nat_cmp i j ≡ Less
less_when i j h = grind arith

greater_when : (i j : ℕ) → j < i → nat_cmp i j ≡ Greater
greater_when i j h = grind arith

equal_when : (i j : ℕ) → i ≡ j → nat_cmp i j ≡ Equal
equal_when i j h = grind arith

empty : {A : Type 0} (R : A → A → Ordering) (xs ys : List A) (i j : ℕ) → length xs ≡ i → length ys ≡ j →
    (i ≡ 0) ⊎ (j ≡ 0) → nat_cmp i j ≡ slice_cmp R xs ys
empty R [] [] i j p q h = equal_when i j (sym p ∙ q)
empty R [] (y ∷ ys) i j p q h = less_when i j (omega arith)
empty R (x ∷ xs) [] i j p q h = greater_when i j (omega arith)
empty R (x ∷ xs) (y ∷ ys) i j p q (inl h) = absurd (omega arith)
empty R (x ∷ xs) (y ∷ ys) i j p q (inr h) = absurd (omega arith)

pub lengths_decide : {A : Type 0} (R : A → A → Ordering) (xs ys : List A) (i j : ℕ) → i ≤ length xs → j ≤ length ys →
    (i ≡ 0) ⊎ (j ≡ 0) → nat_cmp i j ≡ slice_cmp R (reverse (take i xs)) (reverse (take j ys))
lengths_decide {A} R xs ys i j p q h =
    empty R (reverse (take i xs)) (reverse (take j ys)) i j
    (omega (arith, length-reverse (take i xs), length-take i xs))
    (omega (arith, length-reverse (take j ys), length-take j ys)) h
