-- The first place at which a test passes, in a list with one more element.
use Rattle.std.proofs.Common.{◌≡◌, ℕ, suc, Bool, true, false, cond, List, [], ◌∷◌, ◌++◌, length, Option, None, Some, refl, sym, ◌∙◌, ap, arith}
use Rattle.std.specs.Prelude.{position}
use Rattle.std.specs.Option.{option_or, option_map}
use Rattle.std.proofs.lemmas.Bool.Decides.{nat_tests}

module _ {X : Type 0} (p : X → Bool) where
  position-cons : (x : X) (xs : List X) (b : Bool) → p x ≡ b →
      position p (x ∷ xs) ≡ cond b (Some 0) (option_map (λ n. suc n) (position p xs))
  position-cons x xs true e = grind (arith, nat_tests)
  position-cons x xs false e = grind (arith, nat_tests)

  later : (b c : Bool) (n : ℕ) (first : Option ℕ) →
      cond b (Some 0) (option_map (λ k. suc k) (option_or first (cond c (Some n) None)))
      ≡ option_or (cond b (Some 0) (option_map (λ k. suc k) first)) (cond c (Some (suc n)) None)
  later true c n first = refl
  later false c n (Some k) = refl
  later false true n None = refl
  later false false n None = refl

  pub position-push : (xs : List X) (y : X) →
      position p (xs ++ y ∷ []) ≡ option_or (position p xs) (cond (p y) (Some (length xs)) None)
  position-push [] y = position-cons y [] (p y) refl
  position-push (x ∷ xs) y =
      position-cons x (xs ++ y ∷ []) (p x) refl
      ∙ ap (λ o. cond (p x) (Some 0) (option_map (λ n. suc n) o)) (position-push xs y)
      ∙ later (p x) (p y) (length xs) (position p xs)
      ∙ ap (λ o. option_or o (cond (p y) (Some (suc (length xs))) None)) (sym (position-cons x xs (p x) refl))
