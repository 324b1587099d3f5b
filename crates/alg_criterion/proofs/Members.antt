-- What is in a list.
use Rattle.std.specs.Prelude.{map, ◌≡◌, ℕ, Bool, true, false, cond, List, [], ◌∷◌, Some, None, All}
use Rattle.std.proofs.Common.{refl, sym, ap, subst, ◌∙◌, ◌⊎◌, inl, inr}
use Rattle.std.specs.List.{find, Contains}
use Rattle.std.specs.declared.cmp.Ordering.{Ordering}
use Rattle.std.specs.declared.cmp.Ordering.TheVariants.{Less, Equal, Greater}
use Rattle.std.specs.Ordering.{match_ordering}
use Rattle.std.specs.BTreeSet.{insert_key}
use Rattle.std.proofs.lemmas.List.Elements.{All-head, All-tail, All-contains}
use Rattle.alg_groebner.specs.Sound.{IsIn}
use Rattle.alg_groebner.proofs.Found.{same_some, none_some}
use Rattle.alg_criterion.proofs.Spans.{Every}
use Rattle.alg_criterion.proofs.Machine.{Has}
use Rattle.alg_criterion.proofs.Lists.{all_of, every_itself}
use Rattle.alg_criterion.proofs.Bounds.{every_more}

pub has_mapped : {A B : Type 0} (f : A → B) (x : A) (xs : List A) → Has x xs → Has (f x) (map f xs)
has_mapped f x [] h = absurd h
has_mapped f x (y ∷ xs) (inl e) = inl (ap f e)
has_mapped f x (y ∷ xs) (inr h) = inr (has_mapped f x xs h)

pub has_from : {A B : Type 0} (f : A → B) (b : B) (xs : List A) → Has b (map f xs) →
    (x : A) × Has x xs × (b ≡ f x)
has_from f b [] h = absurd h
has_from f b (y ∷ xs) (inl e) = (y, inl refl, e)
has_from f b (y ∷ xs) (inr h) = let r = has_from f b xs h in (r.0, inr r.1, r.2)

pub has_in : (k : ℕ) (ks : List ℕ) → IsIn ks k → Has k ks
has_in k [] h = absurd h
has_in k (j ∷ ks) (inl e) = inl (sym e)
has_in k (j ∷ ks) (inr h) = inr (has_in k ks h)

pub all_has : {A : Type 0} (P : A → Type 0) (x : A) (xs : List A) → All P xs → Has x xs → P x
all_has P x [] a h = absurd h
all_has P x (y ∷ xs) a (inl e) = subst P (sym e) (All-head P y xs a)
all_has P x (y ∷ xs) a (inr h) = all_has P x xs (All-tail P y xs a) h

pub every_at : {A : Type 0} (P : A → Type 0) (xs : List A) → Every P xs → (x : A) → Has x xs → P x
every_at P [] h x m = absurd m
every_at P (y ∷ ys) h x (inl e) = subst P (sym e) h.0
every_at P (y ∷ ys) h x (inr m) = every_at P ys h.1 x m

-- ---- the two words for it
pub contains_has : {A : Type 0} (x : A) (xs : List A) → Contains xs x → Has x xs
contains_has {A} x xs h = All-contains (λ y. Has y xs) xs x (all_of (λ y. Has y xs) xs (itself xs)) h
  where
    itself : (ys : List A) → Every (λ y. Has y ys) ys
    itself [] = tt
    itself (y ∷ ys) = (inl refl, every_more (λ z. Has z ys) (λ z. Has z (y ∷ ys)) (λ z h. inr h) ys (itself ys))

pub has_contains : {A : Type 0} (x : A) (xs : List A) → Has x xs → Contains xs x
has_contains x xs h = every_at (Contains xs) xs (every_itself xs) x h

-- ---- what is found
pub found_in : {A : Type 0} (test : A → Bool) (xs : List A) (x : A) → find test xs ≡ Some x → Has x xs
found_in test [] x e = absurd (none_some x e)
found_in test (y ∷ xs) x e =
    elim (test y) as (λ b. cond b (Some y) (find test xs) ≡ Some x → Has x (y ∷ xs)) [
      | true ↦ λ s. inl (sym (same_some y x s))
      | false ↦ λ s. inr (found_in test xs x s)
    ] e

pub not_found : {A : Type 0} (test : A → Bool) (xs : List A) → find test xs ≡ None → (x : A) → Has x xs →
    test x ≡ false
not_found test [] e x h = absurd h
not_found test (y ∷ xs) e x h =
    elim (test y) as (λ b. test y ≡ b → cond b (Some y) (find test xs) ≡ None → test x ≡ false) [
      | true ↦ λ t s. absurd (none_some y (sym s))
      | false ↦ λ t s. elim h [ inl q ↦ ap test q ∙ t | inr r ↦ not_found test xs s x r ]
    ] refl e

-- ---- what is inserted, seen through a map that takes equal keys to one value
module _ {K B : Type 0} (cmp : K → K → Ordering) (f : K → B) (same : (x y : K) → cmp x y ≡ Equal → f x ≡ f y) where
  pub insert_self : (xs : List K) (k : K) → Has (f k) (map f (insert_key cmp xs k))
  insert_self [] k = inl refl
  insert_self (x ∷ xs) k =
      elim (cmp k x) as (λ o. cmp k x ≡ o →
      Has (f k) (map f (match_ordering o (k ∷ x ∷ xs) (x ∷ xs) (x ∷ insert_key cmp xs k)))) [
        | Less ↦ λ e. inl refl
        | Equal ↦ λ e. inl (same k x e)
        | Greater ↦ λ e. inr (insert_self xs k)
      ] refl

  pub insert_grows : (xs : List K) (k : K) (b : B) → Has b (map f xs) → Has b (map f (insert_key cmp xs k))
  insert_grows [] k b h = absurd h
  insert_grows (x ∷ xs) k b h =
      elim (cmp k x) as (λ o. Has b (map f (match_ordering o (k ∷ x ∷ xs) (x ∷ xs) (x ∷ insert_key cmp xs k)))) [
        | Less ↦ inr h
        | Equal ↦ h
        | Greater ↦ elim h [ inl e ↦ inl e | inr r ↦ inr (insert_grows xs k b r) ]
      ]

  pub insert_split : (xs : List K) (k : K) (b : B) → Has b (map f (insert_key cmp xs k)) →
      (b ≡ f k) ⊎ Has b (map f xs)
  insert_split [] k b h = elim h [ inl e ↦ inl e | inr r ↦ absurd r ]
  insert_split (x ∷ xs) k b h =
      elim (cmp k x) as (λ o. Has b (map f (match_ordering o (k ∷ x ∷ xs) (x ∷ xs) (x ∷ insert_key cmp xs k))) →
      (b ≡ f k) ⊎ Has b (map f (x ∷ xs))) [
        | Less ↦ λ r. r
        | Equal ↦ λ r. inr r
        | Greater ↦ λ r. elim r [
          | inl e ↦ inr (inl e)
          | inr s ↦ elim (insert_split xs k b s) [ inl e ↦ inl e | inr t ↦ inr (inr t) ]
        ]
      ] h
