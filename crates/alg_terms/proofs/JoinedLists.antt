-- What holds of the items of lists that are put together.
use Rattle.std.specs.Prelude.{List, [], ◌∷◌, ◌++◌, All, flat_map}
use Rattle.std.proofs.lemmas.List.Elements.{All-head, All-tail, All-cons, All-nil}

-- what holds of the items of two lists put together holds of those of each
pub all_left : {X : Type 0} (P : X → Type 0) (xs ys : List X) → All P (xs ++ ys) → All P xs
all_left P [] ys h = All-nil P
all_left P (x ∷ xs) ys h =
    All-cons P x xs (All-head P x (xs ++ ys) h) (all_left P xs ys (All-tail P x (xs ++ ys) h))

pub all_right : {X : Type 0} (P : X → Type 0) (xs ys : List X) → All P (xs ++ ys) → All P ys
all_right P [] ys h = h
all_right P (x ∷ xs) ys h = all_right P xs ys (All-tail P x (xs ++ ys) h)

-- what holds of the items of lists put together holds of those of each
pub all_flat : {X Y : Type 0} (P : Y → Type 0) (f : X → List Y) (xs : List X) → All P (flat_map f xs) →
    All (λ x. All P (f x)) xs
all_flat P f [] h = All-nil (λ x. All P (f x))
all_flat P f (x ∷ xs) h =
    All-cons (λ x. All P (f x)) x xs (all_left P (f x) (flat_map f xs) h)
    (all_flat P f xs (all_right P (f x) (flat_map f xs) h))
