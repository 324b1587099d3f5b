-- Lists member by member.
use Rattle.std.specs.Prelude.{◌≡◌, List, [], ◌∷◌}
use Rattle.std.proofs.Common.{refl, ap, inl, inr}
use Rattle.std.specs.declared.option.Option.{Option}
use Rattle.std.specs.declared.option.Option.TheVariants.{None, Some}
use Rattle.alg_criterion.proofs.Spans.{Every}
use Rattle.alg_criterion.proofs.Machine.{Has, Pairwise}

pub some_same : {A : Type 0} (x y : A) → Some x ≡ Some y → x ≡ y
some_same {A} x y e = ap (or_else x) e
  where
    or_else : A → Option A → A
    or_else d None = d
    or_else d (Some z) = z

pub none_some : {A : Type 0} {P : Type 0} (x : A) → None ≡ Some x → P
none_some x e = absurd (apart e)
  where
    apart : None ≡ Some x → ⊥
    apart h = cc

pub every_map : {A : Type 0} {P Q : A → Type 0} → ((x : A) → P x → Q x) → (xs : List A) → Every P xs → Every Q xs
every_map f [] h = tt
every_map f (x ∷ xs) h = (f x h.0, every_map f xs h.1)

pub every_both : {A : Type 0} {P Q R : A → Type 0} → ((x : A) → P x → Q x → R x) → (xs : List A) → Every P xs →
    Every Q xs → Every R xs
every_both f [] h k = tt
every_both f (x ∷ xs) h k = (f x h.0 k.0, every_both f xs h.1 k.1)

pub every_has : {A : Type 0} (xs : List A) → Every (λ x. Has x xs) xs
every_has {A} xs = go xs (λ x h. h)
  where
    go : (ys : List A) → ((x : A) → Has x ys → Has x xs) → Every (λ x. Has x xs) ys
    go [] f = tt
    go (y ∷ ys) f = (f y (inl refl), go ys (λ x h. f x (inr h)))

pub pairwise_map : {A B : Type 0} {R S : A → B → Type 0} → ((x : A) (y : B) → R x y → S x y) →
    (xs : List A) (ys : List B) → Pairwise R xs ys → Pairwise S xs ys
pairwise_map f [] [] h = tt
pairwise_map f [] (y ∷ ys) h = h
pairwise_map f (x ∷ xs) [] h = h
pairwise_map f (x ∷ xs) (y ∷ ys) h = (f x y h.0, pairwise_map f xs ys h.1)

pub pairwise_same : {A : Type 0} (R : A → A → Type 0) → ((x : A) → R x x) → (xs : List A) → Pairwise R xs xs
pairwise_same R f [] = tt
pairwise_same R f (x ∷ xs) = (f x, pairwise_same R f xs)

pub pairwise_then : {A B C : Type 0} {R : A → B → Type 0} {S : B → C → Type 0} {Q : A → C → Type 0} →
    ((x : A) (y : B) (z : C) → R x y → S y z → Q x z) → (xs : List A) (ys : List B) (zs : List C) →
    Pairwise R xs ys → Pairwise S ys zs → Pairwise Q xs zs
pairwise_then f [] [] [] h k = tt
pairwise_then f [] [] (z ∷ zs) h k = k
pairwise_then f [] (y ∷ ys) zs h k = absurd h
pairwise_then f (x ∷ xs) [] zs h k = absurd h
pairwise_then f (x ∷ xs) (y ∷ ys) [] h k = k
pairwise_then f (x ∷ xs) (y ∷ ys) (z ∷ zs) h k = (f x y z h.0 k.0, pairwise_then f xs ys zs h.1 k.1)
