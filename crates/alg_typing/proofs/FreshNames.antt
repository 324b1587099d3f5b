-- Names that are new to a file: none of its names is one of them.
use Rattle.std.proofs.Common.{◌≡◌, ◌≢◌, ◌<◌, ℕ, suc, Bool, true, false, cond, List, [], ◌∷◌, ◌++◌, inl, inr, length, map, Option, None, Some, refl, sym, arith}
use Rattle.std.specs.Prelude.{AllPairs, bytes_eq, position, slice_index_or, nat_lt}
use Rattle.std.specs.List.{AllByRecursion, position_or_len}
use Rattle.std.specs.Option.{option_or, option_map}
use Rattle.std.proofs.lemmas.Bool.{cases_Bool}
use Rattle.std.proofs.lemmas.Bool.Decides.{nat_tests}
use Rattle.std.proofs.lemmas.List.Elements.{All-from_recursion}
use Rattle.std.proofs.lemmas.List.Kept.{AllPairs-cons}
use Rattle.std.proofs.lemmas.Slice.Eq.{bytes_eq-Decides}
use Rattle.alg_terms.specs.declared.file.File.{File}
use Rattle.alg_terms.specs.Valid.{names_of}
use Rattle.alg_typing.specs.declared.declaration.Declaration.{Declaration}
use Rattle.alg_typing.specs.declared.declaration.Declaration.TheVariants.{Sort, Hom, Var, Hyp}
use Rattle.alg_typing.specs.Names.{declared_as}

abbrev pub Name : Type 0
Name = List ℕ

-- the name is none of these, and no two of these are one
abbrev pub IsNew : Name → List Name → Type 0
IsNew name names = AllByRecursion (λ other. name ≢ other) names

abbrev pub AreDistinct : List Name → Type 0
AreDistinct [] = Unit {0}
AreDistinct (name ∷ names) = IsNew name names × AreDistinct names

-- where no item is found, none passes
none_passes : {X : Type 0} (p : X → Bool) (xs : List X) → (position_or_len p xs < length xs → ⊥) →
    AllByRecursion (λ x. p x ≡ false) xs
none_passes p [] h = tt
none_passes p (x ∷ xs) h = elim (cases_Bool (p x)) [
  | inl passes ↦ absurd (h (grind (arith, nat_tests)))
  | inr fails ↦ (fails, none_passes p xs (λ low. h (grind (arith, nat_tests))))
]

never_there : (i n : ℕ) → cond (nat_lt i n) (Some i) None ≡ None → i < n → ⊥
never_there i n h low = grind (arith, nat_tests)

unplaced : {X : Type 0} (p : X → Bool) (xs : List X) → position p xs ≡ None → AllByRecursion (λ x. p x ≡ false) xs
unplaced p xs h = none_passes p xs (never_there (position_or_len p xs) (length xs) h)

or_none : {X : Type 0} (a b : Option X) → option_or a b ≡ None → (a ≡ None) × (b ≡ None)
or_none None b h = (refl, h)
or_none (Some x) b h = absurd (cc)

map_none : {X Y : Type 0} (f : X → Y) (a : Option X) → option_map f a ≡ None → a ≡ None
map_none f None h = refl
map_none f (Some x) h = absurd (cc)

-- names that the test tells apart differ
apart : (name : Name) (names : List Name) → AllByRecursion (λ other. bytes_eq name other ≡ false) names →
    IsNew name names
apart name [] h = tt
apart name (other ∷ names) h = (
  λ same. let yes : bytes_eq name other ≡ true = (bytes_eq-Decides name other).1 same in cc,
  apart name names h.1,
)

-- what holds of the items of two lists holds of those of both together
pub recursion_append : {X : Type 0} (P : X → Type 0) (xs ys : List X) → AllByRecursion P xs → AllByRecursion P ys →
    AllByRecursion P (xs ++ ys)
recursion_append P [] ys h k = k
recursion_append P (x ∷ xs) ys h k = (h.0, recursion_append P xs ys h.1 k)

pub recursion_left : {X : Type 0} (P : X → Type 0) (xs ys : List X) → AllByRecursion P (xs ++ ys) → AllByRecursion P xs
recursion_left P [] ys h = tt
recursion_left P (x ∷ xs) ys h = (h.0, recursion_left P xs ys h.1)

pub recursion_right : {X : Type 0} (P : X → Type 0) (xs ys : List X) → AllByRecursion P (xs ++ ys) → AllByRecursion P ys
recursion_right P [] ys h = h
recursion_right P (x ∷ xs) ys h = recursion_right P xs ys h.1

pub recursion_weaker : {X : Type 0} (P Q : X → Type 0) (xs : List X) → ((x : X) → P x → Q x) → AllByRecursion P xs →
    AllByRecursion Q xs
recursion_weaker P Q [] f h = tt
recursion_weaker P Q (x ∷ xs) f h = (f x h.0, recursion_weaker P Q xs f h.1)

-- a name that a file does not declare is none of its names
pub not_declared : (file : File) (name : Name) → declared_as file name ≡ None → IsNew name (names_of file)
not_declared file name h =
    let sorts = map (λ sort. sort.name) file.sorts in
    let homs = map (λ hom. hom.name) file.homs in
    let vars = map (λ var. var.name) file.vars in
    let hyps = map (λ hyp. hyp.name) file.hyps in
    let among : (ℕ → Declaration) → List Name → Option Declaration =
    λ declaration names. option_map declaration (position (bytes_eq name) names) in
    let first = or_none (among Sort sorts) _ h in
    let second = or_none (among Hom homs) _ first.1 in
    let third = or_none (among Var vars) (among Hyp hyps) second.1 in
    let free : (declaration : ℕ → Declaration) (names : List Name) → among declaration names ≡ None → IsNew name names =
    λ declaration names none.
    apart name names (unplaced (bytes_eq name) names (map_none declaration (position (bytes_eq name) names) none)) in
    let P : Name → Type 0 = λ other. name ≢ other in
    let two = recursion_append P sorts homs (free Sort sorts first.0) (free Hom homs second.0) in
    let three = recursion_append P (sorts ++ homs) vars two (free Var vars third.0) in
    recursion_append P ((sorts ++ homs) ++ vars) hyps three (free Hyp hyps third.1)

-- no two of the names of a pair of lists are one
abbrev pub AreApart : List Name → List Name → Type 0
AreApart names others = AllByRecursion (λ name. IsNew name others) names

pub distinct_append : (xs ys : List Name) → AreDistinct xs → AreDistinct ys → AreApart xs ys → AreDistinct (xs ++ ys)
distinct_append [] ys h k a = k
distinct_append (x ∷ xs) ys h k a =
    (recursion_append (λ other. x ≢ other) xs ys h.0 a.0, distinct_append xs ys h.1 k a.1)

pub distinct_left : (xs ys : List Name) → AreDistinct (xs ++ ys) → AreDistinct xs
distinct_left [] ys h = tt
distinct_left (x ∷ xs) ys h = (recursion_left (λ other. x ≢ other) xs ys h.0, distinct_left xs ys h.1)

pub distinct_right : (xs ys : List Name) → AreDistinct (xs ++ ys) → AreDistinct ys
distinct_right [] ys h = h
distinct_right (x ∷ xs) ys h = distinct_right xs ys h.1

pub distinct_apart : (xs ys : List Name) → AreDistinct (xs ++ ys) → AreApart xs ys
distinct_apart [] ys h = tt
distinct_apart (x ∷ xs) ys h = (recursion_right (λ other. x ≢ other) xs ys h.0, distinct_apart xs ys h.1)

-- names are apart from others as these are from them
apart_nil : (xs : List Name) → AreApart xs []
apart_nil [] = tt
apart_nil (x ∷ xs) = (tt, apart_nil xs)

pub apart_cons : (y : Name) (xs ys : List Name) → IsNew y xs → AreApart xs ys → AreApart xs (y ∷ ys)
apart_cons y [] ys h a = tt
apart_cons y (x ∷ xs) ys h a = ((λ same. h.0 (sym same), a.0), apart_cons y xs ys h.1 a.1)

apart_other : (xs ys : List Name) → AreApart ys xs → AreApart xs ys
apart_other xs [] h = apart_nil xs
apart_other xs (y ∷ ys) h = apart_cons y xs ys h.0 (apart_other xs ys h.1)

apart_append : (xs ys zs : List Name) → AreApart xs ys → AreApart xs zs → AreApart xs (ys ++ zs)
apart_append [] ys zs h k = tt
apart_append (x ∷ xs) ys zs h k =
    (recursion_append (λ other. x ≢ other) ys zs h.0 k.0, apart_append xs ys zs h.1 k.1)

-- distinct names stay so with further ones among them
pub distinct_inserted : (front names back : List Name) → AreDistinct (front ++ back) → AreDistinct names →
    AreApart names (front ++ back) → AreDistinct (front ++ (names ++ back))
distinct_inserted front names back h k a =
    let before = recursion_weaker (λ n. IsNew n (front ++ back)) (λ n. IsNew n front) names
    (λ n new. recursion_left (λ other. n ≢ other) front back new) a in
    let behind = recursion_weaker (λ n. IsNew n (front ++ back)) (λ n. IsNew n back) names
    (λ n new. recursion_right (λ other. n ≢ other) front back new) a in
    distinct_append front (names ++ back) (distinct_left front back h)
    (distinct_append names back k (distinct_right front back h) behind)
    (apart_append front names back (apart_other front names before) (distinct_apart front back h))

-- between distinct names and the word by places
new_at : (name : Name) (names : List Name) → ((k : ℕ) (d : Name) → k < length names → name ≢ slice_index_or names k d) →
    IsNew name names
new_at name [] h = tt
new_at name (other ∷ names) h = (h 0 other (omega arith), new_at name names (λ k d low. h (suc k) d (omega arith)))

pub distinct_from_pairs : (names : List Name) → AllPairs (λ name later. name ≢ later) names → AreDistinct names
distinct_from_pairs [] h = tt
distinct_from_pairs (name ∷ names) h = (
  new_at name names (λ k d low. h 0 (suc k) d (omega arith) (omega arith)),
  distinct_from_pairs names (λ i j d before low. h (suc i) (suc j) d (omega arith) (omega arith)),
)

pub pairs_from_distinct : (names : List Name) → AreDistinct names → AllPairs (λ name later. name ≢ later) names
pairs_from_distinct [] h = λ i j d before low. absurd (omega arith)
pairs_from_distinct (name ∷ names) h =
    AllPairs-cons (λ x later. x ≢ later) name names (All-from_recursion (λ other. name ≢ other) names h.0)
    (pairs_from_distinct names h.1)
