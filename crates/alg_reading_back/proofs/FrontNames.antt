-- The names of the front of a valid file are distinct.
use Rattle.std.proofs.Common.{◌≢◌, ℕ, zero, suc, List, [], ◌∷◌, ◌++◌, map, take}
use Rattle.std.specs.List.{AllByRecursion}
use Rattle.alg_terms.specs.declared.file.File.{File}
use Rattle.alg_terms.specs.declared.file.Statement.{Statement}
use Rattle.alg_terms.specs.Valid.{IsValid, names_of}
use Rattle.alg_typing.proofs.FreshNames.{Name, IsNew, AreDistinct, distinct_from_pairs, distinct_append, distinct_left, distinct_right, distinct_apart, recursion_append, recursion_left, recursion_right, recursion_weaker}
use Rattle.alg_reading_back.proofs.Fronts.{front, sorts_in, homs_in, vars_in, hyps_in}

-- names that are some of others, so that what holds of each and their distinctness carry over
record IsPart (part whole : List Name) : Type 1 where
  each : (P : Name → Type 0) → AllByRecursion P whole → AllByRecursion P part
  distinct : AreDistinct whole → AreDistinct part

each_taken : {X : Type 0} (f : X → Name) (P : Name → Type 0) (xs : List X) (n : ℕ) → AllByRecursion P (map f xs) →
    AllByRecursion P (map f (take n xs))
each_taken f P [] zero h = tt
each_taken f P [] (suc n) h = tt
each_taken f P (x ∷ xs) zero h = tt
each_taken f P (x ∷ xs) (suc n) h = (h.0, each_taken f P xs n h.1)

distinct_taken : {X : Type 0} (f : X → Name) (xs : List X) (n : ℕ) → AreDistinct (map f xs) →
    AreDistinct (map f (take n xs))
distinct_taken f [] zero h = tt
distinct_taken f [] (suc n) h = tt
distinct_taken f (x ∷ xs) zero h = tt
distinct_taken f (x ∷ xs) (suc n) h = (each_taken f (λ other. f x ≢ other) xs n h.0, distinct_taken f xs n h.1)

-- the names of the first items
taken : {X : Type 0} (f : X → Name) (xs : List X) (n : ℕ) → IsPart (map f (take n xs)) (map f xs)
taken f xs n = record { each = λ P h. each_taken f P xs n h; distinct = λ h. distinct_taken f xs n h }

-- some of each of two lists
together : (a b a' b' : List Name) → IsPart a' a → IsPart b' b → IsPart (a' ++ b') (a ++ b)
together a b a' b' p q = record {
  each = λ P h. recursion_append P a' b' (p.each P (recursion_left P a b h)) (q.each P (recursion_right P a b h));
  distinct = λ h.
      let apart = p.each (λ n. IsNew n b) (distinct_apart a b h) in
      distinct_append a' b' (p.distinct (distinct_left a b h)) (q.distinct (distinct_right a b h))
      (recursion_weaker (λ n. IsNew n b) (λ n. IsNew n b') a' (λ n new. q.each (λ other. n ≢ other) new) apart);
}

pub front_distinct : (file : File) → IsValid file → (before : List Statement) →
    AreDistinct (names_of (front file before))
front_distinct file valid before =
    let sorts = taken (λ sort. sort.name) file.sorts (sorts_in before) in
    let homs = taken (λ hom. hom.name) file.homs (homs_in before) in
    let vars = taken (λ var. var.name) file.vars (vars_in before) in
    let hyps = taken (λ hyp. hyp.name) file.hyps (hyps_in before) in
    let two = together _ _ _ _ sorts homs in
    let three = together _ _ _ _ two vars in
    let all = together _ _ _ _ three hyps in
    all.distinct (distinct_from_pairs (names_of file) valid.distinct)
