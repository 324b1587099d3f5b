-- The names that a statement declares are new to the front of the file before it.
use Rattle.std.proofs.Common.{◌≡◌, ◌≢◌, ◌<◌, ◌≤◌, ℕ, zero, suc, List, [], ◌∷◌, ◌++◌, length, map, take, sym, ◌∙◌, subst, arith}
use Rattle.std.specs.Prelude.{slice_index_or}
use Rattle.std.specs.List.{AllByRecursion}
use Rattle.std.proofs.lemmas.List.{length-map}
use Rattle.alg_terms.specs.declared.declarations.VarDecl.{VarDecl}
use Rattle.alg_terms.specs.declared.file.File.{File}
use Rattle.alg_terms.specs.declared.file.Statement.{Statement}
use Rattle.alg_terms.specs.Members.{sort_at, hom_at, var_at, hyp_at, no_sort, no_hom, no_var, no_hyp}
use Rattle.alg_terms.specs.Valid.{IsValid, names_of}
use Rattle.alg_typing.proofs.DeclaredNames.{at_place, name_at, apart_at}
use Rattle.alg_typing.proofs.FreshNames.{Name, IsNew, AreDistinct, distinct_from_pairs, distinct_left, distinct_right, distinct_apart, recursion_append, recursion_left, recursion_right}
use Rattle.alg_reading_back.proofs.Fronts.{front, sorts_in, homs_in, vars_in, hyps_in}

-- a name that is new to a list is new to its first items
new_take : {X : Type 0} (f : X → Name) (name : Name) (xs : List X) (n : ℕ) → IsNew name (map f xs) →
    IsNew name (map f (take n xs))
new_take f name [] zero h = tt
new_take f name [] (suc n) h = tt
new_take f name (x ∷ xs) zero h = tt
new_take f name (x ∷ xs) (suc n) h = (h.0, new_take f name xs n h.1)

-- and a name that is new to more of the first items is new to fewer
new_fewer : (name : Name) (xs : List VarDecl) (m n : ℕ) → m ≤ n → IsNew name (map (λ var. var.name) (take n xs)) →
    IsNew name (map (λ var. var.name) (take m xs))
new_fewer name [] zero n fewer h = tt
new_fewer name [] (suc m) n fewer h = tt
new_fewer name (x ∷ xs) zero n fewer h = tt
new_fewer name (x ∷ xs) (suc m) zero fewer h = absurd (omega arith)
new_fewer name (x ∷ xs) (suc m) (suc n) fewer h = (h.0, new_fewer name xs m n (omega arith) h.1)

-- of distinct names, the one at a place is new to those before it
new_prefix : {X : Type 0} (f : X → Name) (xs : List X) (k : ℕ) (d : X) → AreDistinct (map f xs) → k < length xs →
    IsNew (f (slice_index_or xs k d)) (map f (take k xs))
new_prefix f [] k d h low = absurd (omega arith)
new_prefix f (x ∷ xs) zero d h low = tt
new_prefix f (x ∷ xs) (suc k) d h low =
    let there = name_at f xs k d (omega arith) in
    let other = at_place (λ y. f x ≢ y) (map f xs) k (f d) h.0 (omega (arith, length-map xs f)) in
    (λ same. other (sym same ∙ sym there), new_prefix f xs k d h.1 (omega arith))

module _ (file : File) (valid : IsValid file) (before : List Statement) where
  abbrev sorts : List Name
  sorts = map (λ sort. sort.name) file.sorts

  abbrev homs : List Name
  homs = map (λ hom. hom.name) file.homs

  abbrev vars : List Name
  vars = map (λ var. var.name) file.vars

  abbrev hyps : List Name
  hyps = map (λ hyp. hyp.name) file.hyps

  all : AreDistinct (((sorts ++ homs) ++ vars) ++ hyps)
  all = distinct_from_pairs (names_of file) valid.distinct

  three : AreDistinct ((sorts ++ homs) ++ vars)
  three = distinct_left ((sorts ++ homs) ++ vars) hyps all

  two : AreDistinct (sorts ++ homs)
  two = distinct_left (sorts ++ homs) vars three

  -- what is new to the first items of each list is new to the front
  new_to_front : (name : Name) → IsNew name (map (λ sort. sort.name) (take (sorts_in before) file.sorts)) →
      IsNew name (map (λ hom. hom.name) (take (homs_in before) file.homs)) →
      IsNew name (map (λ var. var.name) (take (vars_in before) file.vars)) →
      IsNew name (map (λ hyp. hyp.name) (take (hyps_in before) file.hyps)) →
      IsNew name (names_of (front file before))
  new_to_front name s h v y =
      let P : Name → Type 0 = λ other. name ≢ other in
      recursion_append P _ _ (recursion_append P _ _ (recursion_append P _ _ s h) v) y

  -- what is new to all hypotheses is new to the first ones
  first_hyps : (name : Name) → IsNew name hyps → IsNew name (map (λ hyp. hyp.name) (take (hyps_in before) file.hyps))
  first_hyps name y = new_take (λ hyp. hyp.name) name file.hyps (hyps_in before) y

  pub fresh_sort : (k : ℕ) → k ≡ sorts_in before → k < length file.sorts →
      IsNew (sort_at file k).name (names_of (front file before))
  fresh_sort k here low =
      let name = (sort_at file k).name in
      let there = name_at (λ sort. sort.name) file.sorts k no_sort low in
      let inside : k < length sorts = omega (arith, length-map file.sorts (λ sort. sort.name)) in
      let at_k : (P : Name → Type 0) → AllByRecursion P sorts → P name =
      λ P h. subst P there (at_place P sorts k [] h inside) in
      let own = new_prefix (λ sort. sort.name) file.sorts k no_sort (distinct_left sorts homs two) low in
      let to_homs = at_k (λ n. IsNew n homs) (distinct_apart sorts homs two) in
      let to_vars = at_k (λ n. IsNew n vars)
      (recursion_left (λ n. IsNew n vars) sorts homs (distinct_apart (sorts ++ homs) vars three)) in
      let to_hyps = at_k (λ n. IsNew n hyps) (recursion_left (λ n. IsNew n hyps) sorts homs
      (recursion_left (λ n. IsNew n hyps) (sorts ++ homs) vars (distinct_apart ((sorts ++ homs) ++ vars) hyps all))) in
      new_to_front name (subst (λ n. IsNew name (map (λ sort. sort.name) (take n file.sorts))) here own)
      (new_take (λ hom. hom.name) name file.homs (homs_in before) to_homs)
      (new_take (λ var. var.name) name file.vars (vars_in before) to_vars) (first_hyps name to_hyps)

  pub fresh_hom : (k : ℕ) → k ≡ homs_in before → k < length file.homs →
      IsNew (hom_at file k).name (names_of (front file before))
  fresh_hom k here low =
      let name = (hom_at file k).name in
      let there = name_at (λ hom. hom.name) file.homs k no_hom low in
      let inside : k < length homs = omega (arith, length-map file.homs (λ hom. hom.name)) in
      let at_k : (P : Name → Type 0) → AllByRecursion P homs → P name =
      λ P h. subst P there (at_place P homs k [] h inside) in
      let own = new_prefix (λ hom. hom.name) file.homs k no_hom (distinct_right sorts homs two) low in
      let to_sorts = subst (λ n. IsNew n sorts) there
      (apart_at sorts homs k [] (distinct_apart sorts homs two) inside) in
      let to_vars = at_k (λ n. IsNew n vars)
      (recursion_right (λ n. IsNew n vars) sorts homs (distinct_apart (sorts ++ homs) vars three)) in
      let to_hyps = at_k (λ n. IsNew n hyps) (recursion_right (λ n. IsNew n hyps) sorts homs
      (recursion_left (λ n. IsNew n hyps) (sorts ++ homs) vars (distinct_apart ((sorts ++ homs) ++ vars) hyps all))) in
      new_to_front name (new_take (λ sort. sort.name) name file.sorts (sorts_in before) to_sorts)
      (subst (λ n. IsNew name (map (λ hom. hom.name) (take n file.homs))) here own)
      (new_take (λ var. var.name) name file.vars (vars_in before) to_vars) (first_hyps name to_hyps)

  -- a variable from the next one on is new to the front, and to the variables before it
  pub fresh_var : (k : ℕ) → vars_in before ≤ k → k < length file.vars →
      IsNew (var_at file k).name (names_of (front file before))
      × IsNew (var_at file k).name (map (λ var. var.name) (take k file.vars))
  fresh_var k here low =
      let name = (var_at file k).name in
      let there = name_at (λ var. var.name) file.vars k no_var low in
      let inside : k < length vars = omega (arith, length-map file.vars (λ var. var.name)) in
      let at_k : (P : Name → Type 0) → AllByRecursion P vars → P name =
      λ P h. subst P there (at_place P vars k [] h inside) in
      let own = new_prefix (λ var. var.name) file.vars k no_var (distinct_right (sorts ++ homs) vars three) low in
      let P : Name → Type 0 = λ other. name ≢ other in
      let to_both = subst (λ n. IsNew n (sorts ++ homs)) there
      (apart_at (sorts ++ homs) vars k [] (distinct_apart (sorts ++ homs) vars three) inside) in
      let to_hyps = at_k (λ n. IsNew n hyps)
      (recursion_right (λ n. IsNew n hyps) (sorts ++ homs) vars (distinct_apart ((sorts ++ homs) ++ vars) hyps all))
      in (
        new_to_front name (new_take (λ sort. sort.name) name file.sorts (sorts_in before)
            (recursion_left P sorts homs to_both))
            (new_take (λ hom. hom.name) name file.homs (homs_in before) (recursion_right P sorts homs to_both))
            (new_fewer name file.vars (vars_in before) k here own) (first_hyps name to_hyps),
        own,
      )

  pub fresh_hyp : (k : ℕ) → k ≡ hyps_in before → k < length file.hyps →
      IsNew (hyp_at file k).name (names_of (front file before))
  fresh_hyp k here low =
      let name = (hyp_at file k).name in
      let there = name_at (λ hyp. hyp.name) file.hyps k no_hyp low in
      let inside : k < length hyps = omega (arith, length-map file.hyps (λ hyp. hyp.name)) in
      let own = new_prefix (λ hyp. hyp.name) file.hyps k no_hyp (distinct_right ((sorts ++ homs) ++ vars) hyps all)
      low in
      let P : Name → Type 0 = λ other. name ≢ other in
      let to_three = subst (λ n. IsNew n ((sorts ++ homs) ++ vars)) there
      (apart_at ((sorts ++ homs) ++ vars) hyps k [] (distinct_apart ((sorts ++ homs) ++ vars) hyps all) inside) in
      let to_two = recursion_left P (sorts ++ homs) vars to_three in
      new_to_front name (new_take (λ sort. sort.name) name file.sorts (sorts_in before)
      (recursion_left P sorts homs to_two))
      (new_take (λ hom. hom.name) name file.homs (homs_in before) (recursion_right P sorts homs to_two))
      (new_take (λ var. var.name) name file.vars (vars_in before) (recursion_right P (sorts ++ homs) vars to_three))
      (subst (λ n. IsNew name (map (λ hyp. hyp.name) (take n file.hyps))) here own)
