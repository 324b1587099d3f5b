-- In a file with distinct names each declared name is that of its member, and another one is declared as nothing.
use Rattle.std.proofs.Common.{◌≡◌, ◌≢◌, ◌<◌, ℕ, zero, suc, Bool, true, false, cond, List, [], ◌∷◌, ◌++◌, inl, inr, length, map, Option, None, Some, refl, sym, ap, ◌∙◌, subst, arith}
use Rattle.std.specs.Prelude.{bytes_eq, position, slice_index_or, nat_lt}
use Rattle.std.specs.List.{AllByRecursion, position_or_len}
use Rattle.std.specs.Option.{option_or, option_map}
use Rattle.std.proofs.lemmas.Bool.{cases_Bool}
use Rattle.std.proofs.lemmas.Bool.Decides.{nat_tests}
use Rattle.std.proofs.lemmas.List.{length-map}
use Rattle.std.proofs.lemmas.Slice.Eq.{bytes_eq-Decides}
use Rattle.alg_terms.specs.declared.file.File.{File}
use Rattle.alg_terms.specs.Members.{sort_at, hom_at, var_at, no_sort, no_hom, no_var}
use Rattle.alg_terms.specs.Valid.{names_of}
use Rattle.alg_typing.specs.declared.declaration.Declaration.{Declaration}
use Rattle.alg_typing.specs.declared.declaration.Declaration.TheVariants.{Sort, Hom, Var, Hyp}
use Rattle.alg_typing.specs.Names.{declared_as}
use Rattle.alg_typing.proofs.FreshNames.{Name, IsNew, AreDistinct, AreApart, distinct_left, distinct_right, distinct_apart, recursion_left, recursion_right}

-- the first item that passes is counted from the front
pub position-cons : {X : Type 0} (p : X → Bool) (x : X) (xs : List X) →
    position p (x ∷ xs) ≡ cond (p x) (Some 0) (option_map suc (position p xs))
position-cons p x xs = elim (cases_Bool (p x)) [
  | inl passes ↦ grind (arith, nat_tests)
  | inr fails ↦ elim (cases_Bool (nat_lt (position_or_len p xs) (length xs))) [
    | inl low ↦ grind (arith, nat_tests)
    | inr high ↦ grind (arith, nat_tests)
  ]
]

same_name : (name : Name) → bytes_eq name name ≡ true
same_name name = (bytes_eq-Decides name name).1 refl

other_name : (name other : Name) → name ≢ other → bytes_eq name other ≡ false
other_name name other differ = elim (cases_Bool (bytes_eq name other)) [
  | inl found ↦ absurd (differ ((bytes_eq-Decides name other).0 found))
  | inr fails ↦ fails
]

-- a new name is not found
pub not_found : (name : Name) (names : List Name) → IsNew name names → position (bytes_eq name) names ≡ None
not_found name [] h = refl
not_found name (other ∷ names) h =
    position-cons (bytes_eq name) other names
    ∙ ap (λ b. cond b (Some 0) (option_map suc (position (bytes_eq name) names))) (other_name name other h.0)
    ∙ ap (option_map suc) (not_found name names h.1)

-- the item at a place is none of the items before it
new_before : (names : List Name) (x : Name) (k : ℕ) (d : Name) → IsNew x names → k < length names →
    slice_index_or names k d ≢ x
new_before [] x k d h low = absurd (omega arith)
new_before (y ∷ names) x zero d h low = λ same. h.0 (sym same)
new_before (y ∷ names) x (suc k) d h low = new_before names x k d h.1 (omega arith)

-- each of distinct names is found at its place
pub found_at : (names : List Name) (k : ℕ) (d : Name) → AreDistinct names → k < length names →
    position (bytes_eq (slice_index_or names k d)) names ≡ Some k
found_at [] k d h low = absurd (omega arith)
found_at (x ∷ names) zero d h low =
    position-cons (bytes_eq x) x names
    ∙ ap (λ b. cond b (Some 0) (option_map suc (position (bytes_eq x) names))) (same_name x)
found_at (x ∷ names) (suc k) d h low =
    let name = slice_index_or names k d in
    let other : bytes_eq name x ≡ false = other_name name x (new_before names x k d h.0 (omega arith)) in
    position-cons (bytes_eq name) x names
    ∙ ap (λ b. cond b (Some 0) (option_map suc (position (bytes_eq name) names))) other
    ∙ ap (option_map suc) (found_at names k d h.1 (omega arith))

-- what holds of each name of a list holds of the one at a place
pub at_place : (P : Name → Type 0) (names : List Name) (k : ℕ) (d : Name) → AllByRecursion P names → k < length names →
    P (slice_index_or names k d)
at_place P [] k d h low = absurd (omega arith)
at_place P (x ∷ names) zero d h low = h.0
at_place P (x ∷ names) (suc k) d h low = at_place P names k d h.1 (omega arith)

pub name_at : {X : Type 0} (f : X → Name) (xs : List X) (k : ℕ) (d : X) → k < length xs →
    slice_index_or (map f xs) k (f d) ≡ f (slice_index_or xs k d)
name_at f [] k d low = refl
name_at f (x ∷ xs) zero d low = refl
name_at f (x ∷ xs) (suc k) d low = name_at f xs k d (omega arith)

-- no name of one list is new to another as the other's names are to it
pub apart_at : (names others : List Name) (k : ℕ) (d : Name) → AreApart names others → k < length others →
    IsNew (slice_index_or others k d) names
apart_at [] others k d h low = tt
apart_at (x ∷ names) others k d h low =
    (λ same. at_place (λ other. x ≢ other) others k d h.0 low (sym same), apart_at names others k d h.1 low)

-- what is found among sorts, morphisms, variables and hypotheses, by the place in each list
abbrev pub declaration_of : Option ℕ → Option ℕ → Option ℕ → Option ℕ → Option Declaration
declaration_of sort hom var hyp =
    option_or (option_map Sort sort)
    (option_or (option_map Hom hom) (option_or (option_map Var var) (option_map Hyp hyp)))

module _ (g : File) where
  abbrev sorts : List Name
  sorts = map (λ sort. sort.name) g.sorts

  abbrev homs : List Name
  homs = map (λ hom. hom.name) g.homs

  abbrev vars : List Name
  vars = map (λ var. var.name) g.vars

  abbrev hyps : List Name
  hyps = map (λ hyp. hyp.name) g.hyps

  places : (name : Name) (a b c d : Option ℕ) → position (bytes_eq name) sorts ≡ a → position (bytes_eq name) homs ≡ b →
      position (bytes_eq name) vars ≡ c → position (bytes_eq name) hyps ≡ d →
      declared_as g name ≡ declaration_of a b c d
  places name a b c d p q r s =
      let b' = position (bytes_eq name) homs in
      let c' = position (bytes_eq name) vars in
      let d' = position (bytes_eq name) hyps in
      ap (λ o. declaration_of o b' c' d') p ∙ ap (λ o. declaration_of a o c' d') q ∙ ap (λ o. declaration_of a b o d') r
      ∙ ap (λ o. declaration_of a b c o) s

  -- a name that is none of the file's is declared as nothing
  pub declared_none : (name : Name) → IsNew name (names_of g) → declared_as g name ≡ None
  declared_none name h =
      let P : Name → Type 0 = λ other. name ≢ other in
      let three = recursion_left P ((sorts ++ homs) ++ vars) hyps h in
      let two = recursion_left P (sorts ++ homs) vars three in
      places name None None None None (not_found name sorts (recursion_left P sorts homs two))
      (not_found name homs (recursion_right P sorts homs two))
      (not_found name vars (recursion_right P (sorts ++ homs) vars three))
      (not_found name hyps (recursion_right P ((sorts ++ homs) ++ vars) hyps h))

  module _ (distinct : AreDistinct (names_of g)) where
    three : AreDistinct ((sorts ++ homs) ++ vars)
    three = distinct_left ((sorts ++ homs) ++ vars) hyps distinct

    two : AreDistinct (sorts ++ homs)
    two = distinct_left (sorts ++ homs) vars three

    -- the names of the members
    pub declared_sort : (k : ℕ) → k < length g.sorts → declared_as g (sort_at g k).name ≡ Some (Sort k)
    declared_sort k low =
        let here = name_at (λ sort. sort.name) g.sorts k no_sort low in
        let place = found_at sorts k [] (distinct_left sorts homs two)
        (omega (arith, length-map g.sorts (λ sort. sort.name))) in
        let found = subst (λ n. position (bytes_eq n) sorts ≡ Some k) here place in
        places (sort_at g k).name (Some k) _ _ _ found refl refl refl

    pub declared_hom : (k : ℕ) → k < length g.homs → declared_as g (hom_at g k).name ≡ Some (Hom k)
    declared_hom k low =
        let here = name_at (λ hom. hom.name) g.homs k no_hom low in
        let inside : k < length homs = omega (arith, length-map g.homs (λ hom. hom.name)) in
        let new = apart_at sorts homs k [] (distinct_apart sorts homs two) inside in
        let place = found_at homs k [] (distinct_right sorts homs two) inside in
        places (hom_at g k).name None (Some k) _ _
        (subst (λ n. position (bytes_eq n) sorts ≡ None) here (not_found _ sorts new))
        (subst (λ n. position (bytes_eq n) homs ≡ Some k) here place) refl refl

    pub declared_var : (k : ℕ) → k < length g.vars → declared_as g (var_at g k).name ≡ Some (Var k)
    declared_var k low =
        let here = name_at (λ var. var.name) g.vars k no_var low in
        let inside : k < length vars = omega (arith, length-map g.vars (λ var. var.name)) in
        let name = slice_index_or vars k [] in
        let new = apart_at (sorts ++ homs) vars k [] (distinct_apart (sorts ++ homs) vars three) inside in
        let P : Name → Type 0 = λ other. name ≢ other in
        let place = found_at vars k [] (distinct_right (sorts ++ homs) vars three) inside in
        places (var_at g k).name None None (Some k) _
        (subst (λ n. position (bytes_eq n) sorts ≡ None) here (not_found name sorts (recursion_left P sorts homs new)))
        (subst (λ n. position (bytes_eq n) homs ≡ None) here (not_found name homs (recursion_right P sorts homs new)))
        (subst (λ n. position (bytes_eq n) vars ≡ Some k) here place) refl
