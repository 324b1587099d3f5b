-- Names that a file takes: new ones that a statement declares, and those of sorts and hypotheses that it uses.
use Rattle.std.proofs.Common.{◌≡◌, ◌≢◌, ◌<◌, ◌≤◌, ℕ, ◌||◌, false, List, [], ◌∷◌, ◌++◌, inl, inr, length, map, Option, None, Some, is_some, refl, ap, ◌∙◌, subst, arith}
use Rattle.std.specs.Prelude.{Contains, bytes_eq, position, slice_index_or}
use Rattle.std.specs.List.{list_any, flat_map}
use Rattle.std.specs.Option.{option_map_or}
use Rattle.std.proofs.lemmas.Bool.{cases_Bool}
use Rattle.std.proofs.lemmas.List.{length-map}
use Rattle.std.proofs.lemmas.Slice.Eq.{bytes_eq-Decides}
use Rattle.alg_terms.specs.declared.file.File.{File}
use Rattle.alg_terms.specs.declared.file.Statement.{Statement}
use Rattle.alg_terms.specs.Members.{hyp_at, no_hyp}
use Rattle.alg_terms.specs.Order.{declared_by}
use Rattle.alg_terms.specs.Valid.{IsValid, names_of}
use Rattle.alg_tokens.specs.declared.code.Code.TheVariants as code
use Rattle.alg_reader.specs.declared.raw.Span.{Span}
use Rattle.alg_reader.specs.WellRead.{bytes_at}
use Rattle.alg_typing.specs.declared.declaration.Declaration.TheVariants as declaration
use Rattle.alg_typing.specs.Faults.{fault_if}
use Rattle.alg_typing.specs.NameFaults.{new_name, new_names, used_name, misuse}
use Rattle.alg_typing.specs.Names.{declared_as, is_sort, is_hyp, number_of}
use Rattle.alg_typing.specs.Resolved.{number_at}
use Rattle.alg_typing.proofs.DeclaredNames.{declaration_of, name_at, found_at, not_found, apart_at, declared_none, declared_sort}
use Rattle.alg_typing.proofs.FreshNames.{Name, IsNew, AreDistinct, distinct_right, distinct_apart, recursion_left, recursion_right}
use Rattle.alg_typing.proofs.Growing.{Grows}
use Rattle.alg_printer.specs.Names.{sort_name}
use Rattle.alg_reading_back.proofs.Fronts.{front, sorts_in, next}
use Rattle.alg_reading_back.proofs.Steps.{among_low, rises, length_of_take}

-- a name that is new to others is not found among them
not_among : (name : Name) (others : List Name) → IsNew name others → list_any (bytes_eq name) others ≡ false
not_among name [] h = refl
not_among name (other ∷ others) h = elim (cases_Bool (bytes_eq name other)) [
  | inl found ↦ absurd (h.0 ((bytes_eq-Decides name other).0 found))
  | inr differs ↦ ap (λ b. b || list_any (bytes_eq name) others) differs ∙ not_among name others h.1
]

-- names that are new, one after the other
abbrev pub AreFresh : File → List Name → List Name → Type 0
AreFresh g before [] = Unit {0}
AreFresh g before (name ∷ names) = (IsNew name (names_of g) × IsNew name before) × AreFresh g (name ∷ before) names

-- of two lists without items
pub two_empty : {X : Type 0} (xs ys : List X) → xs ≡ [] → ys ≡ [] → xs ++ ys ≡ []
two_empty xs ys h k = ap (λ zs. zs ++ ys) h ∙ k

module _ (g : File) (text : List ℕ) where
  -- a name that is new to the file and to those before it has no fault
  pub new_taken : (before : List Name) (name : Span) (bytes : Name) → bytes_at text name ≡ bytes →
      IsNew bytes (names_of g) → IsNew bytes before → new_name g text before name ≡ []
  new_taken before name bytes same free apart =
      ap (λ b. fault_if (is_some (declared_as g b) || list_any (bytes_eq b) before) code.Again name.start) same
      ∙ ap (λ o. fault_if (is_some o || list_any (bytes_eq bytes) before) code.Again name.start)
      (declared_none g bytes free)
      ∙ ap (λ b. fault_if b code.Again name.start) (not_among bytes before apart)

  pub news_taken : (before : List Name) (names : List Span) → AreFresh g before (map (bytes_at text) names) →
      new_names g text before names ≡ []
  news_taken before [] h = refl
  news_taken before (name ∷ names) h =
      two_empty (new_name g text before name) (new_names g text (bytes_at text name ∷ before) names)
      (new_taken before name (bytes_at text name) refl h.0.0 h.0.1)
      (news_taken (bytes_at text name ∷ before) names h.1)

  -- the name of a sort of a longer file is that of its number, and has no fault where a sort is wanted
  pub sort_used : (file : File) → AreDistinct (names_of g) → Grows g file → (s : ℕ) (name : Span) →
      s < length g.sorts → bytes_at text name ≡ sort_name file s →
      (number_at g text name ≡ s) × (used_name g text is_sort name ≡ [])
  sort_used file distinct grows s name low same =
      let found : declared_as g (bytes_at text name) ≡ Some (declaration.Sort s) =
      ap (declared_as g) (same ∙ ap (λ sort. sort.name) (grows.sorts s low)) ∙ declared_sort g distinct s low in
      (ap (λ o. option_map_or number_of o 0) found, ap (misuse g text is_sort name.start) found)

-- in a file with distinct names that of a hypothesis is the hypothesis's
pub declared_hyp : (g : File) → AreDistinct (names_of g) → (h : ℕ) → h < length g.hyps →
    declared_as g (hyp_at g h).name ≡ Some (declaration.Hyp h)
declared_hyp g distinct h low =
    let sorts : List Name = map (λ sort. sort.name) g.sorts in
    let homs : List Name = map (λ hom. hom.name) g.homs in
    let vars : List Name = map (λ var. var.name) g.vars in
    let hyps : List Name = map (λ hyp. hyp.name) g.hyps in
    let three : List Name = (sorts ++ homs) ++ vars in
    let name = (hyp_at g h).name in
    let here : slice_index_or hyps h [] ≡ name = name_at (λ hyp. hyp.name) g.hyps h no_hyp low in
    let inside : h < length hyps = omega (arith, length-map g.hyps (λ hyp. hyp.name)) in
    let P : Name → Type 0 = λ other. name ≢ other in
    let new : IsNew name three =
    subst (λ n. IsNew n three) here (apart_at three hyps h [] (distinct_apart three hyps distinct) inside) in
    let two : IsNew name (sorts ++ homs) = recursion_left P (sorts ++ homs) vars new in
    let there = found_at hyps h [] (distinct_right three hyps distinct) inside in
    let place = subst (λ n. position (bytes_eq n) hyps ≡ Some h) here there in
    let no_sort = not_found name sorts (recursion_left P sorts homs two) in
    let no_hom = not_found name homs (recursion_right P sorts homs two) in
    let no_var = not_found name vars (recursion_right P (sorts ++ homs) vars new) in
    let among : List Name → Option ℕ = position (bytes_eq name) in
    ap (λ o. declaration_of o (among homs) (among vars) (among hyps)) no_sort
    ∙ ap (λ o. declaration_of None o (among vars) (among hyps)) no_hom
    ∙ ap (λ o. declaration_of None None o (among hyps)) no_var ∙ ap (declaration_of None None None) place

module _ (file g : File) (text : List ℕ) (distinct : AreDistinct (names_of g)) (grows : Grows g file) where
  -- the name of a hypothesis of a longer file is that of its number, and has no fault where a hypothesis is wanted
  pub hyp_used : (h : ℕ) (name : Span) → h < length g.hyps → bytes_at text name ≡ (hyp_at file h).name →
      (number_at g text name ≡ h) × (used_name g text is_hyp name ≡ [])
  hyp_used h name low same =
      let found : declared_as g (bytes_at text name) ≡ Some (declaration.Hyp h) =
      ap (declared_as g) (same ∙ ap (λ hyp. hyp.name) (grows.hyps h low)) ∙ declared_hyp g distinct h low in
      (ap (λ o. option_map_or number_of o 0) found, ap (misuse g text is_hyp name.start) found)

-- a sort that the statements before declare is one of the front
pub sort_before : (file : File) → IsValid file → (before after : List Statement) (s : Statement) →
    file.order ≡ before ++ (s ∷ after) → (k : ℕ) → Contains (flat_map (λ s. (declared_by s).sorts) before) k →
    k < length (front file before).sorts
sort_before file valid before after s split k there =
    let more = (next file valid.ordered before after s split).sorts in
    let rising = rises (λ s. (declared_by s).sorts) file.order before (s ∷ after) (length file.sorts) split
    (ap (λ m. m.sorts) valid.ordered.once_rising) in
    let low = among_low (sorts_in before) k (subst (λ ks. Contains ks k) rising there) in
    let fits : sorts_in before ≤ length file.sorts = let m = more.1 in omega arith in
    omega (arith, length_of_take file.sorts (sorts_in before) fits)
