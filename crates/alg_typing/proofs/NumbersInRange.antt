-- Names that are used where what they are declared as is wanted have a number in range.
use Rattle.std.proofs.Common.{◌≡◌, ◌<◌, ℕ, Bool, true, false, List, [], ◌∷◌, ◌++◌, length, map, Option, None, Some, refl, subst}
use Rattle.std.proofs.lemmas.List.{length-map}
use Rattle.std.specs.Prelude.{bytes_eq, position}
use Rattle.std.specs.Option.{option_or, option_map, option_map_or}
use Rattle.std.proofs.lemmas.List.Quantifiers.{position-Some}
use Rattle.alg_terms.specs.declared.file.File.{File}
use Rattle.alg_reader.specs.declared.raw.Span.{Span}
use Rattle.alg_reader.specs.WellRead.{bytes_at}
use Rattle.alg_typing.specs.declared.declaration.Declaration.{Declaration}
use Rattle.alg_typing.specs.declared.declaration.Declaration.TheVariants.{Sort, Hom, Var, Hyp}
use Rattle.alg_tokens.specs.declared.code.Code.{Code}
use Rattle.alg_typing.specs.Faults.{fault_if}
use Rattle.alg_typing.specs.NameFaults.{misuse, used_name}
use Rattle.alg_typing.specs.Names.{declared_as, is_sort, is_hom, is_var, is_hyp, number_of}
use Rattle.alg_typing.specs.Resolved.{number_at}

-- two lists together are empty where each is
pub parts_empty : {X : Type 0} (xs ys : List X) → xs ++ ys ≡ [] → (xs ≡ []) × (ys ≡ [])
parts_empty [] ys h = (refl, h)
parts_empty (x ∷ xs) ys h = absurd (cc)

-- a fault is not there where it has no cause
pub no_fault : (there : Bool) (what : Code) (at : ℕ) → fault_if there what at ≡ [] → there ≡ false
no_fault true what at h = absurd (cc)
no_fault false what at h = refl

-- where the first found of four kinds is one of a kind, it was found in that kind's list
found_sort : (a b c d : Option ℕ) (n : ℕ) →
    option_or (option_map Sort a) (option_or (option_map Hom b) (option_or (option_map Var c) (option_map Hyp d)))
    ≡ Some (Sort n) → a ≡ Some n
found_sort (Some m) b c d n h = cc
found_sort None (Some m) c d n h = absurd (cc)
found_sort None None (Some m) d n h = absurd (cc)
found_sort None None None (Some m) n h = absurd (cc)
found_sort None None None None n h = absurd (cc)

found_hom : (a b c d : Option ℕ) (n : ℕ) →
    option_or (option_map Sort a) (option_or (option_map Hom b) (option_or (option_map Var c) (option_map Hyp d)))
    ≡ Some (Hom n) → b ≡ Some n
found_hom (Some m) b c d n h = absurd (cc)
found_hom None (Some m) c d n h = cc
found_hom None None (Some m) d n h = absurd (cc)
found_hom None None None (Some m) n h = absurd (cc)
found_hom None None None None n h = absurd (cc)

found_var : (a b c d : Option ℕ) (n : ℕ) →
    option_or (option_map Sort a) (option_or (option_map Hom b) (option_or (option_map Var c) (option_map Hyp d)))
    ≡ Some (Var n) → c ≡ Some n
found_var (Some m) b c d n h = absurd (cc)
found_var None (Some m) c d n h = absurd (cc)
found_var None None (Some m) d n h = cc
found_var None None None (Some m) n h = absurd (cc)
found_var None None None None n h = absurd (cc)

found_hyp : (a b c d : Option ℕ) (n : ℕ) →
    option_or (option_map Sort a) (option_or (option_map Hom b) (option_or (option_map Var c) (option_map Hyp d)))
    ≡ Some (Hyp n) → d ≡ Some n
found_hyp (Some m) b c d n h = absurd (cc)
found_hyp None (Some m) c d n h = absurd (cc)
found_hyp None None (Some m) d n h = absurd (cc)
found_hyp None None None (Some m) n h = cc
found_hyp None None None None n h = absurd (cc)

-- a name that is found in a list of named things has a place in it
placed : {X : Type 0} (f : X → List ℕ) (name : List ℕ) (xs : List X) (n : ℕ) →
    position (bytes_eq name) (map f xs) ≡ Some n → n < length xs
placed f name xs n h =
    let low = (position-Some (bytes_eq name) (map f xs) n [] h).0 in
    subst (λ count. n < count) (length-map xs f) low

module _ (file : File) (name : List ℕ) (n : ℕ) where
  pub sort_in_file : declared_as file name ≡ Some (Sort n) → n < length file.sorts
  sort_in_file h = placed (λ sort. sort.name) name file.sorts n (found_sort _ _ _ _ n h)

  pub hom_in_file : declared_as file name ≡ Some (Hom n) → n < length file.homs
  hom_in_file h = placed (λ hom. hom.name) name file.homs n (found_hom _ _ _ _ n h)

  pub var_in_file : declared_as file name ≡ Some (Var n) → n < length file.vars
  var_in_file h = placed (λ var. var.name) name file.vars n (found_var _ _ _ _ n h)

  pub hyp_in_file : declared_as file name ≡ Some (Hyp n) → n < length file.hyps
  hyp_in_file h = placed (λ hyp. hyp.name) name file.hyps n (found_hyp _ _ _ _ n h)

module _ (file : File) (text : List ℕ) where
  -- what a name is declared as, where it is used without fault
  abbrev HasNumber : (ℕ → Type 0) → Option Declaration → Type 0
  HasNumber InRange declared = InRange (option_map_or number_of declared 0)

  wanted_sort : (at : ℕ) (name : List ℕ) (d : Option Declaration) → declared_as file name ≡ d →
      misuse file text is_sort at d ≡ [] →
      HasNumber (λ s. s < length file.sorts) d
  wanted_sort at name None e h = absurd (cc)
  wanted_sort at name (Some (Sort n)) e h = sort_in_file file name n e
  wanted_sort at name (Some (Hom n)) e h = absurd (cc)
  wanted_sort at name (Some (Var n)) e h = absurd (cc)
  wanted_sort at name (Some (Hyp n)) e h = absurd (cc)

  wanted_hom : (at : ℕ) (name : List ℕ) (d : Option Declaration) → declared_as file name ≡ d →
      misuse file text is_hom at d ≡ [] →
      HasNumber (λ f. f < length file.homs) d
  wanted_hom at name None e h = absurd (cc)
  wanted_hom at name (Some (Sort n)) e h = absurd (cc)
  wanted_hom at name (Some (Hom n)) e h = hom_in_file file name n e
  wanted_hom at name (Some (Var n)) e h = absurd (cc)
  wanted_hom at name (Some (Hyp n)) e h = absurd (cc)

  wanted_var : (at : ℕ) (name : List ℕ) (d : Option Declaration) → declared_as file name ≡ d →
      misuse file text is_var at d ≡ [] →
      HasNumber (λ k. k < length file.vars) d
  wanted_var at name None e h = absurd (cc)
  wanted_var at name (Some (Sort n)) e h = absurd (cc)
  wanted_var at name (Some (Hom n)) e h = absurd (cc)
  wanted_var at name (Some (Var n)) e h = var_in_file file name n e
  wanted_var at name (Some (Hyp n)) e h = absurd (cc)

  wanted_hyp : (at : ℕ) (name : List ℕ) (d : Option Declaration) → declared_as file name ≡ d →
      misuse file text is_hyp at d ≡ [] →
      HasNumber (λ k. k < length file.hyps) d
  wanted_hyp at name None e h = absurd (cc)
  wanted_hyp at name (Some (Sort n)) e h = absurd (cc)
  wanted_hyp at name (Some (Hom n)) e h = absurd (cc)
  wanted_hyp at name (Some (Var n)) e h = absurd (cc)
  wanted_hyp at name (Some (Hyp n)) e h = hyp_in_file file name n e

  -- the number of a name that is used without fault is in range
  pub sort_number : (name : Span) → used_name file text is_sort name ≡ [] → number_at file text name < length file.sorts
  sort_number name h = wanted_sort name.start (bytes_at text name) _ refl h

  pub hom_number : (name : Span) → used_name file text is_hom name ≡ [] → number_at file text name < length file.homs
  hom_number name h = wanted_hom name.start (bytes_at text name) _ refl h

  pub var_number : (name : Span) → used_name file text is_var name ≡ [] → number_at file text name < length file.vars
  var_number name h = wanted_var name.start (bytes_at text name) _ refl h

  pub hyp_number : (name : Span) → used_name file text is_hyp name ≡ [] → number_at file text name < length file.hyps
  hyp_number name h = wanted_hyp name.start (bytes_at text name) _ refl h
