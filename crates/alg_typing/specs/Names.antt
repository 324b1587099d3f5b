-- What a name is declared as.
use Rattle.std.specs.Prelude.{ℕ, Bool, true, false, List, map, bytes_eq, position, Option}
use Rattle.std.specs.Option.{option_or, option_map}
use Rattle.alg_terms.specs.declared.file.File.{File}
use Rattle.alg_typing.specs.declared.declaration.Declaration.{Declaration}
use Rattle.alg_typing.specs.declared.declaration.Declaration.TheVariants.{Sort, Hom, Var, Hyp}

-- what a file declares by a name: the sort, morphism, variable or hypothesis that has it
abbrev pub declared_as : File → List ℕ → Option Declaration
declared_as file name =
    let among : (ℕ → Declaration) → List (List ℕ) → Option Declaration =
    λ declaration names. option_map declaration (position (bytes_eq name) names) in
    option_or (among Sort (map (λ sort. sort.name) file.sorts))
    (option_or (among Hom (map (λ hom. hom.name) file.homs))
    (option_or (among Var (map (λ var. var.name) file.vars))
    (among Hyp (map (λ hyp. hyp.name) file.hyps))))

-- what a place may want a name to be: a sort
abbrev pub is_sort : Declaration → Bool
is_sort (Sort s) = true
is_sort _ = false

-- a morphism
abbrev pub is_hom : Declaration → Bool
is_hom (Hom f) = true
is_hom _ = false

-- a variable
abbrev pub is_var : Declaration → Bool
is_var (Var k) = true
is_var _ = false

-- a hypothesis
abbrev pub is_hyp : Declaration → Bool
is_hyp (Hyp h) = true
is_hyp _ = false

-- the number of a declaration in its list
abbrev pub number_of : Declaration → ℕ
number_of (Sort s) = s
number_of (Hom f) = f
number_of (Var k) = k
number_of (Hyp h) = h
