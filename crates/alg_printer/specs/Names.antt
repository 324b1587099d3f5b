-- The texts of names, of names under a path, and of lists.
use Rattle.std.specs.Prelude.{◌<◌, ℕ, List, [], ◌∷◌, ◌++◌, codes, flat_map, length, All}
use Rattle.alg_terms.specs.declared.file.File.{File}
use Rattle.alg_terms.specs.Members.{sort_at, hom_at, var_at}

-- the name of sort number s
abbrev pub sort_name : File → ℕ → List ℕ
sort_name file s = (sort_at file s).name

-- the name of morphism number f
abbrev pub hom_name : File → ℕ → List ℕ
hom_name file f = (hom_at file f).name

-- the name of variable number k
abbrev pub var_name : File → ℕ → List ℕ
var_name file k = (var_at file k).name

-- a text in parentheses
abbrev pub in_parentheses : List ℕ → List ℕ
in_parentheses text = codes "(" ++ text ++ codes ")"

-- a name under a path of morphisms, the outermost first
abbrev pub under : File → List ℕ → List ℕ → List ℕ
under file [] name = name
under file (f ∷ path) name = hom_name file f ++ in_parentheses (under file path name)

-- what stands before a name under a path
abbrev pub opening : File → List ℕ → List ℕ
opening file path = flat_map (λ f. hom_name file f ++ codes "(") path

-- what stands after it
abbrev pub closing : List ℕ → List ℕ
closing path = flat_map (λ f. codes ")") path

-- the morphisms of a path are of the file
abbrev pub IsPathOf : File → List ℕ → Type 0
IsPathOf file path = All (λ f. f < length file.homs) path

-- the texts of several things, with one text before the first and another before each later one
abbrev pub listed : {X : Type 0} → List ℕ → List ℕ → (X → List ℕ) → List X → List ℕ
listed first later text [] = []
listed first later text (x ∷ xs) = first ++ text x ++ listed later later text xs
