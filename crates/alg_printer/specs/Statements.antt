-- The text of a statement, on a line of its own.
use Rattle.std.specs.Prelude.{ℕ, Bool, true, false, List, [], ◌++◌, codes, decimal}
use Rattle.std.specs.List.{flat_map}
use Rattle.alg_terms.specs.declared.declarations.HomDecl.{HomDecl}
use Rattle.alg_terms.specs.declared.declarations.Kind.{Kind}
use Rattle.alg_terms.specs.declared.declarations.Kind.TheVariants.{Ring, Domain, Field}
use Rattle.alg_terms.specs.declared.declarations.Sort.{Sort}
use Rattle.alg_terms.specs.declared.file.File.{File}
use Rattle.alg_terms.specs.declared.goals.Goal.{Goal}
use Rattle.alg_terms.specs.declared.goals.Hyp.{Hyp}
use Rattle.alg_terms.specs.declared.goals.Method.{Method}
use Rattle.alg_terms.specs.declared.goals.Method.TheVariants.{ByRing, ByField, ByNsatz}
use Rattle.alg_terms.specs.declared.goals.Use.{Use}
use Rattle.alg_terms.specs.Members.{sort_of_var, hyp_at}
use Rattle.alg_terms.specs.Order.{numbers_from}
use Rattle.alg_printer.specs.Names.{sort_name, var_name, under, listed}
use Rattle.alg_printer.specs.Terms.{term_text}

-- the word of a kind
abbrev pub kind_text : Kind → List ℕ
kind_text Ring = codes "ring "
kind_text Domain = codes "domain "
kind_text Field = codes "field "

-- a declared characteristic
abbrev pub char_text : Bool → List ℕ
char_text true = codes " char 0"
char_text false = []

-- a declaration of a sort
abbrev pub sort_text : Sort → List ℕ
sort_text sort = kind_text sort.kind ++ sort.name ++ char_text sort.char0 ++ codes ".\n"

-- a declaration of a morphism
abbrev pub hom_text : File → HomDecl → List ℕ
hom_text file hom =
    codes "hom " ++ hom.name ++ codes " : " ++ sort_name file hom.from ++ codes " -> " ++ sort_name file hom.to
    ++ codes ".\n"

-- the names of variables, each after a space
abbrev pub names_text : File → List ℕ → List ℕ
names_text file numbers = flat_map (λ k. codes " " ++ var_name file k) numbers

-- the variables from the first on, and their sort
abbrev pub vars_text : File → ℕ → ℕ → List ℕ
vars_text file first count =
    codes "var" ++ names_text file (numbers_from first count) ++ codes " : " ++ sort_name file (sort_of_var file first)
    ++ codes ".\n"

-- how the sides of a hypothesis compare
abbrev pub relation_text : Bool → List ℕ
relation_text true = codes " <> "
relation_text false = codes " = "

-- a hypothesis
abbrev pub hyp_text : File → Hyp → List ℕ
hyp_text file hyp =
    codes "hyp " ++ hyp.name ++ codes " : " ++ term_text file hyp.equation.left ++ relation_text hyp.nonzero
    ++ term_text file hyp.equation.right ++ codes ".\n"

-- a hypothesis under a path of morphisms
abbrev pub use_text : File → Use → List ℕ
use_text file used = under file used.path (hyp_at file used.hyp).name

-- the hypotheses that a goal uses: none, or a list
abbrev pub uses_text : File → List Use → List ℕ
uses_text file uses = listed (codes " using ") (codes ", ") (use_text file) uses

-- how a goal is decided, with its options
abbrev pub method_text : File → Method → List ℕ
method_text file ByRing = codes "ring"
method_text file ByField = codes "field"
method_text file (ByNsatz uses power limit) =
    codes "nsatz" ++ uses_text file uses ++ codes " power " ++ decimal power ++ codes " limit " ++ decimal limit

-- a goal
abbrev pub goal_text : File → Goal → List ℕ
goal_text file goal =
    codes "goal " ++ term_text file goal.equation.left ++ codes " = " ++ term_text file goal.equation.right
    ++ codes " by " ++ method_text file goal.method ++ codes ".\n"
