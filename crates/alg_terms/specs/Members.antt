-- The members of a file by their numbers, and the uses of a method. Where a file has no member of a number, the word
-- gives some member of no file: what is said of members is said of those that are there.
use Rattle.std.specs.Prelude.{ℕ, false, List, [], slice_index_or}
use Rattle.alg_terms.specs.declared.declarations.Kind.{Kind}
use Rattle.alg_terms.specs.declared.declarations.Kind.TheVariants.{Ring}
use Rattle.alg_terms.specs.declared.declarations.Sort.{Sort}
use Rattle.alg_terms.specs.declared.declarations.HomDecl.{HomDecl}
use Rattle.alg_terms.specs.declared.declarations.VarDecl.{VarDecl}
use Rattle.alg_terms.specs.declared.file.File.{File}
use Rattle.alg_terms.specs.declared.goals.Equation.{Equation}
use Rattle.alg_terms.specs.declared.goals.Goal.{Goal}
use Rattle.alg_terms.specs.declared.goals.Hyp.{Hyp}
use Rattle.alg_terms.specs.declared.goals.Method.{Method}
use Rattle.alg_terms.specs.declared.goals.Method.TheVariants.{ByRing, ByField, ByNsatz}
use Rattle.alg_terms.specs.declared.goals.Use.{Use}
use Rattle.alg_terms.specs.declared.term.Term.{Var}

abbrev pub no_sort : Sort
no_sort = record { name = []; kind = Ring; char0 = false }

-- sort number s
abbrev pub sort_at : File → ℕ → Sort
sort_at file s = slice_index_or file.sorts s no_sort

-- the declared kind of sort number s
abbrev pub kind_of : File → ℕ → Kind
kind_of file s = (sort_at file s).kind

abbrev pub no_hom : HomDecl
no_hom = record { name = []; from = 0; to = 0 }

-- morphism number f
abbrev pub hom_at : File → ℕ → HomDecl
hom_at file f = slice_index_or file.homs f no_hom

-- the sorts from which and to which morphism number f goes
abbrev pub source_of : File → ℕ → ℕ
source_of file f = (hom_at file f).from

abbrev pub target_of : File → ℕ → ℕ
target_of file f = (hom_at file f).to

abbrev pub no_var : VarDecl
no_var = record { name = []; sort = 0 }

-- variable number k
abbrev pub var_at : File → ℕ → VarDecl
var_at file k = slice_index_or file.vars k no_var

-- the declared sort of variable number k
abbrev pub sort_of_var : File → ℕ → ℕ
sort_of_var file k = (var_at file k).sort

abbrev pub no_equation : Equation
no_equation = record { sort = 0; left = Var 0; right = Var 0 }

abbrev pub no_hyp : Hyp
no_hyp = record { name = []; equation = no_equation; nonzero = false }

-- hypothesis number h
abbrev pub hyp_at : File → ℕ → Hyp
hyp_at file h = slice_index_or file.hyps h no_hyp

abbrev pub no_goal : Goal
no_goal = record { equation = no_equation; method = ByRing }

-- goal number i
abbrev pub goal_at : File → ℕ → Goal
goal_at file i = slice_index_or file.goals i no_goal

-- the uses of a method
abbrev pub uses_of : Method → List Use
uses_of ByRing = []
uses_of ByField = []
uses_of (ByNsatz uses power limit) = uses
