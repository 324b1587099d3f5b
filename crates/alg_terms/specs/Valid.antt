-- When a file is valid: each rule has a name of its own, so that it can be cited alone.
use Rattle.std.specs.Prelude.{◌≡◌, ◌≢◌, ◌<◌, ℕ, true, List, ◌++◌, map, length, All, AllPairs}
use Rattle.alg_terms.specs.declared.declarations.HomDecl.{HomDecl}
use Rattle.alg_terms.specs.declared.declarations.Sort.{Sort}
use Rattle.alg_terms.specs.declared.declarations.VarDecl.{VarDecl}
use Rattle.alg_terms.specs.declared.file.File.{File}
use Rattle.alg_terms.specs.GoalRules.{IsHyp, IsGoal}
use Rattle.alg_terms.specs.Kinds.{IsDomain}
use Rattle.alg_terms.specs.Limits.{MEMBERS_END}
use Rattle.alg_terms.specs.Names.{IsName}
use Rattle.alg_terms.specs.Order.{IsOrdered}

-- a declared characteristic is one of a domain or a field
abbrev pub IsSort : Sort → Type 0
IsSort sort = sort.char0 ≡ true → IsDomain sort.kind

-- a morphism's source and target are sorts of the file
pub record IsHom (file : File) (hom : HomDecl) : Type 0 where
  pub source : hom.from < length file.sorts
  pub target : hom.to < length file.sorts

-- a variable's sort is one of the file
abbrev pub IsVar : File → VarDecl → Type 0
IsVar file var = var.sort < length file.sorts

-- the declared names
abbrev pub names_of : File → List (List ℕ)
names_of file =
    map (λ sort. sort.name) file.sorts ++ map (λ hom. hom.name) file.homs ++ map (λ var. var.name) file.vars
    ++ map (λ hyp. hyp.name) file.hyps

-- each list has so few members that each has a number
pub record HasCounts (file : File) : Type 0 where
  pub sorts : length file.sorts < MEMBERS_END
  pub homs : length file.homs < MEMBERS_END
  pub vars : length file.vars < MEMBERS_END
  pub hyps : length file.hyps < MEMBERS_END
  pub goals : length file.goals < MEMBERS_END
  pub order : length file.order < MEMBERS_END

-- a valid file
pub record IsValid (file : File) : Type 0 where
  pub counts : HasCounts file
  -- each name is spelled as one and not reserved
  pub spelled : All IsName (names_of file)
  -- no name is declared twice
  pub distinct : AllPairs (λ name later. name ≢ later) (names_of file)
  pub sorts : All IsSort file.sorts
  pub homs : All (IsHom file) file.homs
  pub vars : All (IsVar file) file.vars
  pub hyps : All (IsHyp file) file.hyps
  pub goals : All (IsGoal file) file.goals
  pub ordered : IsOrdered file
