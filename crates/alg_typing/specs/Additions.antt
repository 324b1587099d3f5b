-- A file with one more member and its statement.
use Rattle.std.specs.Prelude.{ℕ, List, [], ◌∷◌, ◌++◌, length}
use Rattle.alg_terms.specs.declared.declarations.HomDecl.{HomDecl}
use Rattle.alg_terms.specs.declared.declarations.VarDecl.{VarDecl}
use Rattle.alg_terms.specs.declared.file.File.{File}
use Rattle.alg_terms.specs.declared.file.Statement.TheVariants as statement
use Rattle.alg_terms.specs.declared.goals.Goal.{Goal}
use Rattle.alg_terms.specs.declared.goals.Hyp.{Hyp}

-- the file with a morphism and its statement
abbrev pub with_hom : File → HomDecl → File
with_hom file hom = record file {
  homs = file.homs ++ hom ∷ [];
  order = file.order ++ statement.Hom (length file.homs) ∷ [];
}

-- the file with variables and their statement
abbrev pub with_vars : File → List VarDecl → ℕ → File
with_vars file vars count = record file {
  vars = file.vars ++ vars;
  order = file.order ++ statement.Vars (length file.vars) count ∷ [];
}

-- the file with a hypothesis and its statement
abbrev pub with_hyp : File → Hyp → File
with_hyp file hyp = record file {
  hyps = file.hyps ++ hyp ∷ [];
  order = file.order ++ statement.Hyp (length file.hyps) ∷ [];
}

-- the file with a goal and its statement
abbrev pub with_goal : File → Goal → File
with_goal file goal = record file {
  goals = file.goals ++ goal ∷ [];
  order = file.order ++ statement.Goal (length file.goals) ∷ [];
}
