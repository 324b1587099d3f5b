-- The variables and the morphisms that occur in terms.
use Rattle.std.specs.Prelude.{ℕ, List, [], ◌∷◌, ◌++◌, All, Contains, flat_map}
use Rattle.alg_terms.specs.declared.goals.Equation.{Equation}
use Rattle.alg_terms.specs.declared.term.Term.{Term}
use Rattle.alg_terms.specs.declared.term.Term.TheOpen.{Term-F}
use Rattle.alg_terms.specs.Nodes.{fold_term}

-- the variables of a term, as they stand in it from left to right
abbrev pub node_vars : Term-F (List ℕ) → List ℕ
node_vars (Term-F.Var k) = k ∷ []
node_vars (Term-F.Int n) = []
node_vars (Term-F.Neg part) = part
node_vars (Term-F.Add left right) = left ++ right
node_vars (Term-F.Sub left right) = left ++ right
node_vars (Term-F.Mul left right) = left ++ right
node_vars (Term-F.Div left right) = left ++ right
node_vars (Term-F.Pow part exponent) = part
node_vars (Term-F.Hom f part) = part

-- the morphisms of a term, as they stand in it from left to right
abbrev pub node_homs : Term-F (List ℕ) → List ℕ
node_homs (Term-F.Var k) = []
node_homs (Term-F.Int n) = []
node_homs (Term-F.Neg part) = part
node_homs (Term-F.Add left right) = left ++ right
node_homs (Term-F.Sub left right) = left ++ right
node_homs (Term-F.Mul left right) = left ++ right
node_homs (Term-F.Div left right) = left ++ right
node_homs (Term-F.Pow part exponent) = part
node_homs (Term-F.Hom f part) = f ∷ part

-- the variables and the morphisms of both sides
abbrev pub vars_in : Equation → List ℕ
vars_in e = fold_term node_vars e.left ++ fold_term node_vars e.right

abbrev pub homs_in : Equation → List ℕ
homs_in e = fold_term node_homs e.left ++ fold_term node_homs e.right

-- the terms use only these variables and morphisms
pub record UseOnly (variables morphisms : List ℕ) (terms : List Term) : Type 0 where
  pub vars : All (Contains variables) (flat_map (fold_term node_vars) terms)
  pub homs : All (Contains morphisms) (flat_map (fold_term node_homs) terms)
