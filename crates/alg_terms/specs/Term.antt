-- What contracts say of a term as a tree.
use Rattle.std.specs.Prelude.{ℕ, ◌+◌, max}
use Rattle.alg_terms.specs.declared.term.Term.{Term}
use Rattle.alg_terms.specs.declared.term.Term.TheOpen.{Term-F}
use Rattle.alg_terms.specs.Nodes.{fold_term}

-- one node, with the depth of each part in its place
abbrev pub node_depth : Term-F ℕ → ℕ
node_depth (Term-F.Var number) = 1
node_depth (Term-F.Int value) = 1
node_depth (Term-F.Neg part) = 1 + part
node_depth (Term-F.Add left right) = 1 + max left right
node_depth (Term-F.Sub left right) = 1 + max left right
node_depth (Term-F.Mul left right) = 1 + max left right
node_depth (Term-F.Div left right) = 1 + max left right
node_depth (Term-F.Pow part exponent) = 1 + part
node_depth (Term-F.Hom number part) = 1 + part

-- the number of nodes on the longest way from the head to a leaf
abbrev pub depth_of : Term → ℕ
depth_of = fold_term node_depth
