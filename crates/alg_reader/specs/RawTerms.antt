-- Terms as they were read, node by node. `Node X` is one node, with something in the place of each part.
use Rattle.std.specs.Prelude.{ℕ, ◌+◌, max, List, [], ◌∷◌, ◌++◌, ℤ}
use Rattle.alg_reader.specs.declared.raw.RawTerm.{RawTerm}
use Rattle.alg_reader.specs.declared.raw.RawNode.{RawNode, more_of-RawTerm, Var, Int, Neg', Add', Sub', Mul', Div', Pow', Hom'}
use Rattle.alg_reader.specs.declared.raw.RawNode.TheOpen.{RawNode-F}
use Rattle.alg_reader.specs.declared.raw.RawNumber.{RawNumber}
use Rattle.alg_reader.specs.declared.raw.Span.{Span}

-- one node, with something in the place of each part
abbrev pub Node : Type 0 → Type 0
Node X = RawNode-F (ℕ → X) X

-- what the node under a head comes to, where `node` says what one node comes to by its head and by what its parts
-- come to
unfoldable pub fold_under : {X : Type 0} → (ℕ → Node X → X) → ℕ → RawNode → X
fold_under node head (Var name) = node head (RawNode-F.Var name)
fold_under node head (Int n) = node head (RawNode-F.Int n)
fold_under node head (Neg' _ (more_of-RawTerm h t _)) = node head (RawNode-F.Neg (fold_under node h t))
fold_under node head (Add' _ (more_of-RawTerm h t _) _ (more_of-RawTerm k u _)) =
    node head (RawNode-F.Add (fold_under node h t) (fold_under node k u))
fold_under node head (Sub' _ (more_of-RawTerm h t _) _ (more_of-RawTerm k u _)) =
    node head (RawNode-F.Sub (fold_under node h t) (fold_under node k u))
fold_under node head (Mul' _ (more_of-RawTerm h t _) _ (more_of-RawTerm k u _)) =
    node head (RawNode-F.Mul (fold_under node h t) (fold_under node k u))
fold_under node head (Div' _ (more_of-RawTerm h t _) _ (more_of-RawTerm k u _)) =
    node head (RawNode-F.Div (fold_under node h t) (fold_under node k u))
fold_under node head (Pow' _ (more_of-RawTerm h t _) n) = node head (RawNode-F.Pow (fold_under node h t) n)
fold_under node head (Hom' name _ (more_of-RawTerm h t _)) = node head (RawNode-F.Hom name (fold_under node h t))

-- what a term comes to
abbrev pub fold_raw : {X : Type 0} → (ℕ → Node X → X) → RawTerm → X
fold_raw node t = fold_under node t.head t.node

-- one node's depth, by the depths of its parts
abbrev pub node_depth : ℕ → Node ℕ → ℕ
node_depth head (RawNode-F.Var name) = 1
node_depth head (RawNode-F.Int n) = 1
node_depth head (RawNode-F.Neg part) = 1 + part
node_depth head (RawNode-F.Add left right) = 1 + max left right
node_depth head (RawNode-F.Sub left right) = 1 + max left right
node_depth head (RawNode-F.Mul left right) = 1 + max left right
node_depth head (RawNode-F.Div left right) = 1 + max left right
node_depth head (RawNode-F.Pow part exponent) = 1 + part
node_depth head (RawNode-F.Hom name part) = 1 + part

-- the number of nodes on the longest way from the head to a leaf
abbrev pub depth_of : RawTerm → ℕ
depth_of = fold_raw node_depth

-- what the parts of a node come to, one after the other
abbrev pub of_parts : {X : Type 0} → Node (List X) → List X
of_parts (RawNode-F.Var name) = []
of_parts (RawNode-F.Int n) = []
of_parts (RawNode-F.Neg part) = part
of_parts (RawNode-F.Add left right) = left ++ right
of_parts (RawNode-F.Sub left right) = left ++ right
of_parts (RawNode-F.Mul left right) = left ++ right
of_parts (RawNode-F.Div left right) = left ++ right
of_parts (RawNode-F.Pow part exponent) = part
of_parts (RawNode-F.Hom name part) = part

-- the name, the literal and the exponent of a node
abbrev pub names_of_node : {X : Type 0} → Node X → List Span
names_of_node (RawNode-F.Var name) = name ∷ []
names_of_node (RawNode-F.Hom name part) = name ∷ []
names_of_node _ = []

-- the literal of a node
abbrev pub literals_of_node : {X : Type 0} → Node X → List ℤ
literals_of_node (RawNode-F.Int n) = n ∷ []
literals_of_node _ = []

-- the exponent of a node
abbrev pub exponents_of_node : {X : Type 0} → Node X → List RawNumber
exponents_of_node (RawNode-F.Pow part exponent) = exponent ∷ []
exponents_of_node _ = []

-- all names, literals and exponents of a term
abbrev pub names_in : RawTerm → List Span
names_in = fold_raw (λ head node. names_of_node node ++ of_parts node)

-- all literals of a term
abbrev pub literals_in : RawTerm → List ℤ
literals_in = fold_raw (λ head node. literals_of_node node ++ of_parts node)

-- all exponents of a term
abbrev pub exponents_in : RawTerm → List RawNumber
exponents_in = fold_raw (λ head node. exponents_of_node node ++ of_parts node)
