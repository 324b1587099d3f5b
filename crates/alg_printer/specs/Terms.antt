-- The text of a term.
use Rattle.std.specs.Prelude.{ℕ, List, ◌++◌, codes, decimal, nat_lt, if◌then◌else◌}
use Rattle.std.specs.Fmt.{signed_decimal}
use Rattle.alg_terms.specs.declared.file.File.{File}
use Rattle.alg_terms.specs.declared.term.Term.{Term}
use Rattle.alg_terms.specs.declared.term.Term.TheOpen.{Term-F}
use Rattle.alg_terms.specs.Nodes.{fold_term, EachNode}
use Rattle.alg_terms.specs.TermRules.{IsInRange}
use Rattle.alg_printer.specs.Names.{var_name, hom_name, in_parentheses}

-- a term in print: its text, and how tightly it binds
pub record Printed : Type 0 where
  pub level : ℕ
  pub text : List ℕ

-- a part of a term: in parentheses exactly where its level is below the wanted one
abbrev pub part_text : ℕ → Printed → List ℕ
part_text wanted part = if nat_lt part.level wanted then in_parentheses part.text else part.text

-- how tightly a node binds: sums and differences 1, products and quotients 2, negations 3, powers 4, all else 5
abbrev pub node_level : Term-F Printed → ℕ
node_level (Term-F.Var k) = 5
node_level (Term-F.Int n) = 5
node_level (Term-F.Neg part) = 3
node_level (Term-F.Add left right) = 1
node_level (Term-F.Sub left right) = 1
node_level (Term-F.Mul left right) = 2
node_level (Term-F.Div left right) = 2
node_level (Term-F.Pow part exponent) = 4
node_level (Term-F.Hom f part) = 5

-- the text of a node, with each part in print in its place
abbrev pub node_text : File → Term-F Printed → List ℕ
node_text file (Term-F.Var k) = var_name file k
node_text file (Term-F.Int n) = signed_decimal n
node_text file (Term-F.Neg part) = codes "-" ++ part_text 3 part
node_text file (Term-F.Add left right) = part_text 1 left ++ codes " + " ++ part_text 2 right
node_text file (Term-F.Sub left right) = part_text 1 left ++ codes " - " ++ part_text 2 right
node_text file (Term-F.Mul left right) = part_text 2 left ++ codes "*" ++ part_text 3 right
node_text file (Term-F.Div left right) = part_text 2 left ++ codes "/" ++ part_text 3 right
node_text file (Term-F.Pow part exponent) = part_text 5 part ++ codes "^" ++ decimal exponent
node_text file (Term-F.Hom f part) = hom_name file f ++ in_parentheses part.text

-- a node in print
abbrev pub node_printed : File → Term-F Printed → Printed
node_printed file node = record { level = node_level node; text = node_text file node }

-- a term in print
abbrev pub printed : File → Term → Printed
printed file = fold_term (node_printed file)

-- the text of a term
abbrev pub term_text : File → Term → List ℕ
term_text file t = (printed file t).text

-- each variable and each morphism of the term is one of the file
abbrev pub IsNamed : File → Term → Type 0
IsNamed file t = EachNode (IsInRange file) t
