-- The parts of a term of a file are terms of it.
use Rattle.std.proofs.Common.{◌≡◌, ◌<◌, ℕ, length, sym, subst}
use Rattle.alg_terms.specs.declared.file.File.{File}
use Rattle.alg_terms.specs.declared.term.Term.{Term}
use Rattle.alg_terms.specs.declared.term.Term.TheVariants.{Var, Hom}
use Rattle.alg_terms.specs.Nodes.{EachNode}
use Rattle.alg_terms.specs.TermRules.{IsInRange}
use Rattle.alg_terms.proofs.BuiltNodes.{EachNode-Hom}
use Rattle.alg_terms.proofs.Views.{Unary, Binary, unary, binary, nodes_unary, nodes_binary}
use Rattle.alg_printer.specs.Terms.{IsNamed}

-- a variable is one of the file
pub named-Var : (file : File) (t : Term) (k : ℕ) → t ≡ Var k → IsNamed file t → k < length file.vars
unfolding EachNode
named-Var file t k e h = subst (IsNamed file) e h

-- the morphism of an image
pub named-Hom : (file : File) (t p : Term) (f : ℕ) → t ≡ Hom f p → IsNamed file t → f < length file.homs
named-Hom file t p f e h = ((EachNode-Hom (IsInRange file) f p).0 (subst (IsNamed file) e h)).0

-- the part of an operation on one
pub named_part : (o : Unary) (file : File) (t p q : Term) → t ≡ unary o p → q ≡ p → IsNamed file t → IsNamed file q
named_part o file t p q e f h =
    subst (IsNamed file) (sym f) ((nodes_unary (IsInRange file) o p).0 (subst (IsNamed file) e h)).1

-- the left part and the right part of an operation on two
pub named_left : (o : Binary) (file : File) (t l r q : Term) → t ≡ binary o l r → q ≡ l → IsNamed file t →
    IsNamed file q
named_left o file t l r q e f h =
    subst (IsNamed file) (sym f) ((nodes_binary (IsInRange file) o l r).0 (subst (IsNamed file) e h)).1

pub named_right : (o : Binary) (file : File) (t l r q : Term) → t ≡ binary o l r → q ≡ r → IsNamed file t →
    IsNamed file q
named_right o file t l r q e f h =
    subst (IsNamed file) (sym f) ((nodes_binary (IsInRange file) o l r).0 (subst (IsNamed file) e h)).2
