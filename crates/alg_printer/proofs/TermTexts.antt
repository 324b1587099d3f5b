-- The text of a term by the texts of its parts.
use Rattle.std.proofs.Common.{◌≡◌, ℕ, ℤ, ◌++◌, codes, decimal, sym, ◌∙◌, ap}
use Rattle.std.specs.Fmt.{signed_decimal}
use Rattle.alg_terms.specs.declared.file.File.{File}
use Rattle.alg_terms.specs.declared.term.Term.{Term}
use Rattle.alg_terms.specs.declared.term.Term.TheVariants.{Var, Int, Neg, Pow, Hom}
use Rattle.alg_terms.proofs.Built.{fold_term-Var, fold_term-Int, fold_term-Neg, fold_term-Pow, fold_term-Hom}
use Rattle.alg_terms.proofs.Views.{Binary, binary, binary_node, fold_binary}
use Rattle.alg_printer.specs.Names.{hom_name, var_name, in_parentheses}
use Rattle.alg_printer.specs.Terms.{part_text, printed, term_text, node_printed}

-- of each node
pub text-Var : (file : File) (t : Term) (k : ℕ) → t ≡ Var k → term_text file t ≡ var_name file k
text-Var file t k e = ap (term_text file) e ∙ ap (λ p. p.text) (fold_term-Var (node_printed file) k)

pub text-Int : (file : File) (t : Term) (n : ℤ) → t ≡ Int n → term_text file t ≡ signed_decimal n
text-Int file t n e = ap (term_text file) e ∙ ap (λ p. p.text) (fold_term-Int (node_printed file) n)

pub text-Neg : (file : File) (t p q : Term) → t ≡ Neg p → q ≡ p →
    term_text file t ≡ codes "-" ++ part_text 3 (printed file q)
text-Neg file t p q e f =
    ap (term_text file) (e ∙ ap (λ u. Neg u) (sym f)) ∙ ap (λ p. p.text) (fold_term-Neg (node_printed file) q)

pub text-Pow : (file : File) (t p q : Term) (n : ℕ) → t ≡ Pow p n → q ≡ p →
    term_text file t ≡ part_text 5 (printed file q) ++ codes "^" ++ decimal n
text-Pow file t p q n e f =
    ap (term_text file) (e ∙ ap (λ u. Pow u n) (sym f)) ∙ ap (λ p. p.text) (fold_term-Pow (node_printed file) q n)

pub text-Hom : (file : File) (t p q : Term) (n : ℕ) → t ≡ Hom n p → q ≡ p →
    term_text file t ≡ hom_name file n ++ in_parentheses (term_text file q)
text-Hom file t p q n e f =
    ap (term_text file) (e ∙ ap (λ u. Hom n u) (sym f)) ∙ ap (λ p. p.text) (fold_term-Hom (node_printed file) n q)

-- an operation on two parts
pub text_binary : (o : Binary) (file : File) (t l r p q : Term) → t ≡ binary o l r → p ≡ l → q ≡ r →
    term_text file t ≡ (node_printed file (binary_node o (printed file p) (printed file q))).text
text_binary o file t l r p q e f g =
    ap (term_text file) (e ∙ ap (λ u. binary o u r) (sym f) ∙ ap (binary o p) (sym g))
    ∙ ap (λ p. p.text) (fold_binary (node_printed file) o p q)
