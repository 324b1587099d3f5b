-- Numbers one after the other.
use Rattle.std.proofs.Common.{◌≡◌, ◌<◌, ◌+◌, ◌-◌, ℕ, List, ◌∷◌, ◌++◌, suc, codes, ap, sym, ◌∙◌, arith, append_assoc}
use Rattle.alg_terms.specs.declared.file.File.{File}
use Rattle.alg_terms.specs.Order.{numbers_from}
use Rattle.alg_printer.specs.Statements.{names_text}
use Rattle.alg_printer.specs.Names.{var_name}

-- the first number and the others
numbers-from : (a b n m : ℕ) → n ≡ suc m → b ≡ suc a → numbers_from a n ≡ a ∷ numbers_from b m
numbers-from a b n m e f = ap (numbers_from a) e ∙ ap (λ x. a ∷ numbers_from x m) (sym f)

-- the name of the next variable comes off what is left
pub names_turn : (file : File) (first count k : ℕ) (old a new : List ℕ) → k < count →
    a ≡ old ++ codes " " → new ≡ a ++ var_name file (first + k) →
    new ++ names_text file (numbers_from (first + (k + 1)) (count - (k + 1)))
    ≡ old ++ names_text file (numbers_from (first + k) (count - k))
names_turn file first count k old a new below space name =
    let next = numbers-from (first + k) (first + (k + 1)) (count - k) (count - (k + 1)) (omega arith) (omega arith) in
    ap (λ l. l ++ names_text file (numbers_from (first + (k + 1)) (count - (k + 1))))
    (name ∙ ap (λ l. l ++ var_name file (first + k)) space ∙ append_assoc old (codes " ") (var_name file (first + k)))
    ∙ append_assoc old (codes " " ++ var_name file (first + k))
    (names_text file (numbers_from (first + (k + 1)) (count - (k + 1))))
    ∙ ap (λ ns. old ++ names_text file ns) (sym next)
