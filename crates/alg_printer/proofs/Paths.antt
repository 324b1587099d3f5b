-- A name under a path stands between what is before it and what is after it.
use Rattle.std.proofs.Common.{◌≡◌, ℕ, List, [], ◌∷◌, ◌++◌, codes, append_assoc, append-nil, sym, ◌∙◌, ap, refl}
use Rattle.alg_terms.specs.declared.file.File.{File}
use Rattle.alg_printer.specs.Names.{under, opening, closing}
use Rattle.alg_printer.specs.Names.{hom_name, in_parentheses}

-- one more parenthesis may stand at either end
closing_comm : (path : List ℕ) → closing path ++ codes ")" ≡ codes ")" ++ closing path
closing_comm [] = refl
closing_comm (f ∷ path) =
    append_assoc (codes ")") (closing path) (codes ")") ∙ ap (λ l. codes ")" ++ l) (closing_comm path)

regroup : (h o n c p q : List ℕ) → h ++ (o ++ (p ++ n ++ c) ++ q) ≡ (h ++ o ++ p) ++ n ++ (c ++ q)
regroup h o n c p q = simp append_assoc

pub under-is : (file : File) (path name : List ℕ) → under file path name ≡ opening file path ++ name ++ closing path
under-is file [] name = sym (append-nil name)
under-is file (f ∷ path) name =
    ap (λ l. hom_name file f ++ in_parentheses l) (under-is file path name)
    ∙ regroup (hom_name file f) (codes "(") name (closing path) (opening file path) (codes ")")
    ∙ ap (λ l. (hom_name file f ++ codes "(" ++ opening file path) ++ name ++ l) (closing_comm path)
