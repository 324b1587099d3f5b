-- The leaves of a term by those of its parts.
use Rattle.std.proofs.Common.{◌≡◌, ◌⊎◌, inl, inr, ℕ, ℤ, List, [], ◌∷◌, ◌++◌, refl, ap, ◌∙◌}
use Rattle.alg_terms.specs.declared.term.Atom.{Atom}
use Rattle.alg_terms.specs.declared.term.Term.{Term}
use Rattle.alg_terms.specs.declared.term.Term.TheVariants.{Var, Int, Neg, Add, Sub, Mul, Div, Pow, Hom}
use Rattle.alg_terms.proofs.Built.{fold_term-Var, fold_term-Int, fold_term-Neg, fold_term-Pow, fold_term-Hom}
use Rattle.alg_terms.proofs.Views.{Unary, Binary, unary, binary, binary_node, each_binary, fold_binary}
use Rattle.alg_reify.specs.Table.{leaves, node_leaves}

-- what a fold gives at a path
abbrev At : List ℕ → (List ℕ → List Atom) → List Atom
At path f = f path

-- one lemma for each kind of term
pub leaves-Var : (path : List ℕ) (k : ℕ) → leaves path (Var k) ≡ record { path = path; var = k } ∷ []
leaves-Var path k = ap (At path) (fold_term-Var node_leaves k)

pub leaves-Int : (path : List ℕ) (n : ℤ) → leaves path (Int n) ≡ []
leaves-Int path n = ap (At path) (fold_term-Int node_leaves n)

pub leaves-Neg : (path : List ℕ) (t : Term) → leaves path (Neg t) ≡ leaves path t
leaves-Neg path t = ap (At path) (fold_term-Neg node_leaves t)

pub leaves-Pow : (path : List ℕ) (t : Term) (n : ℕ) → leaves path (Pow t n) ≡ leaves path t
leaves-Pow path t n = ap (At path) (fold_term-Pow node_leaves t n)

pub leaves-Hom : (path : List ℕ) (f : ℕ) (t : Term) → leaves path (Hom f t) ≡ leaves (path ++ f ∷ []) t
leaves-Hom path f t = ap (At path) (fold_term-Hom node_leaves f t)

-- the path over the part of an operation
abbrev pub path_below : Unary → List ℕ → List ℕ
path_below Unary.Opposite path = path
path_below (Unary.Power n) path = path
path_below (Unary.Image f) path = path ++ f ∷ []

pub leaves_unary : (path : List ℕ) (o : Unary) (t : Term) → leaves path (unary o t) ≡ leaves (path_below o path) t
leaves_unary path Unary.Opposite t = leaves-Neg path t
leaves_unary path (Unary.Power n) t = leaves-Pow path t n
leaves_unary path (Unary.Image f) t = leaves-Hom path f t

pub ruleset leaves_built = (leaves-Var, leaves-Int, leaves-Neg, leaves-Pow, leaves-Hom)

-- an operation on two parts
pub leaves_binary : (path : List ℕ) (o : Binary) (l r : Term) →
    leaves path (binary o l r) ≡ leaves path l ++ leaves path r
leaves_binary path o l r =
    ap (At path) (fold_binary node_leaves o l r)
    ∙ each_binary (λ o. node_leaves (binary_node o (λ p. leaves p l) (λ p. leaves p r)) path
    ≡ leaves path l ++ leaves path r) refl refl refl refl o

pub leaves-both : (path : List ℕ) (t l r : Term) → (t ≡ Add l r) ⊎ ((t ≡ Sub l r) ⊎ ((t ≡ Mul l r) ⊎ (t ≡ Div l r)))
    → leaves path t ≡ leaves path l ++ leaves path r
leaves-both path t l r (inl e) = ap (leaves path) e ∙ leaves_binary path Binary.Sum l r
leaves-both path t l r (inr (inl e)) = ap (leaves path) e ∙ leaves_binary path Binary.Difference l r
leaves-both path t l r (inr (inr (inl e))) = ap (leaves path) e ∙ leaves_binary path Binary.Product l r
leaves-both path t l r (inr (inr (inr e))) = ap (leaves path) e ∙ leaves_binary path Binary.Quotient l r
