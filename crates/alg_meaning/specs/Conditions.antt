-- The conditions of a field goal: which denominators must not be zero.
use Rattle.std.specs.Prelude.{Bool, ◌&&◌, ◌||◌, not, List, [], ◌∷◌, ◌++◌, filter}
use Rattle.alg_terms.specs.declared.file.File.{File}
use Rattle.alg_terms.specs.declared.goals.Equation.{Equation}
use Rattle.alg_terms.specs.declared.term.Term.{Term, more_of-Term, Var, Int, Neg', Add', Sub', Mul', Div', Pow', Hom'}
use Rattle.alg_terms.specs.Members.{sort_at}
use Rattle.alg_meaning.specs.Fractions.{frac, is_unit}
use Rattle.alg_meaning.specs.FractionsOver.{is_constant}
use Rattle.alg_terms.specs.Lists.{each_once}
use Rattle.alg_meaning.specs.Trees.{same_tree}

-- the denominators of a term as written, in postorder of their quotients: those in t, those in u, then u
unfoldable pub denominators : Term → List Term
denominators (Var k) = []
denominators (Int n) = []
denominators (Neg' _ (more_of-Term t _)) = denominators t
denominators (Add' _ (more_of-Term t _) _ (more_of-Term u _)) = denominators t ++ denominators u
denominators (Sub' _ (more_of-Term t _) _ (more_of-Term u _)) = denominators t ++ denominators u
denominators (Mul' _ (more_of-Term t _) _ (more_of-Term u _)) = denominators t ++ denominators u
denominators (Div' _ (more_of-Term t _) _ (more_of-Term u _)) = denominators t ++ (denominators u ++ u ∷ [])
denominators (Pow' _ (more_of-Term t _) n) = denominators t
denominators (Hom' f _ (more_of-Term t _)) = denominators t

-- no condition is needed: the numerator is 1 or -1, or a constant where the goal's sort has characteristic 0
-- (a denominator whose numerator is zero has no fraction, and is never dropped)
abbrev pub is_dropped : Bool → Term → Bool
is_dropped char0 t = is_unit (frac t).top || (char0 && is_constant (frac t).top)

-- the conditions of a field goal on an equation: each denominator once, but those that are dropped
abbrev pub conditions_of : File → Equation → List Term
conditions_of file e =
    filter (λ t. not (is_dropped (sort_at file e.sort).char0 t))
    (each_once same_tree (denominators e.left ++ denominators e.right))
