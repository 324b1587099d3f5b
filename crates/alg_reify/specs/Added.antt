-- Conditions as they are added one by one.
use Rattle.std.specs.Prelude.{Bool, ◌||◌, ◌&&◌, cond, List, [], ◌∷◌, ◌++◌}
use Rattle.std.specs.List.{list_any}
use Rattle.std.specs.Ordering.{nat_cmp}
use Rattle.alg_terms.specs.declared.term.Term.{Term}
use Rattle.alg_mono.specs.NumberedPolynomials.{Polynomial}
use Rattle.alg_meaning.specs.Conditions.{is_dropped}
use Rattle.alg_meaning.specs.FractionsOver.{is_unit, is_constant}
use Rattle.alg_meaning.specs.Trees.{same_tree}

-- a denominator with this numerator needs no condition
abbrev pub drops : Bool → Polynomial → Bool
drops char0 p = is_unit nat_cmp p || (char0 && is_constant p)

-- a denominator goes last, unless it is dropped or there already
abbrev pub add_condition : Bool → List Term → Term → List Term
add_condition dropped seen t = cond (dropped || list_any (same_tree t) seen) seen (seen ++ t ∷ [])

-- one denominator after the other
abbrev pub add_conditions : Bool → List Term → List Term → List Term
add_conditions char0 seen [] = seen
add_conditions char0 seen (t ∷ ts) = add_conditions char0 (add_condition (is_dropped char0 t) seen t) ts
