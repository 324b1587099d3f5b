-- The atoms of a term's polynomial under a path are among the atoms of its leaves.
use Rattle.std.specs.Prelude.{ℕ, List, [], ◌∷◌, ◌++◌}
use Rattle.std.specs.List.{AllByRecursion as ByRecursion}
use Rattle.std.proofs.Common.{sym, subst}
use Rattle.alg_terms.specs.declared.term.Atom.{Atom}
use Rattle.alg_terms.specs.declared.term.Term.{Term, more_of-Term, Var, Int, Neg', Add', Sub', Mul', Div', Pow', Hom'}
use Rattle.alg_terms.specs.Nodes.{fold_term}
use Rattle.alg_mono.specs.FiniteMaps.{Each}
use Rattle.alg_mono.specs.Numbers.{integers}
use Rattle.alg_mono.specs.Polynomials.{poly_neg}
use Rattle.alg_mono.proofs.Each.{Each-keep, Each-neg}
use Rattle.alg_meaning.specs.Atoms.{Polynomial, atom_cmp, falling}
use Rattle.alg_meaning.specs.PolynomialOf.{poly_of, poly_of_under}
use Rattle.alg_reify.specs.Table.{leaves}
use Rattle.alg_reify.proofs.FractionsIn.{EachAtom, plus_in, times_in, power_in}
use Rattle.alg_reify.proofs.Along.{along-variable, along-constant, along-zero, along-neg, along-plus, along-minus, along-times, along-power, along-under}

-- what holds of each member of two lists holds of each member of each
pub both_parts : {X : Type 0} (P : X → Type 0) (xs ys : List X) → ByRecursion P (xs ++ ys) →
    ByRecursion P xs × ByRecursion P ys
both_parts P [] ys h = (tt, h)
both_parts P (x ∷ xs) ys h = let rest = both_parts P xs ys h.1 in ((h.0, rest.0), rest.1)

module _ (P : Atom → Type 0) where
  -- P holds of each atom of the polynomial
  abbrev Holds : Polynomial → Type 0
  Holds p = EachAtom atom_cmp P p

  -- what holds of the atoms of all leaves holds of the atoms of the polynomial
  pub atoms_in : (path : List ℕ) (t : Term) → ByRecursion P (leaves path t) → Holds (poly_of_under path t)
  unfolding fold_term
  atoms_in path (Var k) h = subst Holds (sym (along-variable path k)) ((h.0, tt), tt)
  atoms_in path (Int n) h =
      subst Holds (sym (along-constant path n)) (Each-keep falling integers.amounts (λ m. Each P m) [] n [] tt tt)
  atoms_in path (Neg' _ (more_of-Term t _)) h =
      subst Holds (sym (along-neg path (poly_of t)))
      (Each-neg (λ m. Each P m) (poly_of_under path t) (atoms_in path t h))
  atoms_in path (Add' _ (more_of-Term t _) _ (more_of-Term u _)) h =
      let parts = both_parts P (leaves path t) (leaves path u) h in
      subst Holds (sym (along-plus path (poly_of t) (poly_of u)))
      (plus_in atom_cmp P (poly_of_under path t) (poly_of_under path u) (atoms_in path t parts.0)
      (atoms_in path u parts.1))
  atoms_in path (Sub' _ (more_of-Term t _) _ (more_of-Term u _)) h =
      let parts = both_parts P (leaves path t) (leaves path u) h in
      subst Holds (sym (along-minus path (poly_of t) (poly_of u)))
      (plus_in atom_cmp P (poly_of_under path t) (poly_neg (poly_of_under path u)) (atoms_in path t parts.0)
      (Each-neg (λ m. Each P m) (poly_of_under path u) (atoms_in path u parts.1)))
  atoms_in path (Mul' _ (more_of-Term t _) _ (more_of-Term u _)) h =
      let parts = both_parts P (leaves path t) (leaves path u) h in
      subst Holds (sym (along-times path (poly_of t) (poly_of u)))
      (times_in atom_cmp P (poly_of_under path t) (poly_of_under path u) (atoms_in path t parts.0)
      (atoms_in path u parts.1))
  atoms_in path (Div' _ (more_of-Term t _) _ (more_of-Term u _)) h = subst Holds (sym (along-zero path)) tt
  atoms_in path (Pow' _ (more_of-Term t _) n) h =
      subst Holds (sym (along-power path (poly_of t) n))
      (power_in atom_cmp P (poly_of_under path t) n (atoms_in path t h))
  atoms_in path (Hom' f _ (more_of-Term t _)) h =
      subst Holds (sym (along-under path f (poly_of t))) (atoms_in (path ++ f ∷ []) t h)
