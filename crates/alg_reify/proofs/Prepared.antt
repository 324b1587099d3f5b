-- The differences of equations over the numbers of a table.
use Rattle.std.specs.Prelude.{◌≡◌, ℕ, ◌+◌, List, All, Contains}
use Rattle.std.specs.List.{AllByRecursion as ByRecursion}
use Rattle.std.specs.Cmp.{nat_cmp_total}
use Rattle.std.specs.FinMap.{nat_cmp-IsAntisymmetric}
use Rattle.std.proofs.Common.{sym, ◌∙◌}
use Rattle.std.proofs.lemmas.List.Elements.{recursion_from_All, All-from_recursion}
use Rattle.alg_terms.specs.declared.term.Atom.{Atom}
use Rattle.alg_terms.specs.declared.term.Term.{Term}
use Rattle.alg_terms.specs.declared.goals.Equation.{Equation}
use Rattle.alg_mono.specs.NumberedPolynomials.{difference_of}
use Rattle.alg_mono.specs.Outcomes.{outcome, sum_outcome}
use Rattle.alg_mono.specs.Polynomials.{norm}
use Rattle.alg_meaning.specs.Orders.{atom_total, atom_anti}
use Rattle.alg_meaning.specs.PolynomialOf.{poly_of, poly_of_under}
use Rattle.alg_meaning.proofs.Canonical.{IsPolynomial-poly_of}
use Rattle.alg_reify.specs.Numbered.{number_of, numbered}
use Rattle.alg_reify.specs.Preparing.{difference}
use Rattle.alg_reify.specs.Table.{leaves, equation_leaves}
use Rattle.alg_reify.proofs.AtomsIn.{both_parts}
use Rattle.alg_reify.proofs.Images.{image-minus}
use Rattle.alg_reify.proofs.Made.{made, like_made, like_along}

-- ---- the atoms of an equation are held where those of its sides are
module _ (atoms : List Atom) (path : List ℕ) (e : Equation) (held : All (Contains atoms) (equation_leaves path e)) where
  both_held : ByRecursion (Contains atoms) (leaves path e.left) × ByRecursion (Contains atoms) (leaves path e.right)
  both_held =
      both_parts (Contains atoms) (leaves path e.left) (leaves path e.right)
      (recursion_from_All (Contains atoms) (equation_leaves path e) held)

  pub left_held : All (Contains atoms) (leaves path e.left)
  left_held = All-from_recursion (Contains atoms) (leaves path e.left) both_held.0

  pub right_held : All (Contains atoms) (leaves path e.right)
  right_held = All-from_recursion (Contains atoms) (leaves path e.right) both_held.1

  -- numbering changes no norm
  norm_made : (t : Term) → All (Contains atoms) (leaves path t) →
      norm (made atoms path t) ≡ norm (poly_of_under path t)
  norm_made t there =
      sym ((like_made atoms path t there).norm) ∙ (like_along path (poly_of t) (IsPolynomial-poly_of t)).norm

  -- the difference breaks the same rule by numbers
  pub same_outcome : sum_outcome (made atoms path e.left) (made atoms path e.right)
      ≡ sum_outcome (poly_of_under path e.left) (poly_of_under path e.right)
  same_outcome = λ i. outcome (norm_made e.left left_held i + norm_made e.right right_held i) 0

  -- and is made of the sides by numbers
  pub made_difference : difference_of (made atoms path e.left) (made atoms path e.right)
      ≡ numbered atoms (difference path e)
  made_difference =
      sym (image-minus atom_total atom_anti nat_cmp_total nat_cmp-IsAntisymmetric (number_of atoms)
      (poly_of_under path e.left) (poly_of_under path e.right))
