-- The numbered polynomial of a term by those of its parts, and what it has in common with the polynomial over atoms.
use Rattle.std.specs.Prelude.{◌≡◌, ℕ, List, [], ◌∷◌, ◌++◌, ℤ, All, Contains}
use Rattle.std.proofs.Common.{refl, sym, ap, ◌∙◌}
use Rattle.std.proofs.lemmas.List.Elements.{All-weaker, recursion_from_All}
use Rattle.std.specs.Cmp.{nat_cmp_total}
use Rattle.std.specs.FinMap.{nat_cmp-IsAntisymmetric}
use Rattle.std.specs.Ordering.{nat_cmp}
use Rattle.alg_terms.specs.declared.term.Atom.{Atom}
use Rattle.alg_terms.specs.declared.term.Term.{Term}
use Rattle.alg_terms.specs.declared.term.Term.TheVariants.{Var, Int, Neg, Pow, Hom}
use Rattle.alg_terms.proofs.Built.{fold_term-Var, fold_term-Int, fold_term-Neg, fold_term-Pow, fold_term-Hom}
use Rattle.alg_terms.proofs.Views.{Binary, binary, binary_node, fold_binary}
use Rattle.alg_mono.specs.FiniteMaps.{Each}
use Rattle.alg_mono.specs.Numbers.{integers}
use Rattle.alg_mono.specs.Polynomials.{PolyOver, IsPolynomial, poly_neg}
use Rattle.alg_mono.specs.NumberedPolynomials.{atom_of, term_of, sum_of, difference_of, product_of, power_of}
use Rattle.alg_meaning.specs.Atoms.{Polynomial, atom_cmp, put_before, poly_along, poly_under}
use Rattle.alg_meaning.specs.Orders.{atom_total, atom_anti}
use Rattle.alg_meaning.specs.PolynomialOf.{node_poly, poly_of, poly_of_under}
use Rattle.alg_meaning.proofs.Canonical.{IsPolynomial-poly_of}
use Rattle.alg_reify.specs.Table.{leaves}
use Rattle.alg_reify.specs.Numbered.{number_of, numbered, atom_at}
use Rattle.alg_reify.proofs.Along.{along-variable, along-constant, along-zero, along-neg, along-plus, along-minus, along-times, along-power, along-under, IsPolynomial-along}
use Rattle.alg_reify.proofs.AtomsIn.{atoms_in}
use Rattle.alg_reify.proofs.Images.{poly_image, image-plus, image-neg, image-minus, image-times, image-term, image-power}
use Rattle.alg_reify.proofs.Numbering.{contained_numbered}
use Rattle.alg_reify.proofs.Undone.{IsLike, IsLike-trans, like_image, poly_back}

-- the polynomial of a term under a path, over the numbers of the table
abbrev pub made : List Atom → List ℕ → Term → PolyOver ℕ
made atoms path t = numbered atoms (poly_of_under path t)

-- an operation on two polynomials; a quotient counts as zero
abbrev pub operation : Binary → PolyOver ℕ → PolyOver ℕ → PolyOver ℕ
operation Binary.Sum p q = sum_of p q
operation Binary.Difference p q = difference_of p q
operation Binary.Product p q = product_of p q
operation Binary.Quotient p q = []

module _ (atoms : List Atom) (path : List ℕ) where
  -- a polynomial over atoms under the path, numbered
  abbrev at : Polynomial → PolyOver ℕ
  at p = numbered atoms (poly_along path p)

  -- one equation for each kind of term
  pub made-Var : (k : ℕ) → made atoms path (Var k) ≡ atom_of (number_of atoms (record { path = path; var = k }))
  made-Var k = ap at (fold_term-Var node_poly k) ∙ ap (numbered atoms) (along-variable path k)

  pub made-Int : (n : ℤ) → made atoms path (Int n) ≡ term_of [] n
  made-Int n =
      ap at (fold_term-Int node_poly n) ∙ ap (numbered atoms) (along-constant path n)
      ∙ image-term atom_total atom_anti nat_cmp_total nat_cmp-IsAntisymmetric (number_of atoms) [] n

  pub made-Neg : (t : Term) → made atoms path (Neg t) ≡ poly_neg (made atoms path t)
  made-Neg t =
      ap at (fold_term-Neg node_poly t) ∙ ap (numbered atoms) (along-neg path (poly_of t))
      ∙ image-neg atom_total atom_anti nat_cmp_total nat_cmp-IsAntisymmetric (number_of atoms) (poly_of_under path t)

  -- an operation on two parts
  at_binary : (o : Binary) (p q : Polynomial) → at (node_poly (binary_node o p q)) ≡ operation o (at p) (at q)
  at_binary Binary.Sum p q =
      ap (numbered atoms) (along-plus path p q)
      ∙ image-plus atom_total atom_anti nat_cmp_total nat_cmp-IsAntisymmetric (number_of atoms) (poly_along path p)
      (poly_along path q)
  at_binary Binary.Difference p q =
      ap (numbered atoms) (along-minus path p q)
      ∙ image-minus atom_total atom_anti nat_cmp_total nat_cmp-IsAntisymmetric (number_of atoms) (poly_along path p)
      (poly_along path q)
  at_binary Binary.Product p q =
      ap (numbered atoms) (along-times path p q)
      ∙ image-times atom_total atom_anti nat_cmp_total nat_cmp-IsAntisymmetric (number_of atoms) (poly_along path p)
      (poly_along path q)
  at_binary Binary.Quotient p q = ap (numbered atoms) (along-zero path)

  pub made_binary : (o : Binary) (t u : Term) →
      made atoms path (binary o t u) ≡ operation o (made atoms path t) (made atoms path u)
  made_binary o t u = ap at (fold_binary node_poly o t u) ∙ at_binary o (poly_of t) (poly_of u)

  pub made-Pow : (t : Term) (n : ℕ) → made atoms path (Pow t n) ≡ power_of (made atoms path t) n
  made-Pow t n =
      ap at (fold_term-Pow node_poly t n) ∙ ap (numbered atoms) (along-power path (poly_of t) n)
      ∙ image-power atom_total atom_anti nat_cmp_total nat_cmp-IsAntisymmetric (number_of atoms)
      (poly_of_under path t) n

  pub made-Hom : (f : ℕ) (t : Term) → made atoms path (Hom f t) ≡ made atoms (path ++ f ∷ []) t
  made-Hom f t = ap at (fold_term-Hom node_poly f t) ∙ ap (numbered atoms) (along-under path f (poly_of t))

-- ---- what both have in common
without_first : List ℕ → List ℕ
without_first [] = []
without_first (f ∷ path) = path

-- the atom without the outermost morphism
pub below_first : Atom → Atom
below_first a = record { path = without_first a.path; var = a.var }

-- what always holds holds of each key
pub each_always : {K A : Type 0} (P : K → Type 0) → ((k : K) → P k) → (es : List (K × A)) → Each P es
each_always P h [] = tt
each_always P h (e ∷ es) = (h e.0, each_always P h es)

-- a morphism that is put before the path can be taken away again
pub comes_back : (f : ℕ) (a : Atom) → below_first (put_before f a) ≡ a
unfolding below_first without_first
comes_back f a = refl

-- a path keeps norm, degree and zero
pub like_along : (path : List ℕ) (p : Polynomial) → IsPolynomial atom_cmp integers p → IsLike p (poly_along path p)
like_along [] p is = record { norm = refl; degree = refl; nothing = refl }
like_along (f ∷ path) p is =
    let q = poly_along path p in
    IsLike-trans p q (poly_under f q) (like_along path p is)
    (like_image atom_total atom_anti atom_total atom_anti (put_before f) below_first q (IsPolynomial-along path p is)
    (each_always (λ m. Each (λ a. below_first (put_before f a) ≡ a) m)
    (λ m. each_always (λ a. below_first (put_before f a) ≡ a) (comes_back f) m) q))

module _ (atoms : List Atom) (path : List ℕ) (t : Term) (held : All (Contains atoms) (leaves path t)) where
  -- each atom comes back from its number
  pub all_back : Each (λ m. Each (λ a. atom_at atoms (number_of atoms a) ≡ a) m) (poly_of_under path t)
  all_back =
      let Back : Atom → Type 0 = λ a. atom_at atoms (number_of atoms a) ≡ a in
      atoms_in Back path t (recursion_from_All Back (leaves path t)
      (All-weaker (Contains atoms) Back (λ a h. (contained_numbered atoms a h).1) (leaves path t) held))

  -- the polynomial under the path is one
  is_polynomial : IsPolynomial atom_cmp integers (poly_of_under path t)
  is_polynomial = IsPolynomial-along path (poly_of t) (IsPolynomial-poly_of t)

  -- where the table holds the atoms, the numbered polynomial is like the one over atoms
  pub like_made : IsLike (poly_of t) (made atoms path t)
  like_made =
      let q = poly_of_under path t in
      IsLike-trans (poly_of t) q (numbered atoms q) (like_along path (poly_of t) (IsPolynomial-poly_of t))
      (like_image atom_total atom_anti nat_cmp_total nat_cmp-IsAntisymmetric (number_of atoms) (atom_at atoms) q
      is_polynomial all_back)

  -- and it tells that one
  made_back : poly_image nat_cmp atom_cmp (atom_at atoms) (made atoms path t) ≡ poly_of_under path t
  made_back =
      poly_back atom_total atom_anti nat_cmp_total nat_cmp-IsAntisymmetric (number_of atoms) (atom_at atoms)
      (poly_of_under path t) is_polynomial all_back

-- two terms with one numbered polynomial have one polynomial
pub same_made : (atoms : List Atom) (path : List ℕ) (t u : Term) → All (Contains atoms) (leaves path t) →
    All (Contains atoms) (leaves path u) → made atoms path t ≡ made atoms path u →
    poly_of_under path t ≡ poly_of_under path u
same_made atoms path t u held also same =
    sym (made_back atoms path t held) ∙ ap (poly_image nat_cmp atom_cmp (atom_at atoms)) same
    ∙ made_back atoms path u also
