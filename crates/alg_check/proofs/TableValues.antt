-- At the atoms of a table, polynomials over numbers have the values of those over atoms.
use Rattle.std.specs.Prelude.{◌≡◌, ◌<◌, ℕ, List, [], ◌∷◌, All, Contains, length}
use Rattle.std.specs.Cmp.{nat_cmp_total}
use Rattle.std.specs.FinMap.{nat_cmp-IsAntisymmetric}
use Rattle.std.specs.Ordering.{nat_cmp}
use Rattle.std.proofs.Common.{refl, sym, ap, subst, ◌∙◌}
use Rattle.std.proofs.lemmas.List.Elements.{All-head, All-tail}
use Rattle.alg_terms.specs.declared.term.Atom.{Atom}
use Rattle.alg_terms.specs.declared.term.Term.{Term}
use Rattle.alg_terms.specs.declared.file.File.{File}
use Rattle.alg_terms.specs.declared.goals.Equation.{Equation}
use Rattle.alg_terms.specs.Kinds.{IsDomain}
use Rattle.alg_terms.specs.Members.{source_of}
use Rattle.alg_terms.specs.Sorts.{Leads}
use Rattle.alg_universe.specs.declared.universe.Universe.{Ghosts}
use Rattle.alg_universe.specs.Value.{Fits, AreValues}
use Rattle.alg_mono.specs.NumberedPolynomials.{Polynomial}
use Rattle.alg_mono.specs.Polynomials.{poly_neg}
use Rattle.alg_mono.proofs.Numbers.{integer_laws}
use Rattle.alg_meaning.specs.Atoms.{atom_cmp, minus, poly_along}
use Rattle.alg_meaning.specs.Atoms as over
use Rattle.alg_meaning.specs.Orders.{atom_total, atom_anti, falling_anti}
use Rattle.alg_meaning.specs.PolynomialOf.{poly_of, poly_of_under}
use Rattle.alg_meaning.specs.Values.{poly_in}
use Rattle.alg_meaning.proofs.AtomSorts as sorts
use Rattle.alg_meaning.proofs.AtomSorts.{IsPolyOf, plus_of, neg_of, under_of, typed_poly}
use Rattle.alg_meaning.proofs.AtomValues.{atom_value, monomial_value, value_at}
use Rattle.alg_meaning.proofs.Canonical.{IsPolynomial-poly_of}
use Rattle.alg_meaning.proofs.Carriers.{Carrier, add_at, opp_at, ring_at, semi_at, numbering_at}
use Rattle.alg_meaning.proofs.Evaluation.{IsMorphism, image-mono_value, image-poly_value, poly_value-plus, poly_value-neg}
use Rattle.alg_meaning.proofs.Typed.{IsTyped}
use Rattle.alg_reify.specs.Numbered.{atom_at, number_of, numbered}
use Rattle.alg_reify.specs.Preparing.{difference}
use Rattle.alg_reify.specs.Table.{leaves, equation_leaves}
use Rattle.alg_reify.proofs.Along.{IsPolynomial-along}
use Rattle.alg_reify.proofs.Images.{mono_image, poly_image}
use Rattle.alg_reify.proofs.Made.{made, all_back}
use Rattle.alg_reify.proofs.Prepared.{left_held, right_held, made_difference}
use Rattle.alg_reify.proofs.Undone.{poly_back}
use Rattle.alg_check.specs.Certificates.{poly_at}
use Rattle.alg_check.proofs.CertificateValues.{atom, mono, at, poly_below, at_difference}

-- the atoms of a polynomial under a path are of the sort where the path ends
along_of : (file : File) (t s : ℕ) (path : List ℕ) → All (λ f. f < length file.homs) path → Leads file path s t →
    (p : over.Polynomial) → IsPolyOf file s p → IsPolyOf file t (poly_along path p)
along_of file t s [] all leads p h = subst (λ w. IsPolyOf file w p) leads h
along_of file t s (f ∷ path) all leads p h =
    subst (λ w. IsPolyOf file w (poly_along (f ∷ path) p)) leads.0
    (under_of file f (All-head (λ f. f < length file.homs) f path all) (poly_along path p)
    (along_of file (source_of file f) s path (All-tail (λ f. f < length file.homs) f path all) leads.1 p h))

module _ {E : Type 0} (u : Ghosts E) {file : File} (fits : Fits u file) {v : List E} (values : AreValues u file v)
    (s : ℕ) (domain : IsDomain (u.kind s)) (atoms : List Atom) where
  -- the values of the atoms by their numbers
  abbrev pub by_number : ℕ → E
  by_number k = (atom_value u fits values s (atom_at atoms k)).0

  pub elements : (k : ℕ) → u.has s (by_number k)
  elements k = (atom_value u fits values s (atom_at atoms k)).1

  abbrev numbered_at : Polynomial → Carrier u s
  numbered_at p = at u s domain by_number elements p

  same_morphism : IsMorphism (semi_at u s) (semi_at u s) (λ y. y)
  same_morphism = record { at_none = refl; at_one = refl; at_plus = λ y z. refl; at_times = λ y z. refl }

  image_value : (p : Polynomial) →
      value_at u fits values s (poly_image nat_cmp atom_cmp (atom_at atoms) p) ≡ numbered_at p
  unfolding elements
  image_value p =
      image-poly_value same_morphism falling_anti integer_laws (numbering_at u s) (λ c. refl)
      (mono_image nat_cmp atom_cmp (atom_at atoms)) (mono u s domain by_number elements)
      (monomial_value u fits values s)
      (λ m. image-mono_value same_morphism atom_anti (atom_at atoms) (atom u s domain by_number elements)
      (atom_value u fits values s) (λ k. refl) m) p

  term_value : (path : List ℕ) (t : Term) → All (Contains atoms) (leaves path t) →
      numbered_at (made atoms path t) ≡ value_at u fits values s (poly_of_under path t)
  term_value path t held =
      sym (image_value (made atoms path t))
      ∙ ap (value_at u fits values s)
      (poly_back atom_total atom_anti nat_cmp_total nat_cmp-IsAntisymmetric (number_of atoms) (atom_at atoms)
      (poly_of_under path t) (IsPolynomial-along path (poly_of t) (IsPolynomial-poly_of t))
      (all_back atoms path t held))

  -- the value of a difference by numbers is the difference of the sides' values
  pub difference_value : (path : List ℕ) (e : Equation) → All (Contains atoms) (equation_leaves path e) →
      numbered_at (numbered atoms (difference path e)) ≡
      add_at u s (value_at u fits values s (poly_of_under path e.left))
      (opp_at u s (value_at u fits values s (poly_of_under path e.right)))
  difference_value path e held =
      ap numbered_at (sym (made_difference atoms path e held))
      ∙ at_difference u s domain by_number elements (made atoms path e.left) (made atoms path e.right)
      ∙ (λ i. add_at u s (term_value path e.left (left_held atoms path e held) i)
      (opp_at u s (term_value path e.right (right_held atoms path e held) i)))

  -- and the value of the difference over atoms
  pub numbered_value : (from : ℕ) (path : List ℕ) (e : Equation) → All (λ f. f < length file.homs) path →
      Leads file path from s → IsTyped file from e.left → IsTyped file from e.right →
      All (Contains atoms) (equation_leaves path e) →
      poly_at u s by_number (numbered atoms (difference path e)) ≡ poly_in u v s (difference path e)
  numbered_value from path e all leads hl hr held =
      let p = poly_of_under path e.left in
      let q = poly_of_under path e.right in
      let ip = along_of file s from path all leads (poly_of e.left) (typed_poly file from e.left hl) in
      let iq = along_of file s from path all leads (poly_of e.right) (typed_poly file from e.right hr) in
      sym (poly_below u s domain by_number elements (numbered atoms (difference path e)))
      ∙ ap (λ z. z.0) (difference_value path e held
      ∙ sym (poly_value-plus falling_anti integer_laws (numbering_at u s) (monomial_value u fits values s) p
      (poly_neg q)
      ∙ ap (add_at u s (value_at u fits values s p))
      (poly_value-neg (semi_at u s) (opp_at u s) (ring_at u s) (monomial_value u fits values s) q)))
      ∙ sorts.poly_below u fits values s (minus p q) (plus_of file s p (poly_neg q) ip (neg_of file s q iq))
