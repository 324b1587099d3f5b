-- Renaming atoms, where that can be undone, keeps the coefficients of a polynomial.
use Rattle.std.specs.Prelude.{◌≡◌, ℕ, true, cond, List, [], ◌∷◌, pos, ◌+ℤ◌, Contains}
use Rattle.std.proofs.Common.{refl, sym, ap, subst, ◌∙◌, T}
use Rattle.std.specs.declared.cmp.Ordering.{Ordering}
use Rattle.std.specs.Ordering.{eq_by_cmp, is_eq}
use Rattle.std.specs.Cmp.{IsTotalOrder, nat_cmp_total, tied_itself}
use Rattle.std.specs.FinMap.{IsAntisymmetric, nat_cmp-IsAntisymmetric}
use Rattle.alg_terms.specs.declared.term.Atom.{Atom}
use Rattle.alg_mono.specs.FiniteMaps.{Each, amount, renamed}
use Rattle.alg_mono.specs.Numbers.{integers}
use Rattle.alg_mono.specs.Monomials.{falling}
use Rattle.alg_mono.specs.Polynomials.{PolyOver, coefficient}
use Rattle.alg_mono.proofs.Canonical.{amount-collect, equal}
use Rattle.alg_mono.proofs.Each.{Each-collect, Each-renamed, Each-weaker}
use Rattle.alg_mono.proofs.Grevlex.{falling_total, falling_anti}
use Rattle.alg_mono.proofs.Numbers.{exponent_laws, integer_laws}
use Rattle.alg_meaning.specs.Orders.{atom_total, atom_anti}
use Rattle.alg_reify.specs.Laws.{NumberedCoefficients}
use Rattle.alg_reify.specs.Numbered.{atom_at, number_of}
use Rattle.alg_reify.proofs.Images.{mono_image, poly_image}
use Rattle.alg_reify.proofs.Numbering.{contained_numbered}
use Rattle.alg_reify.proofs.Once.{same_test}
use Rattle.alg_reify.proofs.Undone.{monos_back, undone}

-- a test by an order in which only equal keys tie
pub passes : {K : Type 0} {cmp : K → K → Ordering} → IsTotalOrder cmp → (x y : K) → x ≡ y → eq_by_cmp cmp x y ≡ true
passes {cmp} o x y e = ap is_eq (ap (cmp x) (sym e) ∙ tied_itself o x)

pub only_equal : {K : Type 0} {cmp : K → K → Ordering} → IsAntisymmetric cmp → (x y : K) → eq_by_cmp cmp x y ≡ true →
    x ≡ y
only_equal {cmp} anti x y h = anti x y (equal (cmp x y) (subst T (sym h) tt))

module _ {K L : Type 0} {ck : K → K → Ordering} {cl : L → L → Ordering}
    (ok : IsTotalOrder ck) (ak : IsAntisymmetric ck) (ol : IsTotalOrder cl) (al : IsAntisymmetric cl)
    (f : K → L) (g : L → K) where
  -- the monomial comes back
  abbrev pub ComesBack : List (K × ℕ) → Type 0
  ComesBack m = mono_image cl ck g (mono_image ck cl f m) ≡ m

  -- two monomials that come back are equal where their images are
  same_as_images : (m n : List (K × ℕ)) → ComesBack m → ComesBack n →
      eq_by_cmp (falling cl) (mono_image ck cl f m) (mono_image ck cl f n) ≡ eq_by_cmp (falling ck) m n
  same_as_images m n back_m back_n =
      same_test (eq_by_cmp (falling cl) (mono_image ck cl f m) (mono_image ck cl f n)) (eq_by_cmp (falling ck) m n)
      (λ h. passes (falling_total ok ak) m n
      (sym back_m
      ∙ ap (mono_image cl ck g) (only_equal (falling_anti ol al) (mono_image ck cl f m) (mono_image ck cl f n) h)
      ∙ back_n))
      (λ h. passes (falling_total ol al) (mono_image ck cl f m) (mono_image ck cl f n)
      (ap (mono_image ck cl f) (only_equal (falling_anti ok ak) m n h)))

  -- so the terms at the image of m are the images of the terms at m
  amount_image : (m : List (K × ℕ)) (p : PolyOver K) → ComesBack m → Each ComesBack p →
      amount (falling cl) integers.amounts (mono_image ck cl f m) (renamed (mono_image ck cl f) p)
      ≡ amount (falling ck) integers.amounts m p
  amount_image m [] back each = refl
  amount_image m (e ∷ p) back each =
      λ i. cond (same_as_images m e.0 back each.0 i) e.1 (pos 0) +ℤ amount_image m p back each.1 i

  -- and the coefficients are the same
  pub coefficient_image : (m : List (K × ℕ)) (p : PolyOver K) → ComesBack m → Each ComesBack p →
      coefficient (falling cl) integers (mono_image ck cl f m) (poly_image ck cl f p) ≡ coefficient
      (falling ck) integers m p
  coefficient_image m p back each =
      amount-collect integer_laws.amounts (falling_total ol al) (falling_anti ol al) (mono_image ck cl f m)
      (renamed (mono_image ck cl f) p) ∙ amount_image m p back each

  -- and where a monomial is the image of one that comes back, it comes back too
  pub images_round : (p : PolyOver K) → Each ComesBack p →
      Each (λ n. mono_image ck cl f (mono_image cl ck g n) ≡ n) (poly_image ck cl f p)
  images_round p back =
      let Round : List (L × ℕ) → Type 0 = λ n. mono_image ck cl f (mono_image cl ck g n) ≡ n in
      Each-collect (falling cl) integers.amounts Round (renamed (mono_image ck cl f) p)
      (Each-renamed (mono_image ck cl f) ComesBack Round (λ m h. ap (mono_image ck cl f) h) p back)

  -- such a monomial over the images has the coefficient of what it comes from
  pub coefficient_back : (n : List (L × ℕ)) (p : PolyOver K) → mono_image ck cl f (mono_image cl ck g n) ≡ n →
      Each ComesBack p →
      coefficient (falling ck) integers (mono_image cl ck g n) p
      ≡ coefficient (falling cl) integers n (poly_image ck cl f p)
  coefficient_back n p round each =
      sym (coefficient_image (mono_image cl ck g n) p (ap (mono_image cl ck g) round) each)
      ∙ ap (λ k. coefficient (falling cl) integers k (poly_image ck cl f p)) round

-- an atom of the table comes back from its number, and so do monomials and polynomials
pub atoms_back : (atoms : List Atom) (m : List (Atom × ℕ)) → Each (Contains atoms) m →
    Each (λ a. atom_at atoms (number_of atoms a) ≡ a) m
atoms_back atoms m h = Each-weaker (λ a held. (contained_numbered atoms a held).1) m h

pub numbered_coefficients : NumberedCoefficients
numbered_coefficients atoms p m is held canonical over =
    coefficient_image atom_total atom_anti nat_cmp_total nat_cmp-IsAntisymmetric (number_of atoms) (atom_at atoms) m p
    (undone exponent_laws atom_total atom_anti nat_cmp-IsAntisymmetric (number_of atoms) (atom_at atoms) m canonical
    (atoms_back atoms m over))
    (monos_back atom_total atom_anti nat_cmp_total nat_cmp-IsAntisymmetric (number_of atoms) (atom_at atoms) p
    is.monomials (Each-weaker (λ n h. atoms_back atoms n h) p held))
