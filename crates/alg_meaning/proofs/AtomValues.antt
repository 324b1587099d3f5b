-- The values of atoms and of polynomials over them, in the carrier of a sort.
-- An atom that is not of the sort has the value zero there. So each lemma holds of all polynomials, and none asks of
-- which sort their atoms are.
use Rattle.std.specs.Prelude.{◌≡◌, ◌<◌, ℕ, List, [], ◌∷◌, length, slice_index_or, pos}
use Rattle.std.proofs.Common.{refl, subst, ◌∙◌}
use native.Mathlib.Decide.{ℕ_discrete, dec_lt}
use Rattle.alg_terms.specs.declared.file.File.{File}
use Rattle.alg_terms.specs.Members.{source_of, target_of, sort_of_var}
use Rattle.alg_terms.specs.declared.term.Atom.{Atom}
use Rattle.alg_universe.specs.declared.universe.Universe.{Ghosts}
use Rattle.alg_universe.specs.Value.{Fits, AreValues}
use Rattle.alg_mono.proofs.Totals.{idr}
use Rattle.alg_mono.proofs.Numbers.{integer_laws}
use Rattle.alg_meaning.specs.Atoms.{Monomial, Polynomial, put_before, mono_under, poly_under, atom_poly}
use Rattle.alg_meaning.specs.Orders.{atom_anti, falling_anti}
use Rattle.alg_meaning.proofs.Rings.{semi}
use Rattle.alg_meaning.proofs.Evaluation.{mono_value, poly_value, image-mono_value, image-poly_value}
use Rattle.alg_meaning.proofs.Carriers.{Carrier, zero_at, one_at, mul_at, ring_at, semi_at, int_at, numbering_at, map_at, morphism_at, map_int, same}

module _ {E : Type 0} (u : Ghosts E) {file : File} (fits : Fits u file) {v : List E} (values : AreValues u file v) where
  abbrev at_var : (t k : ℕ) → Dec (k < length file.vars) → Dec (sort_of_var file k ≡ t) → Carrier u t
  at_var t k (yes p) (yes e) = (
    slice_index_or v k (u.zero t),
    subst (λ w. u.has w (slice_index_or v k (u.zero t))) e
        (values.each k (u.zero t) p),
  )
  at_var t k (yes p) (no n) = zero_at u t
  at_var t k (no n) d = zero_at u t

  abbrev at_hom : (t f : ℕ) → Carrier u (source_of file f) → Dec (f < length file.homs) →
      Dec ((target_of file f) ≡ t) → Carrier u t
  at_hom t f x (yes p) (yes e) = (
    u.hom f x.0,
    subst (λ w. u.has w (u.hom f x.0)) e
        (u.laws.hom_has f (source_of file f) (target_of file f) x.0 (fits.maps f p) x.1),
  )
  at_hom t f x (yes p) (no n) = zero_at u t
  at_hom t f x (no n) d = zero_at u t

  abbrev pub path_value : (t : ℕ) → List ℕ → ℕ → Carrier u t
  path_value t [] k = at_var t k (dec_lt k (length file.vars)) (ℕ_discrete (sort_of_var file k) t)
  path_value t (f ∷ path) k =
      at_hom t f (path_value (source_of file f) path k) (dec_lt f (length file.homs)) (ℕ_discrete (target_of file f) t)

  abbrev pub atom_value : (t : ℕ) → Atom → Carrier u t
  atom_value t a = path_value t a.path a.var

  abbrev pub monomial_value : (t : ℕ) → Monomial → Carrier u t
  monomial_value t m = mono_value (semi_at u t) (atom_value t) m

  abbrev pub value_at : (t : ℕ) → Polynomial → Carrier u t
  value_at t p = poly_value (semi_at u t) (int_at u t) (monomial_value t) p

  at_var-is : (t k : ℕ) (d : Dec (k < length file.vars)) (b : Dec (sort_of_var file k ≡ t)) → k < length file.vars →
      sort_of_var file k ≡ t → (at_var t k d b).0 ≡ slice_index_or v k (u.zero t)
  at_var-is t k (yes p) (yes e) l is = refl
  at_var-is t k (yes p) (no n) l is = absurd (n is)
  at_var-is t k (no n) b l is = absurd (n l)

  at_hom-is : (t f : ℕ) (x : Carrier u (source_of file f)) (d : Dec (f < length file.homs))
      (b : Dec ((target_of file f) ≡ t)) → f < length file.homs → (target_of file f) ≡ t →
      (at_hom t f x d b).0 ≡ u.hom f x.0
  at_hom-is t f x (yes p) (yes e) l is = refl
  at_hom-is t f x (yes p) (no n) l is = absurd (n is)
  at_hom-is t f x (no n) b l is = absurd (n l)

  -- a variable of the sort
  pub value_at-atom : (t : ℕ) (a : Atom) → value_at t (atom_poly a) ≡ atom_value t a
  value_at-atom t a =
      let S = (semi (ring_at u t)).sum in
      let P = (semi (ring_at u t)).product in
      let x = atom_value t a in
      idr S (mul_at u t (int_at u t (pos 1)) (monomial_value t ((a, 1) ∷ [])))
      ∙ (λ i. mul_at u t (idr S (one_at u t) i) ((idr P (mul_at u t x (one_at u t)) ∙ idr P x) i))
      ∙ P.idl x

  pub path_value-hom : (t f : ℕ) (path : List ℕ) (k : ℕ) → f < length file.homs → (target_of file f) ≡ t →
      (path_value t (f ∷ path) k).0 ≡ u.hom f (path_value (source_of file f) path k).0
  path_value-hom t f path k l is =
      at_hom-is t f (path_value (source_of file f) path k) (dec_lt f (length file.homs))
      (ℕ_discrete (target_of file f) t) l is

  pub path_value-var : (t k : ℕ) → k < length file.vars → sort_of_var file k ≡ t →
      (path_value t [] k).0 ≡ slice_index_or v k (u.zero t)
  path_value-var t k l is = at_var-is t k (dec_lt k (length file.vars)) (ℕ_discrete (sort_of_var file k) t) l is

  -- a morphism
  module _ (f : ℕ) (l : f < length file.homs) where
    abbrev from : ℕ
    from = (source_of file f)

    abbrev to : ℕ
    to = (target_of file f)

    atom_under : (a : Atom) → atom_value to (put_before f a) ≡ map_at u f from to (fits.maps f l) (atom_value from a)
    atom_under a = same u to (atom_value to (put_before f a)) (map_at u f from to (fits.maps f l) (atom_value from a))
        (path_value-hom to f a.path a.var l refl)

    mono_under_value : (m : Monomial) →
        monomial_value to (mono_under f m) ≡ map_at u f from to (fits.maps f l) (monomial_value from m)
    mono_under_value m =
        image-mono_value (morphism_at u f from to (fits.maps f l)) atom_anti (put_before f) (atom_value from)
        (atom_value to) atom_under m

    pub poly_under_value : (p : Polynomial) →
        value_at to (poly_under f p) ≡ map_at u f from to (fits.maps f l) (value_at from p)
    poly_under_value p =
        image-poly_value (morphism_at u f from to (fits.maps f l)) falling_anti integer_laws (numbering_at u to)
        (map_int u f from to (fits.maps f l)) (mono_under f) (monomial_value from) (monomial_value to)
        mono_under_value p
