-- A term times the product of its fraction's factors is its fraction's numerator.
use Rattle.std.specs.Prelude.{◌≡◌, ◌<◌, ◌||◌, ℕ, Bool, true, false, List, [], ◌∷◌, length, ℤ, pos, negsuc}
use Rattle.std.proofs.Common.{refl, sym, ap, subst, ◌∙◌, T}
use Rattle.std.specs.Ordering.{eq_by_cmp}
use Rattle.alg_terms.specs.declared.term.Term.{Term, more_of-Term, Var, Int, Neg', Add', Sub', Mul', Div', Pow', Hom'}
use Rattle.alg_terms.specs.declared.file.File.{File}
use Rattle.alg_terms.specs.Members.{source_of, target_of}
use Rattle.alg_terms.specs.Nodes.{fold_term}
use Rattle.alg_universe.specs.declared.universe.Universe.{Ghosts}
use Rattle.alg_universe.specs.Value.{Fits, AreValues}
use Rattle.alg_mono.specs.FiniteMaps.{IsCanonical, collect, renamed}
use Rattle.alg_mono.specs.Numbers.{exponents, integers}
use Rattle.alg_mono.specs.Monomials.{mono_times}
use Rattle.alg_mono.specs.Polynomials.{poly_plus, poly_neg, poly_power}
use Rattle.alg_mono.proofs.Totals.{IsSum, idr, total-image, total_cong}
use Rattle.alg_mono.proofs.Numbers.{integer_laws}
use Rattle.alg_mono.proofs.Canonical.{equal}
use Rattle.alg_mono.proofs.Lcm.{lcm_comm}
use Rattle.alg_meaning.specs.Atoms.{Polynomial, falling, times, times_poly, one_poly, poly_under}
use Rattle.alg_meaning.specs.PolynomialOf.{poly_of}
use Rattle.alg_meaning.specs.Factors.{Factors, poly_cmp, product, lacks, common}
use Rattle.alg_meaning.specs.Fractions.{Fraction, frac, is_unit, quotient}
use Rattle.alg_meaning.specs.Orders.{atom_anti, falling_anti, poly_total, poly_anti}
use Rattle.alg_meaning.proofs.Typed.{IsTyped, HasNoDivision}
use Rattle.alg_meaning.proofs.Rings.{semi, power, opp_times, opp_both}
use Rattle.alg_meaning.proofs.Evaluation.{mono_value, mono_value-times, poly_value-plus, poly_value-term, poly_value-times, poly_value-power, poly_value-neg, image-mono_value}
use Rattle.alg_meaning.proofs.Clearing.{clear_sum, clear_product, clear_quotient, clear_unit, power-product, mono_value-scaled}
use Rattle.alg_meaning.proofs.Carriers.{Carrier, same, one_at, mul_at, add_at, opp_at, ring_at, semi_at, int_at, numbering_at, power_below, map_at, morphism_at}
use Rattle.alg_meaning.proofs.AtomValues.{atom_value, monomial_value, value_at, poly_under_value}
use Rattle.alg_meaning.proofs.TermValues.{term_at, has_value}
use Rattle.alg_meaning.proofs.Equal.{same_value}
use Rattle.alg_meaning.proofs.Denominators.{DividesInFields, NoZeroBelow}
use Rattle.alg_meaning.proofs.FractionLists.{canonical}

abbrev minus_one : Polynomial
minus_one = ([], negsuc 0) ∷ []

module _ {E : Type 0} (u : Ghosts E) {file : File} (fits : Fits u file) {v : List E} (values : AreValues u file v) where
  abbrev pub val : (s : ℕ) → Polynomial → Carrier u s
  val s p = value_at u fits values s p

  -- the value of a product of factors
  abbrev pub factors_at : (s : ℕ) → Factors → Carrier u s
  factors_at s m = mono_value (semi_at u s) (value_at u fits values s) m

  module _ (s : ℕ) where
    abbrev P : IsSum (one_at u s) (mul_at u s)
    P = (semi (ring_at u s)).product

    val-times : (p q : Polynomial) → val s (times_poly p q) ≡ mul_at u s (val s p) (val s q)
    val-times p q =
        poly_value-times falling_anti integer_laws (numbering_at u s) (monomial_value u fits values s) times
        (mono_value-times (semi_at u s) (atom_value u fits values s) atom_anti) p q

    val-power : (p : Polynomial) (n : ℕ) →
        val s (poly_power falling integers [] times p n) ≡ power (one_at u s) (mul_at u s) (val s p) n
    val-power p n =
        poly_value-power falling_anti integer_laws (numbering_at u s) (monomial_value u fits values s) times
        (mono_value-times (semi_at u s) (atom_value u fits values s) atom_anti) [] refl p n

    val-neg : (p : Polynomial) → val s (poly_neg p) ≡ opp_at u s (val s p)
    val-neg p = poly_value-neg (semi_at u s) (opp_at u s) (ring_at u s) (monomial_value u fits values s) p

    val-plus : (p q : Polynomial) → val s (poly_plus falling integers p q) ≡ add_at u s (val s p) (val s q)
    val-plus p q = poly_value-plus falling_anti integer_laws (numbering_at u s) (monomial_value u fits values s) p q

    val-number : (n : ℤ) → mul_at u s (int_at u s n) (one_at u s) ≡ int_at u s n
    val-number n = idr P (int_at u s n)

    val-one : val s one_poly ≡ one_at u s
    val-one =
        poly_value-term falling_anti integer_laws (numbering_at u s) (monomial_value u fits values s) [] (pos 1)
        ∙ val-number (pos 1) ∙ (numbering_at u s).at_one

    val-minus_one : val s minus_one ≡ opp_at u s (one_at u s)
    val-minus_one =
        poly_value-term falling_anti integer_laws (numbering_at u s) (monomial_value u fits values s) [] (negsuc 0)
        ∙ val-number (negsuc 0) ∙ ap (opp_at u s) (numbering_at u s).at_one

    val-product : (m : Factors) → val s (product m) ≡ factors_at s m
    val-product m =
        total-image one_poly times_poly (one_at u s) (mul_at u s) (value_at u fits values s) val-one val-times
        (λ q e. poly_power falling integers [] times q e) m
        ∙ total_cong (one_at u s) (mul_at u s) val-power m

    pub val-over : (p : Polynomial) (m : Factors) →
        val s (times_poly p (product m)) ≡ mul_at u s (val s p) (factors_at s m)
    val-over p m = val-times p (product m) ∙ ap (mul_at u s (val s p)) (val-product m)

    pub factors-times : (a b : Factors) →
        factors_at s (mono_times poly_cmp a b) ≡ mul_at u s (factors_at s a) (factors_at s b)
    factors-times a b = mono_value-times (semi_at u s) (value_at u fits values s) poly_anti a b

    is_polynomial : (p q : Polynomial) → eq_by_cmp poly_cmp p q ≡ true → p ≡ q
    is_polynomial p q h = poly_anti p q (equal _ (subst T (sym h) tt))

    -- 1 and -1 are their own inverses
    pub unit_twice : (p : Polynomial) → is_unit p ≡ true → mul_at u s (val s p) (val s p) ≡ one_at u s
    unit_twice p h =
        elim (eq_by_cmp poly_cmp p one_poly) as (λ b. eq_by_cmp poly_cmp p one_poly ≡ b →
        b || eq_by_cmp poly_cmp p minus_one ≡ true → mul_at u s (val s p) (val s p) ≡ one_at u s) [
          | true ↦ λ e g. let is = ap (value_at u fits values s) (is_polynomial p one_poly e)
              ∙ val-one in (λ i. mul_at u s (is i) (is i)) ∙ P.idl (one_at u s)
          | false ↦ λ e g. let is = ap (value_at u fits values s) (is_polynomial p minus_one g) ∙ val-minus_one in
              (λ i. mul_at u s (is i) (is i)) ∙ opp_both (ring_at u s) (one_at u s) (one_at u s) ∙ P.idl (one_at u s)
        ] refl h

    sum_clear : (x y : Carrier u s) (a b : Fraction) → IsCanonical poly_cmp exponents a.below →
        IsCanonical poly_cmp exponents b.below →
        mul_at u s x (factors_at s a.below) ≡ val s a.top → mul_at u s y (factors_at s b.below) ≡ val s b.top →
        mul_at u s (add_at u s x y) (factors_at s (common a.below b.below)) ≡
        add_at u s (mul_at u s (val s a.top) (factors_at s (lacks a.below b.below)))
        (mul_at u s (val s b.top) (factors_at s (lacks b.below a.below)))
    sum_clear x y a b ca cb e f =
        let la = lacks a.below b.below in
        let lb = lacks b.below a.below in
        ap (mul_at u s (add_at u s x y)) (factors-times a.below la)
        ∙ clear_sum (semi_at u s) x y (factors_at s a.below) (factors_at s b.below) (factors_at s la)
        (factors_at s lb) (val s a.top) (val s b.top) e f
        (sym (factors-times a.below la)
        ∙ ap (λ m. factors_at s m) (lcm_comm poly_total poly_anti a.below b.below ca cb) ∙ factors-times b.below lb)

    quotient_clear : (x y i : Carrier u s) (a b : Fraction) (c : Bool) → is_unit b.top ≡ c →
        mul_at u s x (factors_at s a.below) ≡ val s a.top → mul_at u s y (factors_at s b.below) ≡ val s b.top →
        mul_at u s y i ≡ one_at u s →
        mul_at u s (mul_at u s x i) (factors_at s (quotient c a b).below) ≡ val s (quotient c a b).top
    quotient_clear x y i a b true g e f w =
        clear_unit (semi_at u s) x y i (factors_at s a.below) (factors_at s b.below) (val s a.top) (val s b.top) e f w
        (unit_twice b.top g)
        ∙ sym (val-times (times_poly a.top (product b.below)) b.top
        ∙ ap (λ z. mul_at u s z (val s b.top)) (val-over a.top b.below))
    quotient_clear x y i a b false g e f w =
        ap (mul_at u s (mul_at u s x i)) (factors-times a.below ((b.top, 1) ∷ [])
        ∙ ap (mul_at u s (factors_at s a.below)) (idr P (mul_at u s (val s b.top) (one_at u s))
        ∙ idr P (val s b.top)))
        ∙ clear_quotient (semi_at u s) x y i (factors_at s a.below) (factors_at s b.below) (val s a.top) (val s b.top)
        e f w
        ∙ sym (val-over a.top b.below)

  factors_under : (f : ℕ) (l : f < length file.homs) (m : Factors) →
      factors_at (target_of file f) (collect poly_cmp exponents (renamed (poly_under f) m)) ≡
      map_at u f (source_of file f) (target_of file f) (fits.maps f l) (factors_at (source_of file f) m)
  factors_under f l m =
      let s = (source_of file f) in
      let t = (target_of file f) in
      image-mono_value (morphism_at u f s t (fits.maps f l)) poly_anti (poly_under f) (value_at u fits values s)
      (value_at u fits values t) (poly_under_value u fits values f l) m

  -- the claim: a term times its factors is its numerator
  abbrev pub Clear : (s : ℕ) (t : Term) → IsTyped file s t → Type 0
  Clear s t h = mul_at u s (term_at u fits values s t h) (factors_at s (frac t).below) ≡ val s (frac t).top

  leaf : (s : ℕ) (t : Term) (h : IsTyped file s t) → HasNoDivision t →
      mul_at u s (term_at u fits values s t h) (one_at u s) ≡ val s (poly_of t)
  leaf s t h d =
      idr (semi (ring_at u s)).product (term_at u fits values s t h)
      ∙ same u s (term_at u fits values s t h) (val s (poly_of t)) (sym (same_value u fits values s t h d))

  pub clear : (s : ℕ) (t : Term) (h : IsTyped file s t) → DividesInFields u file s t → NoZeroBelow u file v s t →
      Clear s t h
  unfolding fold_term has_value
  clear s (Var k) h d z = leaf s (Var k) h tt
  clear s (Int n) h d z = leaf s (Int n) h tt
  clear s (Neg' p (more_of-Term t r)) h d z =
      opp_times (ring_at u s) (term_at u fits values s t h) (factors_at s (frac t).below)
      ∙ ap (opp_at u s) (clear s t h d z) ∙ sym (val-neg s (frac t).top)
  clear s (Add' p (more_of-Term t r) p' (more_of-Term t' r')) h d z =
      let a = frac t in
      let b = frac t' in
      sum_clear s (term_at u fits values s t h.0) (term_at u fits values s t' h.1) a b (canonical t) (canonical t')
      (clear s t h.0 d.0 z.0) (clear s t' h.1 d.1 z.1)
      ∙ sym (val-plus s (times_poly a.top (product (lacks a.below b.below)))
      (times_poly b.top (product (lacks b.below a.below)))
      ∙ (λ i. add_at u s (val-over s a.top (lacks a.below b.below) i) (val-over s b.top (lacks b.below a.below) i)))
  clear s (Sub' p (more_of-Term t r) p' (more_of-Term t' r')) h d z =
      let a = frac t in
      let b = frac t' in
      let y = term_at u fits values s t' h.1 in
      let q = times_poly b.top (product (lacks b.below a.below)) in
      sum_clear s (term_at u fits values s t h.0) (opp_at u s y) a (record { top = poly_neg b.top; below = b.below })
      (canonical t) (canonical t') (clear s t h.0 d.0 z.0)
      (opp_times (ring_at u s) y (factors_at s b.below) ∙ ap (opp_at u s) (clear s t' h.1 d.1 z.1)
      ∙ sym (val-neg s b.top))
      ∙ sym (val-plus s (times_poly a.top (product (lacks a.below b.below))) (poly_neg q)
      ∙ (λ i. add_at u s (val-over s a.top (lacks a.below b.below) i)
      ((val-neg s q ∙ ap (opp_at u s) (val-over s b.top (lacks b.below a.below))
      ∙ sym (opp_times (ring_at u s) (val s b.top) (factors_at s (lacks b.below a.below)))
      ∙ ap (λ x. mul_at u s x (factors_at s (lacks b.below a.below))) (sym (val-neg s b.top))) i)))
  clear s (Mul' p (more_of-Term t r) p' (more_of-Term t' r')) h d z =
      let a = frac t in
      let b = frac t' in
      ap (mul_at u s (mul_at u s (term_at u fits values s t h.0) (term_at u fits values s t' h.1)))
      (factors-times s a.below b.below)
      ∙ clear_product (semi_at u s) (term_at u fits values s t h.0) (term_at u fits values s t' h.1)
      (factors_at s a.below) (factors_at s b.below) (val s a.top) (val s b.top) (clear s t h.0 d.0 z.0)
      (clear s t' h.1 d.1 z.1)
      ∙ sym (val-times s a.top b.top)
  clear s (Div' p (more_of-Term t r) p' (more_of-Term t' r')) h d z =
      let y = term_at u fits values s t' h.1 in
      let i : Carrier u s = (u.inv s y.0, u.laws.has_inv s y.0 y.1) in
      quotient_clear s (term_at u fits values s t h.0) y i (frac t) (frac t') (is_unit (frac t').top) refl
      (clear s t h.0 d.1 z.1) (clear s t' h.1 d.2 z.2)
      (same u s (mul_at u s y i) (one_at u s) (u.laws.mul_inv s y.0 d.0 y.1 z.0))
  clear s (Pow' p (more_of-Term t r) n) h d z =
      let a = frac t in
      let x = term_at u fits values s t h in
      (λ i. mul_at u s (same u s (term_at u fits values s (Pow' p (more_of-Term t r) n) h)
      (power (one_at u s) (mul_at u s) x n) (sym (power_below u s x n)) i)
      (mono_value-scaled (semi_at u s) poly_anti (value_at u fits values s) n a.below i))
      ∙ sym (power-product (semi_at u s) x (factors_at s a.below) n)
      ∙ ap (λ y. power (one_at u s) (mul_at u s) y n) (clear s t h d z)
      ∙ sym (val-power s a.top n)
  clear s (Hom' f p (more_of-Term t r)) h d z =
      let a = frac t in
      let from = (source_of file f) in
      let to = (target_of file f) in
      let m = fits.maps f h.0 in
      let x = term_at u fits values from t h.2 in
      let below = collect poly_cmp exponents (renamed (poly_under f) a.below) in
      let at_to : mul_at u to (map_at u f from to m x) (factors_at to below) ≡ val to (poly_under f a.top)
      =
      ap (mul_at u to (map_at u f from to m x)) (factors_under f h.0 a.below)
      ∙ sym ((morphism_at u f from to m).at_times x (factors_at from a.below))
      ∙ ap (map_at u f from to m) (clear from t h.2 d.1 z) ∙ sym (poly_under_value u fits values f h.0 a.top) in
      same u s (mul_at u s (term_at u fits values s (Hom' f p (more_of-Term t r)) h) (factors_at s below))
      (val s (poly_under f a.top))
      (subst (λ w. u.mul w (u.hom f x.0) (factors_at w below).0 ≡ (val w (poly_under f a.top)).0) h.1
      (ap (λ y. y.0) at_to))
