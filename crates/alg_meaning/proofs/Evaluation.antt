-- The value of a polynomial in a commutative semiring.
use Rattle.std.specs.Prelude.{◌≡◌, ℕ, zero, suc, List, [], ◌∷◌, ◌++◌, ℤ}
use Rattle.std.proofs.Common.{refl, sym, ap, ◌∙◌}
use Rattle.std.specs.declared.cmp.Ordering.{Ordering}
use Rattle.std.specs.FinMap.{IsAntisymmetric}
use Rattle.alg_mono.specs.FiniteMaps.{total, collect, renamed}
use Rattle.alg_mono.specs.Numbers.{Numbers, exponents}
use Rattle.alg_mono.specs.Monomials.{mono_times}
use Rattle.alg_mono.specs.Polynomials.{poly_plus, poly_times, poly_term, poly_power, poly_neg}
use Rattle.alg_mono.proofs.Totals.{IsAdditive, total_cong, total-collect, total-append, total-image, total-renamed, idr, left_comm}
use Rattle.alg_mono.proofs.Numbers.{IsNumbers, exponent_laws}
use Rattle.alg_mono.proofs.Polynomials.{total-poly_plus, total-poly_times}
use Rattle.alg_meaning.proofs.Rings.{IsSemiring, IsRing, int_value, power, power-add, iv-neg, opp_none, opp_plus, opp_times}

pub record Semiring (B : Type 0) : Type 0 where
  pub none : B
  pub one : B
  pub plus : B → B → B
  pub times : B → B → B
  pub laws : IsSemiring none one plus times

-- how integer_laws stand for elements
pub record IsNumbering {A B : Type 0} (C : Numbers A) (R : Semiring B) (number : A → B) : Type 0 where
  pub at_none : number C.amounts.none ≡ R.none
  pub at_one : number C.one ≡ R.one
  pub at_plus : (a b : A) → number (C.amounts.plus a b) ≡ R.plus (number a) (number b)
  pub at_mul : (a b : A) → number (C.mul a b) ≡ R.times (number a) (number b)

pub record IsMorphism {B D : Type 0} (R : Semiring B) (S : Semiring D) (h : B → D) : Type 0 where
  pub at_none : h R.none ≡ S.none
  pub at_one : h R.one ≡ S.one
  pub at_plus : (x y : B) → h (R.plus x y) ≡ S.plus (h x) (h y)
  pub at_times : (x y : B) → h (R.times x y) ≡ S.times (h x) (h y)

module _ {K B : Type 0} (R : Semiring B) (v : K → B) where
  abbrev pub factor_value : K → ℕ → B
  factor_value k e = power R.one R.times (v k) e

  abbrev pub mono_value : List (K × ℕ) → B
  mono_value m = total R.one R.times factor_value m

  pub factors_add : IsAdditive exponents R.one R.times factor_value
  factors_add = record { at_none = λ k. refl; at_plus = λ k a b. power-add R.laws.product (v k) a b }

  pub mono_value-times : {cmp : K → K → Ordering} → IsAntisymmetric cmp → (m n : List (K × ℕ)) →
      mono_value (mono_times cmp m n) ≡ R.times (mono_value m) (mono_value n)
  mono_value-times anti m n =
      total-collect exponent_laws anti R.laws.product factors_add (m ++ n)
      ∙ total-append R.laws.product factor_value m n

module _ {M A B : Type 0} (R : Semiring B) (number : A → B) (v : M → B) where
  abbrev pub entry_value : M → A → B
  entry_value m c = R.times (number c) (v m)

  abbrev pub poly_value : List (M × A) → B
  poly_value p = total R.none R.plus entry_value p

module _ {B : Type 0} (R : Semiring B) where
  pub dist_right : (x y z : B) → R.times (R.plus x y) z ≡ R.plus (R.times x z) (R.times y z)
  dist_right x y z =
      R.laws.product.comm (R.plus x y) z ∙ R.laws.dist z x y
      ∙ (λ i. R.plus (R.laws.product.comm z x i) (R.laws.product.comm z y i))

  times_none : (x : B) → R.times x R.none ≡ R.none
  times_none x = R.laws.product.comm x R.none ∙ R.laws.none_times x

  pub pair_up : (a b x y : B) → R.times (R.times a b) (R.times x y) ≡ R.times (R.times a x) (R.times b y)
  pair_up a b x y = simp (R.laws.product.assoc, left_comm R.laws.product)

  total-times : {K A : Type 0} (x : B) (g : K → A → B) (es : List (K × A)) →
      total R.none R.plus (λ k a. R.times x (g k a)) es ≡ R.times x (total R.none R.plus g es)
  total-times x g [] = sym (times_none x)
  total-times x g (e ∷ es) =
      ap (R.plus (R.times x (g e.0 e.1))) (total-times x g es)
      ∙ sym (R.laws.dist x (g e.0 e.1) (total R.none R.plus g es))

  total-times_right : {K A : Type 0} (x : B) (g : K → A → B) (es : List (K × A)) →
      total R.none R.plus (λ k a. R.times (g k a) x) es ≡ R.times (total R.none R.plus g es) x
  total-times_right x g [] = sym (R.laws.none_times x)
  total-times_right x g (e ∷ es) =
      ap (R.plus (R.times (g e.0 e.1) x)) (total-times_right x g es)
      ∙ sym (dist_right (g e.0 e.1) (total R.none R.plus g es) x)

module _ {M A B : Type 0} {cmp : M → M →
    Ordering} (anti : IsAntisymmetric cmp) {C : Numbers A} (L : IsNumbers C) {R : Semiring B} {number : A →
    B} (N : IsNumbering C R number) (v : M → B) where
  entries_add : IsAdditive C.amounts R.none R.plus (entry_value R number v)
  entries_add = record {
    at_none = λ m. ap (λ x. R.times x (v m)) N.at_none ∙ R.laws.none_times (v m);
    at_plus = λ m a b. ap (λ x. R.times x (v m)) (N.at_plus a b) ∙ dist_right R (number a) (number b) (v m);
  }

  pub poly_value-collect : (p : List (M × A)) →
      poly_value R number v (collect cmp C.amounts p) ≡ poly_value R number v p
  poly_value-collect p = total-collect L.amounts anti R.laws.sum entries_add p

  pub poly_value-plus : (p q : List (M × A)) →
      poly_value R number v (poly_plus cmp C p q) ≡ R.plus (poly_value R number v p) (poly_value R number v q)
  poly_value-plus p q = total-poly_plus L anti R.laws.sum entries_add p q

  pub poly_value-term : (m : M) (c : A) → poly_value R number v (poly_term cmp C m c) ≡ R.times (number c) (v m)
  poly_value-term m c = poly_value-collect ((m, c) ∷ []) ∙ idr R.laws.sum (R.times (number c) (v m))

  module _ (mul : M → M → M) (v_mul : (m n : M) → v (mul m n) ≡ R.times (v m) (v n)) where
    pub poly_value-times : (p q : List (M × A)) →
        poly_value R number v (poly_times cmp C mul p q) ≡ R.times (poly_value R number v p) (poly_value R number v q)
    poly_value-times p q =
        let t = entry_value R number v in
        total-poly_times L anti R.laws.sum entries_add mul p q
        ∙ total_cong R.none R.plus (λ m c. total_cong R.none R.plus (λ n d.
        (λ i. R.times (N.at_mul c d i) (v_mul m n i)) ∙ pair_up R (number c) (number d) (v m) (v n)) q
        ∙ total-times R (t m c) t q) p
        ∙ total-times_right R (poly_value R number v q) t p

    pub poly_value-power : (one : M) → v one ≡ R.one → (p : List (M × A)) (n : ℕ) →
        poly_value R number v (poly_power cmp C one mul p n) ≡ power R.one R.times (poly_value R number v p) n
    poly_value-power one v_one p zero =
        poly_value-term one C.one ∙ (λ i. R.times (N.at_one i) (v_one i)) ∙ R.laws.product.idl R.one
    poly_value-power one v_one p (suc n) =
        poly_value-times p (poly_power cmp C one mul p n)
        ∙ ap (R.times (poly_value R number v p)) (poly_value-power one v_one p n)

-- the opposite, in a ring
module _ {M B : Type 0} (R : Semiring B) (opp : B → B) (G : IsRing R.none R.one R.plus R.times opp) (v : M → B) where
  pub poly_value-neg : (p : List (M × ℤ)) →
      poly_value R (int_value R.none R.one R.plus opp) v (poly_neg p) ≡
      opp (poly_value R (int_value R.none R.one R.plus opp) v p)
  poly_value-neg [] = sym (opp_none G)
  poly_value-neg (e ∷ p) =
      let i = int_value R.none R.one R.plus opp in
      (λ k. R.plus ((ap (λ x. R.times x (v e.0)) (iv-neg G e.1) ∙ opp_times G (i e.1) (v e.0)) k) (poly_value-neg p k))
      ∙ sym (opp_plus G (R.times (i e.1) (v e.0)) (poly_value R i v p))

-- a map that keeps sums takes the value of a polynomial to that of the polynomial with other monomials, where it takes
-- the values of the monomials there
module _ {B D M N A : Type 0} (R : Semiring B) {S : Semiring D} {cmp : N → N →
    Ordering} (anti : IsAntisymmetric cmp) {C : Numbers A} (L : IsNumbers C) (nr : A → B) {ns : A →
    D} (T : IsNumbering C S ns) where
  pub additive-poly_value : (h : B → D) → h R.none ≡ S.none → ((x y : B) → h (R.plus x y) ≡ S.plus (h x) (h y)) →
      ((c : A) (x : B) → h (R.times (nr c) x) ≡ S.times (ns c) (h x)) →
      (f : M → N) (v : M → B) (w : N → D) → ((m : M) → w (f m) ≡ h (v m)) → (p : List (M × A)) →
      poly_value S ns w (collect cmp C.amounts (renamed f p)) ≡ h (poly_value R nr v p)
  additive-poly_value h hn hp hs f v w is p =
      poly_value-collect anti L T w (renamed f p)
      ∙ total-renamed f S.none S.plus (entry_value S ns w) p
      ∙ total_cong S.none S.plus (λ m c. ap (S.times (ns c)) (is m) ∙ sym (hs c (v m))) p
      ∙ sym (total-image R.none R.plus S.none S.plus h hn hp (entry_value R nr v) p)

-- the value of a renamed polynomial is the image of the value
module _ {B D : Type 0} {R : Semiring B} {S : Semiring D} {h : B → D} (H : IsMorphism R S h) where
  pub image-power : (x : B) (n : ℕ) → h (power R.one R.times x n) ≡ power S.one S.times (h x) n
  image-power x zero = H.at_one
  image-power x (suc n) = H.at_times x (power R.one R.times x n) ∙ ap (S.times (h x)) (image-power x n)

  pub image-mono_value : {K L : Type 0} {cmp : L → L → Ordering} → IsAntisymmetric cmp →
      (f : K → L) (v : K → B) (w : L → D) → ((k : K) → w (f k) ≡ h (v k)) →
      (m : List (K × ℕ)) → mono_value S w (collect cmp exponents (renamed f m)) ≡ h (mono_value R v m)
  image-mono_value anti f v w is m =
      total-collect exponent_laws anti S.laws.product (factors_add S w) (renamed f m)
      ∙ total-renamed f S.one S.times (factor_value S w) m
      ∙ total_cong S.one S.times (λ k e. ap (λ x. power S.one S.times x e) (is k) ∙ sym (image-power (v k) e)) m
      ∙ sym (total-image R.one R.times S.one S.times h H.at_one H.at_times (factor_value R v) m)

  pub image-poly_value : {M N A : Type 0} {cmp : N → N → Ordering} → IsAntisymmetric cmp → {C : Numbers A} →
      IsNumbers C → {nr : A → B} {ns : A → D} → IsNumbering C S ns → ((c : A) → h (nr c) ≡ ns c) →
      (f : M → N) (v : M → B) (w : N → D) → ((m : M) → w (f m) ≡ h (v m)) → (p : List (M × A)) →
      poly_value S ns w (collect cmp C.amounts (renamed f p)) ≡ h (poly_value R nr v p)
  image-poly_value anti L {nr = nr} {ns = ns} N hn f v w is p =
      additive-poly_value R anti L nr N h H.at_none H.at_plus (λ c x. H.at_times (nr c) x
      ∙ ap (λ y. S.times y (h x)) (hn c)) f v w is p
