-- The laws of sums and products of polynomials over any monomials and any numbers.
use Rattle.std.specs.Prelude.{◌≡◌, List, [], ◌++◌}
use Rattle.std.proofs.Common.{sym, ap, ◌∙◌}
use Rattle.std.specs.declared.cmp.Ordering.{Ordering}
use Rattle.std.specs.Cmp.{IsTotalOrder}
use Rattle.std.specs.FinMap.{IsAntisymmetric}
use Rattle.alg_mono.specs.FiniteMaps.{at_key, IsCanonical, total, products}
use Rattle.alg_mono.specs.Numbers.{Numbers}
use Rattle.alg_mono.specs.Polynomials.{poly_plus, poly_times}
use Rattle.alg_mono.proofs.Totals.{IsSum, IsAdditive, total_cong, total-collect, total-append, total-plus, total-none, total-swap, total-products}
use Rattle.alg_mono.proofs.Numbers.{IsNumbers}
use Rattle.alg_mono.proofs.Canonical.{collect_same, collect-canonical, at_key_adds}

module _ {A : Type 0} {C : Numbers A} (N : IsNumbers C) where
  pub mul_none : (a : A) → C.mul a C.amounts.none ≡ C.amounts.none
  mul_none a = N.comm a C.amounts.none ∙ N.none_mul a

  pub dist_right : (a b c : A) → C.mul (C.amounts.plus a b) c ≡ C.amounts.plus (C.mul a c) (C.mul b c)
  dist_right a b c = N.comm (C.amounts.plus a b) c ∙ N.dist c a b ∙ (λ i. C.amounts.plus (N.comm c a i) (N.comm c b i))

module _ {M A B : Type 0} {C : Numbers A} (N : IsNumbers C) {none : B} {plus : B → B →
    B} (S : IsSum none plus) (times : M → M → M) {g : M → A → B} (G : IsAdditive C.amounts none plus g) where
  -- what g sums up to over a product with q on the right, or with one entry on the left
  pub right_adds : (q : List (M × A)) →
      IsAdditive C.amounts none plus (λ m c. total none plus (λ n d. g (times m n) (C.mul c d)) q)
  right_adds q = record {
    at_none =
        λ m. total_cong none plus (λ n d. ap (g (times m n)) (N.none_mul d) ∙ G.at_none (times m n)) q ∙ total-none S q;
    at_plus =
        λ m a b. total_cong none plus (λ n d. ap (g (times m n)) (dist_right N a b d)
        ∙ G.at_plus (times m n) (C.mul a d) (C.mul b d)) q
        ∙ total-plus S (λ n d. g (times m n) (C.mul a d)) (λ n d. g (times m n) (C.mul b d)) q;
  }

  pub one_adds : (m : M) (c : A) → IsAdditive C.amounts none plus (λ n d. g (times m n) (C.mul c d))
  one_adds m c = record {
    at_none = λ n. ap (g (times m n)) (mul_none N c) ∙ G.at_none (times m n);
    at_plus = λ n a b. ap (g (times m n)) (N.dist c a b) ∙ G.at_plus (times m n) (C.mul c a) (C.mul c b);
  }

module _ {M A B : Type 0} {cmp : M → M →
    Ordering} {C : Numbers A} (N : IsNumbers C) (anti : IsAntisymmetric cmp) {none : B} {plus : B → B →
    B} (S : IsSum none plus) {g : M → A → B} (G : IsAdditive C.amounts none plus g) where
  -- the sum over a sum, and over a product
  pub total-poly_plus : (p q : List (M × A)) →
      total none plus g (poly_plus cmp C p q) ≡ plus (total none plus g p) (total none plus g q)
  total-poly_plus p q = total-collect N.amounts anti S G (p ++ q) ∙ total-append S g p q

  pub total-poly_times : (times : M → M → M) (p q : List (M × A)) →
      total none plus g (poly_times cmp C times p q) ≡
      total none plus (λ m c. total none plus (λ n d. g (times m n) (C.mul c d)) q) p
  total-poly_times times p q =
      total-collect N.amounts anti S G (products times C.mul p q) ∙ total-products times C.mul S g p q

module _ {M A : Type 0} {cmp : M → M →
    Ordering} {C : Numbers A} (N : IsNumbers C) (o : IsTotalOrder cmp) (anti : IsAntisymmetric cmp) where
  abbrev Tot : (M → A → A) → List (M × A) → A
  Tot g es = total C.amounts.none C.amounts.plus g es

  pub plus_comm : (p q : List (M × A)) → poly_plus cmp C p q ≡ poly_plus cmp C q p
  plus_comm p q = collect_same N.amounts o anti (p ++ q) (q ++ p) (λ k.
      let g = at_key cmp C.amounts k in
      total-append N.amounts.laws g p q ∙ N.amounts.laws.comm (Tot g p) (Tot g q)
      ∙ sym (total-append N.amounts.laws g q p))

  pub plus_assoc : (p q r : List (M × A)) →
      poly_plus cmp C (poly_plus cmp C p q) r ≡ poly_plus cmp C p (poly_plus cmp C q r)
  plus_assoc p q r = collect_same N.amounts o anti (poly_plus cmp C p q ++ r) (p ++ poly_plus cmp C q r) (λ k.
      let g = at_key cmp C.amounts k in
      let G = at_key_adds {cmp = cmp} N.amounts o anti k in
      total-append N.amounts.laws g (poly_plus cmp C p q) r
      ∙ ap (λ x. C.amounts.plus x (Tot g r)) (total-poly_plus N anti N.amounts.laws G p q)
      ∙ N.amounts.laws.assoc (Tot g p) (Tot g q) (Tot g r)
      ∙ sym (total-append N.amounts.laws g p (poly_plus cmp C q r)
      ∙ ap (λ x. C.amounts.plus (Tot g p) x) (total-poly_plus N anti N.amounts.laws G q r)))

  pub zero_plus : (p : List (M × A)) → IsCanonical cmp C.amounts p → poly_plus cmp C [] p ≡ p
  zero_plus p c = collect-canonical N.amounts o anti p c

  module _ (times : M → M → M) where
    pub times_poly_comm : (times_comm : (m n : M) → times m n ≡ times n m) (p q : List (M × A)) →
        poly_times cmp C times p q ≡ poly_times cmp C times q p
    times_poly_comm times_comm p q =
        collect_same N.amounts o anti (products times C.mul p q) (products times C.mul q p) (λ k.
        let g = at_key cmp C.amounts k in
        total-products times C.mul N.amounts.laws g p q
        ∙ total-swap N.amounts.laws (λ m c n d. g (times m n) (C.mul c d)) p q
        ∙ total_cong C.amounts.none C.amounts.plus
        (λ n d. total_cong C.amounts.none C.amounts.plus (λ m c i. g (times_comm m n i) (N.comm c d i)) p) q
        ∙ sym (total-products times C.mul N.amounts.laws g q p))

    pub times_poly_assoc : (times_assoc : (m n k : M) →
        times (times m n) k ≡ times m (times n k)) (p q r : List (M × A)) →
        poly_times cmp C times (poly_times cmp C times p q) r ≡ poly_times cmp C times p (poly_times cmp C times q r)
    times_poly_assoc times_assoc p q r =
        collect_same N.amounts o anti (products times C.mul (poly_times cmp C times p q) r)
        (products times C.mul p (poly_times cmp C times q r)) (λ k.
        let g = at_key cmp C.amounts k in
        let G = at_key_adds {cmp = cmp} N.amounts o anti k in
        total-products times C.mul N.amounts.laws g (poly_times cmp C times p q) r
        ∙ total-poly_times N anti N.amounts.laws (right_adds N N.amounts.laws times G r) times p q
        ∙ total_cong C.amounts.none C.amounts.plus
        (λ m c. total_cong C.amounts.none C.amounts.plus
        (λ n d. total_cong C.amounts.none C.amounts.plus (λ l e i. g (times_assoc m n l i) (N.assoc c d e i)) r) q
        ∙ sym (total-poly_times N anti N.amounts.laws (one_adds N N.amounts.laws times G m c) times q r)) p
        ∙ sym (total-products times C.mul N.amounts.laws g p (poly_times cmp C times q r)))

    pub times_plus : (p q r : List (M × A)) →
        poly_times cmp C times p (poly_plus cmp C q r) ≡
        poly_plus cmp C (poly_times cmp C times p q) (poly_times cmp C times p r)
    times_plus p q r =
        collect_same N.amounts o anti (products times C.mul p (poly_plus cmp C q r))
        (poly_times cmp C times p q ++ poly_times cmp C times p r) (λ k.
        let g = at_key cmp C.amounts k in
        let G = at_key_adds {cmp = cmp} N.amounts o anti k in
        total-products times C.mul N.amounts.laws g p (poly_plus cmp C q r)
        ∙ total_cong C.amounts.none C.amounts.plus
        (λ m c. total-poly_plus N anti N.amounts.laws (one_adds N N.amounts.laws times G m c) q r) p
        ∙ total-plus N.amounts.laws (λ m c. Tot (λ n d. g (times m n) (C.mul c d)) q)
        (λ m c. Tot (λ n d. g (times m n) (C.mul c d)) r) p
        ∙ sym (total-append N.amounts.laws g (poly_times cmp C times p q) (poly_times cmp C times p r)
        ∙ (λ i. C.amounts.plus (total-poly_times N anti N.amounts.laws G times p q i)
        (total-poly_times N anti N.amounts.laws G times p r i))))
