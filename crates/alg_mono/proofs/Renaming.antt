-- Opposites, the polynomial 1, and what renaming keeps.
use Rattle.std.specs.Prelude.{◌≡◌, true, false, cond, not, List, [], ◌∷◌, ◌++◌, ℤ, pos, ◌+ℤ◌}
use Rattle.std.proofs.Common.{refl, sym, ap, subst, ◌∙◌, T, arith}
use Rattle.std.proofs.lemmas.Int.{ints}
use lib.IntN.{neg_ℤ, +ℤ_invr}
use Rattle.std.specs.declared.cmp.Ordering.{Ordering}
use Rattle.std.specs.Ordering.{eq_by_cmp}
use Rattle.std.specs.Cmp.{IsTotalOrder}
use Rattle.std.specs.FinMap.{IsAntisymmetric}
use Rattle.std.specs.FinMap.Entries.{below_all, is_sorted}
use Rattle.alg_mono.specs.FiniteMaps.{at_key, IsCanonical, all_some, total, collect, products, renamed, Each}
use Rattle.alg_mono.specs.Numbers.{Numbers, integers, is_zero}
use Rattle.alg_mono.specs.Polynomials.{poly_plus, poly_times, poly_neg}
use Rattle.alg_mono.proofs.Totals.{IsSum, IsAdditive, total_cong, total-append, total-collect, total-products, total-renamed}
use Rattle.alg_mono.proofs.Numbers.{IsNumbers, integer_laws, integer_sum, is_zero_only}
use Rattle.alg_mono.proofs.Canonical.{collect_same, collect-canonical, at_key_adds, both, first, second, IsCanonical-collect}
use Rattle.alg_mono.proofs.Polynomials.{right_adds, one_adds, total-poly_times}

-- ---- one
module _ {M A : Type 0} {cmp : M → M →
    Ordering} {C : Numbers A} (N : IsNumbers C) (o : IsTotalOrder cmp) (anti : IsAntisymmetric cmp) (times : M → M →
    M) (one : M) where
  one_row : (p : List (M × A)) → Each (λ m. times one m ≡ m) p → products times C.mul ((one, C.one) ∷ []) p ≡ p
  one_row [] h = refl
  one_row (e ∷ p) h = λ i. (h.0 i, N.idl e.1 i) ∷ one_row p h.1 i

  pub one_times : (p : List (M × A)) → IsCanonical cmp C.amounts p → Each (λ m. times one m ≡ m) p →
      poly_times cmp C times ((one, C.one) ∷ []) p ≡ p
  one_times p c h = ap (collect cmp C.amounts) (one_row p h) ∙ collect-canonical N.amounts o anti p c

-- ---- opposites
zero-neg : (c : ℤ) → neg_ℤ c ≡ pos 0 → c ≡ pos 0
zero-neg c e = omega (arith, ints)

some-neg : (c : ℤ) → T (not (is_zero c)) → T (not (is_zero (neg_ℤ c)))
some-neg c h = elim (is_zero (neg_ℤ c)) as (λ b. is_zero (neg_ℤ c) ≡ b → T (not b)) [
  | true ↦ λ e. subst (λ z. T (not (is_zero z))) (zero-neg c (is_zero_only (neg_ℤ c) e)) h
  | false ↦ λ e. tt
] refl

module _ {M : Type 0} (cmp : M → M → Ordering) where
  below-neg : (k : M) (p : List (M × ℤ)) → T (below_all cmp k p) → T (below_all cmp k (poly_neg p))
  below-neg k [] h = tt
  below-neg k (e ∷ p) h = both _ _ (first _ _ h) (below-neg k p (second _ _ h))

  rises-neg : (p : List (M × ℤ)) → T (is_sorted cmp p) → T (is_sorted cmp (poly_neg p))
  rises-neg [] h = tt
  rises-neg (e ∷ p) h = both _ _ (below-neg e.0 p (first _ _ h)) (rises-neg p (second _ _ h))

  all-neg : (p : List (M × ℤ)) → T (all_some cmp integers.amounts p) → T (all_some cmp integers.amounts (poly_neg p))
  all-neg [] h = tt
  all-neg (e ∷ p) h = both _ _ (some-neg e.1 (first _ _ h)) (all-neg p (second _ _ h))

  pub IsCanonical-neg : (p : List (M × ℤ)) → IsCanonical cmp integers.amounts p →
      IsCanonical cmp integers.amounts (poly_neg p)
  IsCanonical-neg p c = record { rises = rises-neg p c.rises; no_none = all-neg p c.no_none }

module _ {M : Type 0} (g : M → ℤ → ℤ) (odd : (m : M) (c : ℤ) → g m (neg_ℤ c) ≡ neg_ℤ (g m c)) where
  pub total-neg : (p : List (M × ℤ)) → total (pos 0) ◌+ℤ◌ g (poly_neg p) ≡ neg_ℤ (total (pos 0) ◌+ℤ◌ g p)
  total-neg [] = refl
  total-neg (e ∷ p) = (λ i. odd e.0 e.1 i +ℤ total-neg p i) ∙ sym (opposites (g e.0 e.1) (total (pos 0) ◌+ℤ◌ g p))
    where
      opposites : (x y : ℤ) → neg_ℤ (x +ℤ y) ≡ neg_ℤ x +ℤ neg_ℤ y
      opposites x y = omega (arith, ints)

pub at_key-neg : {M : Type 0} (cmp : M → M → Ordering) (k m : M) (c : ℤ) →
    at_key cmp integers.amounts k m (neg_ℤ c) ≡ neg_ℤ (at_key cmp integers.amounts k m c)
at_key-neg cmp k m c =
    elim (eq_by_cmp cmp k m) as (λ b. cond b (neg_ℤ c) (pos 0) ≡ neg_ℤ (cond b c (pos 0)))
    [ true ↦ refl | false ↦ refl ]

module _ {M : Type 0} {cmp : M → M → Ordering} (o : IsTotalOrder cmp) (anti : IsAntisymmetric cmp) where
  pub plus_opposite : (p : List (M × ℤ)) → poly_plus cmp integers p (poly_neg p) ≡ []
  plus_opposite p = collect_same integer_laws.amounts o anti (p ++ poly_neg p) [] (λ k.
      let g = at_key cmp integers.amounts k in
      total-append integer_sum g p (poly_neg p)
      ∙ ap (λ x. total (pos 0) ◌+ℤ◌ g p +ℤ x) (total-neg g (at_key-neg cmp k) p) ∙ +ℤ_invr (total (pos 0) ◌+ℤ◌ g p))

-- ---- renaming
module _ {M L A : Type 0} {cmp : M → M → Ordering} {cml : L → L →
    Ordering} {C : Numbers A} (N : IsNumbers C) (am : IsAntisymmetric cmp) (ol : IsTotalOrder cml)
    (al : IsAntisymmetric cml) (f : M → L) where
  abbrev pub rename : List (M × A) → List (L × A)
  rename p = collect cml C.amounts (renamed f p)

  under_adds : {B : Type 0} {none : B} {plus : B → B → B} {g : L → A → B} → IsAdditive C.amounts none plus g →
      IsAdditive C.amounts none plus (λ m c. g (f m) c)
  under_adds G = record { at_none = λ m. G.at_none (f m); at_plus = λ m a b. G.at_plus (f m) a b }

  total-rename : {B : Type 0} {none : B} {plus : B → B → B} (S : IsSum none plus) {g : L → A → B} →
      IsAdditive C.amounts none plus g → (p : List (M × A)) →
      total none plus g (rename p) ≡ total none plus (λ m c. g (f m) c) p
  total-rename {none = none} {plus = plus} S {g} G p =
      total-collect N.amounts al S G (renamed f p) ∙ total-renamed f none plus g p

  pub rename-plus : (p q : List (M × A)) → rename (poly_plus cmp C p q) ≡ poly_plus cml C (rename p) (rename q)
  rename-plus p q = collect_same N.amounts ol al (renamed f (poly_plus cmp C p q)) (rename p ++ rename q) (λ k.
      let S = N.amounts.laws in
      let g = at_key cml C.amounts k in
      let G = at_key_adds {cmp = cml} N.amounts ol al k in
      total-renamed f C.amounts.none C.amounts.plus g (poly_plus cmp C p q)
      ∙ total-collect N.amounts am S (under_adds G) (p ++ q) ∙ total-append S (λ m c. g (f m) c) p q
      ∙ sym (total-append S g (rename p) (rename q)
      ∙ (λ i. C.amounts.plus (total-rename S G p i) (total-rename S G q i))))

  pub rename-times : (tm : M → M → M) (tl : L → L → L) → ((m n : M) → f (tm m n) ≡ tl (f m) (f n)) →
      (p q : List (M × A)) → rename (poly_times cmp C tm p q) ≡ poly_times cml C tl (rename p) (rename q)
  rename-times tm tl f_times p q =
      collect_same N.amounts ol al (renamed f (poly_times cmp C tm p q)) (products tl C.mul (rename p) (rename q)) (λ k.
      let S = N.amounts.laws in
      let none = C.amounts.none in
      let plus = C.amounts.plus in
      let g = at_key cml C.amounts k in
      let G = at_key_adds {cmp = cml} N.amounts ol al k in
      total-renamed f none plus g (poly_times cmp C tm p q) ∙ total-poly_times N am S (under_adds G) tm p q
      ∙ total_cong none plus (λ m c. total_cong none plus (λ n d. ap (λ l. g l (C.mul c d)) (f_times m n)) q
      ∙ sym (total-rename S (one_adds N S tl G (f m) c) q)) p
      ∙ sym (total-products tl C.mul S g (rename p) (rename q) ∙ total-rename S (right_adds N S tl G (rename q)) p))

module _ {M L : Type 0} {cml : L → L → Ordering} (ol : IsTotalOrder cml) (al : IsAntisymmetric cml) (f : M → L) where
  pub rename-neg : (p : List (M × ℤ)) →
      collect cml integers.amounts (renamed f (poly_neg p)) ≡ poly_neg (collect cml integers.amounts (renamed f p))
  rename-neg p =
      let q = collect cml integers.amounts (renamed f p) in
      collect_same integer_laws.amounts ol al (renamed f (poly_neg p)) (poly_neg q) (λ k.
      let g = at_key cml integers.amounts k in
      let G = at_key_adds {cmp = cml} integer_laws.amounts ol al k in
      total-renamed f (pos 0) ◌+ℤ◌ g (poly_neg p) ∙ total-neg (λ m c. g (f m) c) (λ m c. at_key-neg cml k (f m) c) p
      ∙ sym (total-neg g (at_key-neg cml k) q
      ∙ ap neg_ℤ (total-collect integer_laws.amounts al integer_sum G (renamed f p)
      ∙ total-renamed f (pos 0) ◌+ℤ◌ g p)))
      ∙ collect-canonical integer_laws.amounts ol al (poly_neg q)
      (IsCanonical-neg cml q (IsCanonical-collect integer_laws.amounts ol al (renamed f p)))
