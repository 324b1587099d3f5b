-- A sum of basis lines times a monomial, and from S-polynomials to all products with one lead.
use Rattle.std.specs.Prelude.{◌≡◌, cond, List, [], ◌∷◌, ◌++◌, ℤ, pos, ◌+ℤ◌, ◌*ℤ◌}
use Rattle.std.proofs.Common.{refl, sym, ap, subst, ◌∙◌}
use lib.IntN.{neg_ℤ, zero-*ℤ}
use Rattle.std.specs.declared.cmp.Ordering.{Ordering}
use Rattle.std.specs.declared.cmp.Ordering.TheVariants.{Less}
use Rattle.std.specs.Ordering.{eq_by_cmp}
use Rattle.std.specs.Cmp.{IsTotalOrder}
use Rattle.std.specs.FinMap.{IsAntisymmetric}
use Rattle.alg_mono.specs.FiniteMaps.{amount, row, total, at_key}
use Rattle.alg_mono.specs.Numbers.{integers}
use Rattle.alg_mono.proofs.Canonical.{at_key_adds, amount-total, collect_same}
use Rattle.alg_mono.proofs.Numbers.{*ℤ_comm, *ℤ_dist, one-*ℤ, integer_sum, integer_laws}
use Rattle.alg_mono.proofs.Polynomials.{one_adds}
use Rattle.alg_mono.proofs.Totals.{IsAdditive, total-collect}
use Rattle.alg_criterion.proofs.Spans.{Every, Led, whole, Summand, summed, top, Under, IsLine, IsGood, Spans, crossed, ArePairsBelow, ArePairsBelowLcm, lcm_of}
use Rattle.alg_criterion.proofs.Machine.{scale}
use Rattle.alg_criterion.proofs.Rows.{at_times}

module _ {M : Type 0} (cmp : M → M → Ordering) where
  pub at-scale : (q : M) (c : ℤ) (p : List (M × ℤ)) → amount cmp integers.amounts q (scale c p) ≡
      c *ℤ amount cmp integers.amounts q p
  at-scale q c [] = sym (*ℤ_comm c (pos 0) ∙ zero-*ℤ c)
  at-scale q c (e ∷ p) = (λ i. at_times cmp (eq_by_cmp cmp q e.0) c e.1 i +ℤ at-scale q c p i)
      ∙ sym (*ℤ_dist c (cond (eq_by_cmp cmp q e.0) e.1 (pos 0)) (amount cmp integers.amounts q p))

module _ {M : Type 0} {cmp : M → M → Ordering} (o : IsTotalOrder cmp) (anti : IsAntisymmetric cmp) where
  -- where two lists have the same amounts, they have the same sums
  pub same_total : (p r : List (M × ℤ)) → ((q : M) → amount cmp integers.amounts q p ≡
      amount cmp integers.amounts q r) → (g : M → ℤ → ℤ) → IsAdditive integers.amounts (pos 0) ◌+ℤ◌ g →
      total (pos 0) ◌+ℤ◌ g p ≡ total (pos 0) ◌+ℤ◌ g r
  same_total p r same g G =
      sym (total-collect integer_laws.amounts anti integer_sum G p)
      ∙ ap (total (pos 0) ◌+ℤ◌ g) (collect_same integer_laws.amounts o anti p r
      (λ q. sym (amount-total integer_laws.amounts o anti q p) ∙ same q
      ∙ amount-total integer_laws.amounts o anti q r))
      ∙ total-collect integer_laws.amounts anti integer_sum G r

  module _ (times : M → M → M) where
    row_total : (q u : M) (c : ℤ) (p : List (M × ℤ)) → amount cmp integers.amounts q (row times ◌*ℤ◌ u c p) ≡
        total (pos 0) ◌+ℤ◌ (λ n d. at_key cmp integers.amounts q (times u n) (c *ℤ d)) p
    row_total q u c [] = refl
    row_total q u c (e ∷ p) = ap (λ x. cond (eq_by_cmp cmp q (times u e.0)) (c *ℤ e.1) (pos 0) +ℤ x) (row_total q u c p)

    pub same_rows : (p r : List (M × ℤ)) → ((q : M) → amount cmp integers.amounts q p ≡
        amount cmp integers.amounts q r) → (u : M) (c : ℤ) (q : M) →
        amount cmp integers.amounts q (row times ◌*ℤ◌ u c p) ≡ amount cmp integers.amounts q (row times ◌*ℤ◌ u c r)
    same_rows p r same u c q =
        row_total q u c p ∙ same_total p r same (λ n d. at_key cmp integers.amounts q (times u n) (c *ℤ d))
        (one_adds integer_laws integer_sum times (at_key_adds {cmp = cmp} integer_laws.amounts o anti q) u c)
        ∙ sym (row_total q u c r)

module _ {M : Type 0} (times : M → M → M) where
  -- each multiplier times u
  abbrev pub lifted : M → List (Summand M) → List (Summand M)
  lifted u [] = []
  lifted u (t ∷ ts) = record t { by = times u t.by } ∷ lifted u ts

  row-append : (u : M) (c : ℤ) (p r : List (M × ℤ)) → row times ◌*ℤ◌ u c (p ++ r) ≡ row times ◌*ℤ◌ u c p
      ++ row times ◌*ℤ◌ u c r
  row-append u c [] r = refl
  row-append u c (e ∷ p) r = ap (λ x. (times u e.0, c *ℤ e.1) ∷ x) (row-append u c p r)

  module _ (times_assoc : (m n k : M) → times (times m n) k ≡ times m (times n k)) where
    row-row : (u m : M) (c : ℤ) (p : List (M × ℤ)) → row times ◌*ℤ◌ u (pos 1) (row times ◌*ℤ◌ m c p) ≡
        row times ◌*ℤ◌ (times u m) c p
    row-row u m c [] = refl
    row-row u m c (e ∷ p) = λ i. (sym (times_assoc u m e.0) i, one-*ℤ (c *ℤ e.1) i) ∷ row-row u m c p i

    row-summed : (u : M) (ts : List (Summand M)) → row times ◌*ℤ◌ u (pos 1) (summed times ts) ≡
        summed times (lifted u ts)
    row-summed u [] = refl
    row-summed u (t ∷ ts) = row-append u (pos 1) (row times ◌*ℤ◌ t.by t.factor (whole t.line)) (summed times ts)
        ∙ (λ i. row-row u t.by t.factor (whole t.line) i ++ row-summed u ts i)

    row-crossed : (u m n : M) (a b : ℤ) (p r : List (M × ℤ)) →
        row times ◌*ℤ◌ u (pos 1) (row times ◌*ℤ◌ m a p ++ row times ◌*ℤ◌ n b r) ≡ row times ◌*ℤ◌ (times u m) a p
        ++ row times ◌*ℤ◌ (times u n) b r
    row-crossed u m n a b p r = row-append u (pos 1) (row times ◌*ℤ◌ m a p) (row times ◌*ℤ◌ n b r)
        ∙ (λ i. row-row u m a p i ++ row-row u n b r i)

module _ {M : Type 0} {cmp : M → M → Ordering} (o : IsTotalOrder cmp) (anti : IsAntisymmetric cmp) (times : M → M →
    M) (times_comm : (m n : M) → times m n ≡ times n m) (times_assoc : (m n k : M) →
    times (times m n) k ≡ times m (times n k))
    (Ok : M → Type 0) (keeps : (m n k : M) → Ok m → Ok n → cmp m n ≡ Less → cmp (times m k) (times n k) ≡ Less)
    (ok_times : (m n : M) → Ok m → Ok n → Ok (times m n))
    (In : Led M → Type 0) (line : (l : Led M) → In l → IsLine cmp times Ok l) where
  good-lifted : (u w : M) → Ok u → Ok w → (ts : List (Summand M)) →
      Every (IsGood cmp times Ok In (Under cmp times Ok w)) ts →
      Every (IsGood cmp times Ok In (Under cmp times Ok (times u w))) (lifted times u ts)
  good-lifted u w hu hw [] g = tt
  good-lifted u w hu hw (t ∷ ts) g = (
    record {
      ok = ok_times u t.by hu g.0.ok;
      member = g.0.member;
      low = (λ i. cmp (times_comm u w i) ((times_assoc u t.by t.line.lead ∙ times_comm u (top times t)) i))
          ∙ keeps w (top times t) u hw (ok_times t.by t.line.lead g.0.ok ((line t.line g.0.member).ok.0)) g.0.low;
    },
    good-lifted u w hu hw ts g.1,
  )

  -- a sum of basis lines, times u
  pub row_same : (Low : M → Type 0) (u : M) (p : List (M × ℤ)) (s : Spans cmp times Ok In Low p) (q : M) →
      s.multiple *ℤ amount cmp integers.amounts q (row times ◌*ℤ◌ u (pos 1) p) ≡
      amount cmp integers.amounts q (summed times (lifted times u s.terms))
  row_same Low u p s q =
      sym (ap (amount cmp integers.amounts q) (row_scale u s.multiple p)
      ∙ at-scale cmp q s.multiple (row times ◌*ℤ◌ u (pos 1) p))
      ∙ same_rows o anti times (scale s.multiple p) (summed times s.terms) (λ k. at-scale cmp k s.multiple p
      ∙ s.same k) u (pos 1) q
      ∙ ap (amount cmp integers.amounts q) (row-summed times times_assoc u s.terms)
    where
      row_scale : (u : M) (c : ℤ) (p : List (M × ℤ)) → row times ◌*ℤ◌ u (pos 1) (scale c p) ≡
          scale c (row times ◌*ℤ◌ u (pos 1) p)
      row_scale u c [] = refl
      row_scale u c (e ∷ p) = λ i. (times u e.0, (one-*ℤ (c *ℤ e.1) ∙ ap (λ x. c *ℤ x) (sym (one-*ℤ e.1))) i)
          ∷ row_scale u c p i

  -- a sum below w, times u, is a sum below u*w
  pub Spans-row : (u w : M) → Ok u → Ok w → (p : List (M × ℤ)) → Spans cmp times Ok In (Under cmp times Ok w) p →
      Spans cmp times Ok In (Under cmp times Ok (times u w)) (row times ◌*ℤ◌ u (pos 1) p)
  Spans-row u w hu hw p s = record {
    multiple = s.multiple;
    some = s.some;
    terms = lifted times u s.terms;
    good =
        good-lifted u w hu hw s.terms s.good;
    same = row_same (Under cmp times Ok w) u p s;
  }

  module _ (over : M → M → M) (ok_over : (m n : M) → Ok m → Ok n → Ok (over m n))
      (lcm_least : (f g m n : M) → Ok f → Ok g → Ok m → Ok n → times m f ≡ times n g →
      (u : M) × Ok u × (m ≡ times u (over g f)) × (n ≡ times u (over f g))) where
    -- what holds of the S-polynomials holds of all products with one lead
    pub from_lcm : ArePairsBelowLcm cmp times Ok In over → ArePairsBelow cmp times Ok In
    from_lcm below f g hf hg m n hm hn e =
        let of = (line f hf).ok.0 in
        let og = (line g hg).ok.0 in
        let l = lcm_least f.lead g.lead m n of og hm hn e in
        let a = over g.lead f.lead in
        let b = over f.lead g.lead in
        let w = lcm_of cmp times Ok In over f g in
        let s = Spans-row l.0 w l.1 (ok_times a f.lead (ok_over g.lead f.lead og of) of)
        (crossed cmp times Ok In f g a b) (below f g hf hg) in
        let s1 : Spans cmp times Ok In (Under cmp times Ok (times l.0 w))
        (crossed cmp times Ok In f g (times l.0 a) (times l.0 b)) =
        subst (λ p. Spans cmp times Ok In (Under cmp times Ok (times l.0 w)) p)
        (row-crossed times times_assoc l.0 a b g.leading (neg_ℤ f.leading) (whole f) (whole g)) s in
        let s2 : Spans cmp times Ok In (Under cmp times Ok (times m f.lead))
        (crossed cmp times Ok In f g (times l.0 a) (times l.0 b)) =
        subst (λ v. Spans cmp times Ok In (Under cmp times Ok v)
        (crossed cmp times Ok In f g (times l.0 a) (times l.0 b))) (sym (times_assoc l.0 a f.lead)
        ∙ ap (λ x. times x f.lead) (sym l.2)) s1 in
        subst (λ x. Spans cmp times Ok In (Under cmp times Ok (times m f.lead)) (crossed cmp times Ok In f g m x))
        (sym l.3)
        (subst (λ x. Spans cmp times Ok In (Under cmp times Ok (times m f.lead))
        (crossed cmp times Ok In f g x (times l.0 b))) (sym l.2) s2)
