-- A polynomial being worked off: a nonzero integer times it is a nonzero integer times what is left, and a sum of
-- basis lines.
use Rattle.std.specs.Prelude.{◌≡◌, ◌≢◌, cond, not, List, [], ◌∷◌, ℤ, pos, ◌+ℤ◌, ◌*ℤ◌}
use Rattle.std.proofs.Common.{refl, sym, ap, subst, ◌∙◌, T, ◌⊎◌, inl, inr, arith}
use Rattle.std.proofs.lemmas.Int.{ints}
use lib.IntN.{neg_ℤ, +ℤ_idl, +ℤ_idr, zero-*ℤ}
use Rattle.std.specs.declared.cmp.Ordering.{Ordering}
use Rattle.std.specs.declared.cmp.Ordering.TheVariants.{Less, Equal, Greater}
use Rattle.std.specs.Ordering.{is_lt, is_eq, ordering_reverse}
use Rattle.std.specs.Cmp.{tied_itself}
use Rattle.std.specs.FinMap.Entries.{below_all}
use Rattle.alg_mono.specs.FiniteMaps.{amount, row, all_some, Each}
use Rattle.alg_mono.specs.Numbers.{integers, is_zero}
use Rattle.alg_mono.proofs.Canonical.{first, second, less, both}
use Rattle.alg_mono.proofs.Integers.{neg_ℤ-*ℤ}
use Rattle.alg_mono.proofs.Numbers.{*ℤ_comm, *ℤ_assoc, *ℤ_dist, one-*ℤ}
use Rattle.alg_criterion.proofs.Spans.{Every, Led, whole, Summand, summed, Under, IsLine, IsGood, Spans, s_entries, lcm_of, IsMonomials}
use Rattle.alg_criterion.proofs.Machine.{scale, IsPoly, IsReduct, IsSPolynomial}
use Rattle.alg_criterion.proofs.Whole.{product_apart, one_apart}
use Rattle.alg_criterion.proofs.Working.{worked}
use Rattle.alg_criterion.proofs.Rows.{at-append, at-row_one, above_top, at_top, above_all}
use Rattle.alg_criterion.proofs.Summing.{scaled, at-scaled}
use Rattle.alg_criterion.proofs.Lifts.{at-scale}

module _ {M : Type 0} {cmp : M → M → Ordering} {times over : M → M → M} {one : M} {Ok : M → Type 0}
    (L : IsMonomials cmp times over one Ok) where
  abbrev pub val : M → List (M × ℤ) → ℤ
  val q p = amount cmp integers.amounts q p

  pub poly_line : (l : Led M) → IsPoly cmp times over Ok (whole l) → IsLine cmp times Ok l
  poly_line l h = record { canonical = h.canonical; ok = h.ok }

  -- ---- what stands at and above the lead
  pub leading_apart : (l : Led M) → IsLine cmp times Ok l → l.leading ≢ pos 0
  leading_apart l i e = subst (λ (z : ℤ). T (not (is_zero z))) e
      (first (not (is_zero l.leading)) (all_some cmp integers.amounts l.rest) i.canonical.no_none)

  amount-below : (q : M) (es : List (M × ℤ)) → T (below_all cmp q es) → val q es ≡ pos 0
  amount-below q [] h = refl
  amount-below q (e ∷ es) h = ap (λ r. cond (is_eq r) e.1 (pos 0) +ℤ val q es) (less _ (first _ _ h))
      ∙ +ℤ_idl (val q es) ∙ amount-below q es (second _ _ h)

  pub at_lead : (l : Led M) → IsLine cmp times Ok l → val l.lead (whole l) ≡ l.leading
  at_lead l i = ap (λ x. cond (is_eq x) l.leading (pos 0) +ℤ val l.lead l.rest) (tied_itself L.total l.lead)
      ∙ ap (λ x. l.leading +ℤ x) (amount-below l.lead l.rest (first _ _ i.canonical.rises)) ∙ +ℤ_idr l.leading

  pub before_lead : (l : Led M) → IsLine cmp times Ok l → (q : M) → cmp q l.lead ≡ Less → val q (whole l) ≡ pos 0
  before_lead l i q h = amount-below q (whole l) (both _ _ (subst (λ r. T (is_lt r)) (sym h) tt)
      (below l.rest (first _ _ i.canonical.rises)))
    where
      below : (es : List (M × ℤ)) → T (below_all cmp l.lead es) → T (below_all cmp q es)
      below [] g = tt
      below (e ∷ es) g = both _ _ (subst (λ r. T (is_lt r)) (sym
          (L.total.trans q l.lead e.0 h (less _ (first _ _ g)))) tt) (below es (second _ _ g))

  -- ---- sets of monomials closed downwards, of which one can decide
  abbrev pub Above : (M → Type 0) → M → Type 0
  Above Low q = (v : M) → Low v → cmp q v ≡ Less

  abbrev pub IsCut : (M → Type 0) → Type 0
  IsCut Low = (q : M) → Low q ⊎ Above Low q

  abbrev pub Upto : M → M → Type 0
  Upto w v = (cmp w v ≡ Less) ⊎ (w ≡ v)

  pub under_cut : (w : M) → IsCut (Under cmp times Ok w)
  under_cut w q = elim (cmp w q) as (λ r. cmp w q ≡ r → Under cmp times Ok w q ⊎ Above (Under cmp times Ok w) q) [
    | Less ↦ λ e. inl e
    | Equal ↦ λ e. inr (λ v h. subst (λ x. cmp x v ≡ Less) (L.anti w q e) h)
    | Greater ↦ λ e. inr (λ v h. L.total.trans q w v (L.total.antisymm q w ∙ ap ordering_reverse e) h)
  ] refl

  pub upto_cut : (w : M) → IsCut (Upto w)
  upto_cut w q = elim (cmp w q) as (λ r. cmp w q ≡ r → Upto w q ⊎ Above (Upto w) q) [
    | Less ↦ λ e. inl (inl e)
    | Equal ↦ λ e. inl (inr (L.anti w q e))
    | Greater ↦ λ e. let b : cmp q w ≡ Less = L.total.antisymm q w ∙ ap ordering_reverse e in
        inr (λ v h. elim h [ inl k ↦ L.total.trans q w v b k | inr k ↦ subst (λ x. cmp q x ≡ Less) k b ])
  ] refl

  module _ (In : Led M → Type 0) where
    pub record Leaves (Low : M → Type 0) (p c : List (M × ℤ)) : Type 0 where
      pub multiple : ℤ
      pub some : multiple ≢ pos 0
      pub share : ℤ
      pub share_some : share ≢ pos 0
      pub terms : List (Summand M)
      pub good : Every (IsGood cmp times Ok In Low) terms
      pub same : (q : M) → multiple *ℤ val q p ≡ (share *ℤ val q c) +ℤ val q (summed times terms)

    pub every-scaled : (Low : M → Type 0) (c : ℤ) (ts : List (Summand M)) → Every (IsGood cmp times Ok In Low) ts →
        Every (IsGood cmp times Ok In Low) (scaled c ts)
    every-scaled Low c [] h = tt
    every-scaled Low c (t ∷ ts) h = (
      record { ok = h.0.ok; member = h.0.member; low = h.0.low },
      every-scaled Low c ts h.1,
    )

    pub leaves_start : (Low : M → Type 0) (p : List (M × ℤ)) → Leaves Low p p
    leaves_start Low p = record {
      multiple = pos 1;
      some = one_apart;
      share = pos 1;
      share_some = one_apart;
      terms =
          [];
      good = tt;
      same = λ q. sym (+ℤ_idr (pos 1 *ℤ val q p));
    }

    -- a reduction keeps it
    pub leaves_reduct : (Low : M → Type 0) (p old new : List (M × ℤ)) (l : Led M) → In l →
        (r : IsReduct cmp times over Ok old l new) → Low (times r.by l.lead) → Leaves Low p old → Leaves Low p new
    leaves_reduct Low p old new l i r low s = record {
      multiple = r.a *ℤ s.multiple;
      some = product_apart r.a s.multiple r.a_some s.some;
      share = s.share *ℤ r.d;
      share_some = product_apart s.share r.d s.share_some r.d_some;
      terms = record { factor = s.share *ℤ r.b; by = r.by; line = l } ∷ scaled r.a s.terms;
      good = (record { ok = r.ok; member = i; low = low }, every-scaled Low r.a s.terms s.good);
      same = λ q.
          let x = row times ◌*ℤ◌ r.by (pos 1) (whole l) in
          worked r.a s.multiple s.share r.d r.b (val q p) (val q old) (val q new) (val q x)
          (val q (summed times s.terms)) (s.same q)
          (r.same q ∙ at-append cmp q (scale r.a old) (row times ◌*ℤ◌ r.by (neg_ℤ r.b) (whole l))
          ∙ (λ j. at-scale cmp q r.a old j +ℤ at-row_one cmp times q r.by (neg_ℤ r.b) (whole l) j))
          ∙ ap (λ z. ((s.share *ℤ r.d) *ℤ val q new) +ℤ z)
          (sym (at-append cmp q (row times ◌*ℤ◌ r.by (s.share *ℤ r.b) (whole l)) (summed times (scaled r.a s.terms))
          ∙ (λ j. at-row_one cmp times q r.by (s.share *ℤ r.b) (whole l) j +ℤ at-scaled cmp times q r.a s.terms j)));
    }

    -- nothing is left
    pub leaves_zero : (Low : M → Type 0) (p : List (M × ℤ)) → Leaves Low p [] → Spans cmp times Ok In Low p
    leaves_zero Low p s = record {
      multiple = s.multiple;
      some = s.some;
      terms = s.terms;
      good = s.good;
      same = λ q. s.same q ∙ ap (λ z. z +ℤ val q (summed times s.terms)) (*ℤ_comm s.share (pos 0) ∙ zero-*ℤ s.share)
          ∙ +ℤ_idl (val q (summed times s.terms));
    }

    -- what is left is a line
    pub leaves_line : (Low : M → Type 0) (p : List (M × ℤ)) (l : Led M) → In l → IsLine cmp times Ok l →
        Low l.lead → Leaves Low p (whole l) → Spans cmp times Ok In Low p
    leaves_line Low p l i line low s = record {
      multiple = s.multiple;
      some = s.some;
      terms = record { factor = s.share; by = one; line = l } ∷ s.terms;
      good = (record { ok = L.ok_one; member = i; low = subst Low (sym (L.one_times l.lead (line.ok.0))) low }, s.good);
      same = λ q. s.same q ∙ sym (at-append cmp q (row times ◌*ℤ◌ one s.share (whole l)) (summed times s.terms)
          ∙ ap (λ z. z +ℤ val q (summed times s.terms)) (at-row_one cmp times q one s.share (whole l)
          ∙ ap (λ z. s.share *ℤ val q z) (same_row (whole l) line.ok)));
    }
      where
        same_row : (p : List (M × ℤ)) → Each Ok p → row times ◌*ℤ◌ one (pos 1) p ≡ p
        same_row [] h = refl
        same_row (e ∷ p) h = λ j. (L.one_times e.0 h.0 j, one-*ℤ e.1 j) ∷ same_row p h.1 j

    -- where p is zero above Low, the lead of what is left is in Low
    pub left_low : (line : (l : Led M) → In l → IsLine cmp times Ok l) → (Low : M → Type 0) → IsCut Low →
        (p : List (M × ℤ)) → ((q : M) → Above Low q → val q p ≡ pos 0) → (o : Led M) → IsLine cmp times Ok o →
        Leaves Low p (whole o) → Low o.lead
    left_low line Low cut p zero o i s =
        elim (cut o.lead) [
          | inl h ↦ h
          | inr h ↦ absurd (product_apart s.share o.leading s.share_some (leading_apart o i)
              (ap (λ z. s.share *ℤ z) (sym (at_lead o i)) ∙ sym (+ℤ_idr (s.share *ℤ val o.lead (whole o)))
              ∙ ap (λ z. (s.share *ℤ val o.lead (whole o)) +ℤ z) (sym (above_all L.total times L.comm Ok L.keeps In
              line Low o.lead h s.terms s.good))
              ∙ sym (s.same o.lead) ∙ ap (λ z. s.multiple *ℤ z) (zero o.lead h) ∙ *ℤ_comm s.multiple (pos 0)
              ∙ zero-*ℤ s.multiple))
        ]

    -- the S-polynomial of two lines, as the machine makes it, is what is left of the crossed difference
    pub leaves_s : (Low : M → Type 0) (f g : Led M) → IsLine cmp times Ok g → (new : List (M × ℤ)) →
        IsSPolynomial cmp times over Ok f g new → Leaves Low (s_entries cmp times Ok In over f g) new
    leaves_s Low f g ig new r = record {
      multiple = r.a;
      some = r.a_some;
      share = g.leading *ℤ r.d;
      share_some = product_apart g.leading r.d (leading_apart g ig) r.d_some;
      terms = [];
      good = tt;
      same = λ q.
          let m = over g.lead f.lead in
          let n = over f.lead g.lead in
          let x = val q (row times ◌*ℤ◌ m (pos 1) (whole f)) in
          let y = val q (row times ◌*ℤ◌ n (pos 1) (whole g)) in
          ap (λ z. r.a *ℤ z) (at-append cmp q (row times ◌*ℤ◌ m g.leading (whole f))
          (row times ◌*ℤ◌ n (neg_ℤ f.leading) (whole g)) ∙ (λ j. at-row_one cmp times q m g.leading (whole f) j
          +ℤ at-row_one cmp times q n (neg_ℤ f.leading) (whole g) j))
          ∙ swap r.a g.leading f.leading r.b x y r.balance
          ∙ ap (λ z. g.leading *ℤ z) (sym (r.same q ∙ at-append cmp q (row times ◌*ℤ◌ m r.a (whole f))
          (row times ◌*ℤ◌ n (neg_ℤ r.b) (whole g)) ∙ (λ j. at-row_one cmp times q m r.a (whole f) j
          +ℤ at-row_one cmp times q n (neg_ℤ r.b) (whole g) j)))
          ∙ sym (*ℤ_assoc g.leading r.d (val q new)) ∙ sym (+ℤ_idr ((g.leading *ℤ r.d) *ℤ val q new));
    }
      where
        pull : (c d y : ℤ) → c *ℤ (neg_ℤ d *ℤ y) ≡ neg_ℤ ((c *ℤ d) *ℤ y)
        pull c d y = ap (λ z. c *ℤ z) (neg_ℤ-*ℤ d y) ∙ *ℤ_comm c (neg_ℤ (d *ℤ y)) ∙ neg_ℤ-*ℤ (d *ℤ y) c
            ∙ ap neg_ℤ (*ℤ_comm (d *ℤ y) c ∙ sym (*ℤ_assoc c d y))

        swap : (a gl fl b x y : ℤ) → a *ℤ fl ≡ b *ℤ gl → a *ℤ ((gl *ℤ x) +ℤ (neg_ℤ fl *ℤ y)) ≡
            gl *ℤ ((a *ℤ x) +ℤ (neg_ℤ b *ℤ y))
        swap a gl fl b x y e =
            *ℤ_dist a (gl *ℤ x) (neg_ℤ fl *ℤ y) ∙ (λ j. (sym (*ℤ_assoc a gl x) ∙ ap (λ z. z *ℤ x) (*ℤ_comm a gl)
            ∙ *ℤ_assoc gl a x) j +ℤ (pull a fl y ∙ ap (λ z. neg_ℤ (z *ℤ y)) (e ∙ *ℤ_comm b gl)
            ∙ sym (pull gl b y)) j)
            ∙ sym (*ℤ_dist gl (a *ℤ x) (neg_ℤ b *ℤ y))

    -- it is zero at the lcm and above
    pub s_above : (f g : Led M) → IsLine cmp times Ok f → IsLine cmp times Ok g → (q : M) →
        Above (Under cmp times Ok (lcm_of cmp times Ok In over f g)) q →
        val q (s_entries cmp times Ok In over f g) ≡ pos 0
    s_above f g jf jg q h =
        let m = over g.lead f.lead in
        let n = over f.lead g.lead in
        let w = times m f.lead in
        let same_w : w ≡ times n g.lead = L.lcm_both f.lead g.lead (jf.ok.0) (jg.ok.0) in
        at-append cmp q (row times ◌*ℤ◌ m g.leading (whole f)) (row times ◌*ℤ◌ n (neg_ℤ f.leading) (whole g))
        ∙ elim (cmp q w) as (λ r. cmp q w ≡ r → val q (row times ◌*ℤ◌ m g.leading (whole f))
        +ℤ val q (row times ◌*ℤ◌ n (neg_ℤ f.leading) (whole g)) ≡ pos 0) [
          | Less ↦ λ e. λ j. above_top L.total times L.comm Ok L.keeps q m g.leading f jf e j
              +ℤ above_top L.total times L.comm Ok L.keeps q n (neg_ℤ f.leading) g jg
              (subst (λ x. cmp q x ≡ Less) same_w e) j
          | Equal ↦ λ e.
              let k : q ≡ w = L.anti q w e in
              (λ j. (subst (λ x. val x (row times ◌*ℤ◌ m g.leading (whole f)) ≡ g.leading *ℤ f.leading) (sym k)
              (at_top L.total times L.comm Ok L.keeps m g.leading f jf)) j
              +ℤ (subst (λ x. val x (row times ◌*ℤ◌ n (neg_ℤ f.leading) (whole g)) ≡ neg_ℤ f.leading *ℤ g.leading)
              (sym (k ∙ same_w)) (at_top L.total times L.comm Ok L.keeps n (neg_ℤ f.leading) g jg)) j)
              ∙ opposite g.leading f.leading
          | Greater ↦ λ e.
              let l : cmp w q ≡ Less = L.total.antisymm w q ∙ ap ordering_reverse e in
              absurd (apart (sym (tied_itself L.total q) ∙ h q l))
        ] refl
      where
        apart : Equal ≡ Less → ⊥
        apart e = cc

        opposite : (x y : ℤ) → (x *ℤ y) +ℤ (neg_ℤ y *ℤ x) ≡ pos 0
        opposite x y = ap (λ z. (x *ℤ y) +ℤ z) (neg_ℤ-*ℤ y x ∙ ap neg_ℤ (*ℤ_comm y x)) ∙ gone (x *ℤ y)
          where
            gone : (z : ℤ) → z +ℤ neg_ℤ z ≡ pos 0
            gone z = omega (arith, ints)
