-- Products of basis lines with one lead: one of them, and products below it.
use Rattle.std.specs.Prelude.{◌≡◌, ◌≢◌, not, List, [], ◌∷◌, ◌++◌, ℤ, pos, ◌+ℤ◌, ◌*ℤ◌}
use Rattle.std.proofs.Common.{sym, ap, subst, ◌∙◌, T, inl, inr}
use lib.IntN.{neg_ℤ, zero-*ℤ}
use Rattle.std.specs.declared.cmp.Ordering.{Ordering}
use Rattle.alg_mono.specs.FiniteMaps.{amount, row, all_some}
use Rattle.alg_mono.specs.Numbers.{integers, is_zero}
use Rattle.alg_mono.proofs.Canonical.{first}
use Rattle.alg_criterion.proofs.Spans.{Every, Led, whole, Summand, summed, Under, UpTo, IsLine, IsGood, ArePairsBelow}
use Rattle.alg_criterion.proofs.Whole.{product_apart, one_apart, moved, turn_under, turn_equal}
use Rattle.alg_criterion.proofs.Rows.{at-append, at-row_one}
use Rattle.alg_criterion.proofs.Summing.{every-append, scaled, at-summed-append, at-scaled}

module _ {M : Type 0} (cmp : M → M → Ordering) (times : M → M → M) (Ok : M → Type 0) (In : Led M → Type 0) where
  abbrev Good : (M → Type 0) → Summand M → Type 0
  Good Low t = IsGood cmp times Ok In Low t

  abbrev val : M → List (M × ℤ) → ℤ
  val q p = amount cmp integers.amounts q p

  every-scaled : (Low : M → Type 0) (c : ℤ) (ts : List (Summand M)) → Every (Good Low) ts →
      Every (Good Low) (scaled c ts)
  every-scaled Low c [] h = tt
  every-scaled Low c (t ∷ ts) h = (
    record { ok = h.0.ok; member = h.0.member; low = h.0.low },
    every-scaled Low c ts h.1,
  )

  -- e times the sum is s times the pivot and a sum of products below w
  pub record Pivoted (w : M) (m₀ : M) (l₀ : Led M) (ts : List (Summand M)) : Type 0 where
    pub multiple : ℤ
    pub some : multiple ≢ pos 0
    pub share : ℤ
    pub below : List (Summand M)
    pub good : Every (Good (Under cmp times Ok w)) below
    pub same : (q : M) → multiple *ℤ val q (summed times ts) ≡ (share *ℤ val q (row times ◌*ℤ◌ m₀ (pos 1) (whole l₀)))
        +ℤ val q (summed times below)

  module _ (line : (l : Led M) → In l → IsLine cmp times Ok l) where
    pub leading_apart : (l : Led M) → In l → l.leading ≢ pos 0
    leading_apart l i e = subst (λ (z : ℤ). T (not (is_zero z))) e
        (first (not (is_zero l.leading)) (all_some cmp integers.amounts l.rest) (line l i).canonical.no_none)

    module _ (pairs_below : ArePairsBelow cmp times Ok In) where
      pub pivot : (w m₀ : M) (l₀ : Led M) → Ok m₀ → In l₀ → times m₀ l₀.lead ≡ w → (ts : List (Summand M)) →
          Every (Good (UpTo cmp w)) ts → Pivoted w m₀ l₀ ts
      pivot w m₀ l₀ ok₀ in₀ at_w [] g = record {
        multiple = pos 1;
        some = one_apart;
        share = pos 0;
        below = [];
        good =
            tt;
        same = λ q. refl' (val q (row times ◌*ℤ◌ m₀ (pos 1) (whole l₀)));
      }
        where
          refl' : (y : ℤ) → pos 1 *ℤ pos 0 ≡ (pos 0 *ℤ y) +ℤ pos 0
          refl' y = sym (ap (λ x. x +ℤ pos 0) (zero-*ℤ y))
      pivot w m₀ l₀ ok₀ in₀ at_w (t ∷ ts) g =
          let r = pivot w m₀ l₀ ok₀ in₀ at_w ts g.1 in
          elim g.0.low [
            | inl u ↦ record {
              multiple = r.multiple;
              some = r.some;
              share = r.share;
              below = record t { factor = r.multiple *ℤ t.factor } ∷ r.below;
              good = (record { ok = g.0.ok; member = g.0.member; low = u }, r.good);
              same = λ q.
                  let x = row times ◌*ℤ◌ t.by t.factor (whole t.line) in
                  let x1 = row times ◌*ℤ◌ t.by (pos 1) (whole t.line) in
                  let y = row times ◌*ℤ◌ m₀ (pos 1) (whole l₀) in
                  ap (λ z. r.multiple *ℤ z) (at-append cmp q x (summed times ts)
                  ∙ ap (λ z. z +ℤ val q (summed times ts)) (at-row_one cmp times q t.by t.factor (whole t.line)))
                  ∙ turn_under r.multiple t.factor r.share (val q x1) (val q y) (val q (summed times ts))
                  (val q (summed times r.below)) (r.same q)
                  ∙ ap (λ z. (r.share *ℤ val q y) +ℤ z) (sym (at-append cmp q
                  (row times ◌*ℤ◌ t.by (r.multiple *ℤ t.factor) (whole t.line)) (summed times r.below)
                  ∙ ap (λ z. z +ℤ val q (summed times r.below)) (at-row_one cmp times q t.by (r.multiple *ℤ t.factor)
                  (whole t.line))));
            }
            | inr e ↦
                let d = pairs_below t.line l₀ g.0.member in₀ t.by m₀ g.0.ok ok₀ (sym e ∙ sym at_w) in
                let dg : Every (Good (Under cmp times Ok w)) d.terms = subst
                (λ v. Every (Good (Under cmp times Ok v)) d.terms) (sym e) d.good in
                let b = l₀.leading in
                let a = t.line.leading in
                let c1 = r.multiple *ℤ t.factor in
                let c2 = d.multiple *ℤ b in
                record {
                  multiple = (r.multiple *ℤ d.multiple) *ℤ b;
                  some = product_apart (r.multiple *ℤ d.multiple) b (product_apart r.multiple d.multiple r.some d.some)
                      (leading_apart l₀ in₀);
                  share = ((c1 *ℤ d.multiple) *ℤ a) +ℤ (c2 *ℤ r.share);
                  below = scaled c1 d.terms ++ scaled c2 r.below;
                  good = every-append (Good (Under cmp times Ok w)) (scaled c1 d.terms) (scaled c2 r.below)
                      (every-scaled (Under cmp times Ok w) c1 d.terms dg) (every-scaled (Under cmp times Ok w)
                      c2 r.below r.good);
                  same = λ q.
                      let x = row times ◌*ℤ◌ t.by t.factor (whole t.line) in
                      let x1 = val q (row times ◌*ℤ◌ t.by (pos 1) (whole t.line)) in
                      let y = val q (row times ◌*ℤ◌ m₀ (pos 1) (whole l₀)) in
                      let u = val q (summed times d.terms) in
                      let v = val q (summed times r.below) in
                      let h : d.multiple *ℤ ((b *ℤ x1) +ℤ (neg_ℤ a *ℤ y)) ≡ u =
                      ap (λ z. d.multiple *ℤ z) (sym (at-append cmp q (row times ◌*ℤ◌ t.by b (whole t.line))
                      (row times ◌*ℤ◌ m₀ (neg_ℤ a) (whole l₀))
                      ∙ (λ i. at-row_one cmp times q t.by b (whole t.line) i +ℤ at-row_one cmp times q m₀ (neg_ℤ a)
                      (whole l₀) i))) ∙ d.same q in
                      ap (λ z. ((r.multiple *ℤ d.multiple) *ℤ b) *ℤ z) (at-append cmp q x (summed times ts)
                      ∙ ap (λ z. z +ℤ val q (summed times ts)) (at-row_one cmp times q t.by t.factor (whole t.line)))
                      ∙ turn_equal r.multiple d.multiple b a t.factor r.share x1 y (val q (summed times ts)) u v
                      (moved d.multiple b a x1 y u h) (r.same q)
                      ∙ ap (λ z. ((((c1 *ℤ d.multiple) *ℤ a) +ℤ (c2 *ℤ r.share)) *ℤ y) +ℤ z)
                      (sym (at-summed-append cmp times q (scaled c1 d.terms) (scaled c2 r.below)
                      ∙ (λ i. at-scaled cmp times q c1 d.terms i +ℤ at-scaled cmp times q c2 r.below i)));
                }
          ]
