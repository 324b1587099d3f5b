-- The S-polynomial of the machine is a multiple of the crossed difference of the proofs.
use Rattle.std.specs.Prelude.{◌≡◌, ℕ, ℤ, pos, ◌+ℤ◌, ◌*ℤ◌}
use Rattle.std.proofs.Common.{sym, ap, ◌∙◌}
use lib.IntN.{neg_ℤ}
use Rattle.alg_mono.specs.Mono.{Monomial}
use Rattle.alg_mono.specs.NumberedPolynomials.{Polynomial}
use Rattle.alg_mono.proofs.Numbers.{*ℤ_comm, *ℤ_assoc, *ℤ_dist}
use Rattle.alg_mono.proofs.Integers.{neg_ℤ-*ℤ}
use Rattle.alg_groebner.specs.Cancelling.{s_polynomial}
use Rattle.alg_criterion.proofs.Spans.{Led, whole, IsLine, s_entries, Spans}
use Rattle.alg_criterion.proofs.Machine.{IsSPolynomial}
use Rattle.alg_criterion.proofs.Numbered.{IsWithin, mono_times, mono_over, falling}
use Rattle.alg_criterion.proofs.Rows.{at-append, at-row_one}
use Rattle.alg_criterion.proofs.Whole.{product_apart, mul_left}
use Rattle.alg_criterion.proofs.Values.{val, times_row}
use Rattle.alg_criterion.proofs.Cancelled.{s_polynomial_is, some_leading}
use Rattle.alg_criterion.proofs.Restated.{spans_ratio}

times_neg : (x y z : ℤ) → x *ℤ (neg_ℤ y *ℤ z) ≡ neg_ℤ ((x *ℤ y) *ℤ z)
times_neg x y z =
    ap (λ w. x *ℤ w) (neg_ℤ-*ℤ y z) ∙ *ℤ_comm x (neg_ℤ (y *ℤ z)) ∙ neg_ℤ-*ℤ (y *ℤ z) x
    ∙ ap neg_ℤ (*ℤ_comm (y *ℤ z) x ∙ sym (*ℤ_assoc x y z))

crossing : (a f b g x y : ℤ) → a *ℤ f ≡ b *ℤ g →
    a *ℤ ((g *ℤ x) +ℤ (neg_ℤ f *ℤ y)) ≡ g *ℤ ((a *ℤ x) +ℤ (neg_ℤ b *ℤ y))
crossing a f b g x y e =
    *ℤ_dist a (g *ℤ x) (neg_ℤ f *ℤ y)
    ∙ (λ i. mul_left a g x i +ℤ (times_neg a f y ∙ ap (λ z. neg_ℤ (z *ℤ y)) (e ∙ *ℤ_comm b g)
    ∙ sym (times_neg g b y)) i)
    ∙ sym (*ℤ_dist g (a *ℤ x) (neg_ℤ b *ℤ y))

module _ (b : ℕ) (In : Led Monomial → Type 0) (f g : Led Monomial) (jf : IsLine falling mono_times (IsWithin b) f)
    (jg : IsLine falling mono_times (IsWithin b) g) where
  S : IsSPolynomial falling mono_times mono_over (IsWithin b) f g (s_polynomial (whole f) (whole g)).poly
  S = s_polynomial_is b f g jf jg

  abbrev entries : Polynomial
  entries = s_entries falling mono_times (IsWithin b) In mono_over f g

  multiples : (q : Monomial) →
      S.a *ℤ val q entries ≡ (g.leading *ℤ S.d) *ℤ val q (s_polynomial (whole f) (whole g)).poly
  multiples q =
      let m = mono_over g.lead f.lead in
      let n = mono_over f.lead g.lead in
      let x = val q (times_row m (pos 1) (whole f)) in
      let y = val q (times_row n (pos 1) (whole g)) in
      let one = at-row_one falling mono_times q in
      ap (λ z. S.a *ℤ z) (at-append falling q (times_row m g.leading (whole f))
      (times_row n (neg_ℤ f.leading) (whole g))
      ∙ (λ i. one m g.leading (whole f) i +ℤ one n (neg_ℤ f.leading) (whole g) i))
      ∙ crossing S.a f.leading S.b g.leading x y S.balance
      ∙ ap (λ z. g.leading *ℤ z) (sym (S.same q
      ∙ at-append falling q (times_row m S.a (whole f)) (times_row n (neg_ℤ S.b) (whole g))
      ∙ (λ i. one m S.a (whole f) i +ℤ one n (neg_ℤ S.b) (whole g) i)))
      ∙ sym (*ℤ_assoc g.leading S.d (val q (s_polynomial (whole f) (whole g)).poly))

  module _ (Low : Monomial → Type 0) where
    pub entries_span : Spans falling mono_times (IsWithin b) In Low (s_polynomial (whole f) (whole g)).poly →
        Spans falling mono_times (IsWithin b) In Low entries
    entries_span s =
        spans_ratio In b Low S.a (g.leading *ℤ S.d) S.a_some entries (s_polynomial (whole f) (whole g)).poly multiples s

    pub polynomial_spans : Spans falling mono_times (IsWithin b) In Low entries →
        Spans falling mono_times (IsWithin b) In Low (s_polynomial (whole f) (whole g)).poly
    polynomial_spans s =
        spans_ratio In b Low (g.leading *ℤ S.d) S.a
        (product_apart g.leading S.d (some_leading b g jg) S.d_some) (s_polynomial (whole f) (whole g)).poly entries
        (λ q. sym (multiples q)) s
