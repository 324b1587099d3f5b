-- What the machine's moves make is as the laws need it.
use Rattle.alg_criterion.proofs.Lists.{led_of}
use Rattle.std.specs.Prelude.{false, ◌≡◌, ◌≢◌, ℕ, true, not, [], ◌∷◌, ℤ, pos, ◌*ℤ◌, ◌+ℤ◌}
use Rattle.std.proofs.Common.{refl, sym, ap, subst, ◌∙◌, T, arith}
use lib.IntN.{neg_ℤ}
use Rattle.std.specs.Int.RustNames.{unsigned_abs}
use Rattle.std.specs.Ordering.{nat_cmp}
use Rattle.std.specs.Cmp.{nat_cmp_total}
use Rattle.std.specs.FinMap.{nat_cmp-IsAntisymmetric}
use Rattle.alg_mono.specs.FiniteMaps.{IsCanonical, Each, all_some}
use Rattle.alg_mono.specs.Numbers.{exponents, integers, is_zero}
use Rattle.alg_mono.specs.Mono.{Monomial}
use Rattle.alg_mono.specs.Monomials.{lcm}
use Rattle.alg_mono.specs.NumberedPolynomials.{Polynomial}
use Rattle.alg_mono.proofs.Canonical.{first}
use Rattle.alg_mono.proofs.Each.{Each-weaker}
use Rattle.alg_mono.proofs.Lcm.{times_over, exponent-lcm}
use Rattle.alg_groebner.specs.Cancelling.{crossed, cancelled, reduced, quotient, left_lift, right_lift, s_polynomial}
use Rattle.alg_groebner.specs.Divisors.{content}
use Rattle.alg_groebner.specs.Leads.{leading, reduces}
use Rattle.alg_groebner.proofs.Divisors.{content_divides}
use Rattle.alg_groebner.proofs.Exact.{exactly}
use Rattle.alg_groebner.proofs.Faithful.{IsPolynomial-crossed, IsPolynomial-cancelled}
use Rattle.alg_groebner.proofs.Leading.{reduces_says}
use Rattle.alg_groebner.proofs.Coefficients.{left_some}
use Rattle.alg_groebner.proofs.Over.{each_cancelled}
use Rattle.alg_criterion.proofs.Spans.{Led, whole, IsLine}
use Rattle.alg_criterion.proofs.Machine.{scale, IsPoly, IsReduct, IsSPolynomial}
use Rattle.alg_criterion.proofs.Numbered.{IsWithin, mono_times, mono_over, falling}
use Rattle.alg_criterion.proofs.Quotients.{times_comm, within_times, within_over, same_mono, exponent-over}
use Rattle.alg_criterion.proofs.Rows.{at-append}
use Rattle.alg_criterion.proofs.Lifts.{at-scale}
use Rattle.alg_criterion.proofs.Values.{val, times_row, at-unit, at-times, at-combination}
use Rattle.alg_criterion.proofs.Factors.{factors_balance}

module _ (b : ℕ) where
  poly_cancelled : (m : Monomial) (p : Polynomial) (n : Monomial) (q : Polynomial) → IsWithin b m → IsWithin b n →
      Each (IsWithin b) p → Each (IsWithin b) q →
      IsPoly falling mono_times mono_over (IsWithin b) (cancelled m p n q).poly
  poly_cancelled m p n q hm hn hp hq = record {
    canonical = (IsPolynomial-cancelled m p n q).canonical;
    ok = each_cancelled (IsWithin b) (within_times b) m p n q hm hn hp hq;
  }

  at-cancelled : (k m : Monomial) (p : Polynomial) (n : Monomial) (q : Polynomial) →
      (cancelled m p n q).d *ℤ val k (cancelled m p n q).poly ≡
      val k (times_row m (cancelled m p n q).a p) +ℤ val k (times_row n (neg_ℤ (cancelled m p n q).b) q)
  unfolding cancelled
  at-cancelled k m p n q =
      let c = cancelled m p n q in
      sym (at-times k c.d c.poly (IsPolynomial-cancelled m p n q).monomials)
      ∙ ap (val k) (exactly (crossed m p n q) (IsPolynomial-crossed m p n q)) ∙ at-combination k c.a m p c.b n q

  content_some : (m : Monomial) (p : Polynomial) (n : Monomial) (q : Polynomial) → (cancelled m p n q).d ≢ pos 0
  unfolding cancelled
  content_some m p n q e =
      let x = crossed m p n q in
      let low = (content_divides x (IsPolynomial-crossed m p n q)).0 in
      let zero : content x ≡ 0 = ap unsigned_abs e in
      omega arith

  pub some_leading : (l : Led Monomial) → IsLine falling mono_times (IsWithin b) l → l.leading ≢ pos 0
  some_leading l i e =
      subst (λ (z : ℤ). T (not (is_zero z))) e
      (first (not (is_zero l.leading)) (all_some falling integers.amounts l.rest) i.canonical.no_none)

  monomials_of : (p : Polynomial) → Each (IsWithin b) p → Each (λ m. IsCanonical nat_cmp exponents m) p
  monomials_of p h =
      Each-weaker {P = IsWithin b} {Q = λ m. IsCanonical nat_cmp exponents m} (λ m w. w.canonical) p h

  -- rules 2 and 4
  pub reduct_is : (l k : Led Monomial) → IsLine falling mono_times (IsWithin b) l →
      IsLine falling mono_times (IsWithin b) k → reduces (whole k) (whole l) ≡ true →
      IsReduct falling mono_times mono_over (IsWithin b) (whole l) k (reduced (whole l) (whole k)).poly
  unfolding cancelled
  reduct_is l k il ik e =
      let n = quotient (whole l) (whole k) in
      let c = reduced (whole l) (whole k) in
      let ok = within_over b l.lead k.lead il.ok.0 ik.ok.0 in
      let divides = (reduces_says (whole k) (whole l) e).2 ik.ok.0.canonical in
      let one : IsWithin b [] = record { canonical = record { rises = tt; no_none = tt }; atoms = tt } in
      record {
        a = c.a;
        b = c.b;
        d = c.d;
        a_some = left_some l.leading k.leading (some_leading k ik);
        d_some = content_some [] (whole l) n (whole k);
        by = n;
        ok = ok;
        led = l;
        old_is = refl;
        divides = times_comm n k.lead
            ∙ times_over nat_cmp_total nat_cmp-IsAntisymmetric l.lead k.lead il.ok.0.canonical divides;
        poly = poly_cancelled [] (whole l) n (whole k) one ok il.ok ik.ok;
        same = λ q. at-cancelled q [] (whole l) n (whole k)
            ∙ ap (λ z. z +ℤ val q (times_row n (neg_ℤ c.b) (whole k)))
            (at-unit q c.a (whole l) (monomials_of (whole l) il.ok) ∙ sym (at-scale falling q c.a (whole l)))
            ∙ sym (at-append falling q (scale c.a (whole l)) (times_row n (neg_ℤ c.b) (whole k)));
      }

  -- the least common multiple over either lead
  left_is : (f g : Monomial) → IsWithin b f → IsWithin b g → mono_over (lcm nat_cmp f g) f ≡ mono_over g f
  left_is f g hf hg =
      let hl = within_times b f (mono_over g f) hf (within_over b g f hg hf) in
      same_mono b (mono_over (lcm nat_cmp f g) f) (mono_over g f) (within_over b (lcm nat_cmp f g) f hl hf)
      (within_over b g f hg hf)
      (λ q. let e = exponent-lcm nat_cmp_total nat_cmp-IsAntisymmetric q f g hg.canonical in
      let x = exponent-over q b (lcm nat_cmp f g) f hl in let y = exponent-over q b g f hg in grind (arith, e, x, y))

  right_is : (f g : Monomial) → IsWithin b f → IsWithin b g → mono_over (lcm nat_cmp f g) g ≡ mono_over f g
  right_is f g hf hg =
      let hl = within_times b f (mono_over g f) hf (within_over b g f hg hf) in
      same_mono b (mono_over (lcm nat_cmp f g) g) (mono_over f g) (within_over b (lcm nat_cmp f g) g hl hg)
      (within_over b f g hf hg)
      (λ q. let e = exponent-lcm nat_cmp_total nat_cmp-IsAntisymmetric q f g hg.canonical in
      let x = exponent-over q b (lcm nat_cmp f g) g hl in let y = exponent-over q b f g hf in grind (arith, e, x, y))

  -- PairIsTaken
  pub s_polynomial_is : (f g : Led Monomial) → IsLine falling mono_times (IsWithin b) f →
      IsLine falling mono_times (IsWithin b) g →
      IsSPolynomial falling mono_times mono_over (IsWithin b) f g (s_polynomial (whole f) (whole g)).poly
  unfolding cancelled
  s_polynomial_is f g jf jg =
      let m = left_lift (whole f) (whole g) in
      let n = right_lift (whole f) (whole g) in
      let c = s_polynomial (whole f) (whole g) in
      let hf = jf.ok.0 in
      let hg = jg.ok.0 in
      let left : m ≡ mono_over g.lead f.lead = left_is f.lead g.lead hf hg in
      let right : n ≡ mono_over f.lead g.lead = right_is f.lead g.lead hf hg in
      let hm : IsWithin b m = subst (IsWithin b) (sym left) (within_over b g.lead f.lead hg hf) in
      let hn : IsWithin b n = subst (IsWithin b) (sym right) (within_over b f.lead g.lead hf hg) in
      record {
        a = c.a;
        b = c.b;
        d = c.d;
        a_some = left_some f.leading g.leading (some_leading g jg);
        d_some = content_some m (whole f) n (whole g);
        balance = factors_balance f.leading g.leading (some_leading g jg);
        poly = poly_cancelled m (whole f) n (whole g) hm hn jf.ok jg.ok;
        same = λ q. at-cancelled q m (whole f) n (whole g)
            ∙ (λ i. val q (times_row (left i) c.a (whole f)) +ℤ val q (times_row (right i) (neg_ℤ c.b) (whole g)))
            ∙ sym (at-append falling q (times_row (mono_over g.lead f.lead) c.a (whole f))
            (times_row (mono_over f.lead g.lead) (neg_ℤ c.b) (whole g)));
      }

module _ (b : ℕ) where
  abbrev pub IsP : Polynomial → Type 0
  IsP p = IsPoly falling mono_times mono_over (IsWithin b) p

  abbrev pub IsL : Led Monomial → Type 0
  IsL l = IsLine falling mono_times (IsWithin b) l

  -- what is made, for polynomials as lists
  pub reduct_at : (p q : Polynomial) → IsP p → IsL (led_of q) → reduces q p ≡ true →
      IsReduct falling mono_times mono_over (IsWithin b) p (led_of q) (reduced p q).poly
  reduct_at p [] ip iq e = absurd (let f : false ≡ true = e in grind arith)
  reduct_at [] (f ∷ q) ip iq e = absurd (let f : false ≡ true = e in grind arith)
  reduct_at (e ∷ p) (f ∷ q) ip iq t =
      let l : Led Monomial = record { lead = e.0; leading = e.1; rest = p } in
      reduct_is b l (led_of (f ∷ q)) (record { canonical = ip.canonical; ok = ip.ok }) iq t

  pub s_at : (p q : Polynomial) → p ≢ [] → q ≢ [] → IsL (led_of p) → IsL (led_of q) →
      IsSPolynomial falling mono_times mono_over (IsWithin b) (led_of p) (led_of q) (s_polynomial p q).poly
  s_at [] q np nq ip iq = absurd (np refl)
  s_at (e ∷ p) [] np nq ip iq = absurd (nq refl)
  s_at (e ∷ p) (f ∷ q) np nq ip iq = s_polynomial_is b (led_of (e ∷ p)) (led_of (f ∷ q)) ip iq
