-- Sums of multiples of lines as the proofs have them, and as the laws state them.
use Rattle.std.specs.Prelude.{◌≡◌, ◌≢◌, ℕ, List, [], ◌∷◌, ◌++◌, ℤ, pos, ◌+ℤ◌, ◌*ℤ◌}
use Rattle.std.proofs.Common.{refl, sym, ap, subst, ◌∙◌}
use Rattle.std.specs.List.{Contains}
use Rattle.std.specs.Ordering.{nat_cmp}
use Rattle.alg_mono.specs.FiniteMaps.{IsCanonical, Each, products}
use Rattle.alg_mono.specs.Numbers.{exponents, integers}
use Rattle.alg_mono.specs.Mono.{Monomial}
use Rattle.alg_mono.specs.NumberedPolynomials.{Polynomial, multiple_of, term_of}
use Rattle.alg_mono.proofs.Numbers.{integer_laws, *ℤ_assoc}
use Rattle.alg_mono.proofs.Canonical.{IsCanonical-collect, same_canonical}
use Rattle.alg_criterion.specs.Combinations.{LineMultiple, IsLineMultiple, IsSum, sum_of_multiples}
use Rattle.alg_criterion.proofs.Spans.{Every, Led, whole, Summand, summed, IsGood, Spans}
use Rattle.alg_criterion.proofs.Numbered.{IsWithin, mono_times, falling}
use Rattle.alg_criterion.proofs.Quotients.{falling_total, falling_anti}
use Rattle.alg_criterion.proofs.Rows.{at-append}
use Rattle.alg_criterion.proofs.Summing.{scaled, at-scaled}
use Rattle.alg_criterion.proofs.Whole.{product_apart, mul_left}
use Rattle.alg_criterion.proofs.Lists.{every_of, all_of, led_of, whole-led_of, lead-led_of}
use Rattle.alg_criterion.proofs.Values.{val, times_row, at-sum, at-multiple, at-times}

abbrev to_terms : List LineMultiple → List (Summand Monomial)
to_terms [] = []
to_terms (t ∷ ts) = record { factor = t.factor; by = t.by; line = led_of t.line } ∷ to_terms ts

abbrev to_multiples : List (Summand Monomial) → List LineMultiple
to_multiples [] = []
to_multiples (t ∷ ts) = record { factor = t.factor; by = t.by; line = whole t.line } ∷ to_multiples ts

-- ---- from the statements
module _ (lines : List Polynomial) (some : (f : Polynomial) → Contains lines f → f ≢ []) where
  abbrev pub In : Led Monomial → Type 0
  In l = Contains lines (whole l)

  good_terms : (b : ℕ) (Low : Monomial → Type 0) (ts : List LineMultiple) → Every (IsLineMultiple lines Low) ts →
      Every (λ t. IsWithin b t.by) ts → Every (IsGood falling mono_times (IsWithin b) In Low) (to_terms ts)
  good_terms b Low [] h w = tt
  good_terms b Low (t ∷ ts) h w = (
    record {
      ok = w.0;
      member = subst (Contains lines) (sym (whole-led_of t.line (some t.line h.0.member))) h.0.member;
      low = subst (λ v. Low (mono_times t.by v)) (lead-led_of t.line) h.0.low;
    },
    good_terms b Low ts h.1 w.1,
  )

  at-parts : (Low : Monomial → Type 0) (q : Monomial) (ts : List LineMultiple) → Every (IsLineMultiple lines Low) ts →
      val q (sum_of_multiples ts) ≡ val q (summed mono_times (to_terms ts))
  at-parts Low q [] h = refl
  at-parts Low q (t ∷ ts) h =
      at-sum q (multiple_of t.factor t.by t.line) (sum_of_multiples ts)
      ∙ (λ i. (at-multiple q t.factor t.by t.line
      ∙ ap (λ l. val q (times_row t.by t.factor l)) (sym (whole-led_of t.line (some t.line h.0.member)))) i
      +ℤ at-parts Low q ts h.1 i)
      ∙ sym (at-append falling q (times_row t.by t.factor (whole (led_of t.line))) (summed mono_times (to_terms ts)))

  pub to_spans : (b : ℕ) (Low : Monomial → Type 0) (p : Polynomial) → Each (λ m. IsCanonical nat_cmp exponents m) p →
      (s : IsSum lines Low p) → Every (λ t. IsWithin b t.by) s.parts →
      Spans falling mono_times (IsWithin b) In Low p
  to_spans b Low p h s w =
      let fit = every_of (IsLineMultiple lines Low) s.parts s.fit in
      record {
        multiple = s.multiple;
        some = s.some;
        terms = to_terms s.parts;
        good = good_terms b Low s.parts fit w;
        same = λ q. sym (at-times q s.multiple p h) ∙ ap (val q) s.same ∙ at-parts Low q s.parts fit;
      }

-- ---- to the statements
canonical-parts : (ts : List LineMultiple) → IsCanonical falling integers.amounts (sum_of_multiples ts)
canonical-parts [] = record { rises = tt; no_none = tt }
canonical-parts (t ∷ ts) =
    IsCanonical-collect integer_laws.amounts falling_total falling_anti
    (multiple_of t.factor t.by t.line ++ sum_of_multiples ts)

at-terms : (q : Monomial) (ts : List (Summand Monomial)) →
    val q (sum_of_multiples (to_multiples ts)) ≡ val q (summed mono_times ts)
at-terms q [] = refl
at-terms q (t ∷ ts) =
    at-sum q (multiple_of t.factor t.by (whole t.line)) (sum_of_multiples (to_multiples ts))
    ∙ (λ i. at-multiple q t.factor t.by (whole t.line) i +ℤ at-terms q ts i)
    ∙ sym (at-append falling q (times_row t.by t.factor (whole t.line)) (summed mono_times ts))

module _ (lines : List Polynomial) (In : Led Monomial → Type 0)
    (member : (l : Led Monomial) → In l → Contains lines (whole l)) (b : ℕ) where
  fit_parts : (Low High : Monomial → Type 0) → ((v : Monomial) → Low v → High v) → (ts : List (Summand Monomial)) →
      Every (IsGood falling mono_times (IsWithin b) In Low) ts → Every (IsLineMultiple lines High) (to_multiples ts)
  fit_parts Low High to [] g = tt
  fit_parts Low High to (t ∷ ts) g = (
    record {
      monomial = g.0.ok.canonical;
      member = member t.line g.0.member;
      low = to (mono_times t.by t.line.lead) g.0.low;
    },
    fit_parts Low High to ts g.1,
  )

  pub from_spans : (Low High : Monomial → Type 0) → ((v : Monomial) → Low v → High v) → (p : Polynomial) →
      Each (λ m. IsCanonical nat_cmp exponents m) p → Spans falling mono_times (IsWithin b) In Low p →
      IsSum lines High p
  from_spans Low High to p h s = record {
    multiple = s.multiple;
    some = s.some;
    parts = to_multiples s.terms;
    fit = all_of (IsLineMultiple lines High) (to_multiples s.terms) (fit_parts Low High to s.terms s.good);
    same = same_canonical integer_laws.amounts falling_total falling_anti (multiple_of s.multiple [] p)
        (sum_of_multiples (to_multiples s.terms))
        (IsCanonical-collect integer_laws.amounts falling_total falling_anti
        (products mono_times ◌*ℤ◌ (term_of [] s.multiple) p))
        (canonical-parts (to_multiples s.terms))
        (λ q. at-times q s.multiple p h ∙ s.same q ∙ sym (at-terms q s.terms));
  }

-- ---- two polynomials of which nonzero multiples are equal
module _ (In : Led Monomial → Type 0) (b : ℕ) (Low : Monomial → Type 0) where
  good-scaled : (c : ℤ) (ts : List (Summand Monomial)) → Every (IsGood falling mono_times (IsWithin b) In Low) ts →
      Every (IsGood falling mono_times (IsWithin b) In Low) (scaled c ts)
  good-scaled c [] g = tt
  good-scaled c (t ∷ ts) g = (record { ok = g.0.ok; member = g.0.member; low = g.0.low }, good-scaled c ts g.1)

  pub spans_ratio : (u v : ℤ) → u ≢ pos 0 → (p r : Polynomial) →
      ((q : Monomial) → u *ℤ val q p ≡ v *ℤ val q r) → Spans falling mono_times (IsWithin b) In Low r →
      Spans falling mono_times (IsWithin b) In Low p
  spans_ratio u v n p r e s = record {
    multiple = s.multiple *ℤ u;
    some = product_apart s.multiple u s.some n;
    terms = scaled v s.terms;
    good = good-scaled v s.terms s.good;
    same = λ q. *ℤ_assoc s.multiple u (val q p) ∙ ap (λ z. s.multiple *ℤ z) (e q)
        ∙ mul_left s.multiple v (val q r) ∙ ap (λ z. v *ℤ z) (s.same q)
        ∙ sym (at-scaled falling mono_times q v s.terms);
  }
