-- Where all pairs of a basis are below, leads of combinations are divisible.
use Rattle.std.specs.Prelude.{◌≡◌, ◌≢◌, ℕ, ◌+◌, ◌≤◌, true, List, [], ◌∷◌, All}
use Rattle.std.proofs.Common.{refl, subst, ◌∙◌, arith}
use Rattle.std.specs.List.{Contains}
use Rattle.std.specs.Ordering.{nat_cmp}
use Rattle.std.specs.Cmp.{nat_cmp_total}
use Rattle.std.specs.FinMap.{nat_cmp-IsAntisymmetric}
use Rattle.std.proofs.lemmas.List.Elements.{All-contains}
use Rattle.alg_mono.specs.FiniteMaps.{IsCanonical, Each}
use Rattle.alg_mono.specs.Numbers.{exponents, integers}
use Rattle.alg_mono.specs.Mono.{Monomial}
use Rattle.alg_mono.specs.Monomials.{Divides}
use Rattle.alg_mono.specs.NumberedPolynomials.{Polynomial}
use Rattle.alg_mono.specs.Polynomials.{IsPolynomial}
use Rattle.alg_mono.proofs.Lcm.{divides_product}
use Rattle.alg_groebner.specs.Cancelling.{lead_lcm, s_polynomial}
use Rattle.alg_groebner.specs.Leads.{reduces}
use Rattle.alg_pairs.proofs.Dividing.{divides_says}
use Rattle.alg_criterion.specs.Combinations.{LineMultiple, IsLineMultiple, IsBelowOver, ArePairsBelow}
use Rattle.alg_criterion.specs.Laws.{IsBasisLine, LeadsDivide}
use Rattle.alg_criterion.proofs.Spans.{Every, Led, whole, IsLine, Spans, Under, ArePairsBelowLcm, s_entries}
use Rattle.alg_criterion.proofs.Numbered.{IsWithin, mono_times, mono_over, falling}
use Rattle.alg_criterion.proofs.Quotients.{times_comm}
use Rattle.alg_criterion.proofs.Criterion.{leads_divide_lem}
use Rattle.alg_criterion.proofs.Lifts.{from_lcm}
use Rattle.alg_criterion.proofs.Instance.{monomials}
use Rattle.alg_criterion.proofs.Bounds.{every_more, one_bound, within_more, each_more, mono_bound, poly_bound, polys_bound}
use Rattle.alg_criterion.proofs.Lists.{every_of, all_of, every_itself}
use Rattle.alg_criterion.proofs.Restated.{In, to_spans}
use Rattle.alg_criterion.proofs.Cancelled.{s_polynomial_is}
use Rattle.alg_criterion.proofs.Pairs.{entries_span}

-- ---- a bound for the atoms of all monomials in play
abbrev Within : ℕ → List LineMultiple → Type 0
Within b ts = Every (λ t. IsWithin b t.by) ts

parts_more : (b c : ℕ) → b ≤ c → (ts : List LineMultiple) → Within b ts → Within c ts
parts_more b c h ts w =
    every_more (λ (t : LineMultiple). IsWithin b t.by) (λ (t : LineMultiple). IsWithin c t.by) (λ t v. within_more b c h t.by v) ts w

parts_bound : (lines : List Polynomial) (Low : Monomial → Type 0) (ts : List LineMultiple) → All (IsLineMultiple lines Low) ts →
    (b : ℕ) × Within b ts
parts_bound lines Low ts h =
    one_bound (λ (t : LineMultiple) b. IsWithin b t.by) (λ t b c l w. within_more b c l t.by w) ts
    (every_more (IsLineMultiple lines Low) (λ t. (b : ℕ) × IsWithin b t.by) (λ t f. mono_bound t.by f.monomial) ts
    (every_of (IsLineMultiple lines Low) ts h))

module _ (basis : List Polynomial) where
  -- the pair is below by parts within the bound
  abbrev IsPairWithin : Polynomial → Polynomial → ℕ → Type 0
  IsPairWithin f g b = (s : IsBelowOver basis (lead_lcm f g) (s_polynomial f g).poly) × Within b s.parts

  pair_more : (f g : Polynomial) (b c : ℕ) → b ≤ c → IsPairWithin f g b → IsPairWithin f g c
  pair_more f g b c h p = (p.0, parts_more b c h p.0.parts p.1)

  abbrev AreWithin : Polynomial → ℕ → Type 0
  AreWithin f b = Every (λ g. IsPairWithin f g b) basis

  pairs_bound : ArePairsBelow basis → (b : ℕ) × Every (λ f. AreWithin f b) basis
  pairs_bound below =
      one_bound AreWithin
      (λ f b c h w. every_more (λ g. IsPairWithin f g b) (λ g. IsPairWithin f g c) (λ g p. pair_more f g b c h p)
      basis w)
      basis (every_more (Contains basis) (λ f. (b : ℕ) × AreWithin f b) row basis (every_itself basis))
    where
      one : (f g : Polynomial) → Contains basis f → Contains basis g → (b : ℕ) × IsPairWithin f g b
      one f g hf hg =
          let s = below f g hf hg in
          let w = parts_bound basis (λ v. Under falling mono_times (IsWithin 0) (lead_lcm f g) v) s.parts s.fit in
          (w.0, (s, w.1))

      row : (f : Polynomial) → Contains basis f → (b : ℕ) × AreWithin f b
      row f hf =
          one_bound (IsPairWithin f) (λ g b c h p. pair_more f g b c h p) basis
          (every_more (Contains basis) (λ g. (b : ℕ) × IsPairWithin f g b) (λ g hg. one f g hf hg) basis
          (every_itself basis))

  module _ (lines : All IsBasisLine basis) where
    some : (f : Polynomial) → Contains basis f → f ≢ []
    some f h = (All-contains IsBasisLine basis f lines h).1

    polynomial : (f : Polynomial) → Contains basis f → IsPolynomial nat_cmp integers f
    polynomial f h = (All-contains IsBasisLine basis f lines h).0

    module _ (b : ℕ) (within : Every (Each (IsWithin b)) basis) (pairs : Every (λ f. AreWithin f b) basis) where
      line : (l : Led Monomial) → In basis some l → IsLine falling mono_times (IsWithin b) l
      line l h = record {
        canonical = (polynomial (whole l) h).canonical;
        ok = All-contains (Each (IsWithin b)) basis (whole l) (all_of (Each (IsWithin b)) basis within) h;
      }

      pairs_below : ArePairsBelowLcm falling mono_times (IsWithin b) (In basis some) mono_over
      pairs_below f g hf hg =
          let row = All-contains (λ f. AreWithin f b) basis (whole f) (all_of (λ f. AreWithin f b) basis pairs) hf in
          let p = All-contains (λ g. IsPairWithin (whole f) g b) basis (whole g)
          (all_of (λ g. IsPairWithin (whole f) g b) basis row) hg in
          let x = (s_polynomial (whole f) (whole g)).poly in
          let S = s_polynomial_is b f g (line f hf) (line g hg) in
          let low = λ (w : Monomial). Under falling mono_times (IsWithin b) w in
          let monos : Each (λ m. IsCanonical nat_cmp exponents m) x = canonical_keys x S.poly.ok in
          subst (λ w. Spans falling mono_times (IsWithin b) (In basis some) (low w)
          (s_entries falling mono_times (IsWithin b) (In basis some) mono_over f g))
          (times_comm f.lead (mono_over g.lead f.lead))
          (entries_span b (In basis some) f g (line f hf) (line g hg) (low (lead_lcm (whole f) (whole g)))
          (to_spans basis some b (low (lead_lcm (whole f) (whole g))) x monos p.0 p.1))
        where
          canonical_keys : (x : Polynomial) → Each (IsWithin b) x → Each (λ m. IsCanonical nat_cmp exponents m) x
          canonical_keys [] h = tt
          canonical_keys (e ∷ x) h = (h.0.canonical, canonical_keys x h.1)

      divided : (p : Led Monomial) → IsLine falling mono_times (IsWithin b) p →
          Spans falling mono_times (IsWithin b) (In basis some) (λ v. Unit {0}) (whole p) →
          (f : Polynomial) × Contains basis f × (reduces f (whole p) ≡ true)
      divided p ip s =
          let L = monomials b in
          let r = leads_divide_lem L.total L.anti mono_times L.comm (IsWithin b) L.keeps L.ok_times L.falls
          (In basis some) line
          (from_lcm L.total L.anti mono_times L.comm L.assoc (IsWithin b) L.keeps L.ok_times (In basis some) line
          mono_over L.ok_over L.lcm_least pairs_below) p ip s in
          let product : Divides nat_cmp r.line.lead p.lead =
          subst (Divides nat_cmp r.line.lead) (times_comm r.line.lead r.quotient ∙ r.divides)
          (divides_product nat_cmp_total nat_cmp-IsAntisymmetric r.line.lead r.quotient) in (
            whole r.line,
            r.member,
            (divides_says r.line.lead p.lead ((line r.line r.member).ok.0.canonical)).1 product,
          )

pub leads_divide : LeadsDivide
leads_divide basis lines below [] ip apart c = absurd (apart refl)
leads_divide basis lines below (e ∷ p) ip apart c =
    let monos = every_more IsBasisLine (Each (λ m. IsCanonical nat_cmp exponents m)) (λ f h. h.0.monomials) basis
    (every_of IsBasisLine basis lines) in
    let x = polys_bound basis monos in
    let y = poly_bound (e ∷ p) ip.monomials in
    let z = parts_bound basis (λ v. Unit {0}) c.parts c.fit in
    let w = pairs_bound basis below in
    let b = x.0 + y.0 + z.0 + w.0 in
    let within = every_more (Each (IsWithin x.0)) (Each (IsWithin b)) (each_more x.0 b (omega arith)) basis x.1 in
    let pairs = every_more (λ f. AreWithin basis f w.0) (λ f. AreWithin basis f b)
    (λ f r. every_more (λ g. IsPairWithin basis f g w.0) (λ g. IsPairWithin basis f g b)
    (λ g q. pair_more basis f g w.0 b (omega arith) q) basis r) basis w.1 in
    divided basis lines b within pairs (record { lead = e.0; leading = e.1; rest = p })
    (record { canonical = ip.canonical; ok = each_more y.0 b (omega arith) (e ∷ p) y.1 })
    (to_spans basis (some basis lines) b (λ v. Unit {0}) (e ∷ p) ip.monomials c
    (parts_more z.0 b (omega arith) c.parts z.1))
