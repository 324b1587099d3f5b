-- A renaming of atoms that can be undone keeps fractions, the rules that they break, and the tests on numerators.
use Rattle.std.specs.Prelude.{◌≡◌, ℕ, ◌+◌, ◌*◌, ◌^◌, Bool, true, false, cond, not, ◌||◌, List, [], ◌∷◌, ◌++◌, ℤ, pos, negsuc}
use Rattle.std.proofs.Common.{refl, sym, ap, subst, ◌∙◌}
use Rattle.std.specs.declared.cmp.Ordering.{Ordering}
use Rattle.std.specs.Cmp.{IsTotalOrder}
use Rattle.std.specs.FinMap.{IsAntisymmetric}
use Rattle.std.specs.Ordering.{eq_by_cmp}
use Rattle.alg_mono.specs.FiniteMaps.{Each}
use Rattle.alg_mono.specs.Numbers.{is_zero}
use Rattle.alg_mono.specs.Outcomes.{Outcome, outcome, first_breach, product_outcome}
use Rattle.alg_mono.specs.Polynomials.{PolyOver, norm}
use Rattle.alg_mono.proofs.Each.{Each-weaker}
use Rattle.alg_meaning.specs.FactorsOver.{FactorsOver, poly_cmp, lacks}
use Rattle.alg_meaning.specs.FractionRules.{worse, all_factors, over_outcome, below_outcome, cleared_outcome}
use Rattle.alg_meaning.specs.FractionsOver.{FractionOver, is_constant, is_unit, cleared, frac_sum, frac_product, frac_quotient, frac_power}
use Rattle.alg_meaning.specs.Orders.{over_total, over_anti}
use Rattle.alg_reify.specs.KeptFractions.{KeepsFractions, KeepsRules, KeepsTests}
use Rattle.alg_reify.proofs.Coefficients.{passes, only_equal}
use Rattle.alg_reify.proofs.FactorMeasures.{AreLike, nothing_like, one_like, both_like, same_rule, factors_like, below_like, over_like}
use Rattle.alg_reify.proofs.FractionsIn.{IsPolynomialIn, IsFractionIn, lacks_in, common_in, cleared_in, product_in, quotient_in, power_fraction_in}
use Rattle.alg_reify.proofs.Images.{poly_image}
use Rattle.alg_reify.proofs.Once.{same_test}
use Rattle.alg_reify.proofs.RenamedFractions.{frac_image, image-opposite, image-sum, image-difference, image-frac_product, image-quotient, image-frac_power, image-cleared}
use Rattle.alg_reify.proofs.RenamedMaps.{rename-over}
use Rattle.alg_reify.proofs.Undone.{IsLike, like_image, poly_back}

constant_kept : (L : Type 0) (z : Bool) (c : ℤ) → is_zero c ≡ z → not z ≡ true →
    is_constant {K = L} (cond z [] (([], c) ∷ [])) ≡ true
constant_kept L true c e h = absurd (cc)
constant_kept L false c e h = ap not e

-- a constant other than zero has a constant as its image
constant_image : {K L : Type 0} (ck : K → K → Ordering) (cl : L → L → Ordering) (f : K → L) (p : PolyOver K) →
    is_constant p ≡ true → is_constant (poly_image ck cl f p) ≡ true
constant_image ck cl f [] h = absurd (cc)
constant_image {L = L} ck cl f (([], c) ∷ []) h = constant_kept L (is_zero c) c refl h
constant_image ck cl f (([], c) ∷ (e ∷ p)) h = absurd (cc)
constant_image ck cl f (((k ∷ m), c) ∷ []) h = absurd (cc)
constant_image ck cl f (((k ∷ m), c) ∷ (e ∷ p)) h = absurd (cc)

module _ {K L : Type 0} {ck : K → K → Ordering} {cl : L → L → Ordering} (ok : IsTotalOrder ck)
    (ak : IsAntisymmetric ck) (ol : IsTotalOrder cl) (al : IsAntisymmetric cl) (f : K → L) (g : L → K) (P : K → Type 0)
    (comes : (k : K) → P k → g (f k) ≡ k) where
  -- a polynomial with its atoms renamed, and read back
  abbrev pub image : PolyOver K → PolyOver L
  image p = poly_image ck cl f p

  abbrev pub read : PolyOver L → PolyOver K
  read q = poly_image cl ck g q

  abbrev In : PolyOver K → Type 0
  In p = IsPolynomialIn ck P p

  abbrev Back : List (K × ℕ) → Type 0
  Back m = Each (λ k. g (f k) ≡ k) m

  all_back : (p : PolyOver K) → In p → Each Back p
  all_back p h = Each-weaker (λ (m : List (K × ℕ)) held. Each-weaker comes m held) p h.held

  -- the polynomial comes back, and it is like its image
  pub comes_back : (p : PolyOver K) → In p → read (image p) ≡ p
  comes_back p h = poly_back ok ak ol al f g p h.polynomial (all_back p h)

  pub is_like : (p : PolyOver K) → In p → IsLike p (image p)
  is_like p h = like_image ok ak ol al f g p h.polynomial (all_back p h)

  -- so do all factors
  come : (m : FactorsOver K) → Each In m → Each (λ q. read (image q) ≡ q) m
  come m h = Each-weaker comes_back m h

  likes : (m : FactorsOver K) → Each In m → Each (λ q. IsLike q (image q)) m
  likes m h = Each-weaker is_like m h

  -- ---- tests
  module _ (p : PolyOver K) (of : In p) where
    -- a test on one polynomial that is its own image
    equal_to : (c : PolyOver K) (d : PolyOver L) → image c ≡ d → read d ≡ c →
        eq_by_cmp (poly_cmp ck) p c ≡ eq_by_cmp (poly_cmp cl) (image p) d
    equal_to c d there back =
        same_test (eq_by_cmp (poly_cmp ck) p c) (eq_by_cmp (poly_cmp cl) (image p) d)
        (λ h. passes (over_total ol al) (image p) d (ap image (only_equal (over_anti ok ak) p c h) ∙ there))
        (λ h. passes (over_total ok ak) p c
        (sym (comes_back p of) ∙ ap read (only_equal (over_anti ol al) (image p) d h) ∙ back))

    pub keeps_tests : KeepsTests ck cl image (frac_image ok ak ol al f) p
    keeps_tests = record {
      zero = (is_like p of).nothing;
      unit =
          λ i. equal_to (([], pos 1) ∷ []) (([], pos 1) ∷ []) refl refl i
          || equal_to (([], negsuc 0) ∷ []) (([], negsuc 0) ∷ []) refl refl i;
      constant =
          same_test (is_constant p) (is_constant (image p)) (constant_image ck cl f p)
          (λ h. subst (λ q. is_constant q ≡ true) (comes_back p of) (constant_image cl ck g (image p) h));
    }

  -- ---- fractions
  abbrev F : FractionOver K → FractionOver L
  F a = frac_image ok ak ol al f a

  abbrev Is : FractionOver K → Type 0
  Is a = IsFractionIn ck P a

  pub keeps_fractions : (a b : FractionOver K) → Is a → Is b → KeepsFractions ck cl image F a b
  keeps_fractions a b h k = record {
    opposite = image-opposite ok ak ol al f read a;
    sum =
        image-sum ok ak ol al f read a b h.canonical k.canonical (come a.below h.below) (come b.below k.below);
    difference =
        image-difference ok ak ol al f read a b h.canonical k.canonical (come a.below h.below) (come b.below k.below);
    product = image-frac_product ok ak ol al f read a b;
    quotient = λ unit. image-quotient ok ak ol al f read unit a b;
    power = λ n. image-frac_power ok ak ol al f read a n;
    numerator = image-cleared ok ak ol al f read a b k.canonical (come a.below h.below) (come b.below k.below);
  }

  -- ---- rules

  -- a fraction's new factors: their product breaks the rule that the renamed ones break
  below_rule : (c : FractionOver K) (d : FractionOver L) → Each In c.below → F c ≡ d →
      below_outcome c.below ≡ below_outcome d.below
  below_rule c d of same =
      below_like ol al image c.below (likes c.below of) ∙ ap (λ (x : FractionOver L). below_outcome x.below) same

  -- a numerator times the factors that its fraction lacks
  numerator_rule : (a b : FractionOver K) → Is a → Is b →
      over_outcome a.top (lacks ck a.below b.below) ≡ over_outcome (F a).top (lacks cl (F a).below (F b).below)
  numerator_rule a b h k =
      over_like ol al image a.top (lacks ck a.below b.below) (is_like a.top h.top)
      (likes (lacks ck a.below b.below) (lacks_in ok ak P a.below b.below k.below))
      ∙ ap (over_outcome (F a).top) (rename-over (over_total ok ak) (over_anti ok ak) (over_total ol al)
      (over_anti ol al) image read b.below a.below k.canonical (come b.below k.below) (come a.below h.below))

  -- the norm of a cleared numerator
  numerator_norm : (a b : FractionOver K) → Is a → Is b → norm (cleared ck a b) ≡ norm (cleared cl (F a) (F b))
  numerator_norm a b h k =
      (is_like (cleared ck a b) (cleared_in ok ak P a b h k)).norm
      ∙ ap (λ (q : PolyOver L). norm q) (keeps_fractions a b h k).numerator

  module _ (a b : FractionOver K) (h : Is a) (k : Is b) where
    numerators_rule : cleared_outcome ck a b ≡ cleared_outcome cl (F a) (F b)
    numerators_rule = λ i. worse (numerator_rule a b h k i) (numerator_rule b a k h i)

    -- b's numerator, where it is 1 or -1
    tail_like : (unit : Bool) → AreLike (cond unit (b.top ∷ []) []) (cond unit ((F b).top ∷ []) [])
    tail_like true = one_like b.top (F b).top (is_like b.top k.top)
    tail_like false = nothing_like

    -- a quotient, whichever of the two cases it is
    quotient_rule : (unit : Bool) →
        worse (product_outcome (a.top ∷ (all_factors b.below ++ cond unit (b.top ∷ []) [])))
        (below_outcome (frac_quotient ck unit a b).below)
        ≡ worse (product_outcome ((F a).top ∷ (all_factors (F b).below ++ cond unit ((F b).top ∷ []) [])))
        (below_outcome (frac_quotient cl unit (F a) (F b)).below)
    quotient_rule unit =
        let all = factors_like ol al image b.below (likes b.below k.below) in
        let rest = both_like (all_factors b.below) (cond unit (b.top ∷ []) []) (all_factors (F b).below)
        (cond unit ((F b).top ∷ []) []) all (tail_like unit) in
        let tops = both_like (a.top ∷ []) (all_factors b.below ++ cond unit (b.top ∷ []) []) ((F a).top ∷ [])
        (all_factors (F b).below ++ cond unit ((F b).top ∷ []) [])
        (one_like a.top (F a).top (is_like a.top h.top)) rest in
        let above = same_rule (a.top ∷ (all_factors b.below ++ cond unit (b.top ∷ []) []))
        ((F a).top ∷ (all_factors (F b).below ++ cond unit ((F b).top ∷ []) [])) tops in
        let below = below_rule (frac_quotient ck unit a b) (frac_quotient cl unit (F a) (F b))
        (quotient_in ok ak P a b h k unit).below ((keeps_fractions a b h k).quotient unit) in
        λ i. worse (above i) (below i)

    pub keeps_rules : KeepsRules ck cl image F a b
    keeps_rules =
        let keeps = keeps_fractions a b h k in
        record {
          sum =
              let below = below_rule (frac_sum ck a b) (frac_sum cl (F a) (F b))
              (common_in ok ak P a.below b.below h.below k.below) keeps.sum in
              λ i. worse (first_breach (numerators_rule i)
              (outcome (numerator_norm a b h k i + numerator_norm b a k h i) 0)) (below i);
          product =
              let tops = both_like (a.top ∷ []) (b.top ∷ []) ((F a).top ∷ []) ((F b).top ∷ [])
              (one_like a.top (F a).top (is_like a.top h.top)) (one_like b.top (F b).top (is_like b.top k.top)) in
              let above = same_rule (a.top ∷ b.top ∷ []) ((F a).top ∷ (F b).top ∷ []) tops in
              let below = below_rule (frac_product ck a b) (frac_product cl (F a) (F b))
              (product_in ok ak P a b h k).below keeps.product in
              λ i. worse (above i) (below i);
          quotient =
              quotient_rule (is_unit ck b.top)
              ∙ ap (λ unit. worse (product_outcome ((F a).top ∷ (all_factors (F b).below ++ cond unit
              ((F b).top ∷ []) [])))
              (below_outcome (frac_quotient cl unit (F a) (F b)).below))
              (keeps_tests b.top k.top).unit;
          power =
              λ n.
              let top = is_like a.top h.top in
              let below = below_rule (frac_power ck a n) (frac_power cl (F a) n)
              (power_fraction_in ok ak P a n h).below (keeps.power n) in
              λ i. worse (cond (top.nothing i) Outcome.Fine (outcome (top.norm i ^ n) (n * top.degree i))) (below i);
          numerators = numerators_rule;
        }
