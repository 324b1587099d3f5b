-- Fractions with their atoms renamed: each node's fraction goes along.
use Rattle.std.specs.Prelude.{◌≡◌, ℕ, Bool, true, false, [], ◌∷◌, pos}
use Rattle.std.proofs.Common.{sym, ap, ◌∙◌}
use Rattle.std.specs.declared.cmp.Ordering.{Ordering}
use Rattle.std.specs.Cmp.{IsTotalOrder}
use Rattle.std.specs.FinMap.{IsAntisymmetric}
use Rattle.alg_mono.specs.FiniteMaps.{IsCanonical, Each, rename, renamed}
use Rattle.alg_mono.specs.Numbers.{exponents, integers}
use Rattle.alg_mono.specs.Monomials.{mono_over, mono_times, falling}
use Rattle.alg_mono.specs.Polynomials.{PolyOver, poly_times, poly_power, poly_plus, poly_minus}
use Rattle.alg_mono.proofs.Totals.{total-image, total-renamed, total_cong}
use Rattle.alg_mono.proofs.Numbers.{natural_laws}
use Rattle.alg_mono.proofs.Renaming.{rename-plus}
use Rattle.alg_reify.proofs.Images.{poly_image, image-times, image-term, image-power, image-plus, image-minus, image-neg}
use Rattle.alg_meaning.specs.FactorsOver.{FactorsOver, poly_cmp, product}
use Rattle.alg_meaning.specs.FractionsOver.{FractionOver, cleared, frac_opposite, frac_sum, frac_difference, frac_product, frac_quotient, frac_power}
use Rattle.alg_meaning.specs.Orders.{over_total, over_anti}
use Rattle.alg_reify.proofs.FactorProducts.{product-collect}
use Rattle.alg_reify.proofs.RenamedMaps.{rename-over, rename-lcm, rename-power}

module _ {K L : Type 0} {ck : K → K → Ordering} {cl : L → L → Ordering} (ok : IsTotalOrder ck)
    (ak : IsAntisymmetric ck) (ol : IsTotalOrder cl) (al : IsAntisymmetric cl) (f : K → L) where
  abbrev pub image : PolyOver K → PolyOver L
  image p = poly_image ck cl f p

  -- the factors with their atoms renamed
  abbrev pub below_image : FactorsOver K → FactorsOver L
  below_image m = rename (poly_cmp cl) exponents image m

  abbrev pub frac_image : FractionOver K → FractionOver L
  frac_image a = record { top = image a.top; below = below_image a.below }

  -- the image of a product of factors
  pub image-product : (m : FactorsOver K) → image (product ck m) ≡ product cl (below_image m)
  image-product m =
      let one = ([], pos 1) ∷ [] in
      let one' = ([], pos 1) ∷ [] in
      let power = λ (q : PolyOver K) (e : ℕ). poly_power (falling ck) integers [] (mono_times ck) q e in
      let power' = λ (q : PolyOver L) (e : ℕ). poly_power (falling cl) integers [] (mono_times cl) q e in
      let times = poly_times (falling ck) integers (mono_times ck) in
      let times' = poly_times (falling cl) integers (mono_times cl) in
      total-image one times one' times' image (image-term ok ak ol al f [] (pos 1)) (image-times ok ak ol al f) power m
      ∙ total_cong one' times' (λ q e. image-power ok ak ol al f q e) m
      ∙ sym (total-renamed image one' times' power' m) ∙ sym (product-collect ol al (renamed image m))

  module _ (g : PolyOver L → PolyOver K) where
    -- each factor comes back
    abbrev pub Come : FactorsOver K → Type 0
    Come m = Each (λ q. g (image q) ≡ q) m

    pub image-cleared : (a b : FractionOver K) → IsCanonical (poly_cmp ck) exponents b.below → Come a.below →
        Come b.below → image (cleared ck a b) ≡ cleared cl (frac_image a) (frac_image b)
    image-cleared a b c ca cb =
        let lacked = mono_over (poly_cmp ck) b.below a.below in
        image-times ok ak ol al f a.top (product ck lacked)
        ∙ ap (λ r. poly_times (falling cl) integers (mono_times cl) (image a.top) r)
        (image-product lacked
        ∙ ap (product cl) (rename-over (over_total ok ak) (over_anti ok ak) (over_total ol al) (over_anti ol al)
        image g b.below a.below c cb ca))

    -- a sum
    pub image-sum : (a b : FractionOver K) → IsCanonical (poly_cmp ck) exponents a.below →
        IsCanonical (poly_cmp ck) exponents b.below → Come a.below → Come b.below →
        frac_image (frac_sum ck a b) ≡ frac_sum cl (frac_image a) (frac_image b)
    image-sum a b c d ca cb =
        let top = image-plus ok ak ol al f (cleared ck a b) (cleared ck b a)
        ∙ (λ i. poly_plus (falling cl) integers (image-cleared a b d ca cb i) (image-cleared b a c cb ca i)) in
        let below = rename-lcm (over_total ok ak) (over_anti ok ak) (over_total ol al) (over_anti ol al) image g
        a.below b.below d ca cb in
        λ i. record { top = top i; below = below i }

    -- a difference
    pub image-difference : (a b : FractionOver K) → IsCanonical (poly_cmp ck) exponents a.below →
        IsCanonical (poly_cmp ck) exponents b.below → Come a.below → Come b.below →
        frac_image (frac_difference ck a b) ≡ frac_difference cl (frac_image a) (frac_image b)
    image-difference a b c d ca cb =
        let top = image-minus ok ak ol al f (cleared ck a b) (cleared ck b a)
        ∙ (λ i. poly_minus (falling cl) (image-cleared a b d ca cb i) (image-cleared b a c cb ca i)) in
        let below = rename-lcm (over_total ok ak) (over_anti ok ak) (over_total ol al) (over_anti ol al) image g
        a.below b.below d ca cb in
        λ i. record { top = top i; below = below i }

    -- an opposite
    pub image-opposite : (a : FractionOver K) → frac_image (frac_opposite a) ≡ frac_opposite (frac_image a)
    image-opposite a = λ i. record { top = image-neg ok ak ol al f a.top i; below = below_image a.below }

    -- a power
    pub image-frac_power : (a : FractionOver K) (n : ℕ) →
        frac_image (frac_power ck a n) ≡ frac_power cl (frac_image a) n
    image-frac_power a n =
        let top = image-power ok ak ol al f a.top n in
        let below = rename-power (over_anti ok ak) (over_total ol al) (over_anti ol al) image n a.below in
        λ i. record { top = top i; below = below i }

    -- a product
    pub image-frac_product : (a b : FractionOver K) →
        frac_image (frac_product ck a b) ≡ frac_product cl (frac_image a) (frac_image b)
    image-frac_product a b =
        let top = image-times ok ak ol al f a.top b.top in
        let below = rename-plus natural_laws (over_anti ok ak) (over_total ol al) (over_anti ol al) image
        a.below b.below in
        λ i. record { top = top i; below = below i }

    -- a quotient, where the same of the two holds
    pub image-quotient : (u : Bool) (a b : FractionOver K) →
        frac_image (frac_quotient ck u a b) ≡ frac_quotient cl u (frac_image a) (frac_image b)
    image-quotient true a b =
        let part = image-times ok ak ol al f a.top (product ck b.below)
        ∙ ap (λ r. poly_times (falling cl) integers (mono_times cl) (image a.top) r) (image-product b.below) in
        let top = image-times ok ak ol al f (poly_times (falling ck) integers (mono_times ck) a.top
        (product ck b.below)) b.top
        ∙ ap (λ r. poly_times (falling cl) integers (mono_times cl) r (image b.top)) part in
        λ i. record { top = top i; below = below_image a.below }
    image-quotient false a b =
        let top = image-times ok ak ol al f a.top (product ck b.below)
        ∙ ap (λ r. poly_times (falling cl) integers (mono_times cl) (image a.top) r) (image-product b.below) in
        let below = rename-plus natural_laws (over_anti ok ak) (over_total ol al) (over_anti ol al) image
        a.below ((b.top, 1) ∷ []) in
        λ i. record { top = top i; below = below i }
