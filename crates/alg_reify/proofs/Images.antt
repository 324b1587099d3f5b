-- Polynomials with their atoms renamed: what a renaming keeps.
use Rattle.std.specs.Prelude.{◌≡◌, ℕ, zero, suc, true, false, cond, List, [], ◌∷◌, ℤ}
use Rattle.std.proofs.Common.{refl, ap, ◌∙◌}
use Rattle.std.specs.declared.cmp.Ordering.{Ordering}
use Rattle.std.specs.Cmp.{IsTotalOrder}
use Rattle.std.specs.FinMap.{IsAntisymmetric}
use Rattle.alg_mono.specs.FiniteMaps.{Each, rename, renamed}
use Rattle.alg_mono.specs.Numbers.{exponents, integers, is_zero}
use Rattle.alg_mono.specs.Monomials.{falling, mono_times}
use Rattle.alg_mono.specs.Polynomials.{PolyOver, poly_plus, poly_minus, poly_neg, poly_times, poly_term, poly_power}
use Rattle.alg_mono.proofs.Numbers.{natural_laws, integer_laws}
use Rattle.alg_mono.proofs.Each.{Each-collect, Each-renamed}
use Rattle.alg_mono.proofs.Grevlex.{falling_total, falling_anti}
use Rattle.alg_mono.proofs.Renaming.{rename-plus, rename-times, rename-neg}

module _ {K L : Type 0} (ck : K → K → Ordering) (cl : L → L → Ordering) (f : K → L) where
  -- the monomial and the polynomial over the images of the atoms
  abbrev pub mono_image : List (K × ℕ) → List (L × ℕ)
  mono_image m = rename cl exponents f m

  abbrev pub poly_image : PolyOver K → PolyOver L
  poly_image p = rename (falling cl) integers.amounts mono_image p

module _ {K L : Type 0} {ck : K → K → Ordering} {cl : L → L → Ordering}
    (ok : IsTotalOrder ck) (ak : IsAntisymmetric ck) (ol : IsTotalOrder cl) (al : IsAntisymmetric cl)
    (f : K → L) where
  -- the image of a sum, an opposite, a difference, a product, a constant and a power is that of the images
  pub image-plus : (p q : PolyOver K) →
      poly_image ck cl f (poly_plus (falling ck) integers p q)
      ≡ poly_plus (falling cl) integers (poly_image ck cl f p) (poly_image ck cl f q)
  image-plus p q =
      rename-plus integer_laws (falling_anti ok ak) (falling_total ol al) (falling_anti ol al) (mono_image ck cl f) p q

  pub image-neg : (p : PolyOver K) → poly_image ck cl f (poly_neg p) ≡ poly_neg (poly_image ck cl f p)
  image-neg p = rename-neg (falling_total ol al) (falling_anti ol al) (mono_image ck cl f) p

  pub image-minus : (p q : PolyOver K) →
      poly_image ck cl f (poly_minus (falling ck) p q)
      ≡ poly_minus (falling cl) (poly_image ck cl f p) (poly_image ck cl f q)
  image-minus p q =
      image-plus p (poly_neg q)
      ∙ ap (λ r. poly_plus (falling cl) integers (poly_image ck cl f p) r) (image-neg q)

  image-mono : (m n : List (K × ℕ)) →
      mono_image ck cl f (mono_times ck m n) ≡ mono_times cl (mono_image ck cl f m) (mono_image ck cl f n)
  image-mono m n = rename-plus natural_laws ak ol al f m n

  pub image-times : (p q : PolyOver K) →
      poly_image ck cl f (poly_times (falling ck) integers (mono_times ck) p q)
      ≡ poly_times (falling cl) integers (mono_times cl) (poly_image ck cl f p) (poly_image ck cl f q)
  image-times p q =
      rename-times integer_laws (falling_anti ok ak) (falling_total ol al) (falling_anti ol al) (mono_image ck cl f)
      (mono_times ck) (mono_times cl) image-mono p q

  pub image-term : (m : List (K × ℕ)) (c : ℤ) →
      poly_image ck cl f (poly_term (falling ck) integers m c)
      ≡ poly_term (falling cl) integers (mono_image ck cl f m) c
  image-term m c =
      let F = mono_image ck cl f in
      elim (is_zero c) as (λ b. is_zero c ≡ b →
      rename (falling cl) integers.amounts F (cond b [] ((m, c) ∷ [])) ≡ cond b [] ((F m, c) ∷ [])) [
        | true ↦ λ e. refl
        | false ↦ λ e. ap (λ b. cond b [] ((F m, c) ∷ [])) e
      ] refl

  pub image-power : (p : PolyOver K) (n : ℕ) →
      poly_image ck cl f (poly_power (falling ck) integers [] (mono_times ck) p n)
      ≡ poly_power (falling cl) integers [] (mono_times cl) (poly_image ck cl f p) n
  image-power p zero = image-term [] integers.one
  image-power p (suc n) =
      image-times p (poly_power (falling ck) integers [] (mono_times ck) p n)
      ∙ ap (λ r. poly_times (falling cl) integers (mono_times cl) (poly_image ck cl f p) r) (image-power p n)

module _ {K L : Type 0} (ck : K → K → Ordering) (cl : L → L → Ordering) (f : K → L) (P : K → Type 0) (Q : L → Type 0)
    (to : (k : K) → P k → Q (f k)) where
  -- what holds of the images of all atoms
  pub Each-image : (p : PolyOver K) → Each (λ m. Each P m) p → Each (λ m. Each Q m) (poly_image ck cl f p)
  Each-image p h =
      Each-collect (falling cl) integers.amounts (λ m. Each Q m) (renamed (mono_image ck cl f) p)
      (Each-renamed (mono_image ck cl f) (λ m. Each P m) (λ m. Each Q m)
      (λ m g. Each-collect cl exponents Q (renamed f m) (Each-renamed f P Q to m g)) p h)
