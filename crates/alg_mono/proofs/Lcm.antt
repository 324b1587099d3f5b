-- What one monomial has beyond another, and the greater exponent of each atom.
use Rattle.std.specs.Prelude.{◌≡◌, ℕ, ◌+◌, ◌-◌, ◌≤◌, max, true, false, cond, List, [], ◌∷◌, ◌++◌}
use Rattle.std.proofs.lemmas.List.Sums.{sum_by-cons}
use Rattle.std.proofs.Common.{refl, sym, ap, subst, ◌∙◌, T, arith}
use Rattle.std.specs.declared.cmp.Ordering.{Ordering}
use Rattle.std.specs.Ordering.{eq_by_cmp}
use Rattle.std.specs.Cmp.{IsTotalOrder}
use Rattle.std.specs.FinMap.{IsAntisymmetric}
use Rattle.std.specs.FinMap.Entries.{below_all}
use Rattle.alg_mono.specs.FiniteMaps.{IsCanonical, Each}
use Rattle.alg_mono.specs.Numbers.{exponents}
use Rattle.alg_mono.specs.Monomials.{exponent, lowered, mono_over, mono_times, lcm, scaled, Divides, degree, IsMono}
use Rattle.alg_mono.proofs.Numbers.{exponent_laws}
use Rattle.alg_mono.proofs.Canonical.{same_canonical, amount-collect, amount-below, rest_of, first, equal, IsCanonical-collect}
use Rattle.alg_mono.proofs.Monomials.{exponent-mono_times, degree-collect}

module _ {K : Type 0} (cmp : K → K → Ordering) where
  pub Each-lowered : (P : K → Type 0) (d m : List (K × ℕ)) → Each P m → Each P (lowered cmp d m)
  Each-lowered P d [] h = tt
  Each-lowered P d (e ∷ m) h = (h.0, Each-lowered P d m h.1)

pub Each-scaled : {K : Type 0} (P : K → Type 0) (n : ℕ) (m : List (K × ℕ)) → Each P m → Each P (scaled n m)
Each-scaled P n [] h = tt
Each-scaled P n (e ∷ m) h = (h.0, Each-scaled P n m h.1)

module _ {K : Type 0} {cmp : K → K → Ordering} (o : IsTotalOrder cmp) (anti : IsAntisymmetric cmp) where
  abbrev IsCan : List (K × ℕ) → Type 0
  IsCan m = IsCanonical cmp exponents m

  exponent-lowered : (k : K) (d m : List (K × ℕ)) → IsCan m →
      exponent cmp k (lowered cmp d m) ≡ exponent cmp k m - exponent cmp k d
  exponent-lowered k d [] c = omega arith
  exponent-lowered k d (e ∷ m) c =
      let l = exponent cmp k (lowered cmp d m) in
      let s = exponent cmp k m in
      let x = exponent cmp k d in
      let ih : l ≡ s - x = exponent-lowered k d m (rest_of exponent_laws o anti e m c) in
      elim (eq_by_cmp cmp k e.0) as (λ t. eq_by_cmp cmp k e.0 ≡ t →
      cond t (e.1 - exponent cmp e.0 d) 0 + l ≡ (cond t e.1 0 + s) - x) [
        | true ↦ λ p.
            let is : k ≡ e.0 = anti k e.0 (equal _ (subst T (sym p) tt)) in
            let below = subst (λ q. T (below_all cmp q m)) (sym is) (first _ _ c.rises) in
            let none : s ≡ 0 = amount-below exponent_laws o anti k m below in
            let same : exponent cmp e.0 d ≡ x = ap (λ q. exponent cmp q d) (sym is) in
            here e.1 (exponent cmp e.0 d) l s x ih none same
        | false ↦ λ p. beside l s x ih
      ] refl
    where
      here : (n y l s x : ℕ) → l ≡ s - x → s ≡ 0 → y ≡ x → (n - y) + l ≡ (n + s) - x
      here n y l s x i z e = omega arith

      beside : (l s x : ℕ) → l ≡ s - x → 0 + l ≡ (0 + s) - x
      beside l s x i = omega arith

  -- the exponents of m over d
  pub exponent-mono_over : (k : K) (m d : List (K × ℕ)) → IsCan m →
      exponent cmp k (mono_over cmp m d) ≡ exponent cmp k m - exponent cmp k d
  exponent-mono_over k m d c = amount-collect exponent_laws o anti k (lowered cmp d m) ∙ exponent-lowered k d m c

  pub IsCanonical-mono_over : (m d : List (K × ℕ)) → IsCan (mono_over cmp m d)
  IsCanonical-mono_over m d = IsCanonical-collect exponent_laws o anti (lowered cmp d m)

  degree-lowered : (d m : List (K × ℕ)) → degree (lowered cmp d m) ≤ degree m
  degree-lowered d [] = omega arith
  degree-lowered d (e ∷ m) =
      omega (
        arith,
        sum_by-cons (λ (x : K × ℕ). x.1) (e.0, e.1 - exponent cmp e.0 d) (lowered cmp d m),
        sum_by-cons (λ (x : K × ℕ). x.1) e m,
        degree-lowered d m,
      )

  pub IsMono-mono_over : (m d : List (K × ℕ)) → IsMono cmp m → IsMono cmp (mono_over cmp m d)
  IsMono-mono_over m d i = record {
    canonical = IsCanonical-mono_over m d;
    small = let s = i.small in omega (arith, degree-collect o anti (lowered cmp d m), degree-lowered d m);
  }

  -- d times m over d is m
  pub times_over : (m d : List (K × ℕ)) → IsCan m → Divides cmp d m → mono_times cmp d (mono_over cmp m d) ≡ m
  times_over m d c divides =
      same_canonical exponent_laws o anti (mono_times cmp d (mono_over cmp m d)) m
      (IsCanonical-collect exponent_laws o anti (d ++ mono_over cmp m d)) c
      (λ k. omega (arith, exponent-mono_times o anti k d (mono_over cmp m d), exponent-mono_over k m d c, divides k))

  -- what is a product is divided by its factor
  pub divides_product : (d q : List (K × ℕ)) → Divides cmp d (mono_times cmp d q)
  divides_product d q k = omega (arith, exponent-mono_times o anti k d q)

  pub exponent-lcm : (k : K) (a b : List (K × ℕ)) → IsCan b →
      exponent cmp k (lcm cmp a b) ≡ max (exponent cmp k a) (exponent cmp k b)
  exponent-lcm k a b c =
      exponent-mono_times o anti k a (mono_over cmp b a)
      ∙ ap (λ x. exponent cmp k a + x) (exponent-mono_over k b a c)
      ∙ greater (exponent cmp k a) (exponent cmp k b)
    where
      greater : (x y : ℕ) → x + (y - x) ≡ max x y
      greater x y = grind arith

  pub IsCanonical-lcm : (a b : List (K × ℕ)) → IsCan (lcm cmp a b)
  IsCanonical-lcm a b = IsCanonical-collect exponent_laws o anti (a ++ mono_over cmp b a)

  pub lcm_comm : (a b : List (K × ℕ)) → IsCan a → IsCan b → lcm cmp a b ≡ lcm cmp b a
  lcm_comm a b c d =
      same_canonical exponent_laws o anti (lcm cmp a b) (lcm cmp b a) (IsCanonical-lcm a b) (IsCanonical-lcm b a)
      (λ k. exponent-lcm k a b d ∙ turned (exponent cmp k a) (exponent cmp k b) ∙ sym (exponent-lcm k b a c))
    where
      turned : (x y : ℕ) → max x y ≡ max y x
      turned x y = grind arith
