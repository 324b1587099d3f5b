-- What each key keeps.
use Rattle.std.specs.Prelude.{true, false, cond, List, [], ◌∷◌, ◌++◌, ℤ}
use Rattle.std.specs.declared.cmp.Ordering.{Ordering}
use Rattle.std.specs.declared.cmp.Ordering.TheVariants.{Less, Equal, Greater}
use Rattle.std.specs.FinMap.Entries.{by_order}
use Rattle.alg_mono.specs.FiniteMaps.{Amounts, keep, put_in, collect, row, products, renamed, Each}
use Rattle.alg_mono.specs.Polynomials.{poly_neg}

module _ {K A : Type 0} (cmp : K → K → Ordering) (M : Amounts A) (P : K → Type 0) where
  pub Each-keep : (k : K) (a : A) (es : List (K × A)) → P k → Each P es → Each P (keep cmp M k a es)
  Each-keep k a es p h = elim (M.is_none a) as (λ b. Each P (cond b es ((k, a) ∷ es))) [ true ↦ h | false ↦ (p, h) ]

  pub Each-put_in : (k : K) (a : A) (es : List (K × A)) → P k → Each P es → Each P (put_in cmp M k a es)
  Each-put_in k a [] p h = Each-keep k a [] p h
  Each-put_in k a (e ∷ es) p h =
      elim (cmp k e.0) as (λ r.
      Each P (by_order r (keep cmp M k a (e ∷ es)) (keep cmp M e.0 (M.plus a e.1) es) (e ∷ put_in cmp M k a es))) [
        | Less ↦ Each-keep k a (e ∷ es) p h
        | Equal ↦ Each-keep e.0 (M.plus a e.1) es h.0 h.1
        | Greater ↦ (h.0, Each-put_in k a es p h.1)
      ]

  pub Each-collect : (es : List (K × A)) → Each P es → Each P (collect cmp M es)
  Each-collect [] h = tt
  Each-collect (e ∷ es) h = Each-put_in e.0 e.1 (collect cmp M es) h.0 (Each-collect es h.1)

module _ {K A : Type 0} (P : K → Type 0) where
  pub Each-append : (es fs : List (K × A)) → Each P es → Each P fs → Each P (es ++ fs)
  Each-append [] fs h g = g
  Each-append (e ∷ es) fs h g = (h.0, Each-append es fs h.1 g)

module _ {K L A : Type 0} (f : K → L) (P : K → Type 0) (Q : L → Type 0) (to : (k : K) → P k → Q (f k)) where
  pub Each-renamed : (es : List (K × A)) → Each P es → Each Q (renamed f es)
  Each-renamed [] h = tt
  Each-renamed (e ∷ es) h = (to e.0 h.0, Each-renamed es h.1)

module _ {K A L C J D : Type 0} (times : K → L → J) (mul : A → C → D) (P : K → Type 0) (Q : L → Type 0) (R : J → Type 0)
    (meets : (k : K) (l : L) → P k → Q l → R (times k l)) where
  Each-row : (k : K) (a : A) (fs : List (L × C)) → P k → Each Q fs → Each R (row times mul k a fs)
  Each-row k a [] p h = tt
  Each-row k a (f ∷ fs) p h = (meets k f.0 p h.0, Each-row k a fs p h.1)

  pub Each-products : (es : List (K × A)) (fs : List (L × C)) → Each P es → Each Q fs →
      Each R (products times mul es fs)
  Each-products [] fs h g = tt
  Each-products (e ∷ es) fs h g =
      Each-append R (row times mul e.0 e.1 fs) (products times mul es fs) (Each-row e.0 e.1 fs h.0 g)
      (Each-products es fs h.1 g)

module _ {K A : Type 0} {P Q : K → Type 0} (to : (k : K) → P k → Q k) where
  pub Each-weaker : (es : List (K × A)) → Each P es → Each Q es
  Each-weaker [] h = tt
  Each-weaker (e ∷ es) h = (to e.0 h.0, Each-weaker es h.1)

pub Each-neg : {M : Type 0} (P : M → Type 0) (p : List (M × ℤ)) → Each P p → Each P (poly_neg p)
Each-neg P [] h = tt
Each-neg P (e ∷ p) h = (h.0, Each-neg P p h.1)
