-- Sums of basis lines over any monomials, and what it is to be such a sum.
-- A list of a polynomial rises in `cmp`, so its lead comes first: `cmp v w ≡ Less` says that v is the greater monomial.
use Rattle.std.proofs.Common.{◌⊎◌}
use Rattle.std.specs.Prelude.{◌≡◌, ◌≢◌, List, [], ◌∷◌, ◌++◌, ℤ, pos, ◌*ℤ◌}
use lib.IntN.{neg_ℤ}
use Rattle.std.specs.Cmp.{IsTotalOrder}
use Rattle.std.specs.FinMap.{IsAntisymmetric}
use Rattle.std.specs.declared.cmp.Ordering.{Ordering}
use Rattle.std.specs.declared.cmp.Ordering.TheVariants.{Less}
use Rattle.alg_mono.specs.FiniteMaps.{IsCanonical, amount, row, Each}
use Rattle.alg_mono.specs.Numbers.{integers}

-- every member of a list keeps P
abbrev pub Every : {A : Type 0} → (A → Type 0) → List A → Type 0
Every P [] = Unit {0}
Every P (x ∷ xs) = P x × Every P xs

-- a polynomial other than zero: its lead, the coefficient there, and the other entries
pub record Led (M : Type 0) : Type 0 where
  pub lead : M
  pub leading : ℤ
  pub rest : List (M × ℤ)

abbrev pub whole : {M : Type 0} → Led M → List (M × ℤ)
whole l = (l.lead, l.leading) ∷ l.rest

-- a number times a monomial times a line
pub record Summand (M : Type 0) : Type 0 where
  pub factor : ℤ
  pub by : M
  pub line : Led M

module _ {M : Type 0} (times : M → M → M) where
  -- the entries of the sum, not yet collected
  abbrev pub summed : List (Summand M) → List (M × ℤ)
  summed [] = []
  summed (t ∷ ts) = row times ◌*ℤ◌ t.by t.factor (whole t.line) ++ summed ts

  -- the lead of a summand
  abbrev pub top : Summand M → M
  top t = times t.by t.line.lead

module _ {M : Type 0} (cmp : M → M → Ordering) (times : M → M → M) (Ok : M → Type 0) where
  abbrev pub at : M → List (M × ℤ) → ℤ
  at q p = amount cmp integers.amounts q p

  -- v is less than w
  abbrev pub Under : M → M → Type 0
  Under w v = cmp w v ≡ Less

  pub record IsLine (l : Led M) : Type 0 where
    pub canonical : IsCanonical cmp integers.amounts (whole l)
    pub ok : Each Ok (whole l)

  module _ (In : Led M → Type 0) where
    -- a summand over the basis whose lead is as Low says
    pub record IsGood (Low : M → Type 0) (t : Summand M) : Type 0 where
      pub ok : Ok t.by
      pub member : In t.line
      pub low : Low (top times t)

    -- a nonzero integer times p is a sum of such summands
    pub record Spans (Low : M → Type 0) (p : List (M × ℤ)) : Type 0 where
      pub multiple : ℤ
      pub some : multiple ≢ pos 0
      pub terms : List (Summand M)
      pub good : Every (IsGood Low) terms
      pub same : (q : M) → multiple *ℤ at q p ≡ at q (summed times terms)

    -- the entries of  b*m*f - a*n*g, for a and b the coefficients at the leads of f and g
    abbrev pub crossed : Led M → Led M → M → M → List (M × ℤ)
    crossed f g m n = row times ◌*ℤ◌ m g.leading (whole f) ++ row times ◌*ℤ◌ n (neg_ℤ f.leading) (whole g)

    -- law 2: wherever two products of basis lines have one lead, their difference is below it
    abbrev pub ArePairsBelow : Type 0
    ArePairsBelow = (f g : Led M) → In f → In g → (m n : M) → Ok m → Ok n → times m f.lead ≡ times n g.lead →
        Spans (Under (times m f.lead)) (crossed f g m n)

    -- the same for the least such products alone: the S-polynomial of every two lines is below the lcm of their leads.
    -- `over m n` is the part of m that n lacks, so that `times (over g f) f` is the lcm of f and g
    module _ (over : M → M → M) where
      abbrev pub s_entries : Led M → Led M → List (M × ℤ)
      s_entries f g = crossed f g (over g.lead f.lead) (over f.lead g.lead)

      abbrev pub lcm_of : Led M → Led M → M
      lcm_of f g = times (over g.lead f.lead) f.lead

      abbrev pub ArePairsBelowLcm : Type 0
      ArePairsBelowLcm = (f g : Led M) → In f → In g → Spans (Under (lcm_of f g)) (s_entries f g)

    -- law 3's conclusion
    pub record IsReducible (p : Led M) : Type 0 where
      pub line : Led M
      pub member : In line
      pub quotient : M
      pub ok : Ok quotient
      pub divides : times quotient line.lead ≡ p.lead

-- v does not exceed w
abbrev pub UpTo : {M : Type 0} → (M → M → Ordering) → M → M → Type 0
UpTo cmp w v = (cmp w v ≡ Less) ⊎ (w ≡ v)

-- the monomials that do not exceed the lead of h
abbrev pub LowOf : {M : Type 0} → (M → M → Ordering) → List (M × ℤ) → M → Type 0
LowOf cmp [] v = ⊥
LowOf cmp (e ∷ h) v = UpTo cmp e.0 v

-- what the theory asks of the monomials: `over m n` is the part of m that n lacks, `Ok` tells the monomials that
-- count, as those in the first n atoms
pub record IsMonomials {M : Type 0} (cmp : M → M → Ordering) (times over : M → M → M) (one : M) (Ok : M →
    Type 0) : Type 1 where
  pub total : IsTotalOrder cmp
  pub anti : IsAntisymmetric cmp
  pub comm : (m n : M) → times m n ≡ times n m
  pub assoc : (m n k : M) → times (times m n) k ≡ times m (times n k)
  pub one_times : (m : M) → Ok m → times one m ≡ m
  pub ok_one : Ok one
  pub ok_times : (m n : M) → Ok m → Ok n → Ok (times m n)
  pub ok_over : (m n : M) → Ok m → Ok n → Ok (over m n)
  pub keeps : (m n k : M) → Ok m → Ok n → cmp m n ≡ Less → cmp (times m k) (times n k) ≡ Less
  pub lcm_both : (f g : M) → Ok f → Ok g → times (over g f) f ≡ times (over f g) g
  pub lcm_least : (f g m n : M) → Ok f → Ok g → Ok m → Ok n → times m f ≡ times n g →
      (u : M) × Ok u × (m ≡ times u (over g f)) × (n ≡ times u (over f g))
  pub falls : (P : M → Type 0) → ((w : M) → Ok w → ((v : M) → Ok v → cmp w v ≡ Less → P v) → P w) → (w : M) → Ok w → P w
