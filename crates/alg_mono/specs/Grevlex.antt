-- Grevlex in its own words.
use Rattle.std.specs.Prelude.{◌≡◌, ◌<◌, ◌⊎◌, ℕ, List}
use Rattle.std.specs.declared.cmp.Ordering.{Ordering}
use Rattle.std.specs.declared.cmp.Ordering.TheVariants.{Less}
use Rattle.alg_mono.specs.Monomials.{exponent, degree}

module _ {K : Type 0} (cmp : K → K → Ordering) where
  -- at the last atom where the two differ, n has the smaller exponent
  pub record DiffersLast (m n : List (K × ℕ)) : Type 0 where
    pub last : K
    pub fewer : exponent cmp last n < exponent cmp last m
    pub same_later : (j : K) → cmp last j ≡ Less → exponent cmp j m ≡ exponent cmp j n

  -- m is less than n: by its degree, or at equal degree since n has the smaller exponent
  -- at the last atom where the two differ
  abbrev pub IsBelow : List (K × ℕ) → List (K × ℕ) → Type 0
  IsBelow m n = (degree m < degree n) ⊎ ((degree m ≡ degree n) × DiffersLast m n)
