-- Monomials over any atoms: canonical lists of atoms with exponents, and their order.
use Rattle.std.specs.Prelude.{ℕ, List, [], ◌∷◌, ◌++◌, reverse, sum_by, ◌-◌, ◌*◌, ◌≤◌}
use Rattle.std.specs.declared.cmp.Ordering.{Ordering}
use Rattle.std.specs.Ordering.{ordering_then, nat_cmp}
use Rattle.std.specs.Cmp.Lexicographic.{slice_cmp}
use Rattle.alg_mono.specs.FiniteMaps.{amount, collect, IsCanonical}
use Rattle.alg_mono.specs.Numbers.{exponents}

-- the greatest degree of a monomial
abbrev pub MAX_DEGREE : ℕ
MAX_DEGREE = 1000

-- the sum of the exponents
abbrev pub degree : {K : Type 0} → List (K × ℕ) → ℕ
degree m = sum_by (λ e. e.1) m

-- each exponent n times
abbrev pub scaled : {K : Type 0} → ℕ → List (K × ℕ) → List (K × ℕ)
scaled n [] = []
scaled n (e ∷ es) = (e.0, e.1 * n) ∷ scaled n es

module _ {K : Type 0} (cmp : K → K → Ordering) where
  -- a monomial within the limit: the atoms rise, each exponent is at least 1
  pub record IsMono (m : List (K × ℕ)) : Type 0 where
    pub canonical : IsCanonical cmp exponents m
    pub small : degree m ≤ MAX_DEGREE

  -- the exponent of an atom, and 0 where the monomial does not have it
  abbrev pub exponent : K → List (K × ℕ) → ℕ
  exponent k m = amount cmp exponents k m

  -- the product: the exponents add up
  abbrev pub mono_times : List (K × ℕ) → List (K × ℕ) → List (K × ℕ)
  mono_times m n = collect cmp exponents (m ++ n)

  -- the power: each exponent n times
  abbrev pub mono_power : List (K × ℕ) → ℕ → List (K × ℕ)
  mono_power m n = collect cmp exponents (scaled n m)

  -- d times some monomial is m: no atom has a greater exponent in d than in m
  abbrev pub Divides : List (K × ℕ) → List (K × ℕ) → Type 0
  Divides d m = (k : K) → exponent k d ≤ exponent k m

  -- each exponent less that of the same atom in d, and 0 where that is greater
  abbrev pub lowered : List (K × ℕ) → List (K × ℕ) → List (K × ℕ)
  lowered d [] = []
  lowered d (e ∷ m) = (e.0, e.1 - exponent e.0 d) ∷ lowered d m

  -- m over d: what m has beyond d
  abbrev pub mono_over : List (K × ℕ) → List (K × ℕ) → List (K × ℕ)
  mono_over m d = collect cmp exponents (lowered d m)

  -- the least common multiple: the greater exponent of each atom
  abbrev pub lcm : List (K × ℕ) → List (K × ℕ) → List (K × ℕ)
  lcm a b = mono_times a (mono_over b a)

  -- an atom with its exponent: by the atom, then by the exponent
  abbrev pub entry_cmp : K × ℕ → K × ℕ → Ordering
  entry_cmp e f = ordering_then (cmp e.0 f.0) (nat_cmp e.1 f.1)

  -- the graded reverse lexicographic order: by the degree, and at equal degree from the last
  -- entries down, where the lesser entry at the first difference makes the greater monomial
  abbrev pub grevlex : List (K × ℕ) → List (K × ℕ) → Ordering
  grevlex m n =
      ordering_then (nat_cmp (degree m) (degree n)) (slice_cmp entry_cmp (reverse n) (reverse m))

  -- the order of a polynomial's list: the greatest monomial first
  abbrev pub falling : List (K × ℕ) → List (K × ℕ) → Ordering
  falling m n = grevlex n m
