-- Monomials over the first n atoms.
use Rattle.std.specs.Prelude.{◌≡◌, ℕ, ◌<◌, List}
use Rattle.std.specs.declared.cmp.Ordering.{Ordering}
use Rattle.std.specs.declared.cmp.Ordering.TheVariants.{Less}
use Rattle.std.specs.Ordering.{nat_cmp}
use Rattle.alg_mono.specs.FiniteMaps.{IsCanonical, Each}
use Rattle.alg_mono.specs.Monomials.{falling as falling_over, mono_times as times_over, mono_over as over_over}
use Rattle.alg_mono.specs.Numbers.{exponents}

abbrev pub Mono : Type 0
Mono = List (ℕ × ℕ)

abbrev pub mono_times : Mono → Mono → Mono
mono_times m n = times_over nat_cmp m n

-- the order of a polynomial's list: the greatest monomial first
abbrev pub falling : Mono → Mono → Ordering
falling m n = falling_over nat_cmp m n

-- the part of m that n lacks
abbrev pub mono_over : Mono → Mono → Mono
mono_over m n = over_over nat_cmp m n

pub record IsWithin (n : ℕ) (m : Mono) : Type 0 where
  pub canonical : IsCanonical nat_cmp exponents m
  pub atoms : Each (λ a. a < n) m

-- over the first n atoms what holds of a monomial where it holds of all lesser ones holds of all
abbrev pub Descends : ℕ → Type 1
Descends n = (P : Mono → Type 0) → ((w : Mono) → IsWithin n w →
    ((v : Mono) → IsWithin n v → falling w v ≡ Less → P v) → P w) → (w : Mono) → IsWithin n w → P w
