-- Products and quotients of monomials over the first n atoms, and the least common multiple.
use Rattle.std.specs.Prelude.{◌≡◌, ℕ, ◌+◌, ◌-◌, ◌<◌, ◌++◌}
use Rattle.std.proofs.Common.{sym, ap, ◌∙◌, arith}
use Rattle.std.specs.declared.cmp.Ordering.TheVariants.{Less}
use Rattle.std.specs.Ordering.{nat_cmp}
use Rattle.std.specs.Cmp.{IsTotalOrder, nat_cmp_total}
use Rattle.std.specs.FinMap.{IsAntisymmetric, nat_cmp-IsAntisymmetric}
use Rattle.alg_mono.specs.Numbers.{exponents}
use Rattle.alg_mono.specs.Monomials.{exponent, lowered}
use Rattle.alg_mono.proofs.Numbers.{exponent_laws}
use Rattle.alg_mono.proofs.Canonical.{IsCanonical-collect, same_canonical}
use Rattle.alg_mono.proofs.Each.{Each-append, Each-collect}
use Rattle.alg_mono.proofs.Grevlex.{falling_total as total_order, falling_anti as anti_order, falling-mono_times}
use Rattle.alg_mono.proofs.Lcm.{Each-lowered, exponent-mono_over}
use Rattle.alg_mono.proofs.Monomials.{mono_times_comm, mono_times_assoc, exponent-mono_times}
use Rattle.alg_criterion.proofs.Numbered.{Mono, IsWithin, falling, mono_times, mono_over}

o : IsTotalOrder nat_cmp
o = nat_cmp_total

anti : IsAntisymmetric nat_cmp
anti = nat_cmp-IsAntisymmetric

pub falling_total : IsTotalOrder falling
falling_total = total_order o anti

pub falling_anti : IsAntisymmetric falling
falling_anti = anti_order o anti

pub times_comm : (m n : Mono) → mono_times m n ≡ mono_times n m
times_comm m n = mono_times_comm o anti m n

pub times_assoc : (m n k : Mono) → mono_times (mono_times m n) k ≡ mono_times m (mono_times n k)
times_assoc m n k = mono_times_assoc o anti m n k

pub falling_keeps : (b : ℕ) (m n k : Mono) → IsWithin b m → IsWithin b n → falling m n ≡ Less →
    falling (mono_times m k) (mono_times n k) ≡ Less
falling_keeps b m n k hm hn l = falling-mono_times o anti m n k hm.canonical hn.canonical l

pub within_times : (b : ℕ) (m n : Mono) → IsWithin b m → IsWithin b n → IsWithin b (mono_times m n)
within_times b m n hm hn = record {
  canonical = IsCanonical-collect exponent_laws o anti (m ++ n);
  atoms =
      let P = λ (a : ℕ). a < b in Each-collect nat_cmp exponents P (m ++ n) (Each-append P m n hm.atoms hn.atoms);
}

pub within_over : (b : ℕ) (m n : Mono) → IsWithin b m → IsWithin b n → IsWithin b (mono_over m n)
within_over b m n hm hn = record {
  canonical = IsCanonical-collect exponent_laws o anti (lowered nat_cmp n m);
  atoms =
      let P = λ (a : ℕ). a < b in
      Each-collect nat_cmp exponents P (lowered nat_cmp n m) (Each-lowered nat_cmp P n m hm.atoms);
}

pub exponent-over : (q b : ℕ) (m n : Mono) → IsWithin b m →
    exponent nat_cmp q (mono_over m n) ≡ exponent nat_cmp q m - exponent nat_cmp q n
exponent-over q b m n h = exponent-mono_over o anti q m n h.canonical

pub exponent-times : (q : ℕ) (m n : Mono) →
    exponent nat_cmp q (mono_times m n) ≡ exponent nat_cmp q m + exponent nat_cmp q n
exponent-times q m n = exponent-mono_times o anti q m n

-- monomials with the same exponents are equal
pub same_mono : (b : ℕ) (m n : Mono) → IsWithin b m → IsWithin b n →
    ((q : ℕ) → exponent nat_cmp q m ≡ exponent nat_cmp q n) → m ≡ n
same_mono b m n hm hn e = same_canonical exponent_laws o anti m n hm.canonical hn.canonical e

-- each common multiple is one of the least
pub lcm_least : (b : ℕ) (f g m n : Mono) → IsWithin b f → IsWithin b g → IsWithin b m → IsWithin b n →
    mono_times m f ≡ mono_times n g →
    (u : Mono) × IsWithin b u × (m ≡ mono_times u (mono_over g f)) × (n ≡ mono_times u (mono_over f g))
lcm_least b f g m n hf hg hm hn e =
    let a = mono_over g f in
    let c = mono_over f g in
    let ha = within_over b g f hg hf in
    let hc = within_over b f g hf hg in
    let u = mono_over m a in
    let hu = within_over b m a hm ha in
    let balance : (q : ℕ) → exponent nat_cmp q m + exponent nat_cmp q f ≡ exponent nat_cmp q n + exponent nat_cmp q g =
    λ q. sym (exponent-times q m f) ∙ ap (exponent nat_cmp q) e ∙ exponent-times q n g in (
      u,
      hu,
      same_mono b m (mono_times u a) hm (within_times b u a hu ha)
          (λ q. omega (arith, balance q, exponent-times q u a, exponent-over q b m a hm, exponent-over q b g f hg)),
      same_mono b n (mono_times u c) hn (within_times b u c hu hc)
          (λ q. omega (
            arith,
            balance q,
            exponent-times q u c,
            exponent-over q b m a hm,
            exponent-over q b g f hg,
            exponent-over q b f g hf,
          )),
    )

-- the two cofactors give one monomial
pub lcm_both : (b : ℕ) (f g : Mono) → IsWithin b f → IsWithin b g →
    mono_times (mono_over g f) f ≡ mono_times (mono_over f g) g
lcm_both b f g hf hg =
    let ha = within_over b g f hg hf in
    let hc = within_over b f g hf hg in
    same_mono b (mono_times (mono_over g f) f) (mono_times (mono_over f g) g)
    (within_times b (mono_over g f) f ha hf) (within_times b (mono_over f g) g hc hg)
    (λ q. omega (
      arith,
      exponent-times q (mono_over g f) f,
      exponent-times q (mono_over f g) g,
      exponent-over q b g f hg,
      exponent-over q b f g hf,
    ))
