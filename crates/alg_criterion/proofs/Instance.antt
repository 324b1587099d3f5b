-- The monomials over the first b atoms.
use Rattle.std.specs.Prelude.{ℕ, []}
use Rattle.std.specs.Cmp.{nat_cmp_total}
use Rattle.std.specs.FinMap.{nat_cmp-IsAntisymmetric}
use Rattle.alg_mono.proofs.Monomials.{one_mono_times}
use Rattle.alg_criterion.proofs.Spans.{IsMonomials}
use Rattle.alg_criterion.proofs.Numbered.{IsWithin, mono_times, mono_over, falling}
use Rattle.alg_criterion.proofs.Descent.{descends_lem}
use Rattle.alg_criterion.proofs.Quotients.{falling_total, falling_anti, times_comm, times_assoc, falling_keeps, within_times, within_over, lcm_least, lcm_both}

pub monomials : (b : ℕ) → IsMonomials falling mono_times mono_over [] (IsWithin b)
monomials b = record {
  total = falling_total;
  anti = falling_anti;
  comm = times_comm;
  assoc = times_assoc;
  one_times = λ m h. one_mono_times nat_cmp_total nat_cmp-IsAntisymmetric m h.canonical;
  ok_one = record { canonical = record { rises = tt; no_none = tt }; atoms = tt };
  ok_times = within_times b;
  ok_over = within_over b;
  keeps = falling_keeps b;
  lcm_both = lcm_both b;
  lcm_least = lcm_least b;
  falls = descends_lem b;
}
