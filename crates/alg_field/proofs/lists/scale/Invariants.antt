use Rattle.std.proofs.Common.{◌≡◌}
use Rattle.alg_field.proofs.Scaling.{scaled_to}
use Rattle.alg_field.proofs.lists.scale.Given as goal

-- the first i exponents are scaled
abbrev pub invariant-loop-i : goal.invariant-loop-i
invariant-loop-i l = l.list.items ≡ scaled_to l.n l.i l.initial.list.items
