use Rattle.std.proofs.Common.{◌≡◌, drop}
use Rattle.alg_check.proofs.comparing.same_terms.Given as goal

-- what is left decides
abbrev pub invariant-loop-i : goal.invariant-loop-i
invariant-loop-i l = drop l.i l.left ≡ drop l.i l.right → l.left ≡ l.right
