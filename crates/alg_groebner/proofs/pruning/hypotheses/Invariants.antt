use Rattle.std.proofs.Common.{◌≡◌, ◌≤◌, ◌-◌, ◌++◌, true, false, replicate}
use Rattle.alg_groebner.proofs.pruning.hypotheses.Given as goal

abbrev pub invariant-loop-hyps : goal.invariant-loop-hyps
invariant-loop-hyps l = (l.hyps ≤ l.given) × (l.marks.items ≡ replicate l.hyps true)

abbrev pub decreases-loop-hyps : goal.decreases-loop-hyps
decreases-loop-hyps l = l.given - l.hyps

abbrev pub invariant-loop-lines : goal.invariant-loop-lines
invariant-loop-lines l = (l.lines ≤ l.made) × (l.marks.items ≡ replicate l.given true ++ replicate l.lines false)

abbrev pub decreases-loop-lines : goal.decreases-loop-lines
decreases-loop-lines l = l.made - l.lines
