use Rattle.std.proofs.Common.{◌≡◌, ◌++◌, take}
use Rattle.alg_lines.specs.Accepting.{AreLines}
use Rattle.alg_check.proofs.certificate.follow_lines.Given as goal

abbrev pub invariant-loop-next : goal.invariant-loop-next
invariant-loop-next l = record {
  number : l.number ≡ l.next-index;
  good : AreLines l.hyps (take l.next-index l.lines) (l.hyps ++ l.made.items);
}
