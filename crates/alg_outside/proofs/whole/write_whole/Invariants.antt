use Rattle.std.proofs.Common.{◌≡◌, ◌-◌, ◌≤◌, length, take}
use Rattle.alg_outside.specs.Bytes.{Appends}
use Rattle.alg_outside.proofs.whole.write_whole.Given as goal

abbrev pub invariant-loop-at : goal.invariant-loop-at
invariant-loop-at g l = record {
  within : l.at ≤ length l.bytes;
  count : g.K.Sink.faults l.initial.sink ≤ g.K.Sink.faults l.sink;
  gained : Appends (g.K.Sink.written l.initial.sink) (g.K.Sink.written l.sink) (take l.at l.bytes);
  flushed : g.K.Sink.flushed l.sink ≡ g.K.Sink.flushed l.initial.sink;
}

abbrev pub decreases-loop-at : goal.decreases-loop-at
decreases-loop-at g l = length l.bytes - l.at
