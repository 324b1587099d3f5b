use Rattle.std.proofs.Common.{length}
use Rattle.alg_reader.proofs.cursor.Cursor.+atom.Given as goal

abbrev pub decreases-atom : goal.decreases-atom
decreases-atom l = length l.self.now
