use Rattle.std.proofs.Common.{length}
use Rattle.alg_reader.proofs.cursor.Cursor.+used.Given as goal

abbrev pub decreases-used : goal.decreases-used
decreases-used l = length l.self.now
