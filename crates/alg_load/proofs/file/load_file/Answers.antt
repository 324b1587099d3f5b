use Rattle.std.proofs.Common.{rules, arith}
use Rattle.alg_load.proofs.Validity.{is_valid}
use Rattle.alg_load.proofs.file.load_file.Goals as goal

-- the file is that of the number
pub returns-clause-valid : goal.returns-clause-valid
returns-clause-valid c = is_valid c.args.n _ c.requires (first_of (search rules, grind arith))
