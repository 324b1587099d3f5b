use Rattle.alg_prover.proofs.InFree.{no_differs_in_free}
use Rattle.alg_prover.proofs.Verdicts.{no_differs}
use Rattle.alg_prover.proofs.laws.no_differs.Goals as goal

pub returns-clause-polynomials : goal.returns-clause-polynomials
returns-clause-polynomials c = no_differs c.no_differs.ensures

pub returns-clause-values : goal.returns-clause-values
returns-clause-values c = no_differs_in_free c.free_fits.ensures (no_differs c.no_differs.ensures)
