use Rattle.alg_poly.proofs.product.+raise.Given as goal

abbrev pub decreases-raise : goal.decreases-raise
decreases-raise l = l.n
