-- What the definitions are tried on: (k*x)^n*x + c, where x is the first variable.
use Rattle.std.specs.Prelude.{ℕ, ℤ}
use Rattle.alg_terms.specs.declared.term.Term.{Term}
use Rattle.alg_terms.specs.declared.term.Term.TheVariants.{Var, Int, Add, Mul, Pow}

abbrev pub test_side : ℤ → ℕ → ℤ → Term
test_side k n c = Add (Mul (Pow (Mul (Int k) (Var 0)) n) (Var 0)) (Int c)
