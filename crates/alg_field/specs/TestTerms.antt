-- What the answers are tried on: quotients of powers (k*x + c)^n, where x is the first variable.
use Rattle.std.specs.Prelude.{◌≡◌, ◌≤◌, ℕ, ℤ, Some}
use Rattle.alg_terms.specs.declared.file.File.{File}
use Rattle.alg_terms.specs.declared.term.Term.{Term}
use Rattle.alg_terms.specs.declared.term.Term.TheVariants.{Var, Int, Add, Mul, Pow}
use Rattle.alg_terms.specs.Members.{sort_of_var}
use Rattle.alg_terms.specs.Sorts.{own_sort}
use Rattle.alg_terms.specs.Term.{depth_of}
use Rattle.alg_terms.specs.TermRules.{IsTerm}

-- (k*x + c)^n
abbrev pub linear_power : ℤ → ℤ → ℕ → Term
linear_power k c n = Pow (Add (Mul (Int k) (Var 0)) (Int c)) n

-- a term of the file at the variable's sort, of at most this depth
pub record IsSide (file : File) (depth : ℕ) (t : Term) : Type 0 where
  pub term : IsTerm file t
  pub sort : own_sort file t ≡ Some (sort_of_var file 0)
  pub low : depth_of t ≤ depth
