-- Terms that tests build are over the letters.
use Rattle.std.proofs.Common.{◌<◌, ℕ, arith, ℤ}
use Rattle.alg_terms.specs.declared.term.Term.{Term}
use Rattle.alg_terms.specs.declared.term.Term.TheVariants.{Var, Int, Neg, Add, Sub, Mul, Div, Pow, Hom}
use Rattle.alg_terms.specs.Nodes.{EachNode}
use Rattle.alg_terms.specs.TermRules.{IsInRange}
use Rattle.alg_terms.proofs.BuiltNodes.{EachNode-Neg, EachNode-Add, EachNode-Sub, EachNode-Mul, EachNode-Div, EachNode-Pow, EachNode-Hom}
use Rattle.alg_printer.specs.Examples.{IsOfLetters}

pub letter : (k : ℕ) → k < 3 → IsOfLetters (Var k)
unfolding EachNode
letter k below file has = let e = has.0 in omega arith

pub literal : (n : ℤ) → IsOfLetters (Int n)
unfolding EachNode
literal n file has = tt

pub negation : (t : Term) → IsOfLetters t → IsOfLetters (Neg t)
negation t of file has = (EachNode-Neg (IsInRange file) t).1 (tt, of file has)

pub power : (t : Term) (n : ℕ) → IsOfLetters t → IsOfLetters (Pow t n)
power t n of file has = (EachNode-Pow (IsInRange file) t n).1 (tt, of file has)

pub image : (f : ℕ) (t : Term) → f < 2 → IsOfLetters t → IsOfLetters (Hom f t)
image f t below of file has = let e = has.1 in (EachNode-Hom (IsInRange file) f t).1 (omega arith, of file has)

pub sum : (t u : Term) → IsOfLetters t → IsOfLetters u → IsOfLetters (Add t u)
sum t u left right file has = (EachNode-Add (IsInRange file) t u).1 (tt, left file has, right file has)

pub difference : (t u : Term) → IsOfLetters t → IsOfLetters u → IsOfLetters (Sub t u)
difference t u left right file has = (EachNode-Sub (IsInRange file) t u).1 (tt, left file has, right file has)

pub product : (t u : Term) → IsOfLetters t → IsOfLetters u → IsOfLetters (Mul t u)
product t u left right file has = (EachNode-Mul (IsInRange file) t u).1 (tt, left file has, right file has)

pub quotient : (t u : Term) → IsOfLetters t → IsOfLetters u → IsOfLetters (Div t u)
quotient t u left right file has = (EachNode-Div (IsInRange file) t u).1 (tt, left file has, right file has)
