-- The file of a number n: a field, two variables of it, and n goals. With i for the number of a goal, from 0 on, it is
--     field F.  var x y : F.
-- and in turn, by the remainder of i by 3,
--     goal (x + i*y)^2 = x^2 + (2i)*x*y + (i*i)*y^2 by ring.
--     goal (x + i*y)^2 = x^2 + (i*i)*y^2 by ring.
--     goal x/(x + i) + i/(x + i) = 1 by field.
-- Each of i, (2i) and (i*i) is one literal, and sums and products are grouped to the left.
use Rattle.std.specs.Prelude.{ℕ, ◌*◌, ◌%◌, ◌==◌, if◌then◌else◌, false, List, [], ◌∷◌, map, pos, codes}
use Rattle.std.specs.List.{range_with_len}
use Rattle.alg_terms.specs.declared.declarations.Kind.TheVariants.{Field}
use Rattle.alg_terms.specs.declared.file.File.{File}
use Rattle.alg_terms.specs.declared.file.Statement.TheVariants as statement
use Rattle.alg_terms.specs.declared.goals.Goal.{Goal}
use Rattle.alg_terms.specs.declared.goals.Method.{Method}
use Rattle.alg_terms.specs.declared.goals.Method.TheVariants.{ByRing, ByField}
use Rattle.alg_terms.specs.declared.term.Term.{Term}
use Rattle.alg_terms.specs.declared.term.Term.TheVariants.{Var, Int, Add, Mul, Div, Pow}

-- the two variables
abbrev pub x : Term
x = Var 0

abbrev pub y : Term
y = Var 1

-- the literal of a number
abbrev pub literal : ℕ → Term
literal n = Int (pos n)

-- (x + i*y)^2
abbrev pub square_of_sum : ℕ → Term
square_of_sum i = Pow (Add x (Mul (literal i) y)) 2

-- (i*i)*y^2
abbrev pub last_square : ℕ → Term
last_square i = Mul (literal (i * i)) (Pow y 2)

-- x^2 + (2i)*x*y + (i*i)*y^2, to which the square is equal
abbrev pub three_terms : ℕ → Term
three_terms i = Add (Add (Pow x 2) (Mul (Mul (literal (2 * i)) x) y)) (last_square i)

-- x^2 + (i*i)*y^2, from which the square differs where i is not 0
abbrev pub two_terms : ℕ → Term
two_terms i = Add (Pow x 2) (last_square i)

-- x/(x + i) + i/(x + i)
abbrev pub sum_of_quotients : ℕ → Term
sum_of_quotients i = Add (Div x (Add x (literal i))) (Div (literal i) (Add x (literal i)))

-- a goal on two terms at the field
abbrev pub goal_by : Method → Term → Term → Goal
goal_by method left right = record { equation = record { sort = 0; left = left; right = right }; method = method }

-- goal number i
abbrev pub goal_of : ℕ → Goal
goal_of i =
    if (i % 3) == 0 then goal_by ByRing (square_of_sum i) (three_terms i)
    else if (i % 3) == 1 then goal_by ByRing (square_of_sum i) (two_terms i)
    else goal_by ByField (sum_of_quotients i) (literal 1)

-- the numbers from 0 to n - 1, by which the goals are called
abbrev pub numbers : ℕ → List ℕ
numbers n = range_with_len 0 n

-- the file of n: the field, its two variables and then the goals, in this order
abbrev pub loaded : ℕ → File
loaded n = record {
  sorts = record { name = codes "F"; kind = Field; char0 = false } ∷ [];
  homs = [];
  vars = record { name = codes "x"; sort = 0 } ∷ record { name = codes "y"; sort = 0 } ∷ [];
  hyps = [];
  goals = map goal_of (numbers n);
  order = statement.Sort 0 ∷ statement.Vars 0 2 ∷ map statement.Goal (numbers n);
}
