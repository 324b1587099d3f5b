-- The state of the search machine, and how its run ends.
use Rattle.std.specs.Prelude.{ℕ, List, Option}
use Rattle.alg_mono.specs.NumberedPolynomials.{Polynomial}
use Rattle.alg_lines.specs.declared.cert.Line.{Line}
use Rattle.alg_pairs.specs.declared.pair.Pair.{Pair}
use Rattle.alg_groebner.specs.declared.remainder.Remainder.{Remainder}

pub record State : Type 0 where
  -- how many of the lines are hypotheses; these come first
  pub given : ℕ
  pub lines : List Polynomial
  -- how each line beyond the hypotheses was made
  pub made : List Line
  -- numbers of lines, from 1, rising
  pub basis : List ℕ
  -- pairs of basis lines i < j, in the order in which they are taken
  pub pairs : List Pair
  -- how many hypotheses were taken as inputs, in order
  pub taken : ℕ
  -- what is left of each power of the goal, from the first power on, with the steps to it
  pub remainders : List Remainder
  -- the number of the current line
  pub current : Option ℕ
  -- how many counted moves were made
  pub count : ℕ

-- Proved by the power that came to zero, NoneUpTo the greatest power
pub data End : Type 0 where
  Proved : (power : ℕ) → End
  NoneUpTo : (power : ℕ) → End
  GaveUp : End
  Range : End
  Degree : End

-- what one step gives
pub data Next : Type 0 where
  Goes : State → Next
  Ends : End → Next
