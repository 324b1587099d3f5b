-- An example that tests alone cite: with D and x for its two names, and t for (3*x)^2*x, the file is
--     domain D.  var x : D.  goal t + 5 = t + 5 by ring.  goal t + 5 = t + 6 by ring.
--     goal t + 5 = t + 5 by nsatz limit 10.  goal t + 5 = t + 6 by nsatz limit 10.
use Rattle.std.specs.Prelude.{ℤ, false, [], ◌∷◌, pos}
use Rattle.alg_terms.specs.declared.declarations.Kind.TheVariants.{Domain}
use Rattle.alg_terms.specs.declared.file.File.{File}
use Rattle.alg_terms.specs.declared.file.Statement.TheVariants as statement
use Rattle.alg_terms.specs.declared.goals.Goal.{Goal}
use Rattle.alg_terms.specs.declared.goals.Method.{Method}
use Rattle.alg_terms.specs.declared.goals.Method.TheVariants.{ByRing, ByNsatz}
use Rattle.alg_terms.specs.SmallFile.{name}
use Rattle.alg_reify.specs.TestTerms.{test_side}

-- t + c = t + d by a method
abbrev pub example_goal : ℤ → ℤ → Method → Goal
example_goal c d method =
    record { equation = record { sort = 0; left = test_side (pos 3) 2 c; right = test_side (pos 3) 2 d }; method = method }

-- by nsatz, without hypotheses
abbrev pub by_nsatz : Method
by_nsatz = ByNsatz [] 1 10

abbrev pub example : File
example = record {
  sorts = record { name = name 0; kind = Domain; char0 = false } ∷ [];
  homs = [];
  vars = record { name = name 1; sort = 0 } ∷ [];
  hyps = [];
  goals = example_goal (pos 5) (pos 5) ByRing ∷ example_goal (pos 5) (pos 6) ByRing
      ∷ example_goal (pos 5) (pos 5) by_nsatz ∷ example_goal (pos 5) (pos 6) by_nsatz ∷ [];
  order = statement.Sort 0 ∷ statement.Vars 0 1 ∷ statement.Goal 0 ∷ statement.Goal 1 ∷ statement.Goal 2
      ∷ statement.Goal 3 ∷ [];
}
