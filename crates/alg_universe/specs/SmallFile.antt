-- What the definitions are tried on, beside the small file of alg_terms: a ring R, a field F, a morphism f from R to F,
-- x in R and y in F.
use Rattle.std.specs.Prelude.{true, false, [], ◌∷◌, pos}
use Rattle.alg_terms.specs.declared.declarations.Kind.TheVariants.{Domain}
use Rattle.alg_terms.specs.declared.file.File.{File}
use Rattle.alg_terms.specs.declared.file.Statement.TheVariants as statement
use Rattle.alg_terms.specs.declared.goals.Hyp.{Hyp}
use Rattle.alg_terms.specs.declared.goals.Method.TheVariants.{ByRing}
use Rattle.alg_terms.specs.declared.term.Term.{Term}
use Rattle.alg_terms.specs.declared.term.Term.TheVariants.{Var, Int, Add, Div, Pow, Hom}

-- x <> 2
abbrev pub is_not_two : Hyp
is_not_two = record { name = []; equation = record { sort = 0; left = Var 0; right = Int (pos 2) }; nonzero = true }

-- 1/y
abbrev pub one_over_y : Term
one_over_y = Div (Int (pos 1)) (Var 1)

-- f(x + 1)
abbrev pub image : Term
image = Hom 0 (Add (Var 0) (Int (pos 1)))

-- domain D.  var x : D.  goal x^2 = x by ring.
abbrev pub idempotent : File
idempotent = record {
  sorts = record { name = []; kind = Domain; char0 = false } ∷ [];
  homs = [];
  vars = record { name = []; sort = 0 } ∷ [];
  hyps = [];
  goals = record { equation = record { sort = 0; left = Pow (Var 0) 2; right = Var 0 }; method = ByRing } ∷ [];
  order = statement.Sort 0 ∷ statement.Vars 0 1 ∷ statement.Goal 0 ∷ [];
}
