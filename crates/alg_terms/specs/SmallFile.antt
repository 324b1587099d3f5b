-- A small file, on which definitions over files are tried. With R, F, f, x, y and A for its six names, it is
--     ring R.  field F.  hom f : R -> F.  var x : R.  var y : F.  hyp A : x^2 = 4.
--     goal 1/y = y by field.  goal f(x)^2 = 4 by nsatz using f(A).
use Rattle.std.specs.Prelude.{ℕ, zero, suc, false, List, [], ◌∷◌, pos}
use Rattle.alg_terms.specs.declared.declarations.Kind.TheVariants.{Ring, Field}
use Rattle.alg_terms.specs.declared.file.File.{File}
use Rattle.alg_terms.specs.declared.file.Statement.TheVariants as statement
use Rattle.alg_terms.specs.declared.goals.Goal.{Goal}
use Rattle.alg_terms.specs.declared.goals.Hyp.{Hyp}
use Rattle.alg_terms.specs.declared.goals.Method.TheVariants.{ByField, ByNsatz}
use Rattle.alg_terms.specs.declared.term.Term.TheVariants.{Var, Int, Div, Pow, Hom}

-- k apostrophes
abbrev pub apostrophes : ℕ → List ℕ
apostrophes zero = []
apostrophes (suc k) = 39 ∷ apostrophes k

-- the name of number k: an underscore with k apostrophes
abbrev pub name : ℕ → List ℕ
name k = 95 ∷ apostrophes k

abbrev pub square_is_four : Hyp
square_is_four = record {
  name = name 5;
  equation = record { sort = 0; left = Pow (Var 0) 2; right = Int (pos 4) };
  nonzero = false;
}

abbrev pub inverse_is_itself : Goal
inverse_is_itself =
    record { equation = record { sort = 1; left = Div (Int (pos 1)) (Var 1); right = Var 1 }; method = ByField }

abbrev pub image_of_square : Goal
image_of_square = record {
  equation = record { sort = 1; left = Pow (Hom 0 (Var 0)) 2; right = Int (pos 4) };
  method = ByNsatz (record { path = 0 ∷ []; hyp = 0 } ∷ []) 1 10000;
}

abbrev pub small : File
small = record {
  sorts =
      record { name = name 0; kind = Ring; char0 = false } ∷ record { name = name 1; kind = Field; char0 = false } ∷ [];
  homs = record { name = name 2; from = 0; to = 1 } ∷ [];
  vars = record { name = name 3; sort = 0 } ∷ record { name = name 4; sort = 1 } ∷ [];
  hyps = square_is_four ∷ [];
  goals = inverse_is_itself ∷ image_of_square ∷ [];
  order =
      statement.Sort 0 ∷ statement.Sort 1 ∷ statement.Hom 0 ∷ statement.Vars 0 1 ∷ statement.Vars 1 1 ∷ statement.Hyp 0
      ∷ statement.Goal 0 ∷ statement.Goal 1 ∷ [];
}
