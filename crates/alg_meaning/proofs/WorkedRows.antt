-- The definitions at small goals: each lemma computes.
use Rattle.std.specs.Prelude.{◌≡◌, ℕ, Bool, true, false, List, [], ◌∷◌, pos}
use Rattle.std.proofs.Common.{refl}
use Rattle.alg_terms.specs.declared.declarations.Kind.TheVariants.{Field}
use Rattle.alg_terms.specs.declared.file.File.{File}
use Rattle.alg_terms.specs.declared.goals.Equation.{Equation}
use Rattle.alg_terms.specs.declared.term.Term.{Term}
use Rattle.alg_terms.specs.declared.term.Term.TheVariants.{Var, Int, Add, Sub, Mul, Div, Pow, Hom}
use Rattle.alg_terms.specs.declared.term.Atom.{Atom}
use Rattle.alg_terms.specs.Nodes.{fold_term}
use Rattle.alg_mono.specs.Outcomes.{Outcome}
use Rattle.alg_meaning.specs.Atoms.{Polynomial}
use Rattle.alg_meaning.specs.PolynomialOf.{poly_of}
use Rattle.alg_meaning.specs.Fractions.{frac, cleared}
use Rattle.alg_meaning.specs.Conditions.{denominators, conditions_of}
use Rattle.alg_meaning.specs.Trees.{same_tree}
use Rattle.alg_meaning.specs.TermOutcome.{term_outcome}
use Rattle.alg_meaning.specs.FractionOutcome.{FractionOutcome, frac_outcome}

abbrev x : Term
x = Var 0

abbrev y : Term
y = Var 1

abbrev number : ℕ → Term
number n = Int (pos n)

-- an atom by its path and its variable
abbrev atom : List ℕ → ℕ → Atom
atom path k = record { path = path; var = k }

abbrev X : Atom
X = atom [] 0

abbrev Y : Atom
Y = atom [] 1

-- (x + y)^2 = x^2 + 2*x*y + y^2
abbrev square : Polynomial
square = ((X, 2) ∷ [], pos 1) ∷ ((X, 1) ∷ (Y, 1) ∷ [], pos 2) ∷ ((Y, 2) ∷ [], pos 1) ∷ []

square_left : poly_of (Pow (Add x y) 2) ≡ square
unfolding fold_term Rattle.alg_terms.specs.declared.term.Term.TheBlock.hidden-the_row-Term-0 denote.Hole.Carrier.hidden
square_left = refl

square_right : poly_of (Add (Add (Pow x 2) (Mul (Mul (number 2) x) y)) (Pow y 2)) ≡ square
unfolding fold_term Rattle.alg_terms.specs.declared.term.Term.TheBlock.hidden-the_row-Term-0 denote.Hole.Carrier.hidden
square_right = refl

-- x^2 + y^2 lacks x*y
squares : poly_of (Add (Pow x 2) (Pow y 2)) ≡ ((X, 2) ∷ [], pos 1) ∷ ((Y, 2) ∷ [], pos 1) ∷ []
unfolding fold_term Rattle.alg_terms.specs.declared.term.Term.TheBlock.hidden-the_row-Term-0 denote.Hole.Carrier.hidden
squares = refl

-- f(x*y + 1) = f(x)*f(y) + 1
under_left : poly_of (Hom 0 (Add (Mul x y) (number 1))) ≡
    ((atom (0 ∷ []) 0, 1) ∷ (atom (0 ∷ []) 1, 1) ∷ [], pos 1) ∷ ([], pos 1) ∷ []
unfolding fold_term Rattle.alg_terms.specs.declared.term.Term.TheBlock.hidden-the_row-Term-0 denote.Hole.Carrier.hidden
under_left = refl

under_right : poly_of (Add (Mul (Hom 0 x) (Hom 0 y)) (number 1)) ≡ poly_of (Hom 0 (Add (Mul x y) (number 1)))
unfolding fold_term Rattle.alg_terms.specs.declared.term.Term.TheBlock.hidden-the_row-Term-0 denote.Hole.Carrier.hidden
under_right = refl

-- f(g(x)) and g(f(x)) are different atoms
f_after_g : poly_of (Hom 0 (Hom 1 x)) ≡ ((atom (0 ∷ 1 ∷ []) 0, 1) ∷ [], pos 1) ∷ []
unfolding fold_term Rattle.alg_terms.specs.declared.term.Term.TheBlock.hidden-the_row-Term-0 denote.Hole.Carrier.hidden
f_after_g = refl

g_after_f : poly_of (Hom 1 (Hom 0 x)) ≡ ((atom (1 ∷ 0 ∷ []) 0, 1) ∷ [], pos 1) ∷ []
unfolding fold_term Rattle.alg_terms.specs.declared.term.Term.TheBlock.hidden-the_row-Term-0 denote.Hole.Carrier.hidden
g_after_f = refl

-- the norm of x + (2^127 - 2) is the greatest, and one more is too much
greatest_norm : term_outcome (Add x (number 170141183460469231731687303715884105726)) ≡ Outcome.Fine
unfolding
    fold_term term_outcome
    Rattle.alg_terms.specs.declared.term.Term.TheBlock.hidden-the_row-Term-0 denote.Hole.Carrier.hidden
greatest_norm = refl

norm_too_great : term_outcome (Add x (number 170141183460469231731687303715884105727)) ≡ Outcome.Range
unfolding
    fold_term term_outcome
    Rattle.alg_terms.specs.declared.term.Term.TheBlock.hidden-the_row-Term-0 denote.Hole.Carrier.hidden
norm_too_great = refl

-- 2^126 is a norm, 2^127 is over the greatest
power_fits : term_outcome (Pow (Mul (number 2) x) 126) ≡ Outcome.Fine
unfolding
    fold_term term_outcome
    Rattle.alg_terms.specs.declared.term.Term.TheBlock.hidden-the_row-Term-0 denote.Hole.Carrier.hidden
power_fits = refl

power_too_great : term_outcome (Pow (Mul (number 2) x) 127) ≡ Outcome.Range
unfolding
    fold_term term_outcome
    Rattle.alg_terms.specs.declared.term.Term.TheBlock.hidden-the_row-Term-0 denote.Hole.Carrier.hidden
power_too_great = refl

-- x^1000*x
degree_too_great : term_outcome (Mul (Pow x 1000) x) ≡ Outcome.Degree
unfolding
    fold_term term_outcome
    Rattle.alg_terms.specs.declared.term.Term.TheBlock.hidden-the_row-Term-0 denote.Hole.Carrier.hidden
degree_too_great = refl

-- 1/(x - x)
zero_denominator : frac_outcome (Div (number 1) (Sub x x)) ≡ FractionOutcome.ZeroDenominator (Sub x x)
unfolding
    fold_term frac_outcome
    Rattle.alg_terms.specs.declared.term.Term.TheBlock.hidden-the_row-Term-0 denote.Hole.Carrier.hidden
zero_denominator = refl

-- a file with one field
abbrev field : Bool → File
field char0 =
    record {
      sorts = record { name = []; kind = Field; char0 = char0 } ∷ [];
      homs = [];
      vars = [];
      hyps = [];
      goals = [];
      order = [];
    }

abbrev equation : Term → Term → Equation
equation left right = record { sort = 0; left = left; right = right }

-- x/x = 1 if x <> 0
ratio : frac (Div x x) ≡ record { top = poly_of x; below = (poly_of x, 1) ∷ [] }
unfolding fold_term Rattle.alg_terms.specs.declared.term.Term.TheBlock.hidden-the_row-Term-0 denote.Hole.Carrier.hidden
ratio = refl

ratio_conditions : conditions_of (field false) (equation (Div x x) (number 1)) ≡ x ∷ []
unfolding
    fold_term denominators
    same_tree Rattle.alg_terms.specs.declared.term.Term.TheBlock.hidden-the_row-Term-0 denote.Hole.Carrier.hidden
ratio_conditions = refl

-- 1/x + 1/y = (x + y)/(x*y) if x <> 0, y <> 0, x*y <> 0
abbrev inverses : Equation
inverses = equation (Add (Div (number 1) x) (Div (number 1) y)) (Div (Add x y) (Mul x y))

inverses_left : frac inverses.left ≡ record { top = poly_of (Add x y); below = (poly_of y, 1) ∷ (poly_of x, 1) ∷ [] }
unfolding fold_term Rattle.alg_terms.specs.declared.term.Term.TheBlock.hidden-the_row-Term-0 denote.Hole.Carrier.hidden
inverses_left = refl

inverses_right : frac inverses.right ≡ record { top = poly_of (Add x y); below = (poly_of (Mul x y), 1) ∷ [] }
unfolding fold_term Rattle.alg_terms.specs.declared.term.Term.TheBlock.hidden-the_row-Term-0 denote.Hole.Carrier.hidden
inverses_right = refl

inverses_cleared : cleared (frac inverses.left) (frac inverses.right) ≡
    cleared (frac inverses.right) (frac inverses.left)
unfolding fold_term Rattle.alg_terms.specs.declared.term.Term.TheBlock.hidden-the_row-Term-0 denote.Hole.Carrier.hidden
inverses_cleared = refl

inverses_conditions : conditions_of (field false) inverses ≡ x ∷ y ∷ Mul x y ∷ []
unfolding
    fold_term denominators
    same_tree Rattle.alg_terms.specs.declared.term.Term.TheBlock.hidden-the_row-Term-0 denote.Hole.Carrier.hidden
inverses_conditions = refl

-- f(1/x) = 1/f(x) if x <> 0, f(x) <> 0
under : frac (Hom 0 (Div (number 1) x)) ≡ frac (Div (number 1) (Hom 0 x))
unfolding fold_term Rattle.alg_terms.specs.declared.term.Term.TheBlock.hidden-the_row-Term-0 denote.Hole.Carrier.hidden
under = refl

under_conditions : conditions_of (field false) (equation (Hom 0 (Div (number 1) x)) (Div (number 1) (Hom 0 x))) ≡
    x ∷ Hom 0 x ∷ []
unfolding
    fold_term denominators
    same_tree Rattle.alg_terms.specs.declared.term.Term.TheBlock.hidden-the_row-Term-0 denote.Hole.Carrier.hidden
under_conditions = refl

-- x/2 + x/2 = x if 2 <> 0, and without a condition in characteristic 0
abbrev halves : Equation
halves = equation (Add (Div x (number 2)) (Div x (number 2))) x

halves_fraction : frac halves.left ≡ record { top = ((X, 1) ∷ [], pos 2) ∷ []; below = (([], pos 2) ∷ [], 1) ∷ [] }
unfolding fold_term Rattle.alg_terms.specs.declared.term.Term.TheBlock.hidden-the_row-Term-0 denote.Hole.Carrier.hidden
halves_fraction = refl

halves_conditions : conditions_of (field false) halves ≡ number 2 ∷ []
unfolding
    fold_term denominators
    same_tree Rattle.alg_terms.specs.declared.term.Term.TheBlock.hidden-the_row-Term-0 denote.Hole.Carrier.hidden
halves_conditions = refl

no_conditions : conditions_of (field true) halves ≡ []
unfolding
    fold_term denominators
    same_tree Rattle.alg_terms.specs.declared.term.Term.TheBlock.hidden-the_row-Term-0 denote.Hole.Carrier.hidden
no_conditions = refl
