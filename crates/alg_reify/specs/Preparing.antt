-- What is prepared for a goal by nsatz: the polynomials of its used equations, and the one that is to come to zero.
use Rattle.std.specs.Prelude.{ℕ, Bool, not, List, [], ◌∷◌, filter, map}
use Rattle.alg_terms.specs.declared.term.Atom.{Atom}
use Rattle.alg_terms.specs.declared.file.File.{File}
use Rattle.alg_terms.specs.declared.goals.Equation.{Equation}
use Rattle.alg_terms.specs.declared.goals.Method.{Method}
use Rattle.alg_terms.specs.declared.goals.Method.TheVariants.{ByRing, ByField, ByNsatz}
use Rattle.alg_terms.specs.declared.goals.Use.{Use}
use Rattle.alg_terms.specs.Members.{hyp_at}
use Rattle.alg_mono.specs.NumberedPolynomials.{product_of}
use Rattle.alg_mono.specs.Outcomes.{Outcome, first_breach, product_outcome, sum_outcome}
use Rattle.alg_mono.specs.Polynomials.{PolyOver}
use Rattle.alg_meaning.specs.Atoms.{Polynomial, minus}
use Rattle.alg_meaning.specs.PolynomialOf.{poly_of_under}
use Rattle.alg_meaning.specs.TermOutcome.{term_outcome}
use Rattle.alg_reify.specs.declared.stop.Stop.{Stop}
use Rattle.alg_reify.specs.Numbered.{numbered}
use Rattle.alg_reify.specs.Stops.{ComesTo, StopsWith}
use Rattle.alg_reify.specs.Table.{table}

-- the method is nsatz
abbrev pub IsByNsatz : Method → Type 0
IsByNsatz ByRing = ⊥
IsByNsatz ByField = ⊥
IsByNsatz (ByNsatz uses power limit) = Unit {0}

-- the difference of an equation under a path: the polynomial of its left side, less that of its right side
abbrev pub difference : List ℕ → Equation → Polynomial
difference path e = minus (poly_of_under path e.left) (poly_of_under path e.right)

-- what making the polynomial of the left side, that of the right side and their difference comes to, in this order
abbrev pub difference_outcome : List ℕ → Equation → Outcome
difference_outcome path e =
    first_breach (term_outcome e.left) (first_breach (term_outcome e.right)
    (sum_outcome (poly_of_under path e.left) (poly_of_under path e.right)))

-- p times each of these, in order
abbrev pub times_each : PolyOver ℕ → List (PolyOver ℕ) → PolyOver ℕ
times_each p [] = p
times_each p (q ∷ qs) = times_each (product_of p q) qs

module _ (file : File) where
  -- whether the used hypothesis is a `<>`
  abbrev pub is_nonzero : Use → Bool
  is_nonzero u = (hyp_at file u.hyp).nonzero

  -- whether it is an equation
  abbrev pub is_equation : Use → Bool
  is_equation u = not (is_nonzero u)

  -- the equation of the used hypothesis
  abbrev pub used_equation : Use → Equation
  used_equation u = (hyp_at file u.hyp).equation

  -- what making the differences of the used hypotheses comes to, in order
  abbrev pub uses_outcome : List Use → Outcome
  uses_outcome [] = Outcome.Fine
  uses_outcome (u ∷ uses) = first_breach (difference_outcome u.path (used_equation u)) (uses_outcome uses)

  -- the difference of a used hypothesis under its path, by the numbers of the atoms
  abbrev pub used_difference : List Atom → Use → PolyOver ℕ
  used_difference atoms u = numbered atoms (difference u.path (used_equation u))

  -- those of the used equations, in order
  abbrev pub equation_differences : List Atom → List Use → List (PolyOver ℕ)
  equation_differences atoms uses = map (used_difference atoms) (filter is_equation uses)

  -- and those of the used `<>`
  abbrev pub nonzero_differences : List Atom → List Use → List (PolyOver ℕ)
  nonzero_differences atoms uses = map (used_difference atoms) (filter is_nonzero uses)

  module _ (e : Equation) (uses : List Use) where
    -- the difference of the goal, by the numbers of the atoms
    abbrev pub goal_difference : PolyOver ℕ
    goal_difference = numbered (table file e uses) (difference [] e)

    -- the polynomials that are given as zero
    abbrev pub prepared_hyps : List (PolyOver ℕ)
    prepared_hyps = equation_differences (table file e uses) uses

    -- the polynomial that is to come to zero: the goal's difference times that of each used `<>`
    abbrev pub prepared_goal : PolyOver ℕ
    prepared_goal = times_each goal_difference (nonzero_differences (table file e uses) uses)

    -- what making them comes to: the goal's difference first, then that of each use in order, and then the product,
    -- which is made as one product of all its factors
    abbrev pub prepared_outcome : Outcome
    prepared_outcome =
        first_breach (difference_outcome [] e) (first_breach (uses_outcome uses)
        (product_outcome (goal_difference ∷ nonzero_differences (table file e uses) uses)))

    -- there are not too many atoms, and making the polynomials comes to this
    abbrev pub PreparesTo : Outcome → Type 0
    PreparesTo comes = ComesTo (table file e uses) prepared_outcome comes

    -- there are too many atoms, or the first polynomial that breaks a rule breaks this one; want of memory says nothing
    abbrev pub StopsPreparing : Stop → Type 0
    StopsPreparing stop = StopsWith (table file e uses) prepared_outcome stop
