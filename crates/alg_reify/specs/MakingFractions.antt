-- What the recursion over a term makes of fractions. `fraction` says which fraction a value is.
use Rattle.std.specs.Prelude.{◌≡◌, ◌⊎◌, ℕ, Bool, cond, List, OnOk}
use Rattle.std.specs.declared.result.Result.{Result}
use Rattle.std.specs.declared.result.Result.TheVariants.{Ok, Err}
use Rattle.std.specs.Ordering.{nat_cmp}
use Rattle.alg_terms.specs.declared.term.Atom.{Atom}
use Rattle.alg_terms.specs.declared.term.Term.{Term, more_of-Term, Add', Sub', Mul', Div'}
use Rattle.alg_terms.specs.declared.term.Term.TheVariants.{Add, Sub, Mul, Div}
use Rattle.alg_terms.specs.Nodes.{EachNode}
use Rattle.alg_terms.specs.TermRules.{HasLiteral}
use Rattle.alg_mono.specs.Outcomes.{is_nothing}
use Rattle.alg_meaning.specs.Conditions.{denominators}
use Rattle.alg_meaning.specs.FractionOutcome.{FractionOutcome, frac_outcome, of_polynomials}
use Rattle.alg_meaning.specs.FractionRules.{sum_of_fractions, product_of_fractions, quotient_of_fractions}
use Rattle.alg_meaning.specs.FractionsOver.{FractionOver, is_unit, frac_sum, frac_difference, frac_product, frac_quotient}
use Rattle.alg_reify.specs.FractionsUnder.{made_fraction, IsHeld}
use Rattle.alg_reify.specs.Added.{drops, add_condition, add_conditions}
use Rattle.alg_reify.specs.declared.ends.FractionEnd.{FractionEnd}
use Rattle.alg_reify.specs.Ends.{EndsFractionWith, GivesFraction}

-- a term with literals of the format, whose atoms under the path are all in the table
pub record IsFractionOver (atoms : List Atom) (path : List ℕ) (t : Term) : Type 0 where
  pub literals : EachNode HasLiteral t
  pub held : IsHeld atoms path t

-- an operation on two parts; a quotient has its denominator
pub data Operation : Type 0 where
  Sum : Operation
  Difference : Operation
  Product : Operation
  Quotient : Term → Operation
  None : Operation

-- the operation of a term
unfoldable pub operation : Term → Operation
operation (Add' _ _ _ _) = Operation.Sum
operation (Sub' _ _ _ _) = Operation.Difference
operation (Mul' _ _ _ _) = Operation.Product
operation (Div' _ _ _ (more_of-Term u _)) = Operation.Quotient u
operation _ = Operation.None

-- the term has these two parts
abbrev pub HasParts : Term → Term → Term → Type 0
HasParts t l r = (t ≡ Add l r) ⊎ ((t ≡ Sub l r) ⊎ ((t ≡ Mul l r) ⊎ (t ≡ Div l r)))

-- the fraction that it makes of two fractions
abbrev pub operated : Operation → FractionOver ℕ → FractionOver ℕ → FractionOver ℕ
operated Operation.Sum a b = frac_sum nat_cmp a b
operated Operation.Difference a b = frac_difference nat_cmp a b
operated Operation.Product a b = frac_product nat_cmp a b
operated (Operation.Quotient u) a b = frac_quotient nat_cmp (is_unit nat_cmp b.top) a b
operated Operation.None a b = a

-- what making it comes to
abbrev pub operated_outcome : Operation → FractionOver ℕ → FractionOver ℕ → FractionOutcome
operated_outcome Operation.Sum a b = of_polynomials (sum_of_fractions nat_cmp a b)
operated_outcome Operation.Difference a b = of_polynomials (sum_of_fractions nat_cmp a b)
operated_outcome Operation.Product a b = of_polynomials (product_of_fractions nat_cmp a b)
operated_outcome (Operation.Quotient u) a b =
    cond (is_nothing b.top) (FractionOutcome.ZeroDenominator u) (of_polynomials (quotient_of_fractions nat_cmp a b))
operated_outcome Operation.None a b = FractionOutcome.Fine

-- and the conditions after it: a quotient adds its denominator
abbrev pub operated_conditions : Bool → Operation → FractionOver ℕ → List Term → List Term
operated_conditions char0 (Operation.Quotient u) b seen = add_condition (drops char0 b.top) seen u
operated_conditions char0 _ b seen = seen

-- what the operation gives of two fractions, and the conditions after it
abbrev pub Combines : {F : Type 0} → (F → FractionOver ℕ) → Bool → Operation → FractionOver ℕ → FractionOver ℕ →
    List Term → List Term → Result F FractionEnd → Type 0
Combines fraction char0 op a b seen all result =
    OnOk result (all ≡ operated_conditions char0 op b seen)
    × GivesFraction fraction (operated op a b) (operated_outcome op a b) result

-- the fraction of a term was made, its denominators were added to the conditions, and the path is as before
pub record IsMade {F : Type 0} (fraction : F → FractionOver ℕ) (char0 : Bool) (atoms : List Atom)
    (path after : List ℕ) (seen all : List Term) (t : Term) (f : F) : Type 0 where
  pub value : fraction f ≡ made_fraction atoms path t
  pub fine : frac_outcome t ≡ FractionOutcome.Fine
  pub back : after ≡ path
  pub conditions : all ≡ add_conditions char0 seen (denominators t)

-- it was made, or the end is told
abbrev pub MakesFraction : {F : Type 0} → (F → FractionOver ℕ) → Bool → List Atom → List ℕ → List ℕ → List Term →
    List Term → Term → Result F FractionEnd → Type 0
MakesFraction fraction char0 atoms path after seen all t (Ok f) =
    IsMade fraction char0 atoms path after seen all t f
MakesFraction fraction char0 atoms path after seen all t (Err e) = EndsFractionWith e (frac_outcome t)
