-- What it is to make a polynomial, and what a term must be for it.
use Rattle.std.specs.Prelude.{◌≡◌, ℕ, List, All, Contains}
use Rattle.std.specs.declared.result.Result.{Result}
use Rattle.std.specs.declared.result.Result.TheVariants.{Ok, Err}
use Rattle.alg_terms.specs.declared.term.Atom.{Atom}
use Rattle.alg_terms.specs.declared.term.Term.{Term}
use Rattle.alg_terms.specs.Nodes.{EachNode}
use Rattle.alg_terms.specs.TermRules.{HasLiteral, HasNoQuotient}
use Rattle.alg_mono.specs.declared.ends.Overrun.{Overrun}
use Rattle.alg_mono.specs.Outcomes.{Outcome}
use Rattle.alg_mono.specs.Polynomials.{PolyOver}
use Rattle.alg_mono.specs.Refusals.{RefusesWith}
use Rattle.alg_reify.specs.Table.{leaves}

-- this is made where no rule is broken, and else the broken rule is told
abbrev pub Gives : {Q X : Type 0} → (Q → X) → X → Outcome → Result Q Overrun → Type 0
Gives value x outcome (Ok q) = (value q ≡ x) × (outcome ≡ Outcome.Fine)
Gives value x outcome (Err e) = RefusesWith e outcome

-- this polynomial is made
abbrev pub Makes : {Q : Type 0} → (Q → PolyOver ℕ) → PolyOver ℕ → Outcome → Result Q Overrun → Type 0
Makes map p outcome result = Gives map p outcome result

-- a term with literals of the format and no quotients, whose atoms under the path are all in the table
pub record IsOverTable (atoms : List Atom) (path : List ℕ) (t : Term) : Type 0 where
  pub literals : EachNode HasLiteral t
  pub plain : HasNoQuotient t
  pub held : All (Contains atoms) (leaves path t)
