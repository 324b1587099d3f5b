-- What a fold gives at the terms that code builds and matches.
use Rattle.std.proofs.Common.{◌≡◌, ℕ, ℤ, refl}
use Rattle.alg_terms.specs.declared.term.Term.{Term}
use Rattle.alg_terms.specs.declared.term.Term.TheVariants.{Var, Int, Neg, Add, Sub, Mul, Div, Pow, Hom}
use Rattle.alg_terms.specs.declared.term.Term.TheOpen.{Term-F}
use Rattle.alg_terms.specs.Nodes.{fold_term}

pub fold_term-Var : {A : Type 0} (node : Term-F A → A) (k : ℕ) →
    fold_term node (Var k) ≡ node (Term-F.Var k)
unfolding fold_term
fold_term-Var node k = refl

pub fold_term-Int : {A : Type 0} (node : Term-F A → A) (n : ℤ) →
    fold_term node (Int n) ≡ node (Term-F.Int n)
unfolding fold_term
fold_term-Int node n = refl

pub fold_term-Neg : {A : Type 0} (node : Term-F A → A) (t : Term) →
    fold_term node (Neg t) ≡ node (Term-F.Neg (fold_term node t))
unfolding fold_term Rattle.alg_terms.specs.declared.term.Term.TheBlock.hidden-the_row-Term-0 denote.Hole.Carrier.hidden
fold_term-Neg node t = refl

pub fold_term-Add : {A : Type 0} (node : Term-F A → A) (t u : Term) →
    fold_term node (Add t u) ≡ node (Term-F.Add (fold_term node t) (fold_term node u))
unfolding fold_term Rattle.alg_terms.specs.declared.term.Term.TheBlock.hidden-the_row-Term-0 denote.Hole.Carrier.hidden
fold_term-Add node t u = refl

pub fold_term-Sub : {A : Type 0} (node : Term-F A → A) (t u : Term) →
    fold_term node (Sub t u) ≡ node (Term-F.Sub (fold_term node t) (fold_term node u))
unfolding fold_term Rattle.alg_terms.specs.declared.term.Term.TheBlock.hidden-the_row-Term-0 denote.Hole.Carrier.hidden
fold_term-Sub node t u = refl

pub fold_term-Mul : {A : Type 0} (node : Term-F A → A) (t u : Term) →
    fold_term node (Mul t u) ≡ node (Term-F.Mul (fold_term node t) (fold_term node u))
unfolding fold_term Rattle.alg_terms.specs.declared.term.Term.TheBlock.hidden-the_row-Term-0 denote.Hole.Carrier.hidden
fold_term-Mul node t u = refl

pub fold_term-Div : {A : Type 0} (node : Term-F A → A) (t u : Term) →
    fold_term node (Div t u) ≡ node (Term-F.Div (fold_term node t) (fold_term node u))
unfolding fold_term Rattle.alg_terms.specs.declared.term.Term.TheBlock.hidden-the_row-Term-0 denote.Hole.Carrier.hidden
fold_term-Div node t u = refl

pub fold_term-Pow : {A : Type 0} (node : Term-F A → A) (t : Term) (n : ℕ) →
    fold_term node (Pow t n) ≡ node (Term-F.Pow (fold_term node t) n)
unfolding fold_term Rattle.alg_terms.specs.declared.term.Term.TheBlock.hidden-the_row-Term-0 denote.Hole.Carrier.hidden
fold_term-Pow node t n = refl

pub fold_term-Hom : {A : Type 0} (node : Term-F A → A) (f : ℕ) (t : Term) →
    fold_term node (Hom f t) ≡ node (Term-F.Hom f (fold_term node t))
unfolding fold_term Rattle.alg_terms.specs.declared.term.Term.TheBlock.hidden-the_row-Term-0 denote.Hole.Carrier.hidden
fold_term-Hom node f t = refl

-- all of them
pub ruleset built = (
  fold_term-Var,
  fold_term-Int,
  fold_term-Neg,
  fold_term-Add,
  fold_term-Sub,
  fold_term-Mul,
  fold_term-Div,
  fold_term-Pow,
  fold_term-Hom,
)
