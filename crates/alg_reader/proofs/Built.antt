-- What a fold over terms that were read gives at a node that code builds or matches.
use Rattle.std.proofs.Common.{◌≡◌, ℕ, ℤ, refl}
use Rattle.alg_reader.specs.declared.raw.RawTerm.{RawTerm}
use Rattle.alg_reader.specs.declared.raw.RawNode.TheVariants.{Var, Int, Neg, Add, Sub, Mul, Div, Pow, Hom}
use Rattle.alg_reader.specs.declared.raw.RawNode.TheOpen.{RawNode-F}
use Rattle.alg_reader.specs.declared.raw.RawNumber.{RawNumber}
use Rattle.alg_reader.specs.declared.raw.Span.{Span}
use Rattle.alg_reader.specs.RawTerms.{Node, fold_under, fold_raw}

module _ {X : Type 0} (node : ℕ → Node X → X) (head : ℕ) where
  pub fold_under-Var : (name : Span) → fold_under node head (Var name) ≡ node head (RawNode-F.Var name)
  unfolding fold_under
  fold_under-Var name = refl

  pub fold_under-Int : (n : ℤ) → fold_under node head (Int n) ≡ node head (RawNode-F.Int n)
  unfolding fold_under
  fold_under-Int n = refl

  pub fold_under-Neg : (t : RawTerm) → fold_under node head (Neg t) ≡ node head (RawNode-F.Neg (fold_raw node t))
  unfolding fold_under Rattle.alg_reader.specs.declared.raw.RawNode.TheBlock.hidden-the_row-RawTerm-0
      denote.Hole.Carrier.hidden
  fold_under-Neg t = refl

  pub fold_under-Add : (t u : RawTerm) →
      fold_under node head (Add t u) ≡ node head (RawNode-F.Add (fold_raw node t) (fold_raw node u))
  unfolding fold_under Rattle.alg_reader.specs.declared.raw.RawNode.TheBlock.hidden-the_row-RawTerm-0
      denote.Hole.Carrier.hidden
  fold_under-Add t u = refl

  pub fold_under-Sub : (t u : RawTerm) →
      fold_under node head (Sub t u) ≡ node head (RawNode-F.Sub (fold_raw node t) (fold_raw node u))
  unfolding fold_under Rattle.alg_reader.specs.declared.raw.RawNode.TheBlock.hidden-the_row-RawTerm-0
      denote.Hole.Carrier.hidden
  fold_under-Sub t u = refl

  pub fold_under-Mul : (t u : RawTerm) →
      fold_under node head (Mul t u) ≡ node head (RawNode-F.Mul (fold_raw node t) (fold_raw node u))
  unfolding fold_under Rattle.alg_reader.specs.declared.raw.RawNode.TheBlock.hidden-the_row-RawTerm-0
      denote.Hole.Carrier.hidden
  fold_under-Mul t u = refl

  pub fold_under-Div : (t u : RawTerm) →
      fold_under node head (Div t u) ≡ node head (RawNode-F.Div (fold_raw node t) (fold_raw node u))
  unfolding fold_under Rattle.alg_reader.specs.declared.raw.RawNode.TheBlock.hidden-the_row-RawTerm-0
      denote.Hole.Carrier.hidden
  fold_under-Div t u = refl

  pub fold_under-Pow : (t : RawTerm) (n : RawNumber) →
      fold_under node head (Pow t n) ≡ node head (RawNode-F.Pow (fold_raw node t) n)
  unfolding fold_under Rattle.alg_reader.specs.declared.raw.RawNode.TheBlock.hidden-the_row-RawTerm-0
      denote.Hole.Carrier.hidden
  fold_under-Pow t n = refl

  pub fold_under-Hom : (name : Span) (t : RawTerm) →
      fold_under node head (Hom name t) ≡ node head (RawNode-F.Hom name (fold_raw node t))
  unfolding fold_under Rattle.alg_reader.specs.declared.raw.RawNode.TheBlock.hidden-the_row-RawTerm-0
      denote.Hole.Carrier.hidden
  fold_under-Hom name t = refl

-- all of them
pub ruleset raw_built = (
  fold_under-Var,
  fold_under-Int,
  fold_under-Neg,
  fold_under-Add,
  fold_under-Sub,
  fold_under-Mul,
  fold_under-Div,
  fold_under-Pow,
  fold_under-Hom,
)
