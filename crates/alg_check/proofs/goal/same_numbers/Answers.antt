use Rattle.std.specs.Prelude.{ℤ}
use Rattle.std.specs.Cmp.Lexicographic.{pointwise_decides}
use Rattle.std.proofs.lemmas.Bool.Decides.{Decides-int_eq, Decides-at}
use Rattle.alg_check.proofs.goal.same_numbers.Goals as goal

pub returns : goal.returns
returns c =
    Decides-at _ _ c.eq.ensures
    (pointwise_decides (λ (x y : ℤ). Decides-int_eq x y) c.args.left.now c.args.right.now)
