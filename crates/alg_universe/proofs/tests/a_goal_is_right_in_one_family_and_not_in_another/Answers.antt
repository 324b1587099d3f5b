use Rattle.std.proofs.Common.{◌≡◌, ◌<◌, ℕ, zero, suc, [], ◌∷◌, refl, arith, slice_index_or}
use Rattle.std.specs.Prelude.{pos}
use Rattle.std.proofs.lemmas.Int.{ints}
use Rattle.alg_terms.specs.declared.declarations.Kind.TheVariants.{Domain}
use Rattle.alg_terms.specs.Kinds.{IsAtMost}
use Rattle.alg_terms.specs.Members.{kind_of}
use Rattle.alg_terms.specs.Nodes.{fold_term}
use Rattle.alg_universe.specs.declared.two.Two.{Two}
use Rattle.alg_universe.specs.declared.two.Two.TheVariants.{Zero, One}
use Rattle.alg_universe.specs.SmallFile.{idempotent}
use Rattle.alg_universe.specs.Two as two
use Rattle.alg_universe.proofs.tests.a_goal_is_right_in_one_family_and_not_in_another.Goals as goal

square : (x : Two) → two.mul 0 x (two.mul 0 x One) ≡ x
square Zero = refl
square One = refl

pub returns-clause-two : goal.returns-clause-two
unfolding fold_term Rattle.alg_terms.specs.declared.term.Term.TheBlock.hidden-the_row-Term-0 denote.Hole.Carrier.hidden
returns-clause-two c = λ fits v values uses conditions constants. square (slice_index_or v 0 Zero)

at_most : (s : ℕ) → s < 1 → IsAtMost (kind_of idempotent s) Domain
at_most zero h = tt
at_most (suc s) h = absurd (omega arith)

-- at 2 the square is 4
pub returns-clause-integers : goal.returns-clause-integers
unfolding fold_term Rattle.alg_terms.specs.declared.term.Term.TheBlock.hidden-the_row-Term-0 denote.Hole.Carrier.hidden
returns-clause-integers c = λ right.
    let four : pos 4 ≡ pos 2 = right
    (record { kinds = at_most; chars = λ s h l. refl; maps = λ f h. tt })
    (pos 2 ∷ [])
    (record { count = refl; each = λ k d h. tt })
    (λ k d h. absurd (omega arith))
    (λ k d h. absurd (omega arith))
    (λ k d h. absurd (omega arith))
    in
    omega (arith, ints, four)
