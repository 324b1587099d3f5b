use Rattle.std.proofs.Common.{◌∷◌, ◌++◌, [], ap, ◌∙◌, sym, arith}
use Rattle.std.proofs.lemmas.List.FromFn.{map-range_with_len_more}
use Rattle.alg_terms.specs.declared.file.Statement.TheVariants as statement
use Rattle.alg_load.proofs.file.order.Goals as goal

-- the next goal's statement is added
pub loop-i-preserved : goal.loop-i-preserved
loop-i-preserved c =
    let i = c.loop-i.i in
    c.in_ok-push-3.ensures.ok
    ∙ ap (λ statements. statements ++ (statement.Goal i ∷ [])) c.loop-i.invariant
    ∙ ap (λ goals. statement.Sort 0 ∷ statement.Vars 0 2 ∷ goals)
    (sym (map-range_with_len_more statement.Goal 0 i i (omega arith)))
