use Rattle.std.proofs.Common.{◌∷◌, ◌++◌, [], map, ap, ◌∙◌, sym, arith}
use Rattle.std.proofs.lemmas.List.FromFn.{map-range_with_len_more}
use Rattle.alg_load.specs.Loaded.{goal_of, numbers}
use Rattle.alg_load.proofs.goals.goals.Goals as goal

-- the next goal is added
pub loop-i-preserved : goal.loop-i-preserved
loop-i-preserved c =
    let i = c.loop-i.i in
    c.in_ok-push.ensures.ok
    ∙ ap (λ goals. goals ++ (c.in_ok-goal_of.field-0 ∷ [])) c.loop-i.invariant
    ∙ ap (λ next. map goal_of (numbers i) ++ (next ∷ [])) c.in_ok-goal_of.ensures
    ∙ sym (map-range_with_len_more goal_of 0 i i (omega arith))
