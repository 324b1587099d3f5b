use Rattle.std.proofs.Common.{◌≡◌, [], ◌∷◌, ◌++◌, ◌+◌, drop, sym, ap, ◌∙◌, append_assoc}
use Rattle.alg_mono.proofs.MergeTurns.{drop_at}
use Rattle.alg_check.proofs.factor_lists.append.Goals as goal

-- one more
pub loop-p-preserved : goal.loop-p-preserved
loop-p-preserved c =
    let i = c.loop-p.p-index in
    let x = c.p-item.result in
    let rest = drop (i + 1) c.args.more.now in
    let front : c.in_ok-copy.field-0 ≡ x = c.in_ok-copy.ensures in
    ap (λ l. l ++ rest) c.in_ok-push.ensures.items
    ∙ append_assoc c.loop-p.list.items (c.in_ok-copy.field-0 ∷ []) rest
    ∙ ap (λ y. c.loop-p.list.items ++ y ∷ rest) front
    ∙ ap (λ l. c.loop-p.list.items ++ l) (sym (drop_at c.args.more.now i x x c.loop-p-test.true c.p-item.is))
    ∙ c.loop-p.invariant
