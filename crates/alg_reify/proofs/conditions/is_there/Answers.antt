use Rattle.std.proofs.Common.{rules, arith, ◌≡◌, ◌≢◌, ◌+◌, ◌||◌, ◌∙◌, sym, ap, drop}
use Rattle.std.specs.List.{list_any}
use Rattle.alg_mono.proofs.MergeTurns.{drop_at}
use Rattle.alg_meaning.specs.Trees.{same_tree}
use Rattle.alg_reify.proofs.EachOnce.{tree_is, tree_is_not}
use Rattle.alg_reify.proofs.conditions.is_there.Goals as goal

pub returns-then-same : goal.returns-then-same
returns-then-same c =
    let t = c.args.term.now in
    let terms = c.args.terms.now in
    let i = c.loop-one.one-index in
    let x = c.one-item.result in
    let is : t ≡ x = search rules in
    sym (ap (list_any (same_tree t)) (drop_at terms i x x (omega arith) c.one-item.is)
    ∙ ap (λ b. b || list_any (same_tree t) (drop (i + 1) terms)) (tree_is t x is))
    ∙ c.loop-one.invariant

pub loop-one-preserved : goal.loop-one-preserved
loop-one-preserved c =
    let t = c.args.term.now in
    let terms = c.args.terms.now in
    let i = c.loop-one.one-index in
    let x = c.one-item.result in
    let other : t ≢ x = search rules in
    sym (ap (list_any (same_tree t)) (drop_at terms i x x (omega arith) c.one-item.is)
    ∙ ap (λ b. b || list_any (same_tree t) (drop (i + 1) terms)) (tree_is_not t x other))
    ∙ c.loop-one.invariant
