use Rattle.std.proofs.Common.{◌+◌, ◌++◌, flat_map, drop, ap, sym, ◌∙◌}
use Rattle.std.proofs.lemmas.List.{at_drop_more}
use Rattle.indexmap.specs.IndexSet.{insert_all}
use Rattle.alg_reify.specs.Table.{use_leaves, atom_eq}
use Rattle.alg_reify.proofs.Insertions.{adds_failed_on}
use Rattle.alg_reify.proofs.atoms.add_uses.Goals as goal

-- a use failed
pub returns-in_err-add_use : goal.returns-in_err-add_use
returns-in_err-add_use c =
    let file = c.args.file.now in
    let keys = c.loop-used.set.keys in
    let used = c.used-item.result in
    let rest = flat_map (use_leaves file) (drop (c.loop-used.used-index + 1) c.args.uses.now) in
    let more = at_drop_more (λ us. insert_all atom_eq keys (flat_map (use_leaves file) us)) c.args.uses.now
    c.loop-used.used-index used c.loop-used-test.true in
    let here = ap (λ u. insert_all atom_eq keys (use_leaves file u ++ rest)) c.used-item.is in
    adds_failed_on keys _ _ c.args.set.now.keys _ _ (use_leaves file used) rest
    (flat_map (use_leaves file) c.args.uses.now)
    c.from_residual.ensures.1 c.in_err-add_use.ensures (here ∙ sym more ∙ c.loop-used.invariant.left)
