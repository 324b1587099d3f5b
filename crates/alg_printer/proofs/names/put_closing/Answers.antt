use Rattle.std.proofs.Common.{◌++◌, codes, drop, append_assoc, sym, ap, ◌∙◌, ◌+◌}
use Rattle.std.proofs.lemmas.List.{at_drop_more}
use Rattle.alg_printer.specs.Names.{closing}
use Rattle.alg_printer.proofs.names.put_closing.Goals as goal

-- one more parenthesis
pub loop-preserved : goal.loop-preserved
loop-preserved c =
    let path = c.args.path.now in
    let rest = closing (drop (c.loop.index + 1) path) in
    ap (λ l. l ++ rest) c.in_ok-put.ensures ∙ append_assoc c.loop.text (codes ")") rest
    ∙ sym (at_drop_more (λ zs. c.loop.text ++ closing zs) path c.loop.index 0 c.loop-test.true) ∙ c.loop.invariant
