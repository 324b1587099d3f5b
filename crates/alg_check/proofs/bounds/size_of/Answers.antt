use Rattle.std.proofs.Common.{◌≡◌, List, [], ◌∷◌, ◌++◌, ◌+◌, take, sym, subst, ◌∙◌}
use Rattle.std.proofs.lemmas.List.{take_more}
use Rattle.alg_mono.specs.NumberedPolynomials.{Polynomial}
use Rattle.alg_check.specs.Bounds.{IsSizeOf}
use Rattle.alg_check.proofs.Sizes.{both_sizes, one_size}
use Rattle.alg_check.proofs.bounds.size_of.Goals as goal

-- one factor more
pub loop-p-preserved : goal.loop-p-preserved
loop-p-preserved c =
    let ps = c.args.ps.now in
    let i = c.loop-p.p-index in
    let x = c.p-item.result in
    let front : take (i + 1) ps ≡ take i ps ++ x ∷ [] =
    take_more ps i x c.loop-p-test.true ∙ (λ j. take i ps ++ sym c.p-item.is j ∷ []) in
    subst (λ (qs : List Polynomial). IsSizeOf qs c.times-size.result) (sym front)
    (both_sizes (take i ps) (x ∷ []) c.loop-p.size c.of.result c.times-size.result c.loop-p.invariant
    (one_size x c.of.result c.of.ensures.size c.of.ensures.sound) c.times-size.ensures)
