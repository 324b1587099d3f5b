use Rattle.std.specs.Prelude.{◌≡◌, map, drop}
use Rattle.std.proofs.Common.{ap, ◌∙◌}
use Rattle.alg_groebner.specs.Pruning.{numbers_after, kept_lines, renumbered_step}
use Rattle.alg_groebner.proofs.Pruned.{certificate_is}
use Rattle.alg_groebner.proofs.pruning.prune.Goals as goal

pub returns : goal.returns
returns c =
    let given = c.args.hyps in
    let made = c.args.lines.now in
    let steps = c.args.steps.now in
    let all = c.in_ok-marks.marks.items in
    let news = c.in_ok-numbers.numbers.items in
    let numbers : news ≡ numbers_after 0 all = c.in_ok-numbers.ensures ∙ ap (numbers_after 0) c.deref.ensures.value in
    let lines : c.from_vec.result ≡ kept_lines news (drop given all) made =
    c.from_vec.ensures ∙ c.in_ok-lines.ensures
    ∙ (λ k. kept_lines (c.deref-2.ensures.value k) (drop given (c.deref-3.ensures.value k)) made) in
    let kept : c.from_vec-2.result ≡ map (renumbered_step news) steps =
    c.from_vec-2.ensures ∙ c.in_ok-steps.ensures ∙ (λ k. map (renumbered_step (c.deref-4.ensures.value k)) steps) in
    certificate_is given made steps c.args.power all news c.from_vec.result c.from_vec-2.result
    c.in_ok-marks.ensures.value
    numbers lines kept
