use Rattle.std.specs.Prelude.{length}
use Rattle.std.proofs.Common.{refl, ap, ◌∙◌}
use Rattle.std.specs.Prelude.{Bool, List}
use Rattle.alg_groebner.proofs.Pruned.{marks_are, length-marks_of}
use Rattle.alg_groebner.proofs.pruning.all_marks.Goals as goal

pub returns : goal.returns
returns c =
    let given = c.args.given in
    let made = c.args.made.now in
    let steps = c.args.steps.now in
    let is =
    marks_are given made made steps (length made) c.in_ok-marks.marks.items c.mark_cited.new.marks.items
    c.mark_through.new.marks.items refl c.in_ok-marks.ensures c.mark_cited.ensures refl c.mark_through.ensures in
    record { value = is; len = ap (λ (bs : List Bool). length bs) is ∙ length-marks_of given made steps }
