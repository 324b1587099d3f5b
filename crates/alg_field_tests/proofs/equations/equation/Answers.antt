use Rattle.std.proofs.Common.{◌∙◌, ap, slice_index_or}
use Rattle.alg_field.proofs.TestTerms.{sides_are_equation, first_of}
use Rattle.alg_field_tests.proofs.equations.equation.Goals as goal

pub returns : goal.returns
returns c = λ d left right.
    let file = c.args.file.now in
    sides_are_equation file d c.args.left c.args.right left right _
    (ap (λ vars. (slice_index_or vars 0 c.index-items-0.result).sort) c.items.ensures
    ∙ ap (λ v. v.sort) (first_of file.vars c.index-items-0.result _ c.requires))
