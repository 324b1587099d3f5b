use Rattle.std.proofs.Common.{◌∙◌, ap, sym}
use Rattle.alg_typing.specs.Faults.{earlier_of}
use Rattle.alg_typing.specs.NameFaults.{used_name}
use Rattle.alg_typing.specs.Names.{is_hom}
use Rattle.alg_typing.proofs.Firsts.{first_of-more}
use Rattle.alg_typing.proofs.scope.Scope.path_names.Goals as goal

pub loop-name-preserved : goal.loop-name-preserved
loop-name-preserved c =
    let faults = used_name c.args.self.now.declared.now c.args.self.now.text.now is_hom in
    c.earlier-first.ensures ∙ ap (λ o. earlier_of o c.used_name.result) c.loop-name.invariant
    ∙ ap (earlier_of _) c.used_name.ensures
    ∙ sym (first_of-more faults c.args.path.now c.loop-name.name-index _ c.loop-name-test.true)
