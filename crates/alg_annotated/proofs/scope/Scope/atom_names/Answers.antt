use Rattle.std.proofs.Common.{◌∙◌, ap, sym, subst, flat_map}
use Rattle.std.specs.Prelude.{All}
use Rattle.alg_reader.specs.WellRead.{IsNameAt}
use Rattle.alg_typing.specs.Faults.{earlier_of, first_of}
use Rattle.alg_typing.specs.NameFaults.{used_name}
use Rattle.alg_typing.specs.Names.{is_hom}
use Rattle.alg_typing.proofs.Firsts.{first_of-append}
use Rattle.alg_annotated.proofs.AtomNames.{names_apart}
use Rattle.alg_annotated.proofs.scope.Scope.atom_names.Goals as goal

pub path_fault-homs-requires : goal.path_fault-homs-requires
path_fault-homs-requires c = subst (All (IsNameAt c.args.self.now.text.now)) (sym c.as_slice.ensures.value) c.requires.homs

pub returns : goal.returns
returns c =
    let file = c.args.self.now.declared.now in
    let text = c.args.self.now.text.now in
    let names = c.args.names.now in
    let faults = used_name file text is_hom in
    c.earlier.ensures
    ∙ ap (λ first. earlier_of first c.var_fault-var.result)
    (c.path_fault-homs.ensures ∙ ap (λ homs. first_of (flat_map faults homs)) c.as_slice.ensures.value)
    ∙ ap (earlier_of (first_of (flat_map faults names.homs.items))) c.var_fault-var.ensures
    ∙ sym (ap first_of (names_apart file text names.var names.homs.items) ∙ first_of-append _ _)
