use Rattle.std.proofs.Common.{◌∙◌, ap, sym}
use Rattle.alg_typing.specs.Faults.{first_of}
use Rattle.alg_annotated.specs.Monomials.{atom_names}
use Rattle.alg_annotated.proofs.ClearMonomials.{homs_named, var_named}
use Rattle.alg_annotated.proofs.scope.Scope.factor_names.Goals as goal

pub atom_names-requires : goal.atom_names-requires
atom_names-requires c =
    let text = c.args.self.now.text.now in
    let names = c.in_ok-names.names in
    record {
      homs = homs_named text c.args.factor.now names.homs.items names.var c.requires c.in_ok-names.ensures;
      var = var_named text c.args.factor.now names.homs.items names.var c.requires c.in_ok-names.ensures;
    }

pub returns : goal.returns
returns c =
    c.atom_names.ensures
    ∙ ap (λ names. first_of (atom_names c.args.self.now.declared.now c.args.self.now.text.now names))
    (sym c.in_ok-names.ensures)
