use Rattle.std.proofs.Common.{◌≡◌, sym, subst, IfOk}
use Rattle.alg_terms.specs.declared.term.Atom.{Atom}
use Rattle.alg_annotated.specs.Monomials.{atom_of}
use Rattle.alg_annotated.proofs.ClearMonomials.{homs_named, var_named}
use Rattle.alg_annotated.proofs.scope.Scope.factor_atom.Goals as goal

pub atom_of-requires : goal.atom_of-requires
atom_of-requires c =
    let text = c.args.self.now.text.now in
    let names = c.in_ok-names.names in
    record {
      homs = homs_named text c.args.factor.now names.homs.items names.var c.requires c.in_ok-names.ensures;
      var = var_named text c.args.factor.now names.homs.items names.var c.requires c.in_ok-names.ensures;
    }

pub returns : goal.returns
returns c =
    let atom = atom_of c.args.self.now.declared.now c.args.self.now.text.now in
    subst (λ names. IfOk c.atom_of.result (λ (a : Atom). a ≡ atom names)) (sym c.in_ok-names.ensures) c.atom_of.ensures
