use Rattle.std.proofs.Common.{sym, subst}
use Rattle.std.specs.Prelude.{All}
use Rattle.alg_annotated.specs.Monomials.{HasNames}
use Rattle.alg_annotated.proofs.Factors.{factors_named}
use Rattle.alg_annotated.proofs.scope.Scope.mono_fault.Goals as goal

pub factors_fault-requires : goal.factors_fault-requires
factors_fault-requires c =
    let text = c.args.self.now.text.now in
    subst (All (HasNames text)) (sym c.as_slice.ensures) (factors_named text c.args.mono.now c.requires)
