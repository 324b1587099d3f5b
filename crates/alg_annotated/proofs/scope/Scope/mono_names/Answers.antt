use Rattle.std.proofs.Common.{◌≡◌, List, Option, sym, subst, flat_map, IfOk}
use Rattle.std.specs.Prelude.{All}
use Rattle.alg_tokens.specs.declared.token.Refusal.{Refusal}
use Rattle.alg_reader.specs.declared.raw.RawFactor.{RawFactor}
use Rattle.alg_typing.specs.Faults.{first_of}
use Rattle.alg_annotated.specs.Monomials.{HasNames, factor_names}
use Rattle.alg_annotated.proofs.Factors.{factors_named}
use Rattle.alg_annotated.proofs.scope.Scope.mono_names.Goals as goal

pub factors_names-requires : goal.factors_names-requires
factors_names-requires c =
    let text = c.args.self.now.text.now in
    subst (All (HasNames text)) (sym c.as_slice.ensures) (factors_named text c.args.mono.now c.requires)

pub returns : goal.returns
returns c =
    let faults = factor_names c.args.self.now.declared.now c.args.self.now.text.now in
    subst
    (λ (fs : List RawFactor). IfOk c.factors_names.result (λ (f : Option Refusal). f ≡ first_of (flat_map faults fs)))
    c.as_slice.ensures c.factors_names.ensures
