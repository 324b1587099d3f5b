use Rattle.std.proofs.Common.{◌∙◌, ap}
use Rattle.alg_typing.specs.Table.{find}
use Rattle.alg_typing.proofs.Lookups.{lookup_find}
use Rattle.alg_typing.proofs.names.Names.get.Goals as goal

pub returns : goal.returns
returns c =
    c.copied.ensures ∙ c.get.ensures.value ∙ lookup_find c.self.inside.map.entries c.args.name.now
    ∙ ap (λ t. find t c.args.name.now) c.self.view_is
