use Rattle.std.proofs.Common.{◌∙◌, ap, sym, take, string_bytes}
use Rattle.std.proofs.lemmas.List.{take-map}
use Rattle.alg_typing.specs.Table.{entries_of}
use Rattle.alg_typing.proofs.names.Names.truncate.Goals as goal

pub returns : goal.returns
returns c =
    ap entries_of c.truncate.ensures.entries
    ∙ sym (take-map (λ e. (string_bytes e.0, e.1)) c.args.len c.self.inside.map.entries)
    ∙ ap (take c.args.len) c.self.view_is
