use Rattle.std.proofs.Common.{◌≡◌, ◌++◌, ◌∷◌, [], ◌∙◌, ap, string_bytes, None}
use Rattle.alg_typing.specs.Table.{find, entries_of}
use Rattle.alg_typing.proofs.Lookups.{insert_new}
use Rattle.alg_typing.proofs.names.Names.add.Goals as goal

pub returns-clause-ok : goal.returns-clause-ok
returns-clause-ok c =
    let view = c.self.view_is in
    let bytes = c.in_ok-name.ensures.ok in
    let table = entries_of c.self.inside.map.entries in
    let name = string_bytes c.in_ok-name.name in
    let none : find table name ≡ None =
    ap (λ t. find t name) view ∙ ap (find c.args.self.now) bytes ∙ c.requires in
    ap entries_of c.in_ok-insert.ensures.entries
    ∙ insert_new c.self.inside.map.entries c.in_ok-name.name c.args.declaration none
    ∙ ap (λ t. t ++ (name, c.args.declaration) ∷ []) view
    ∙ ap (λ s. c.args.self.now ++ (s, c.args.declaration) ∷ []) bytes
