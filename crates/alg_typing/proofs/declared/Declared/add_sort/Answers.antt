use Rattle.std.proofs.Common.{◌≡◌, [], ◌∷◌, ◌++◌, length, sym, ◌∙◌, ap, subst}
use Rattle.alg_terms.specs.declared.declarations.Sort.{Sort}
use Rattle.alg_terms.specs.declared.file.File.{File}
use Rattle.alg_terms.specs.declared.file.Statement.TheVariants as statement
use Rattle.alg_terms.specs.Valid.{IsValid}
use Rattle.alg_reader.specs.declared.raw.RawKind.TheVariants as raws
use Rattle.alg_reader.specs.WellRead.{bytes_at}
use Rattle.alg_typing.specs.declared.declaration.Declaration.TheVariants as as_a
use Rattle.alg_typing.specs.Names.{declared_as}
use Rattle.alg_typing.specs.Resolved.{extended}
use Rattle.alg_typing.specs.Table.{IsTableOf}
use Rattle.alg_typing.proofs.Kept.{either_way, kept, not_declared}
use Rattle.alg_typing.proofs.Tables.{table_with_sort}
use Rattle.alg_typing.proofs.declared.Declared.add_sort.Goals as goal

-- the sort and its name were added, or neither was
pub invariant_of-self-2 : goal.invariant_of-self-2
invariant_of-self-2 c =
    let file = c.self.inside.file in
    let names = c.self.inside.names in
    let text = c.args.text.now in
    let kind = raws.Sort c.args.kind c.args.name c.args.char0 in
    let bytes = c.name_in-name.ensures in
    let sort : Sort = record { name = bytes_at text c.args.name; kind = c.args.kind; char0 = c.args.char0 } in
    let members : c.in_ok-sorts.sorts.items ≡ sort ∷ [] =
    c.in_ok-sorts.ensures.items
    ∙ ap (λ b. record { name = b; kind = c.args.kind; char0 = c.args.char0 } ∷ []) (c.in_ok-new.ensures ∙ bytes) in
    let count = ap (length {A = Sort}) c.items.ensures in
    let new : File = record file { sorts = c.declare-declared.new.list; order = c.declare-declared.new.order } in
    either_way c.declare-declared.result (IsTableOf new c.keep_if.new.self × IsValid new)
    c.declare-declared.ensures.list_ok c.declare-declared.ensures.order_ok c.keep_if.ensures.ok
    c.declare-declared.ensures.list_err c.declare-declared.ensures.order_err c.keep_if.ensures.err
    (λ list_ok order_ok is_last.
    let list = list_ok ∙ ap (λ m. file.sorts ++ m) members in
    let order = order_ok ∙ ap (λ n. file.order ++ statement.Sort n ∷ []) count in
    kept (extended file text kind) _ (names ++ (sort.name, as_a.Sort (length file.sorts)) ∷ []) _
    (λ i. record file { sorts = list i; order = order i })
    (is_last ∙ c.in_ok-add.ensures.ok ∙ (λ i. names ++ (bytes i, as_a.Sort (count i)) ∷ []))
    (table_with_sort file names c.self.invariant.0 (file.order ++ statement.Sort (length file.sorts) ∷ []) sort
    (ap (λ f. declared_as f sort.name) c.self.view_is ∙ c.requires.fresh))
    (subst (λ (f : File). IsValid (extended f text kind)) (sym c.self.view_is) c.requires.valid))
    (λ list_err order_err is_last. not_declared file _ names _ _ _ _
    (λ i. record file { sorts = list_err i; order = order_err i })
    c.len-known.ensures c.in_ok-add.ensures.ok is_last c.self.invariant)
