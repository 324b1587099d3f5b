use Rattle.std.proofs.Common.{◌≡◌, Bool, true, false, ◌||◌, [], ◌∷◌, ◌++◌, length, refl, sym, ◌∙◌, ap, subst, is_some}
use Rattle.alg_terms.specs.declared.declarations.VarDecl.{VarDecl}
use Rattle.alg_terms.specs.declared.file.File.{File}
use Rattle.alg_terms.specs.declared.file.Statement.TheVariants as statement
use Rattle.alg_terms.specs.Valid.{IsValid}
use Rattle.alg_typing.specs.Additions.{with_vars}
use Rattle.alg_typing.specs.NameFaults.{new_names}
use Rattle.alg_typing.specs.Resolved.{vars_of}
use Rattle.alg_typing.specs.Table.{var_entries, IsTableOf}
use Rattle.alg_typing.proofs.Kept.{either_way, kept, not_declared}
use Rattle.alg_typing.proofs.VarTables.{are_new, table_with_vars}
use Rattle.alg_typing.proofs.declared.Declared.add_vars.Goals as goal

or_false : (b : Bool) → b ≡ (b || false)
or_false true = refl
or_false false = refl

-- the names are new to the table
pub add_vars-requires-clause-fresh : goal.add_vars-requires-clause-fresh
add_vars-requires-clause-fresh c =
    let text = c.args.text.now in
    are_new c.self.inside.file text c.self.inside.names [] _ c.args.names.now
    (λ name. ap is_some (c.self.invariant.0 name) ∙ or_false _)
    (ap (λ f. new_names f text [] c.args.names.now) c.self.view_is ∙ c.requires.fresh)

-- the variables and their names were added, or neither was
pub invariant_of-self-2 : goal.invariant_of-self-2
invariant_of-self-2 c =
    let file = c.self.inside.file in
    let names = c.self.inside.names in
    let text = c.args.text.now in
    let spans = c.args.names.now in
    let vars = vars_of file text c.args.sort spans in
    let count = ap (length {A = VarDecl}) c.items.ensures in
    let number = length c.items.result.now in
    let new : File = record file { vars = c.declare-declared.new.list; order = c.declare-declared.new.order } in
    either_way c.declare-declared.result (IsTableOf new c.keep_if.new.self × IsValid new)
    c.declare-declared.ensures.list_ok c.declare-declared.ensures.order_ok c.keep_if.ensures.ok
    c.declare-declared.ensures.list_err c.declare-declared.ensures.order_err c.keep_if.ensures.err
    (λ list_ok order_ok is_last.
    let list = list_ok ∙ ap (λ m. file.vars ++ m) c.in_ok-vars.ensures in
    let order = order_ok ∙ ap (λ n. file.order ++ statement.Vars n (length spans) ∷ []) count in
    kept (with_vars file vars (length spans)) _ (names ++ var_entries text number spans) _
    (λ i. record file { vars = list i; order = order i })
    (is_last ∙ c.in_ok-add_vars.ensures.ok)
    (table_with_vars file names text c.args.sort (file.order ++ statement.Vars (length file.vars) (length spans) ∷ [])
    spans
    number count c.self.invariant.0
    (are_new file text names [] number spans (λ name. ap is_some (c.self.invariant.0 name) ∙ or_false _)
    (ap (λ f. new_names f text [] spans) c.self.view_is ∙ c.requires.fresh)))
    (subst (λ (f : File). IsValid (with_vars f (vars_of f text c.args.sort spans) (length spans)))
    (sym c.self.view_is) c.requires.valid))
    (λ list_err order_err is_last. not_declared file _ names _ _ _ _
    (λ i. record file { vars = list_err i; order = order_err i })
    c.len-known.ensures c.in_ok-add_vars.ensures.ok is_last c.self.invariant)
