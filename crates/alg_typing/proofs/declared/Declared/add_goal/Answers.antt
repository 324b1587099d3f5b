use Rattle.std.proofs.Common.{◌≡◌, ℕ, List, [], ◌∷◌, ◌++◌, length, sym, ◌∙◌, ap, subst, Result, Ok, Err, OnOk, OnErr}
use Rattle.alg_terms.specs.declared.file.File.{File}
use Rattle.alg_terms.specs.declared.file.Statement.{Statement}
use Rattle.alg_terms.specs.declared.file.Statement.TheVariants as statement
use Rattle.alg_terms.specs.declared.goals.Goal.{Goal}
use Rattle.alg_terms.specs.Valid.{IsValid}
use Rattle.alg_typing.specs.Additions.{with_goal}
use Rattle.alg_typing.specs.Table.{Table, IsTableOf}
use Rattle.alg_typing.proofs.declared.Declared.add_goal.Goals as goal

added_or_not : {A E : Type 0} (file : File) (table : Table) (g : Goal) (members list : List Goal) (n : ℕ)
    (order : List Statement) (r : Result A E) → members ≡ g ∷ [] → n ≡ length file.goals →
    OnOk r (list ≡ file.goals ++ members) → OnOk r (order ≡ file.order ++ statement.Goal n ∷ []) →
    OnErr r (list ≡ file.goals) → OnErr r (order ≡ file.order) → IsTableOf file table → IsValid file →
    IsValid (with_goal file g) →
    IsTableOf (record file { goals = list; order = order }) table × IsValid
    (record file { goals = list; order = order })
added_or_not file table g members list n order (Ok u) one count is_list is_order no_list no_order is valid then = (
  is,
  subst IsValid
      (sym (λ i. record file {
        goals = (is_list ∙ ap (λ m. file.goals ++ m) one) i;
        order = (is_order ∙ ap (λ k. file.order ++ statement.Goal k ∷ []) count) i;
      }))
      then,
)
added_or_not file table g members list n order (Err e) one count is_list is_order no_list no_order is valid then =
    (is, subst IsValid (sym (λ i. record file { goals = no_list i; order = no_order i })) valid)

-- the goal was added, or nothing
pub invariant_of-self : goal.invariant_of-self
invariant_of-self c =
    let file = c.self.inside.file in
    added_or_not file c.self.inside.names c.args.goal _ _ _ _ c.declare.result c.in_ok-goals.ensures.items
    (ap (length {A = Goal}) c.items.ensures) c.declare.ensures.list_ok c.declare.ensures.order_ok
    c.declare.ensures.list_err c.declare.ensures.order_err c.self.invariant.0 c.self.invariant.1
    (subst (λ (f : File). IsValid (with_goal f c.args.goal)) (sym c.self.view_is) c.requires)
