use Rattle.std.proofs.Common.{◌≡◌, ◌||◌, ◌∷◌, ◌∙◌, ap, sym, get_or, is_some, Bool, true, false}
use Rattle.std.specs.Prelude.{bytes_eq}
use Rattle.std.specs.List.{list_any}
use Rattle.alg_reader.specs.WellRead.{bytes_at}
use Rattle.alg_typing.specs.Names.{declared_as}
use Rattle.alg_typing.proofs.NewNames.{HasNames-insert, new_names-turn, has_name}
use Rattle.alg_typing.proofs.scope.Scope.new_names.Goals as goal
use Rattle.alg_typing.proofs.scope.Scope.new_names.Goals.{then-is_some, else-is_some}

at_once : (a b again : Bool) → a ≡ true → again ≡ true → again ≡ (a || b)
at_once a b again is_a is = is ∙ ap (λ x. x || b) (sym is_a)

at_last : (a b again : Bool) → a ≡ false → again ≡ b → again ≡ (a || b)
at_last a b again is_a is = is ∙ ap (λ x. x || b) (sym is_a)

pub loop-name-preserved : goal.loop-name-preserved
loop-name-preserved c =
    let file = c.args.self.now.declared.now in
    let text = c.args.self.now.text.now in
    let before = c.loop-name.invariant.0 in
    let name = get_or c.args.names.now c.loop-name.name-index (record { start = 0; stop = 0 }) in
    let key = c.in_ok-from_str.ensures.ok in
    let bytes = c.name_in-text.ensures in
    let declared = sym (c.is_some.ensures ∙ ap is_some (c.declared_as.ensures ∙ ap (declared_as file) bytes)) in
    let again : c.if-is_some.again ≡ (is_some (declared_as file (bytes_at text name)) || list_any
    (bytes_eq (bytes_at text name)) before) =
    elim c.if-is_some.branch [
      | then-is_some w ↦ at_once _ _ _ (declared ∙ w.if-is_some.true) (w.again-is ∙ w.if-is_some.true)
      | else-is_some w ↦ at_last _ _ _ (declared ∙ w.if-is_some.false) (w.again-is ∙ w.contains-again.ensures
          ∙ c.loop-name.invariant.1 c.name_in-text.result.now ∙ ap (λ n. list_any (bytes_eq n) before) bytes)
    ] in (
      bytes_at text name ∷ before,
      λ q. ap (λ keys. has_name keys q) c.in_ok-insert.ensures.keys
          ∙ HasNames-insert c.loop-name.before.keys c.in_ok-from_str.field-0 before c.loop-name.invariant.1 q
          ∙ ap (λ b. bytes_eq q b || list_any (bytes_eq q) before) (key ∙ bytes),
      new_names-turn file text before c.args.names.now c.loop-name.name-index _ c.loop-name.first _ _ _
          c.loop-name-test.true again
          c.fault_where.ensures c.earlier-first.ensures
          ∙ c.loop-name.invariant.2,
    )
