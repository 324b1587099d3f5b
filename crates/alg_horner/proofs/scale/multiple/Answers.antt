use Rattle.std.proofs.Common.{rules, ◌≡◌, ◌+◌, ℕ, pos, sym, ap, ◌∙◌}
use mir.Syntax.{w128}
use mir.Val.{SFits, to_z}
use Rattle.std.proofs.lemmas.Int.{to_z-of_z}
use Rattle.std.proofs.lemmas.Result.{IfOk-weaker}
use Rattle.alg_horner.specs.Maps.{map_of, product, constant}
use Rattle.alg_horner.specs.Trees.{form_of}
use Rattle.alg_horner.specs.declared.horner.Horner.TheVariants.{Const}
use Rattle.alg_horner.proofs.Ring.{zero_product}
use Rattle.alg_horner.proofs.scale.multiple.Goals as goal

pub returns-then-c-eq0-clause-map : goal.returns-then-c-eq0-clause-map
returns-then-c-eq0-clause-map c =
    let fits : SFits w128 c.args.c = search rules in
    let none : c.args.c ≡ pos 0 = sym (to_z-of_z w128 c.args.c fits) ∙ ap (to_z w128) c.if-c-eq0.true in
    IfOk-weaker c.boxed.result (λ r. r.value ≡ Const (pos 0))
    (λ r. (s : ℕ) → map_of s (form_of r.value) ≡ product (constant c.args.c) (map_of (s + c.args.j)
    (form_of c.args.form.now)))
    (λ r e s. ap (λ f. map_of s (form_of f)) e ∙ sym (zero_product (map_of (s + c.args.j) (form_of c.args.form.now)))
    ∙ ap (λ z. product (constant z) (map_of (s + c.args.j) (form_of c.args.form.now))) (sym none))
    c.boxed.ensures
