use Rattle.std.proofs.Common.{rules, ◌≡◌, ◌+◌, ◌*◌, ◌*ℤ◌, ℕ, ap, ◌∙◌}
use mir.Syntax.{w128}
use mir.Val.{SFits}
use Rattle.std.specs.Int.RustNames.{unsigned_abs}
use Rattle.std.proofs.lemmas.Int.{to_z-of_z}
use Rattle.std.proofs.lemmas.Result.{IfOk-weaker}
use Rattle.alg_horner.specs.Form.{IsSome, IsHead, weight}
use Rattle.alg_horner.specs.Maps.{map_of, product, constant}
use Rattle.alg_horner.specs.Trees.{form_of}
use Rattle.alg_horner.specs.declared.horner.Horner.TheVariants.{Const, Mix}
use Rattle.alg_horner.proofs.Products.{scaled_some, scaled_head, scaled_number, scaled_mix, scaled_weight}
use Rattle.alg_horner.proofs.scale.+scale.Goals as goal

pub returns-in-Const-clause-head : goal.returns-in-Const-clause-head
returns-in-Const-clause-head t c =
    let d = c.in-Const.d in
    let result = c.multiply_numbers.result in
    let fc : SFits w128 c.args.c = search rules in
    let fd : SFits w128 d = search rules in
    let fr : SFits w128 result = search rules in
    let is : result ≡ c.args.c *ℤ d = simp to_z-of_z at c.multiply_numbers.ensures.product in
    let made = simp to_z-of_z at c.boxed.ensures in
    IfOk-weaker c.boxed.result (λ r. r.value ≡ Const result) (λ r. IsHead (form_of c.args.form.now) →
    IsHead (form_of r.value))
    (λ r e. scaled_head c.args.c d result (form_of c.args.form.now) (form_of r.value) c.requires.some is
    (ap form_of c.in-Const.is) (ap form_of e)) made

pub returns-in-Const-clause-some : goal.returns-in-Const-clause-some
returns-in-Const-clause-some t c =
    let d = c.in-Const.d in
    let result = c.multiply_numbers.result in
    let fc : SFits w128 c.args.c = search rules in
    let fd : SFits w128 d = search rules in
    let fr : SFits w128 result = search rules in
    let is : result ≡ c.args.c *ℤ d = simp to_z-of_z at c.multiply_numbers.ensures.product in
    let made = simp to_z-of_z at c.boxed.ensures in
    IfOk-weaker c.boxed.result (λ r. r.value ≡ Const result) (λ r. IsSome (form_of c.args.form.now) →
    IsSome (form_of r.value))
    (λ r e. scaled_some c.args.c d result (form_of c.args.form.now) (form_of r.value) c.requires.some is
    (ap form_of c.in-Const.is) (ap form_of e)) made

pub returns-in-Const-clause-map : goal.returns-in-Const-clause-map
returns-in-Const-clause-map t c =
    let d = c.in-Const.d in
    let result = c.multiply_numbers.result in
    let fc : SFits w128 c.args.c = search rules in
    let fd : SFits w128 d = search rules in
    let fr : SFits w128 result = search rules in
    let is : result ≡ c.args.c *ℤ d = simp to_z-of_z at c.multiply_numbers.ensures.product in
    let made = simp to_z-of_z at c.boxed.ensures in
    IfOk-weaker c.boxed.result (λ r. r.value ≡ Const result) (λ r. (s : ℕ) →
    map_of s (form_of r.value) ≡ product (constant c.args.c) (map_of s (form_of c.args.form.now)))
    (λ r e. λ s. scaled_number s c.args.c d result (form_of c.args.form.now) (form_of r.value) is
    (ap form_of c.in-Const.is) (ap form_of e)) made

pub returns-in_ok-q-in-Mix-clause-map : goal.returns-in_ok-q-in-Mix-clause-map
returns-in_ok-q-in-Mix-clause-map t c =
    let fc : SFits w128 c.args.c = search rules in
    let p = form_of c.in-Mix.p.value in
    let q = form_of c.in-Mix.q.value in
    let u = c.in_ok-p-in-Mix.p in
    let v = c.in_ok-q-in-Mix.q in
    let head = simp to_z-of_z at c.in_ok-p-in-Mix.ensures.map in
    let rest = simp to_z-of_z at c.in_ok-q-in-Mix.ensures.map in
    IfOk-weaker c.boxed-in-Mix.result (λ r. r.value ≡ Mix u c.in-Mix.i v) (λ r. (s : ℕ) →
    map_of s (form_of r.value) ≡ product (constant c.args.c) (map_of s (form_of c.args.form.now)))
    (λ r e. λ s. scaled_mix s c.in-Mix.i c.args.c (form_of c.args.form.now) (form_of r.value) p q (form_of u.value)
    (form_of v.value) (ap form_of c.in-Mix.is) (ap form_of e)
    (head s ∙ ap (λ f. product (constant c.args.c) (map_of s (form_of f))) c.deref-in-Mix.ensures)
    (rest (s + 1) ∙ ap (λ f. product (constant c.args.c) (map_of (s + 1) (form_of f))) c.deref-in-Mix-2.ensures))
    c.boxed-in-Mix.ensures

pub returns-in_ok-q-in-Mix-clause-weight : goal.returns-in_ok-q-in-Mix-clause-weight
returns-in_ok-q-in-Mix-clause-weight t c =
    let fc : SFits w128 c.args.c = search rules in
    let p = form_of c.in-Mix.p.value in
    let q = form_of c.in-Mix.q.value in
    let u = c.in_ok-p-in-Mix.p in
    let v = c.in_ok-q-in-Mix.q in
    let head = simp to_z-of_z at c.in_ok-p-in-Mix.ensures.weight in
    let rest = simp to_z-of_z at c.in_ok-q-in-Mix.ensures.weight in
    IfOk-weaker c.boxed-in-Mix.result (λ r. r.value ≡ Mix u c.in-Mix.i v) (λ r. weight (form_of r.value)
    ≡ unsigned_abs c.args.c * weight (form_of c.args.form.now))
    (λ r e. scaled_weight c.in-Mix.i (unsigned_abs c.args.c) (form_of c.args.form.now) (form_of r.value) p q
    (form_of u.value) (form_of v.value) (ap form_of c.in-Mix.is) (ap form_of e)
    (head ∙ ap (λ f. unsigned_abs c.args.c * weight (form_of f)) c.deref-in-Mix.ensures)
    (rest ∙ ap (λ f. unsigned_abs c.args.c * weight (form_of f)) c.deref-in-Mix-2.ensures))
    c.boxed-in-Mix.ensures
