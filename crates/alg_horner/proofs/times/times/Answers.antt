use Rattle.std.proofs.Common.{◌≡◌, ◌+◌, ℕ, pos, ap, ◌∙◌, arith}
use Rattle.std.proofs.lemmas.Result.{IfOk-weaker}
use Rattle.alg_horner.specs.Form.{Form}
use Rattle.alg_horner.specs.Maps.{map_of, product, sum}
use Rattle.alg_horner.specs.Trees.{form_of}
use Rattle.alg_horner.proofs.Sums.{at}
use Rattle.alg_horner.proofs.AddedProducts.{from_none}
use Rattle.alg_horner.proofs.times.times.Goals as goal

-- the product is added to 0
pub returns-clause-map : goal.returns-clause-map
returns-clause-map c =
    let p = form_of c.args.p.now in
    let q = form_of c.args.q.now in
    let z = form_of c.in_ok-none.none.value in
    let none : z ≡ Form.Const (pos 0) = ap form_of c.in_ok-none.ensures in
    IfOk-weaker c.add_product.result
    (λ r. (s : ℕ) → map_of s (form_of r.value) ≡ sum (map_of s z) (product (map_of (s + 0) p) (map_of (s + 0) q)))
    (λ r. (s : ℕ) → map_of s (form_of r.value) ≡ product (map_of s p) (map_of s q))
    (λ r e s. from_none s (s + 0) (s + 0) z (form_of r.value) p q none (e s)
    ∙ (λ n. product (at (s + 0) s p (omega arith) n) (at (s + 0) s q (omega arith) n)))
    c.add_product.ensures.map
