use Rattle.std.proofs.Common.{rules, ◌≡◌, ◌+◌, ◌*◌, ◌<◌, ◌≤◌, IfOk, ℕ, pos, subst, sym, ap, ◌∙◌, arith}
use mir.Syntax.{w128}
use mir.Val.{SFits}
use Rattle.std.proofs.lemmas.Int.{to_z-of_z}
use Rattle.std.proofs.lemmas.Result.{IfOk-weaker}
use Rattle.alg_mono.specs.NumberedPolynomials.{Polynomial}
use Rattle.alg_mono.specs.Polynomials.{MAX}
use Rattle.alg_horner.specs.Form.{Form, weight}
use Rattle.alg_horner.specs.Maps.{map_of, placed, power, product, sum, constant}
use Rattle.alg_horner.specs.Trees.{form_of}
use Rattle.alg_horner.specs.declared.horner.Horner.{Horner}
use Rattle.alg_horner.specs.declared.horner.Horner.TheVariants.{Const, Skip, Mix}
use Rattle.alg_horner.proofs.Ring.{product_comm}
use Rattle.alg_horner.proofs.Sums.{at}
use Rattle.alg_horner.proofs.AddedProducts.{number_at, adds_none, added_left, added_right, added_behind, raised_same, raised_more, raised_less, raised_before, raised_both, before_is, number_fits, weight_right, weight_left}
use Rattle.alg_horner.proofs.times.+add_product.Goals as goal

-- a factor is 0
pub add_product-returns-then-is_zero-clause-map : goal.add_product-returns-then-is_zero-clause-map
add_product-returns-then-is_zero-clause-map t c =
    let none : form_of c.args.p.now ≡ Form.Const (pos 0) = search rules in
    λ s. adds_none s (s + c.args.j) (form_of c.args.total.value) (form_of c.args.p.now)
    (map_of (s + c.args.k) (form_of c.args.q.now)) none

pub add_product-returns-then-is_zero-2-clause-map : goal.add_product-returns-then-is_zero-2-clause-map
add_product-returns-then-is_zero-2-clause-map t c =
    let none : form_of c.args.q.now ≡ Form.Const (pos 0) = search rules in
    λ s. adds_none s (s + c.args.k) (form_of c.args.total.value) (form_of c.args.q.now)
    (map_of (s + c.args.j) (form_of c.args.p.now)) none
    ∙ ap (sum (map_of s (form_of c.args.total.value)))
    (product_comm (map_of (s + c.args.k) (form_of c.args.q.now)) (map_of (s + c.args.j) (form_of c.args.p.now)))

-- a number on the right
pub add_product-add_multiple-requires-then-j-eq0-clause-fits :
    goal.add_product-add_multiple-requires-then-j-eq0-clause-fits
add_product-add_multiple-requires-then-j-eq0-clause-fits t c =
    let fits : SFits w128 c.in-Const-q.d = search rules in
    simp to_z-of_z (number_fits c.in-Const-q.d (weight (form_of c.args.total.value)) MAX (form_of c.args.p.now)
    (form_of c.args.q.now) (ap form_of c.in-Const-q.is) c.requires.fits)

pub add_product-returns-then-j-eq0-clause-map : goal.add_product-returns-then-j-eq0-clause-map
add_product-returns-then-j-eq0-clause-map t c =
    let d = c.in-Const-q.d in
    let p = form_of c.args.p.now in
    let q = form_of c.args.q.now in
    let T = form_of c.args.total.value in
    let fits : SFits w128 d = search rules in
    let none : c.args.j ≡ 0 = search rules in
    let made = simp to_z-of_z at c.add_multiple-then-j-eq0.ensures.map in
    subst (λ (f : ℕ → Polynomial). IfOk c.add_multiple-then-j-eq0.result (λ r. (s : ℕ) →
    map_of s (form_of r.value) ≡ f s))
    (λ n s. ap (sum (map_of s T)) (product_comm (constant d) (map_of s p)
    ∙ (λ m. product (at s (s + c.args.j) p (omega arith) m) (map_of (s + c.args.k) (ap form_of
    (sym c.in-Const-q.is) m)))) n)
    made

-- one first atom, or that of q
pub add_product-returns-then-k-eq0-2-clause-map : goal.add_product-returns-then-k-eq0-2-clause-map
add_product-returns-then-k-eq0-2-clause-map t c =
    let p = form_of c.args.p.now in
    let T = form_of c.args.total.value in
    let U = form_of c.in_ok-total-in-Mix-q.total.value in
    let none : c.args.k ≡ 0 = search rules in
    IfOk-weaker c.add_product_raised.result
    (λ r. (s : ℕ) → map_of s (form_of r.value) ≡ sum (map_of s U) (product
    (product (map_of (s + c.args.j) p) (map_of (s + 0) (form_of c.deref-then-k-eq0-2-2.result.now)))
    (power s c.in-Mix-q.h)))
    (λ r. (s : ℕ) → map_of s (form_of r.value) ≡ sum (map_of s T)
    (product (map_of (s + c.args.j) p) (map_of (s + c.args.k) (form_of c.args.q.now))))
    (λ r e s. added_right s c.args.j c.args.k c.in-Mix-q.h T U (form_of r.value) p (form_of c.args.q.now) _ _ none
    (ap form_of c.in-Mix-q.is)
    (c.in_ok-total-in-Mix-q.ensures.map s
    ∙ ap (λ f. sum (map_of s T) (product (map_of (s + c.args.j) p) (map_of (s + 1)
    (form_of f)))) c.deref-then-k-eq0-2.ensures)
    (e s ∙ ap (λ f. sum (map_of s U) (product (product (map_of (s + c.args.j) p) (map_of (s + 0) (form_of f)))
    (power s c.in-Mix-q.h)))
    c.deref-then-k-eq0-2-2.ensures))
    c.add_product_raised.ensures.map

pub add_product-returns-then-k-eq0-2-clause-weight : goal.add_product-returns-then-k-eq0-2-clause-weight
add_product-returns-then-k-eq0-2-clause-weight t c =
    let p = form_of c.args.p.now in
    let w = weight (form_of c.args.total.value) in
    let u = weight (form_of c.in_ok-total-in-Mix-q.total.value) in
    IfOk-weaker c.add_product_raised.result
    (λ r. weight (form_of r.value) ≤ u + weight p * weight (form_of c.deref-then-k-eq0-2-2.result.now))
    (λ r. weight (form_of r.value) ≤ w + weight p * weight (form_of c.args.q.now))
    (λ r e. weight_right c.in-Mix-q.h w u (weight (form_of r.value)) _ _ p (form_of c.args.q.now)
    (ap form_of c.in-Mix-q.is)
    (subst (λ (f : Horner). u ≤ w + weight p * weight (form_of f)) c.deref-then-k-eq0-2.ensures
    c.in_ok-total-in-Mix-q.ensures.weight)
    (subst (λ (f : Horner). weight (form_of r.value) ≤ u + weight p * weight
    (form_of f)) c.deref-then-k-eq0-2-2.ensures e))
    c.add_product_raised.ensures.weight

-- the first atom of p comes before all of q
pub add_product-returns-then-j-eq0-2-clause-map : goal.add_product-returns-then-j-eq0-2-clause-map
add_product-returns-then-j-eq0-2-clause-map t c =
    let q = form_of c.args.q.now in
    let T = form_of c.args.total.value in
    let U = form_of c.in_ok-total-in-Mix-q-2.total.value in
    let none : c.args.j ≡ 0 = search rules in
    IfOk-weaker c.add_product_raised-then-j-eq0-2.result
    (λ r. (s : ℕ) → map_of s (form_of r.value) ≡ sum (map_of s U) (product
    (product (map_of (s + 0) (form_of c.deref-then-j-eq0-2-2.result.now)) (map_of (s + c.args.k) q))
    (power s c.in-Mix.i)))
    (λ r. (s : ℕ) → map_of s (form_of r.value) ≡ sum (map_of s T)
    (product (map_of (s + c.args.j) (form_of c.args.p.now)) (map_of (s + c.args.k) q)))
    (λ r e s. added_left s c.args.j c.args.k c.in-Mix.i T U (form_of r.value) (form_of c.args.p.now) q _ _ none
    (ap form_of c.in-Mix.is)
    (c.in_ok-total-in-Mix-q-2.ensures.map s
    ∙ ap (λ f. sum (map_of s T) (product (map_of (s + 1) (form_of f)) (map_of
    (s + c.args.k) q))) c.deref-then-j-eq0-2.ensures)
    (e s ∙ ap (λ f. sum (map_of s U) (product (product (map_of (s + 0) (form_of f)) (map_of (s + c.args.k) q))
    (power s c.in-Mix.i)))
    c.deref-then-j-eq0-2-2.ensures))
    c.add_product_raised-then-j-eq0-2.ensures.map

pub add_product-returns-then-j-eq0-2-clause-weight : goal.add_product-returns-then-j-eq0-2-clause-weight
add_product-returns-then-j-eq0-2-clause-weight t c =
    let q = form_of c.args.q.now in
    let w = weight (form_of c.args.total.value) in
    let u = weight (form_of c.in_ok-total-in-Mix-q-2.total.value) in
    IfOk-weaker c.add_product_raised-then-j-eq0-2.result
    (λ r. weight (form_of r.value) ≤ u + weight (form_of c.deref-then-j-eq0-2-2.result.now) * weight q)
    (λ r. weight (form_of r.value) ≤ w + weight (form_of c.args.p.now) * weight q)
    (λ r e. weight_left c.in-Mix.i w u (weight (form_of r.value)) _ _ (form_of c.args.p.now) q
    (ap form_of c.in-Mix.is)
    (subst (λ (f : Horner). u ≤ w + weight (form_of f) * weight q) c.deref-then-j-eq0-2.ensures
    c.in_ok-total-in-Mix-q-2.ensures.weight)
    (subst (λ (f : Horner). weight (form_of r.value) ≤ u + weight
    (form_of f) * weight q) c.deref-then-j-eq0-2-2.ensures e))
    c.add_product_raised-then-j-eq0-2.ensures.weight

-- both later, and the total has the first atom
pub add_product_later-returns-in_ok-rest-in-Mix-clause-map : goal.add_product_later-returns-in_ok-rest-in-Mix-clause-map
add_product_later-returns-in_ok-rest-in-Mix-clause-map t c =
    let total : c.args.total.value ≡ Mix c.in-Mix.e c.in-Mix.g c.in-Mix.f = cc
    (c.in-Mix.is, c.replace.ensures.value, c.deref_mut.ensures.value) in
    subst (λ (f : ℕ → Polynomial). IfOk c.put.result (λ r. (s : ℕ) → map_of s (form_of r.value) ≡ f s))
    (λ n s. added_behind s c.args.j c.args.k c.in-Mix.g (form_of c.args.total.value)
    (form_of c.in_ok-rest-in-Mix.rest.value)
    (form_of c.args.p.now) (form_of c.args.q.now) _ _ c.requires.some_j c.requires.some_k (ap form_of total)
    (c.in_ok-rest-in-Mix.ensures.map (s + 1)) n)
    c.put.ensures.map

-- p is a power of the first atom times its head
pub add_product_raised-returns-then-is_zero-clause-map : goal.add_product_raised-returns-then-is_zero-clause-map
add_product_raised-returns-then-is_zero-clause-map t c =
    let q = form_of c.args.q.now in
    let T = form_of c.args.total.value in
    let first : c.args.j ≡ 0 = search rules in
    let none : form_of c.in-Mix.b.value ≡ Form.Const (pos 0) = search rules in
    subst (λ (f : ℕ → Polynomial). IfOk c.add_product_raised.result (λ r. (s : ℕ) → map_of s (form_of r.value) ≡ f s))
    (λ n s. ap (sum (map_of s T))
    (ap (λ f. product (product (map_of (s + 0) (form_of f)) (map_of (s + c.args.k) q)) (power s
    (c.args.h + c.in-Mix.i)))
    c.deref-then-is_zero.ensures
    ∙ raised_both s c.args.j c.args.k c.args.h c.in-Mix.i (form_of c.args.p.now) q _ _ first
    (ap form_of c.in-Mix.is) none) n)
    c.add_product_raised.ensures.map

-- the total has later atoms alone
pub add_product_raised-returns-in-Const-clause-map : goal.add_product_raised-returns-in-Const-clause-map
add_product_raised-returns-in-Const-clause-map t c =
    let e = c.in-Const.e in
    let T = form_of c.args.total.value in
    let U = form_of c.filled-rest.result.value in
    let fits : SFits w128 e = search rules in
    let total : c.args.total.value ≡ Const e = cc (c.in-Const.is, c.replace.ensures.value, c.deref_mut.ensures.value) in
    let number : U ≡ Form.Const e = ap form_of (simp to_z-of_z at c.filled-rest.ensures) in
    subst (λ (f : ℕ → Polynomial). IfOk c.product_before.result (λ r. (s : ℕ) → map_of s (form_of r.value) ≡ f s))
    (λ n s. raised_before s c.args.h
    (product (map_of (s + c.args.j) (form_of c.args.p.now)) (map_of (s + c.args.k) (form_of c.args.q.now))) T U
    (number_at (s + 1) s e U number ∙ ap (map_of s) (number ∙ sym (ap form_of total))) n)
    c.product_before.ensures.map

pub add_product_raised-returns-in-Skip-clause-map : goal.add_product_raised-returns-in-Skip-clause-map
add_product_raised-returns-in-Skip-clause-map t c =
    let total : c.args.total.value ≡ Skip c.in-Skip.l c.in-Skip.rest = cc
    (c.in-Skip.is, c.replace.ensures.value, c.deref_mut.ensures.value) in
    subst (λ (f : ℕ → Polynomial). IfOk c.product_before-in-Skip.result (λ r. (s : ℕ) →
    map_of s (form_of r.value) ≡ f s))
    (λ n s. raised_before s c.args.h
    (product (map_of (s + c.args.j) (form_of c.args.p.now)) (map_of (s + c.args.k) (form_of c.args.q.now)))
    (form_of c.args.total.value) (form_of c.after_some-rest.result.value)
    (c.after_some-rest.ensures.map s ∙ sym (ap (λ f. map_of s (form_of f)) total)) n)
    c.product_before-in-Skip.ensures.map

-- the total's first power is that of the product
pub add_product_raised-returns-in_ok-head-in-Equal-clause-map :
    goal.add_product_raised-returns-in_ok-head-in-Equal-clause-map
add_product_raised-returns-in_ok-head-in-Equal-clause-map t c =
    let m = c.in-Mix-replace in
    let total : c.args.total.value ≡ Mix m.e m.g m.f = cc (m.is, c.replace.ensures.value, c.deref_mut.ensures.value) in
    let same : m.g ≡ c.args.h = search rules in
    subst (λ (f : ℕ → Polynomial). IfOk c.put.result (λ r. (s : ℕ) → map_of s (form_of r.value) ≡ f s))
    (λ n s. raised_same s m.g c.args.h
    (product (map_of (s + c.args.j) (form_of c.args.p.now)) (map_of (s + c.args.k) (form_of c.args.q.now)))
    (form_of c.args.total.value) (form_of c.in_ok-head-in-Equal.head.value) _ _ (ap form_of total) same
    (c.in_ok-head-in-Equal.ensures.map s) n)
    c.put.ensures.map

-- it is less
pub add_product_raised-returns-in_ok-head-in-Less-clause-map :
    goal.add_product_raised-returns-in_ok-head-in-Less-clause-map
add_product_raised-returns-in_ok-head-in-Less-clause-map t c =
    let m = c.in-Mix-replace in
    let total : c.args.total.value ≡ Mix m.e m.g m.f = cc (m.is, c.replace.ensures.value, c.deref_mut.ensures.value) in
    let less : m.g < c.args.h = search rules in
    subst (λ (f : ℕ → Polynomial). IfOk c.put-in-Less.result (λ r. (s : ℕ) → map_of s (form_of r.value) ≡ f s))
    (λ n s. raised_more s m.g c.args.h
    (product (map_of (s + c.args.j) (form_of c.args.p.now)) (map_of (s + c.args.k) (form_of c.args.q.now)))
    (form_of c.args.total.value) (form_of c.in_ok-head-in-Less.head.value) _ _ (ap form_of total) less
    (c.in_ok-head-in-Less.ensures.map s) n)
    c.put-in-Less.ensures.map

-- it is greater
pub add_product_raised-returns-in_ok-head-in-Greater-clause-map :
    goal.add_product_raised-returns-in_ok-head-in-Greater-clause-map
add_product_raised-returns-in_ok-head-in-Greater-clause-map t c =
    let m = c.in-Mix-replace in
    let total : c.args.total.value ≡ Mix m.e m.g m.f = cc (m.is, c.replace.ensures.value, c.deref_mut.ensures.value) in
    let less : c.args.h < m.g = search rules in
    subst (λ (f : ℕ → Polynomial). IfOk c.put-in-Greater.result (λ r. (s : ℕ) → map_of s (form_of r.value) ≡ f s))
    (λ n s. raised_less s m.g c.args.h
    (product (map_of (s + c.args.j) (form_of c.args.p.now)) (map_of (s + c.args.k) (form_of c.args.q.now)))
    (form_of c.args.total.value) (form_of c.in_ok-head-in-Greater.head.value)
    (form_of c.in_ok-higher-in-Greater.higher.value)
    (form_of c.in_ok-none-in-Greater.none.value) _ _ (ap form_of total) less
    (ap form_of c.in_ok-higher-in-Greater.ensures) (ap form_of c.in_ok-none-in-Greater.ensures)
    (c.in_ok-head-in-Greater.ensures.map s) n)
    c.put-in-Greater.ensures.map

-- the product is made from 0
pub product_before-returns-clause-map : goal.product_before-returns-clause-map
product_before-returns-clause-map t c =
    let T = form_of c.args.total.value in
    let U = form_of c.in_ok-head.head.value in
    let p = form_of c.args.p.now in
    let q = form_of c.args.q.now in
    IfOk-weaker c.place.result
    (λ r. (s : ℕ) → map_of s (form_of r.value) ≡ placed (s + 0) c.args.h (map_of (s + 0) U) (map_of (s + 0 + 1) T))
    (λ r. (s : ℕ) → map_of s (form_of r.value)
    ≡ placed s c.args.h (product (map_of (s + c.args.j) p) (map_of (s + c.args.k) q)) (map_of (s + 1) T))
    (λ r e s. before_is s c.args.j c.args.k c.args.h T (form_of r.value) (form_of c.in_ok-none.none.value) U p q
    (ap form_of c.in_ok-none.ensures) c.in_ok-head.ensures.map e)
    c.place.ensures.map
