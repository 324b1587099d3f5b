-- The map of a form to which a multiple of another was added, arm by arm.
use Rattle.std.specs.Prelude.{◌≡◌, ℕ, ◌+◌, ◌*◌, ◌≤◌, ℤ, pos, ◌+ℤ◌, ◌*ℤ◌}
use Rattle.std.proofs.Common.{sym, ap, ◌∙◌, arith}
use Rattle.alg_horner.specs.Form.{Form, weight}
use Rattle.alg_horner.specs.Maps.{sum, product, constant, map_of, placed}
use Rattle.alg_horner.proofs.Ring.{zero_sum, constant-sum, constant-product, Is-product, Is-map, Is-constant}
use Rattle.alg_horner.proofs.Sums.{placed_both, at}
use Rattle.alg_horner.proofs.Products.{scaled_placed}

pub acc_number : (s : ℕ) (e c d x : ℤ) (t q : Form) → x ≡ e +ℤ (c *ℤ d) → t ≡ Form.Const e → q ≡ Form.Const d →
    constant x ≡ sum (map_of s t) (product (constant c) (map_of s q))
acc_number s e c d x t q is is_t is_q =
    ap constant is ∙ sym (constant-sum e (c *ℤ d)) ∙ ap (sum (constant e)) (sym (constant-product c d))
    ∙ sym (λ n. sum (map_of s (is_t n)) (product (constant c) (map_of s (is_q n))))

pub acc_mix : (s g i : ℕ) (c : ℤ) (t q e f a b h r : Form) → t ≡ Form.Mix e g f → q ≡ Form.Mix a i b → g ≡ i →
    map_of s h ≡ sum (map_of s e) (product (constant c) (map_of s a)) →
    map_of (s + 1) r ≡ sum (map_of (s + 1) f) (product (constant c) (map_of (s + 1) b)) →
    placed s g (map_of s h) (map_of (s + 1) r) ≡ sum (map_of s t) (product (constant c) (map_of s q))
acc_mix s g i c t q e f a b h r is_t is_q same head rest =
    let C = constant c in
    (λ n. placed s g (head n) (rest n))
    ∙ placed_both s g (map_of s e) (map_of (s + 1) f) (product C (map_of s a)) (product C (map_of (s + 1) b))
    ∙ ap (sum (map_of s (Form.Mix e g f))) (scaled_placed s g C (map_of s a) (map_of (s + 1) b))
    ∙ (λ n. sum (map_of s (sym is_t n)) (product C (map_of s (Form.Mix a (same n) b))))
    ∙ ap (λ y. sum (map_of s t) (product C (map_of s y))) (sym is_q)

pub acc_weight : (g i c x y w : ℕ) (t q e f a b : Form) → t ≡ Form.Mix e g f → q ≡ Form.Mix a i b →
    x ≤ weight e + c * weight a → y ≤ weight f + c * weight b → w ≡ x + y → w ≤ weight t + c * weight q
acc_weight g i c x y w t q e f a b is_t is_q head rest is =
    let u : weight t ≡ weight e + weight f = ap weight is_t in
    let v : c * weight q ≡ c * weight a + c * weight b =
    ap (λ y. c * weight y) is_q ∙ split c (weight a) (weight b) in
    omega arith
  where
    split : (c a b : ℕ) → c * (a + b) ≡ c * a + c * b
    split c a b = omega arith

-- a multiple that is added to 0
pub acc_none : (s : ℕ) (c : ℤ) (t q r : Form) → t ≡ Form.Const (pos 0) →
    map_of s r ≡ product (constant c) (map_of (s + 0) q) → map_of s r
    ≡ sum (map_of s t) (product (constant c) (map_of s q))
acc_none s c t q r none is =
    let m = product (constant c) (map_of s q) in
    is ∙ ap (product (constant c)) (at (s + 0) s q (omega arith))
    ∙ sym (ap (λ f. sum (map_of s f) m) none ∙ zero_sum m (Is-product (constant c) (map_of s q) (Is-constant c)
    (Is-map s q)))
