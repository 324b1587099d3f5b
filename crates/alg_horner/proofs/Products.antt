-- The map of the product of two forms, arm by arm.
use Rattle.std.specs.Prelude.{◌≡◌, ◌≢◌, ℕ, ◌+◌, ◌*◌, ℤ, pos, ◌*ℤ◌}
use Rattle.std.proofs.Common.{sym, ap, subst, ◌∙◌, arith}
use Rattle.alg_mono.proofs.Domain.{product_some}
use Rattle.alg_mono.proofs.Rows.{some_number}
use Rattle.alg_mono.specs.NumberedPolynomials.{Polynomial}
use Rattle.alg_horner.specs.Form.{Form, IsSome, IsHead, weight}
use Rattle.alg_horner.specs.Maps.{sum, product, constant, power, map_of, placed}
use Rattle.alg_horner.proofs.Ring.{product_comm, product_assoc, sum_product, constant-product}

pub some_times : (c d : ℤ) → c ≢ pos 0 → d ≢ pos 0 → c *ℤ d ≢ pos 0
some_times c d h g = product_some c d (some_number c h) (some_number d g)

pub weight_mix : (c p q a b : ℕ) → a ≡ c * p → b ≡ c * q → a + b ≡ c * (p + q)
weight_mix c p q a b e f = omega arith

placed_product : (t i : ℕ) (a b q : Polynomial) → placed t i (product a q) (product b q) ≡ product (placed t i a b) q
placed_product t i a b q =
    let w = power t i in
    ap (λ x. sum x (product b q))
    (product_assoc a q w ∙ ap (product a) (product_comm q w) ∙ sym (product_assoc a w q))
    ∙ sym (sum_product (product a w) b q)

pub scaled_placed : (t i : ℕ) (c a b : Polynomial) → placed t i (product c a) (product c b) ≡ product c (placed t i a b)
scaled_placed t i c a b =
    (λ n. placed t i (product_comm c a n) (product_comm c b n)) ∙ placed_product t i a b c
    ∙ product_comm (placed t i a b) c

-- ---- a number times a form, node by node
pub scaled_some : (c d x : ℤ) (f g : Form) → c ≢ pos 0 → x ≡ c *ℤ d → f ≡ Form.Const d → g ≡ Form.Const x →
    IsSome f → IsSome g
scaled_some c d x f g h e is_f is_g some =
    subst IsSome (sym (is_g ∙ ap Form.Const e)) (some_times c d h (subst IsSome is_f some))

pub scaled_head : (c d x : ℤ) (f g : Form) → c ≢ pos 0 → x ≡ c *ℤ d → f ≡ Form.Const d → g ≡ Form.Const x →
    IsHead f → IsHead g
scaled_head c d x f g h e is_f is_g some =
    subst IsHead (sym (is_g ∙ ap Form.Const e)) (some_times c d h (subst IsHead is_f some))

pub scaled_number : (s : ℕ) (c d x : ℤ) (f g : Form) → x ≡ c *ℤ d → f ≡ Form.Const d → g ≡ Form.Const x →
    map_of s g ≡ product (constant c) (map_of s f)
scaled_number s c d x f g e is_f is_g =
    ap (map_of s) (is_g ∙ ap Form.Const e) ∙ sym (ap (λ h. product (constant c) (map_of s h)) is_f
    ∙ constant-product c d)

pub scaled_mix : (s i : ℕ) (c : ℤ) (f g p q u v : Form) → f ≡ Form.Mix p i q → g ≡ Form.Mix u i v →
    map_of s u ≡ product (constant c) (map_of s p) → map_of (s + 1) v ≡ product (constant c) (map_of (s + 1) q) →
    map_of s g ≡ product (constant c) (map_of s f)
scaled_mix s i c f g p q u v is_f is_g head rest =
    ap (map_of s) is_g ∙ (λ n. placed s i (head n) (rest n))
    ∙ scaled_placed s i (constant c) (map_of s p) (map_of (s + 1) q)
    ∙ ap (λ h. product (constant c) (map_of s h)) (sym is_f)

pub scaled_weight : (i c : ℕ) (f g p q u v : Form) → f ≡ Form.Mix p i q → g ≡ Form.Mix u i v →
    weight u ≡ c * weight p → weight v ≡ c * weight q → weight g ≡ c * weight f
scaled_weight i c f g p q u v is_f is_g head rest =
    ap weight is_g ∙ weight_mix c (weight p) (weight q) (weight u) (weight v) head rest
    ∙ ap (λ h. c * weight h) (sym is_f)
