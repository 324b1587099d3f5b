-- The map of the sum of two forms, arm by arm.
use Rattle.std.specs.Prelude.{◌≡◌, ℕ, ◌+◌, ◌-◌, ◌<◌, ℤ, pos, ◌+ℤ◌}
use Rattle.std.proofs.Common.{refl, sym, ap, ◌∙◌, arith}
use Rattle.alg_mono.specs.NumberedPolynomials.{Polynomial}
use Rattle.alg_horner.specs.Form.{Form}
use Rattle.alg_horner.specs.Maps.{sum, product, constant, power, map_of, placed}
use Rattle.alg_horner.proofs.Ring.{sum_comm, sum_assoc, sum_left, product_assoc, sum_product, zero_sum, Is, Is-map, Is-product, Is-power, power-add, constant-sum}

-- the map does not depend on how the first atom's number is written
pub at : (s t : ℕ) (f : Form) → s ≡ t → map_of s f ≡ map_of t f
at s t f e = ap (λ n. map_of n f) e

-- a form after its first atom and the atoms up to k
pub before_later : (j k : ℕ) (f : Form) → j < k → (s : ℕ) → map_of (s + j + 1 + (k - j - 1)) f ≡ map_of (s + k) f
before_later j k f h s = at (s + j + 1 + (k - j - 1)) (s + k) f (omega arith)

-- two numbers
pub sum_numbers : (s t : ℕ) (c d : ℤ) (p q : Form) → p ≡ Form.Const c → q ≡ Form.Const d →
    constant (c +ℤ d) ≡ sum (map_of s p) (map_of t q)
sum_numbers s t c d p q e f = sym ((λ i. sum (map_of s (e i)) (map_of t (f i))) ∙ constant-sum c d)

pub placed_sum : (t i : ℕ) (a b q : Polynomial) → placed t i a (sum b q) ≡ sum (placed t i a b) q
placed_sum t i a b q = sym (sum_assoc (product a (power t i)) b q)

pub placed_both : (t i : ℕ) (a b c d : Polynomial) → placed t i (sum a c) (sum b d)
    ≡ sum (placed t i a b) (placed t i c d)
placed_both t i a b c d =
    let w = power t i in
    ap (λ x. sum x (sum b d)) (sum_product a c w) ∙ sum_assoc (product a w) (product c w) (sum b d)
    ∙ ap (sum (product a w)) (sum_left (product c w) b d) ∙ sym (sum_assoc (product a w) b (sum (product c w) d))

-- p's first atom comes before all of q
pub sum_first : (j k l i : ℕ) (a b r p q q' : Form) → p ≡ Form.Mix a i b →
    ((s : ℕ) → map_of (s + j + 1 + l) q' ≡ map_of (s + k) q) →
    ((s : ℕ) → map_of s r ≡ sum (map_of (s + 0) b) (map_of (s + l) q')) →
    (s : ℕ) → placed (s + j) i (map_of (s + j) a) (map_of (s + j + 1) r) ≡ sum (map_of (s + j) p) (map_of (s + k) q)
sum_first j k l i a b r p q q' is later rest s =
    let t = s + j in
    ap (placed t i (map_of t a)) (rest (t + 1) ∙ (λ n. sum (at (t + 1 + 0) (t + 1) b (omega arith) n) (later s n)))
    ∙ placed_sum t i (map_of t a) (map_of (t + 1) b) (map_of (s + k) q)
    ∙ ap (λ f. sum (map_of t f) (map_of (s + k) q)) (sym is)

-- q's first atom comes before all of p
pub sum_second : (j k l i : ℕ) (a b r p p' q : Form) → q ≡ Form.Mix a i b →
    ((s : ℕ) → map_of (s + k + 1 + l) p' ≡ map_of (s + j) p) →
    ((s : ℕ) → map_of s r ≡ sum (map_of (s + l) p') (map_of (s + 0) b)) →
    (s : ℕ) → placed (s + k) i (map_of (s + k) a) (map_of (s + k + 1) r) ≡ sum (map_of (s + j) p) (map_of (s + k) q)
sum_second j k l i a b r p p' q is later rest s =
    sum_first k j l i a b r q p p' is later (λ n. rest n ∙ sum_comm (map_of (n + l) p') (map_of (n + 0) b)) s
    ∙ sum_comm (map_of (s + k) q) (map_of (s + j) p)

-- both have one first atom, with one exponent
pub sum_both : (j k i h : ℕ) (a b c d f r p q : Form) → j ≡ k → i ≡ h → p ≡ Form.Mix a i b → q ≡ Form.Mix c h d →
    ((s : ℕ) → map_of s f ≡ sum (map_of (s + 0) a) (map_of (s + 0) c)) →
    ((s : ℕ) → map_of s r ≡ sum (map_of (s + 0) b) (map_of (s + 0) d)) →
    (s : ℕ) → placed (s + j) i (map_of (s + j) f) (map_of (s + j + 1) r) ≡ sum (map_of (s + j) p) (map_of (s + k) q)
sum_both j k i h a b c d f r p q atoms exponents is_p is_q head rest s =
    let t = s + j in
    (λ n. placed t i
    ((head t ∙ (λ m. sum (at (t + 0) t a (omega arith) m) (at (t + 0) t c (omega arith) m))) n)
    ((rest (t + 1)
    ∙ (λ m. sum (at (t + 1 + 0) (t + 1) b (omega arith) m) (at (t + 1 + 0) (t + 1) d (omega arith) m))) n))
    ∙ placed_both t i (map_of t a) (map_of (t + 1) b) (map_of t c) (map_of (t + 1) d)
    ∙ (λ n. sum (map_of t (sym is_p n)) (map_of (s + atoms n) (Form.Mix c (exponents n) d)))
    ∙ ap (λ g. sum (map_of t p) (map_of (s + k) g)) (sym is_q)

-- a higher power of the first atom is a power times the lower one
higher : (t g i : ℕ) (c d : Polynomial) → Is c →
    placed t i (sum (product c (power t g)) (constant (pos 0))) d ≡ placed t (g + i) c d
higher t g i c d is =
    ap (λ x. sum x d)
    (ap (λ x. product x (power t i))
    (sum_comm (product c (power t g)) (constant (pos 0)) ∙ zero_sum (product c (power t g)) (Is-product c
    (power t g) is (Is-power t g)))
    ∙ product_assoc c (power t g) (power t i) ∙ ap (product c) (power-add t g i))

pub higher_map : (t g i n : ℕ) (c d : Form) → g + i ≡ n →
    placed t i (map_of t (Form.Mix c g (Form.Const (pos 0)))) (map_of (t + 1) d) ≡ map_of t (Form.Mix c n d)
higher_map t g i n c d e =
    higher t g i (map_of t c) (map_of (t + 1) d) (Is-map t c) ∙ ap (λ m. map_of t (Form.Mix c m d)) e

-- p's exponent is less
pub sum_less : (j k i h : ℕ) (a b c d f r p q : Form) → j ≡ k → i < h → p ≡ Form.Mix a i b → q ≡ Form.Mix c h d →
    ((s : ℕ) → map_of s f ≡ sum (map_of (s + 0) a) (map_of (s + 0) (Form.Mix c (h - i) (Form.Const (pos 0))))) →
    ((s : ℕ) → map_of s r ≡ sum (map_of (s + 0) b) (map_of (s + 0) d)) →
    (s : ℕ) → placed (s + j) i (map_of (s + j) f) (map_of (s + j + 1) r) ≡ sum (map_of (s + j) p) (map_of (s + k) q)
sum_less j k i h a b c d f r p q atoms less is_p is_q head rest s =
    let t = s + j in
    let more = Form.Mix c (h - i) (Form.Const (pos 0)) in
    sum_both j j i i a b more d f r p (Form.Mix more i d) refl refl is_p refl head rest s
    ∙ ap (sum (map_of t p)) (higher_map t (h - i) i h c d (omega arith))
    ∙ (λ n. sum (map_of t p) (map_of (s + atoms n) (sym is_q n)))

-- q's exponent is less
pub sum_greater : (j k i h : ℕ) (a b c d f r p q : Form) → j ≡ k → h < i → p ≡ Form.Mix a i b → q ≡ Form.Mix c h d →
    ((s : ℕ) → map_of s f ≡ sum (map_of (s + 0) (Form.Mix a (i - h) (Form.Const (pos 0)))) (map_of (s + 0) c)) →
    ((s : ℕ) → map_of s r ≡ sum (map_of (s + 0) b) (map_of (s + 0) d)) →
    (s : ℕ) → placed (s + j) h (map_of (s + j) f) (map_of (s + j + 1) r) ≡ sum (map_of (s + j) p) (map_of (s + k) q)
sum_greater j k i h a b c d f r p q atoms less is_p is_q head rest s =
    let more = Form.Mix a (i - h) (Form.Const (pos 0)) in
    (λ n. placed (s + atoms n) h (map_of (s + atoms n) f) (map_of (s + atoms n + 1) r))
    ∙ sum_less k j h i c d a b f r q p (sym atoms) less is_q is_p
    (λ n. head n ∙ sum_comm (map_of (n + 0) more) (map_of (n + 0) c))
    (λ n. rest n ∙ sum_comm (map_of (n + 0) b) (map_of (n + 0) d)) s
    ∙ sum_comm (map_of (s + k) q) (map_of (s + j) p)
