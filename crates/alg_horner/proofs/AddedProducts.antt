-- The map of a form to which a product was added, arm by arm.
use Rattle.std.specs.Prelude.{◌≡◌, ℕ, ◌+◌, ◌*◌, ◌-◌, ◌<◌, ◌≤◌, ℤ, pos}
use Rattle.std.proofs.Common.{refl, sym, ap, subst, ◌∙◌, arith}
use Rattle.std.specs.Int.RustNames.{unsigned_abs}
use Rattle.alg_mono.specs.NumberedPolynomials.{Polynomial}
use Rattle.alg_horner.specs.Form.{Form, weight}
use Rattle.alg_horner.specs.Maps.{sum, product, constant, power, map_of, placed}
use Rattle.alg_horner.proofs.Ring.{sum_comm, sum_assoc, product_assoc, product_comm, product_sum, sum_product, zero_sum, zero_product, power-add, Is-product, Is-map, Is-power}
use Rattle.alg_horner.proofs.Sums.{at, placed_sum, higher_map}

-- a number has one map, whatever its first atom is
pub number_at : (s t : ℕ) (c : ℤ) (p : Form) → p ≡ Form.Const c → map_of s p ≡ map_of t p
number_at s t c p e = ap (map_of s) e ∙ sym (ap (map_of t) e)

-- a factor 0 adds nothing
pub adds_none : (s n : ℕ) (t p : Form) (q : Polynomial) → p ≡ Form.Const (pos 0) →
    map_of s t ≡ sum (map_of s t) (product (map_of n p) q)
adds_none s n t p q e =
    sym (ap (λ f. sum (map_of s t) (product (map_of n f) q)) e ∙ ap (sum (map_of s t)) (zero_product q)
    ∙ sum_comm (map_of s t) (constant (pos 0)) ∙ zero_sum (map_of s t) (Is-map s t))

-- a product that is added to 0
pub from_none : (s n m : ℕ) (z u p q : Form) → z ≡ Form.Const (pos 0) →
    map_of s u ≡ sum (map_of s z) (product (map_of n p) (map_of m q)) → map_of s u ≡ product (map_of n p) (map_of m q)
from_none s n m z u p q e h =
    let more = product (map_of n p) (map_of m q) in
    h ∙ ap (λ f. sum (map_of s f) more) e ∙ zero_sum more (Is-product (map_of n p) (map_of m q) (Is-map n p)
    (Is-map m q))

-- p times the rest of q, and p times its head, raised
pub added_right : (s j k h : ℕ) (t u r p q c d : Form) → k ≡ 0 → q ≡ Form.Mix c h d →
    map_of s u ≡ sum (map_of s t) (product (map_of (s + j) p) (map_of (s + 1) d)) →
    map_of s r ≡ sum (map_of s u) (product (product (map_of (s + j) p) (map_of (s + 0) c)) (power s h)) →
    map_of s r ≡ sum (map_of s t) (product (map_of (s + j) p) (map_of (s + k) q))
added_right s j k h t u r p q c d none is rest head =
    let P = map_of (s + j) p in
    let D = map_of (s + 1) d in
    let C = map_of s c in
    let w = power s h in
    head
    ∙ ap (sum (map_of s u)) (ap (λ x. product (product P x) w) (at (s + 0) s c (omega arith)) ∙ product_assoc P C w)
    ∙ ap (λ x. sum x (product P (product C w))) rest ∙ sum_assoc (map_of s t) (product P D) (product P (product C w))
    ∙ ap (sum (map_of s t)) (sum_comm (product P D) (product P (product C w)) ∙ sym (product_sum P (product C w) D)
    ∙ ap (product P) (ap (map_of s) (sym is) ∙ at s (s + k) q (omega arith)))

-- the rest of p times q, and its head times q, raised
pub added_left : (s j k i : ℕ) (t u r p q a b : Form) → j ≡ 0 → p ≡ Form.Mix a i b →
    map_of s u ≡ sum (map_of s t) (product (map_of (s + 1) b) (map_of (s + k) q)) →
    map_of s r ≡ sum (map_of s u) (product (product (map_of (s + 0) a) (map_of (s + k) q)) (power s i)) →
    map_of s r ≡ sum (map_of s t) (product (map_of (s + j) p) (map_of (s + k) q))
added_left s j k i t u r p q a b none is rest head =
    let Q = map_of (s + k) q in
    added_right s k j i t u r q p a b none is (rest ∙ ap (sum (map_of s t)) (product_comm (map_of (s + 1) b) Q))
    (head ∙ ap (λ x. sum (map_of s u) (product x (power s i))) (product_comm (map_of (s + 0) a) Q))
    ∙ ap (sum (map_of s t)) (product_comm Q (map_of (s + j) p))

-- ---- a product without the first atom
pub added_behind : (s j k g : ℕ) (t r p q e f : Form) → 1 ≤ j → 1 ≤ k → t ≡ Form.Mix e g f →
    map_of (s + 1) r ≡ sum (map_of (s + 1) f) (product (map_of (s + 1 + (j - 1)) p) (map_of (s + 1 + (k - 1)) q)) →
    placed s g (map_of s e) (map_of (s + 1) r) ≡ sum (map_of s t) (product (map_of (s + j) p) (map_of (s + k) q))
added_behind s j k g t r p q e f later_p later_q is rest =
    let more = product (map_of (s + j) p) (map_of (s + k) q) in
    ap (placed s g (map_of s e)) (rest ∙ (λ n. sum (map_of (s + 1) f)
    (product (at (s + 1 + (j - 1)) (s + j) p (omega arith) n) (at (s + 1 + (k - 1)) (s + k) q (omega arith) n))))
    ∙ placed_sum s g (map_of s e) (map_of (s + 1) f) more ∙ ap (λ x. sum (map_of s x) more) (sym is)

pub added_after : (s j k m : ℕ) (t u r p q : Form) → m ≤ j → m ≤ k → map_of (s + m) u ≡ map_of s t →
    map_of (s + m) r ≡ sum (map_of (s + m) u) (product (map_of (s + m + (j - m)) p) (map_of (s + m + (k - m)) q)) →
    map_of (s + m) r ≡ sum (map_of s t) (product (map_of (s + j) p) (map_of (s + k) q))
added_after s j k m t u r p q within_p within_q same added =
    added ∙ (λ n. sum (same n)
    (product (at (s + m + (j - m)) (s + j) p (omega arith) n) (at (s + m + (k - m)) (s + k) q (omega arith) n)))

-- ---- a product that is raised by a power of the first atom
middle : (a b f : Polynomial) → sum (sum a b) f ≡ sum (sum a f) b
middle a b f = sum_assoc a b f ∙ ap (sum a) (sum_comm b f) ∙ sym (sum_assoc a f b)

pub raised_same : (s g h : ℕ) (m : Polynomial) (t u e f : Form) → t ≡ Form.Mix e g f → g ≡ h →
    map_of s u ≡ sum (map_of s e) m →
    placed s h (map_of s u) (map_of (s + 1) f) ≡ sum (map_of s t) (product m (power s h))
raised_same s g h m t u e f is same head =
    let w = power s h in
    let F = map_of (s + 1) f in
    ap (λ y. placed s h y F) head ∙ ap (λ y. sum y F) (sum_product (map_of s e) m w)
    ∙ middle (product (map_of s e) w) (product m w) F
    ∙ ap (λ y. sum y (product m w)) (ap (λ n. map_of s (Form.Mix e n f)) (sym same) ∙ ap (map_of s) (sym is))

pub raised_more : (s g h : ℕ) (m : Polynomial) (t u e f : Form) → t ≡ Form.Mix e g f → g < h →
    map_of s u ≡ sum (map_of s e) (product m (power s (h - g))) →
    placed s g (map_of s u) (map_of (s + 1) f) ≡ sum (map_of s t) (product m (power s h))
raised_more s g h m t u e f is less head =
    raised_same s g g (product m (power s (h - g))) t u e f is refl head
    ∙ ap (sum (map_of s t)) (product_assoc m (power s (h - g)) (power s g)
    ∙ ap (product m) (power-add s (h - g) g ∙ ap (power s) (let e : h - g + g ≡ h = omega arith in e)))

pub raised_less : (s g h : ℕ) (m : Polynomial) (t u x z e f : Form) → t ≡ Form.Mix e g f → h < g →
    x ≡ Form.Mix e (g - h) z → z ≡ Form.Const (pos 0) → map_of s u ≡ sum (map_of s x) m →
    placed s h (map_of s u) (map_of (s + 1) f) ≡ sum (map_of s t) (product m (power s h))
raised_less s g h m t u x z e f is less higher none head =
    raised_same s h h m (Form.Mix x h f) u x f refl refl head
    ∙ ap (λ y. sum y (product m (power s h)))
    (ap (λ y. placed s h (map_of s y) (map_of (s + 1) f)) (higher ∙ ap (Form.Mix e (g - h)) none)
    ∙ higher_map s (g - h) h g e f (omega arith) ∙ ap (map_of s) (sym is))

pub raised_before : (s h : ℕ) (m : Polynomial) (t u : Form) → map_of (s + 1) u ≡ map_of s t →
    placed s h m (map_of (s + 1) u) ≡ sum (map_of s t) (product m (power s h))
raised_before s h m t u same = ap (placed s h m) same ∙ sum_comm (product m (power s h)) (map_of s t)

-- a power of the first atom times q
pub raised_both : (s j k h i : ℕ) (p q a b : Form) → j ≡ 0 → p ≡ Form.Mix a i b → b ≡ Form.Const (pos 0) →
    product (product (map_of (s + 0) a) (map_of (s + k) q)) (power s (h + i))
    ≡ product (product (map_of (s + j) p) (map_of (s + k) q)) (power s h)
raised_both s j k h i p q a b none is nothing =
    let A = map_of s a in
    let Q = map_of (s + k) q in
    let v = power s i in
    let w = power s h in
    let whole : map_of (s + j) p ≡ product A v =
    at (s + j) s p (omega arith) ∙ ap (map_of s) (is ∙ ap (Form.Mix a i) nothing)
    ∙ sum_comm (product A v) (constant (pos 0)) ∙ zero_sum (product A v) (Is-product A v (Is-map s a) (Is-power s i)) in
    let apart : product (product A v) Q ≡ product (product A Q) v =
    product_assoc A v Q ∙ ap (product A) (product_comm v Q) ∙ sym (product_assoc A Q v) in
    (λ n. product (product (at (s + 0) s a (omega arith) n) Q) (power s (let e : h + i ≡ i + h = omega arith in e n)))
    ∙ ap (product (product A Q)) (sym (power-add s i h)) ∙ sym (product_assoc (product A Q) v w)
    ∙ ap (λ y. product y w) (sym apart) ∙ ap (λ y. product (product y Q) w) (sym whole)

-- p*q, raised, before t
pub before_is : (s j k h : ℕ) (t r z u p q : Form) → z ≡ Form.Const (pos 0) →
    ((s : ℕ) → map_of s u ≡ sum (map_of s z) (product (map_of (s + j) p) (map_of (s + k) q))) →
    ((s : ℕ) → map_of s r ≡ placed (s + 0) h (map_of (s + 0) u) (map_of (s + 0 + 1) t)) →
    map_of s r ≡ placed s h (product (map_of (s + j) p) (map_of (s + k) q)) (map_of (s + 1) t)
before_is s j k h t r z u p q none head made =
    let zero : s + 0 ≡ s = omega arith in
    made s ∙ (λ n. placed (zero n) h (map_of (zero n) u) (map_of (zero n + 1) t))
    ∙ ap (λ y. placed s h y (map_of (s + 1) t)) (from_none s (s + j) (s + k) z u p q none (head s))

-- ---- weights
pub number_fits : (d : ℤ) (w bound : ℕ) (p q : Form) → q ≡ Form.Const d → w + weight p * weight q ≤ bound →
    w + unsigned_abs d * weight p ≤ bound
number_fits d w bound p q is h =
    let g : w + weight p * unsigned_abs d ≤ bound = subst (λ (f : Form). w + weight p * weight f ≤ bound) is h in
    omega arith

pub weight_right : (h w u r : ℕ) (c d p q : Form) → q ≡ Form.Mix c h d → u ≤ w + weight p * weight d →
    r ≤ u + weight p * weight c → r ≤ w + weight p * weight q
weight_right h w u r c d p q is rest head =
    subst (λ (f : Form). r ≤ w + weight p * weight f) (sym is)
    (let e = split (weight p) (weight c) (weight d) in omega arith)
  where
    split : (p c d : ℕ) → p * (c + d) ≡ p * c + p * d
    split p c d = omega arith

pub weight_left : (i w u r : ℕ) (a b p q : Form) → p ≡ Form.Mix a i b → u ≤ w + weight b * weight q →
    r ≤ u + weight a * weight q → r ≤ w + weight p * weight q
weight_left i w u r a b p q is rest head =
    subst (λ (f : Form). r ≤ w + weight f * weight q) (sym is)
    (let e = split (weight a) (weight b) (weight q) in omega arith)
  where
    split : (a b q : ℕ) → (a + b) * q ≡ a * q + b * q
    split a b q = omega arith
