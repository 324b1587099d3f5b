-- Polynomials that are numbers, and the tests on them.
use Rattle.std.specs.Prelude.{◌≡◌, Bool, true, false, cond, ℤ, pos, [], ◌∷◌, Option, Some, None}
use Rattle.std.proofs.Common.{refl, sym, ap, ◌∙◌}
use Rattle.std.proofs.lemmas.Bool.Decides.{Decides-int_eq}
use Rattle.std.specs.Option.{option_eq}
use Rattle.std.specs.Ordering.{int_eq, eq_by_cmp}
use Rattle.alg_mono.specs.Numbers.{is_zero}
use Rattle.alg_mono.specs.Outcomes.{is_nothing}
use Rattle.alg_mono.specs.Mono.{Monomial}
use Rattle.alg_mono.specs.NumberedPolynomials.{Polynomial, term_of}
use Rattle.alg_mono.proofs.Numbers.{is_zero_only}
use Rattle.alg_horner.specs.Form.{Form, IsCanonical}
use Rattle.alg_horner.specs.Maps.{map_of}
use Rattle.alg_horner.specs.Trees.{form_of}
use Rattle.alg_horner.specs.declared.horner.Horner.{Horner, Const, Skip', Mix'}
use Rattle.alg_horner.proofs.Polynomials.{constant_is}
use Rattle.alg_horner.proofs.Unique.{same_map}
use Rattle.alg_reify.proofs.Coefficients.{passes, only_equal}
use Rattle.alg_reify.proofs.Once.{same_test}
use Rattle.alg_field.specs.Constants.{IsNumber}
use Rattle.alg_reify.specs.FactorMaps.{order}
use Rattle.alg_reify.proofs.FactorOrder.{order_total, order_anti}

-- the tree of a number
number_tree : (h : Horner) (n : ℤ) → form_of h ≡ Form.Const n → h ≡ Const n
number_tree (Const m) n e = let same : m ≡ n = cc in ap (λ k. Const k) same
number_tree (Skip' j p q) n e = absurd (cc)
number_tree (Mix' p q i r s) n e = absurd (cc)

-- a canonical form of a number is that number
pub only_number : (h : Horner) (p : Polynomial) (n : ℤ) → IsCanonical (form_of h) → map_of 0 (form_of h) ≡ p →
    p ≡ term_of [] n → h ≡ Const n
only_number h p n canonical is same =
    number_tree h n (same_map (form_of h) (Form.Const n) canonical tt (is ∙ same ∙ sym (constant_is n)))

-- ---- the tests

int_zero : (c : ℤ) → int_eq c (pos 0) ≡ is_zero c
int_zero c =
    same_test (int_eq c (pos 0)) (is_zero c) (λ e. ap is_zero ((Decides-int_eq c (pos 0)).0 e))
    (λ e. (Decides-int_eq c (pos 0)).1 (is_zero_only c e))

nothing_where : (z : Bool) (c : ℤ) → z ≡ is_nothing {A = Monomial × ℤ} (cond z [] (([], c) ∷ []))
nothing_where true c = refl
nothing_where false c = refl

-- it is 0
pub zero_test : (p : Polynomial) (o : Option ℤ) → IsNumber p o → option_eq int_eq o (Some (pos 0)) ≡ is_nothing p
zero_test [] None h = absurd (h (pos 0) refl)
zero_test (e ∷ p) None h = refl
zero_test p (Some c) h = int_zero c ∙ nothing_where (is_zero c) c ∙ ap is_nothing (sym h)

-- it is a number other than 0
number_from : (c d : ℤ) (z : Bool) → cond {A = Polynomial} z [] (([], c) ∷ []) ≡ ([], d) ∷ [] → c ≡ d
number_from c d true e = absurd (cc)
number_from c d false e = ap first_coefficient e
  where
    first_coefficient : Polynomial → ℤ
    first_coefficient [] = pos 0
    first_coefficient (t ∷ p) = t.1

pub number_test : (p : Polynomial) (o : Option ℤ) (d : ℤ) → IsNumber p o → is_zero d ≡ false →
    option_eq int_eq o (Some d) ≡ eq_by_cmp order p (([], d) ∷ [])
number_test p None d h some =
    let is = ap (λ z. cond {A = Polynomial} z [] (([], d) ∷ [])) some in
    same_test false (eq_by_cmp order p (([], d) ∷ [])) (λ e. absurd (cc))
    (λ e. absurd (h d (only_equal order_anti p (([], d) ∷ []) e ∙ sym is)))
number_test p (Some c) d h some =
    let is = ap (λ z. cond {A = Polynomial} z [] (([], d) ∷ [])) some in
    same_test (int_eq c d) (eq_by_cmp order p (([], d) ∷ []))
    (λ e. let same = (Decides-int_eq c d).0 e in
    passes order_total p (([], d) ∷ []) (h ∙ ap (λ n. term_of [] n) same ∙ is))
    (λ e. (Decides-int_eq c d).1 (number_from c d (is_zero c) (sym h ∙ only_equal order_anti p (([], d) ∷ []) e)))
