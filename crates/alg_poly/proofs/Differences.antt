-- Coefficients of falling lists of terms, and the first difference of two.
use Rattle.std.specs.Prelude.{◌≡◌, ◌≢◌, ℕ, zero, suc, ◌+◌, ◌<◌, ◌≤◌, true, false, cond, not, [], ◌∷◌, take, drop, length, ℤ, pos, ◌+ℤ◌, Some, slice_get}
use Rattle.std.proofs.Common.{get_or, refl, sym, ap, subst, ◌∙◌, T, arith}
use lib.IntN.{+ℤ_idl}
use Rattle.std.specs.declared.cmp.Ordering.TheVariants.{Less}
use Rattle.std.specs.Ordering.{is_lt, eq_by_cmp}
use Rattle.alg_mono.specs.FiniteMaps.{IsCanonical}
use Rattle.alg_mono.specs.Numbers.{integers, is_zero}
use Rattle.alg_mono.proofs.Canonical.{both, first, equal, below_less, rest_of, amount-below, amount-first}
use Rattle.alg_mono.proofs.MergeTurns.{drop_at, IsCanonical-drop}
use Rattle.alg_mono.proofs.Numbers.{integer_laws}
use Rattle.alg_mono.specs.Mono.{Monomial}
use Rattle.alg_mono.specs.NumberedPolynomials.{Polynomial, before, coefficient_of, IsLead, DifferFirst}
use Rattle.alg_mono.proofs.TermOrder.{before_total, before_anti}

abbrev pub Term : Type 0
Term = Monomial × ℤ

abbrev pub Falls : Polynomial → Type 0
Falls p = IsCanonical before integers.amounts p

-- ---- coefficients
-- of another monomial than the first
pub coefficient_skip : (m : Monomial) (e : Term) (p : Polynomial) → e.0 ≢ m →
    coefficient_of m (e ∷ p) ≡ coefficient_of m p
coefficient_skip m e p other =
    elim (eq_by_cmp before m e.0) as (λ b. eq_by_cmp before m e.0 ≡ b →
    (cond b e.1 (pos 0) +ℤ coefficient_of m p) ≡ coefficient_of m p) [
      | true ↦ λ is. absurd (other (sym (before_anti m e.0 (equal _ (subst T (sym is) tt)))))
      | false ↦ λ _. +ℤ_idl (coefficient_of m p)
    ] refl

-- of the first monomial
pub coefficient_first : (e : Term) (p : Polynomial) → Falls (e ∷ p) → coefficient_of e.0 (e ∷ p) ≡ e.1
coefficient_first e p c = amount-first integer_laws.amounts before_total before_anti e p (first _ _ c.rises)

-- of the first monomial, in the rest
coefficient_rest : (e : Term) (p : Polynomial) → Falls (e ∷ p) → coefficient_of e.0 p ≡ pos 0
coefficient_rest e p c = amount-below integer_laws.amounts before_total before_anti e.0 p (first _ _ c.rises)

-- of a monomial above the first
above_first : (n : Monomial) (e : Term) (p : Polynomial) → before n e.0 ≡ Less → Falls (e ∷ p) →
    coefficient_of n (e ∷ p) ≡ pos 0
above_first n e p l c =
    amount-below integer_laws.amounts before_total before_anti n (e ∷ p)
    (both _ _ (subst (λ r. T (is_lt r)) (sym l) tt) (below_less before_total n e.0 p l (first _ _ c.rises)))

first_some : (e : Term) (p : Polynomial) → Falls (e ∷ p) → e.1 ≢ pos 0
first_some e p c is = subst (λ b. T (not b)) (ap is_zero is) (first _ _ c.no_none)

-- the first term is the lead
pub first_leads : (e : Term) (p : Polynomial) → Falls (e ∷ p) → IsLead (e ∷ p) e.0 e.1
first_leads e p c = record {
  there = coefficient_first e p c;
  some = first_some e p c;
  none_above = λ n l. above_first n e p l c;
}

-- ---- the turns of a search for a coefficient
pub coefficient_turn : (m : Monomial) (p : Polynomial) (i : ℕ) (x : Term) → i < length p → x ≡ get_or p i x → x.0 ≢ m →
    coefficient_of m (drop (i + 1) p) ≡ coefficient_of m (drop i p)
coefficient_turn m p i x h e other =
    sym (ap (coefficient_of m) (drop_at p i x x h e) ∙ coefficient_skip m x (drop (i + 1) p) other)

pub coefficient_found : (m : Monomial) (p : Polynomial) (i : ℕ) (x : Term) → i < length p → x ≡ get_or p i x → Falls p →
    x.0 ≡ m → x.1 ≡ coefficient_of m (drop i p)
coefficient_found m p i x h e c is =
    let from = drop_at p i x x h e in
    let left : Falls (x ∷ drop (i + 1) p) = subst Falls from
    (IsCanonical-drop integer_laws.amounts before_total before_anti p i c) in
    sym (ap (coefficient_of m) from ∙ ap (λ k. coefficient_of k (x ∷ drop (i + 1) p)) (sym is)
    ∙ coefficient_first x (drop (i + 1) p) left)

-- ---- first differences
swapped : (p q : Polynomial) (m : Monomial) (a b : ℤ) → DifferFirst p q m a b → DifferFirst q p m b a
swapped p q m a b d = record {
  left = d.right;
  right = d.left;
  differ = λ e. d.differ (sym e);
  same_above = λ n l. sym (d.same_above n l);
}

-- equal polynomials differ nowhere
pub differ_apart : (p q : Polynomial) (m : Monomial) (a b : ℤ) → DifferFirst p q m a b → p ≢ q
differ_apart p q m a b d e = d.differ (sym d.left ∙ ap (coefficient_of m) e ∙ d.right)

-- behind a common first term
differ_later : (e : Term) (p q : Polynomial) (m : Monomial) (a b : ℤ) → Falls (e ∷ p) → Falls (e ∷ q) →
    DifferFirst p q m a b → DifferFirst (e ∷ p) (e ∷ q) m a b
differ_later e p q m a b c d f =
    let other : e.0 ≢ m = λ is. f.differ (sym f.left ∙ ap (λ k. coefficient_of k p) (sym is) ∙ coefficient_rest e p c
    ∙ sym (coefficient_rest e q d) ∙ ap (λ k. coefficient_of k q) is ∙ f.right) in
    record {
      left = coefficient_skip m e p other ∙ f.left;
      right = coefficient_skip m e q other ∙ f.right;
      differ = f.differ;
      same_above = λ n l. ap (λ z. cond (eq_by_cmp before n e.0) e.1 (pos 0) +ℤ z) (f.same_above n l);
    }

-- behind a common front
pub differ_behind : (i : ℕ) (p q : Polynomial) (m : Monomial) (a b : ℤ) → take i p ≡ take i q → Falls p → Falls q →
    i ≤ length p → i ≤ length q → DifferFirst (drop i p) (drop i q) m a b → DifferFirst p q m a b
differ_behind zero p q m a b t c d h k f = f
differ_behind (suc i) [] q m a b t c d h k f = absurd (omega arith)
differ_behind (suc i) (e ∷ p) [] m a b t c d h k f = absurd (omega arith)
differ_behind (suc i) (e ∷ p) (g ∷ q) m a b t c d h k f =
    let heads : e ≡ g = cc in
    let tails : take i p ≡ take i q = cc in
    let d' : Falls (e ∷ q) = subst (λ (x : Term). Falls (x ∷ q)) (sym heads) d in
    let rest_p = rest_of integer_laws.amounts before_total before_anti e p c in
    let rest_q = rest_of integer_laws.amounts before_total before_anti g q d in
    subst (λ (x : Term). DifferFirst (e ∷ p) (x ∷ q) m a b) heads
    (differ_later e p q m a b c d' (differ_behind i p q m a b tails rest_p rest_q (omega arith) (omega arith) f))

-- the one has a greater first monomial than all of the other
pub differ_at_first : (x y : Term) (p q : Polynomial) → before x.0 y.0 ≡ Less → Falls (x ∷ p) → Falls (y ∷ q) →
    DifferFirst (x ∷ p) (y ∷ q) x.0 x.1 (pos 0)
differ_at_first x y p q l c d = record {
  left = coefficient_first x p c;
  right = above_first x.0 y q l d;
  differ = first_some x p c;
  same_above = λ n u. above_first n x p u c ∙ sym (above_first n y q (before_total.trans n x.0 y.0 u l) d);
}

pub differ_at_second : (x y : Term) (p q : Polynomial) → before y.0 x.0 ≡ Less → Falls (x ∷ p) → Falls (y ∷ q) →
    DifferFirst (x ∷ p) (y ∷ q) y.0 (pos 0) y.1
differ_at_second x y p q l c d = swapped (y ∷ q) (x ∷ p) y.0 y.1 (pos 0) (differ_at_first y x q p l d c)

-- one first monomial with two coefficients
pub differ_at_both : (x y : Term) (p q : Polynomial) → x.0 ≡ y.0 → x.1 ≢ y.1 → Falls (x ∷ p) → Falls (y ∷ q) →
    DifferFirst (x ∷ p) (y ∷ q) x.0 x.1 y.1
differ_at_both x y p q is differ c d = record {
  left = coefficient_first x p c;
  right = ap (λ k. coefficient_of k (y ∷ q)) is ∙ coefficient_first y q d;
  differ = differ;
  same_above = λ n u. above_first n x p u c ∙ sym (above_first n y q (ap (before n) (sym is) ∙ u) d);
}

-- the other has ended
pub differ_at_end : (x : Term) (p : Polynomial) → Falls (x ∷ p) → DifferFirst (x ∷ p) [] x.0 x.1 (pos 0)
differ_at_end x p c = record {
  left = coefficient_first x p c;
  right = refl;
  differ = first_some x p c;
  same_above = λ n u. above_first n x p u c;
}

pub differ_at_other_end : (y : Term) (q : Polynomial) → Falls (y ∷ q) → DifferFirst [] (y ∷ q) y.0 (pos 0) y.1
differ_at_other_end y q d = swapped (y ∷ q) [] y.0 y.1 (pos 0) (differ_at_end y q d)

pub leads : (p : Polynomial) (x : Term) → Falls p → Some x ≡ slice_get p 0 → IsLead p x.0 x.1
leads [] x c e = cc
leads (y ∷ p) x c e =
    let is : y ≡ x = cc in
    subst (λ (z : Term). IsLead (y ∷ p) z.0 z.1) is (first_leads y p c)
