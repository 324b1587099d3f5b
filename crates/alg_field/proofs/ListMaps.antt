-- Where a search in a list of factors comes to.
use Rattle.std.specs.Prelude.{◌≡◌, ◌≢◌, ℕ, zero, suc, ◌+◌, ◌<◌, true, cond, [], ◌∷◌, length, drop}
use Rattle.std.proofs.Common.{get_or, sym, ap, subst, ◌∙◌, arith}
use Rattle.std.specs.Ordering.{eq_by_cmp}
use Rattle.alg_mono.specs.NumberedPolynomials.{Polynomial}
use Rattle.alg_mono.proofs.MergeTurns.{drop_at}
use Rattle.alg_reify.specs.FactorMaps.{FactorMap, order, exponent_of}
use Rattle.alg_field.specs.Lists.{IsList, IsFactor}
use Rattle.alg_reify.proofs.FactorLists.{itself, differs}

-- ---- a search
pub IsList-drop : (es : FactorMap) (i : ℕ) → IsList es → IsList (drop i es)
IsList-drop es zero h = h
IsList-drop [] (suc i) h = h
IsList-drop (e ∷ es) (suc i) h = IsList-drop es i h.3

-- a factor of a list is one
pub factor_at : (es : FactorMap) (i : ℕ) (x d : Polynomial × ℕ) → i < length es → x ≡ get_or es i d → IsList es →
    IsFactor x.0
factor_at es i x d h e list =
    let parts : IsList (x ∷ drop (i + 1) es) = subst IsList (drop_at es i x d h e) (IsList-drop es i list) in parts.2

-- the factor that was looked for
pub exponent_found : (q : Polynomial) (es : FactorMap) (i : ℕ) (x d : Polynomial × ℕ) → i < length es →
    x ≡ get_or es i d → IsList es → x.0 ≡ q → x.1 ≡ exponent_of q (drop i es)
exponent_found q es i x d h e list is =
    let rest = drop (i + 1) es in
    let from : drop i es ≡ x ∷ rest = drop_at es i x d h e in
    let apart : IsList (x ∷ rest) = subst IsList from (IsList-drop es i list) in
    let none : exponent_of q rest ≡ 0 = subst (λ p. exponent_of p rest ≡ 0) is apart.0 in
    let here : eq_by_cmp order q x.0 ≡ true = subst (λ p. eq_by_cmp order q p ≡ true) (sym is) (itself q) in
    added x.1 _ none ∙ sym (ap (λ t. cond t x.1 0 + exponent_of q rest) here) ∙ ap (exponent_of q) (sym from)
  where
    added : (n m : ℕ) → m ≡ 0 → n ≡ n + m
    added n m z = omega arith

pub exponent_turn : (q : Polynomial) (es : FactorMap) (i : ℕ) (x d : Polynomial × ℕ) → i < length es →
    x ≡ get_or es i d → x.0 ≢ q → exponent_of q (drop (i + 1) es) ≡ exponent_of q (drop i es)
exponent_turn q es i x d h e other =
    let rest = drop (i + 1) es in
    sym (ap (exponent_of q) (drop_at es i x d h e) ∙ ap (λ t. cond t x.1 0 + exponent_of q rest) (differs q x.0 other)
    ∙ nothing_added (exponent_of q rest))
  where
    nothing_added : (m : ℕ) → 0 + m ≡ m
    nothing_added m = omega arith
