-- The turns of a search for the first difference of a and b, which are the same before i.
use Rattle.std.specs.Prelude.{◌≡◌, ◌≢◌, ℕ, zero, suc, ◌+◌, ◌<◌, ◌≤◌, List, [], ◌∷◌, ◌++◌, take, drop, length, ℤ, pos}
use Rattle.std.proofs.Common.{get_or, refl, sym, subst, ◌∙◌, arith}
use Rattle.std.proofs.lemmas.List.{take_more}
use Rattle.std.specs.declared.cmp.Ordering.TheVariants.{Less}
use Rattle.alg_mono.proofs.MergeTurns.{drop_at, IsCanonical-drop}
use Rattle.alg_mono.proofs.Numbers.{integer_laws}
use Rattle.alg_mono.specs.Mono.{Monomial}
use Rattle.alg_mono.specs.NumberedPolynomials.{Polynomial, before, DifferFirst}
use Rattle.alg_mono.proofs.TermOrder.{before_total, before_anti}
use Rattle.alg_poly.proofs.Differences.{Term, Falls, differ_behind, differ_at_first, differ_at_second, differ_at_both, differ_at_end, differ_at_other_end}

drop_all : {A : Type 0} (p : List A) (i : ℕ) → length p ≤ i → drop i p ≡ []
drop_all [] zero h = refl
drop_all [] (suc i) h = refl
drop_all (x ∷ p) zero h = absurd (omega arith)
drop_all (x ∷ p) (suc i) h = drop_all p i (omega arith)

left_at : (a : Polynomial) (i : ℕ) (x : Term) → Falls a → i < length a → x ≡ get_or a i x → Falls (x ∷ drop (i + 1) a)
left_at a i x c h e =
    subst Falls (drop_at a i x x h e) (IsCanonical-drop integer_laws.amounts before_total before_anti a i c)

module _ (a b : Polynomial) (i : ℕ) (ca : Falls a) (cb : Falls b) (same : take i a ≡ take i b)
    (in_a : i ≤ length a) (in_b : i ≤ length b) where
  behind : (m : Monomial) (c d : ℤ) (p q : Polynomial) → drop i a ≡ p → drop i b ≡ q → DifferFirst p q m c d →
      DifferFirst a b m c d
  behind m c d p q e f h =
      differ_behind i a b m c d same ca cb in_a in_b (subst (λ r. DifferFirst r (drop i b) m c d) (sym e)
      (subst (λ r. DifferFirst p r m c d) (sym f) h))

  -- both have a term at i
  module _ (x y : Term) (ha : i < length a) (hb : i < length b) (ex : x ≡ get_or a i x) (ey : y ≡ get_or b i y) where
    a_from : drop i a ≡ x ∷ drop (i + 1) a
    a_from = drop_at a i x x ha ex

    b_from : drop i b ≡ y ∷ drop (i + 1) b
    b_from = drop_at b i y y hb ey

    pub greater_here : before x.0 y.0 ≡ Less → DifferFirst a b x.0 x.1 (pos 0)
    greater_here l = behind x.0 x.1 (pos 0) _ _ a_from b_from
        (differ_at_first x y (drop (i + 1) a) (drop (i + 1) b) l (left_at a i x ca ha ex) (left_at b i y cb hb ey))

    pub greater_there : before y.0 x.0 ≡ Less → DifferFirst a b y.0 (pos 0) y.1
    greater_there l = behind y.0 (pos 0) y.1 _ _ a_from b_from
        (differ_at_second x y (drop (i + 1) a) (drop (i + 1) b) l (left_at a i x ca ha ex) (left_at b i y cb hb ey))

    pub other_coefficient : x.0 ≡ y.0 → x.1 ≢ y.1 → DifferFirst a b x.0 x.1 y.1
    other_coefficient is differ = behind x.0 x.1 y.1 _ _ a_from b_from
        (differ_at_both x y (drop (i + 1) a) (drop (i + 1) b) is differ (left_at a i x ca ha ex)
        (left_at b i y cb hb ey))

    -- the same term
    pub same_more : x.0 ≡ y.0 → x.1 ≡ y.1 → take (i + 1) a ≡ take (i + 1) b
    same_more e f =
        take_more a i x ha ∙ (λ k. same k ++ (sym ex ∙ (λ j. (e j, f j)) ∙ ey) k ∷ []) ∙ sym (take_more b i y hb)

  pub more_here : (x : Term) → i < length a → length b ≤ i → x ≡ get_or a i x → DifferFirst a b x.0 x.1 (pos 0)
  more_here x ha hb ex = behind x.0 x.1 (pos 0) _ _ (drop_at a i x x ha ex) (drop_all b i hb)
      (differ_at_end x (drop (i + 1) a) (left_at a i x ca ha ex))

  pub more_there : (y : Term) → length a ≤ i → i < length b → y ≡ get_or b i y → DifferFirst a b y.0 (pos 0) y.1
  more_there y ha hb ey = behind y.0 (pos 0) y.1 _ _ (drop_all a i ha) (drop_at b i y y hb ey)
      (differ_at_other_end y (drop (i + 1) b) (left_at b i y cb hb ey))
