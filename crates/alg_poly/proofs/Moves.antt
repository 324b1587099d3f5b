-- The turns of a sum that moves the first terms of two lists to its end.
use Rattle.std.specs.Prelude.{◌≡◌, ◌+◌, ◌<◌, ◌≤◌, [], ◌∷◌, ◌++◌, length, take, drop, ℤ, ◌+ℤ◌}
use Rattle.std.proofs.Common.{get_or, sym, ap, ◌∙◌, arith, append_assoc}
use Rattle.std.proofs.lemmas.List.{take_more}
use Rattle.std.specs.declared.cmp.Ordering.TheVariants.{Less, Equal, Greater}
use Rattle.alg_mono.specs.FiniteMaps.{IsCanonical, keep}
use Rattle.alg_mono.specs.Numbers.{integers}
use Rattle.alg_mono.specs.Polynomials.{MAX, norm}
use Rattle.alg_mono.specs.Mono.{Monomial}
use Rattle.alg_mono.specs.NumberedPolynomials.{Polynomial, before, sum_of}
use Rattle.alg_mono.proofs.MergeTurns.{IsCanonical-drop, takes_first, takes_second, takes_both, left_over, right_over}
use Rattle.alg_mono.proofs.Numbers.{integer_laws}
use Rattle.alg_mono.proofs.TermOrder.{before_total, before_anti}
use Rattle.alg_poly.proofs.Parts.{norm_parts}

abbrev Term : Type 0
Term = Monomial × ℤ

-- a and b are what is left of two lists, and out is the sum of what they had before
pub record AreLeft (whole a b out : Polynomial) : Type 0 where
  pub falls_a : IsCanonical before integers.amounts a
  pub falls_b : IsCanonical before integers.amounts b
  pub fits : norm a + norm b ≤ MAX
  pub so_far : out ++ sum_of a b ≡ whole

first_of : (a : Polynomial) (x : Term) → 0 < length a → x ≡ get_or a 0 x → take 1 a ≡ x ∷ []
first_of a x h e = take_more a 0 x h ∙ ap (λ z. z ∷ []) (sym e)

-- a list has one first term
pub same_first : (a : Polynomial) (x y : Term) → 0 < length a → x ≡ get_or a 0 x → y ≡ get_or a 0 y → x ≡ y
same_first [] x y h e f = absurd (omega arith)
same_first (z ∷ a) x y h e f = e ∙ sym f

falls_behind : (a : Polynomial) → IsCanonical before integers.amounts a →
    IsCanonical before integers.amounts (drop 1 a)
falls_behind a c = IsCanonical-drop integer_laws.amounts before_total before_anti a 1 c

module _ (whole a b out : Polynomial) (s : AreLeft whole a b out) where
  module _ (x y : Term) (ha : 0 < length a) (hb : 0 < length b) (ex : x ≡ get_or a 0 x) (ey : y ≡ get_or b 0 y) where
    pub first_moved : before x.0 y.0 ≡ Less → AreLeft whole (drop 1 a) b (out ++ take 1 a)
    first_moved l = record {
      falls_a = falls_behind a s.falls_a;
      falls_b = s.falls_b;
      fits = let f = s.fits in omega (arith, norm_parts 1 a);
      so_far = ap (λ t. (out ++ t) ++ sum_of (drop 1 a) b) (first_of a x ha ex)
          ∙ takes_first integer_laws.amounts before_total before_anti a b out 0 0 x y x y s.falls_a s.falls_b
          ha hb ex ey l
          ∙ s.so_far;
    }

    pub second_moved : before x.0 y.0 ≡ Greater → AreLeft whole a (drop 1 b) (out ++ take 1 b)
    second_moved g = record {
      falls_a = s.falls_a;
      falls_b = falls_behind b s.falls_b;
      fits = let f = s.fits in omega (arith, norm_parts 1 b);
      so_far = ap (λ t. (out ++ t) ++ sum_of a (drop 1 b)) (first_of b y hb ey)
          ∙ takes_second integer_laws.amounts before_total before_anti a b out 0 0 x y x y s.falls_a s.falls_b
          ha hb ex ey g
          ∙ s.so_far;
    }

    pub both_moved : before x.0 y.0 ≡ Equal →
        AreLeft whole (drop 1 a) (drop 1 b) (out ++ keep before integers.amounts x.0 (x.1 +ℤ y.1) [])
    both_moved e = record {
      falls_a = falls_behind a s.falls_a;
      falls_b = falls_behind b s.falls_b;
      fits = let f = s.fits in omega (arith, norm_parts 1 a, norm_parts 1 b);
      so_far = takes_both integer_laws.amounts before_total before_anti a b out 0 0 x y x y s.falls_a s.falls_b
          ha hb ex ey e
          ∙ s.so_far;
    }

  -- one list has ended
  pub first_ended : length a ≤ 0 → (out ++ a) ++ b ≡ whole
  first_ended h =
      append_assoc out a b
      ∙ ap (λ r. out ++ r) (sym (right_over integer_laws.amounts before_total before_anti a b 0 0 s.falls_b h))
      ∙ s.so_far

  pub second_ended : length b ≤ 0 → (out ++ a) ++ b ≡ whole
  second_ended h =
      append_assoc out a b
      ∙ ap (λ r. out ++ r) (sym (left_over integer_laws.amounts before_total before_anti a b 0 0 s.falls_a h))
      ∙ s.so_far
