-- The turns of a loop that merges two canonical lists a and b from i and j on into out.
use Rattle.std.specs.Prelude.{◌≡◌, ℕ, zero, suc, ◌+◌, ◌-◌, ◌<◌, ◌≤◌, List, [], ◌∷◌, ◌++◌, length, drop, take}
use Rattle.std.proofs.Common.{get_or, sym, refl, ap, ◌∙◌, arith, subst, append_assoc, append-nil, add-one, length-drop}
use Rattle.std.proofs.Math.Seq.{drop-cons}
use Rattle.std.proofs.lemmas.List.{take_all}
use Rattle.std.specs.declared.cmp.Ordering.{Ordering}
use Rattle.std.specs.declared.cmp.Ordering.TheVariants.{Less, Equal, Greater}
use Rattle.std.specs.Cmp.{IsTotalOrder}
use Rattle.std.specs.FinMap.{IsAntisymmetric}
use Rattle.std.specs.FinMap.Entries.{below_all, is_sorted}
use Rattle.alg_mono.specs.FiniteMaps.{Amounts, IsCanonical, keep, collect, all_some}
use Rattle.alg_mono.proofs.Totals.{IsAmounts}
use Rattle.alg_mono.proofs.Canonical.{second}
use Rattle.alg_mono.proofs.Merges.{keep_front, collect_first, collect_second, collect_both, collect_left, collect_right}

drop_all : {A : Type 0} (p : List A) (i : ℕ) → length p ≤ i → drop i p ≡ []
drop_all [] zero h = refl
drop_all [] (suc i) h = refl
drop_all (x ∷ p) zero h = absurd (omega arith)
drop_all (x ∷ p) (suc i) h = drop_all p i (omega arith)

pub take_rest : {A : Type 0} (p : List A) (i : ℕ) → take (length p - i) (drop i p) ≡ drop i p
take_rest p i = take_all (length p - i) (drop i p) (omega (arith, length-drop i p))

-- the entry at i begins what is left from i on
pub drop_at : {A : Type 0} (p : List A) (i : ℕ) (x d : A) → i < length p → x ≡ get_or p i d →
    drop i p ≡ x ∷ drop (i + 1) p
drop_at p i x d h e = drop-cons p i d h ∙ (λ k. sym e k ∷ drop (sym (add-one i) k) p)

module _ {K A : Type 0} {cmp : K → K →
    Ordering} {M : Amounts A} (L : IsAmounts M) (o : IsTotalOrder cmp) (anti : IsAntisymmetric cmp) where
  rest_of : (x : K × A) (p : List (K × A)) → IsCanonical cmp M (x ∷ p) → IsCanonical cmp M p
  rest_of x p c =
      record {
        rises = second (below_all cmp x.0 p) (is_sorted cmp p) c.rises;
        no_none = second _ (all_some cmp M p) c.no_none;
      }

  pub IsCanonical-drop : (p : List (K × A)) (i : ℕ) → IsCanonical cmp M p → IsCanonical cmp M (drop i p)
  IsCanonical-drop p zero c = c
  IsCanonical-drop [] (suc i) c = c
  IsCanonical-drop (x ∷ p) (suc i) c = IsCanonical-drop p i (rest_of x p c)

  abbrev merged : List (K × A) → List (K × A) → List (K × A)
  merged p q = collect cmp M (p ++ q)

  module _ (a b out : List (K × A)) (i j : ℕ) (x y d e : K × A) (ca : IsCanonical cmp M a) (cb : IsCanonical cmp M b)
      (hi : i < length a) (hj : j < length b) (ex : x ≡ get_or a i d) (ey : y ≡ get_or b j e) where
    can_x : IsCanonical cmp M (x ∷ drop (i + 1) a)
    can_x = subst (IsCanonical cmp M) (drop_at a i x d hi ex) (IsCanonical-drop a i ca)

    can_y : IsCanonical cmp M (y ∷ drop (j + 1) b)
    can_y = subst (IsCanonical cmp M) (drop_at b j y e hj ey) (IsCanonical-drop b j cb)

    both_next : merged (drop i a) (drop j b) ≡ merged (x ∷ drop (i + 1) a) (y ∷ drop (j + 1) b)
    both_next = λ k. merged (drop_at a i x d hi ex k) (drop_at b j y e hj ey k)

    pub takes_first : cmp x.0 y.0 ≡ Less →
        (out ++ x ∷ []) ++ merged (drop (i + 1) a) (drop j b) ≡ out ++ merged (drop i a) (drop j b)
    takes_first l = append_assoc out (x ∷ []) (merged (drop (i + 1) a) (drop j b)) ∙ ap (λ r. out ++ r)
        (ap (λ r. x ∷ merged (drop (i + 1) a) r) (drop_at b j y e hj ey)
        ∙ sym (both_next ∙ collect_first L o anti x y (drop (i + 1) a) (drop (j + 1) b) can_x can_y l))

    pub takes_second : cmp x.0 y.0 ≡ Greater →
        (out ++ y ∷ []) ++ merged (drop i a) (drop (j + 1) b) ≡ out ++ merged (drop i a) (drop j b)
    takes_second g = append_assoc out (y ∷ []) (merged (drop i a) (drop (j + 1) b)) ∙ ap (λ r. out ++ r)
        (ap (λ r. y ∷ merged r (drop (j + 1) b)) (drop_at a i x d hi ex)
        ∙ sym (both_next ∙ collect_second L o anti x y (drop (i + 1) a) (drop (j + 1) b) can_x can_y g))

    pub takes_both : cmp x.0 y.0 ≡ Equal →
        (out ++ keep cmp M x.0 (M.plus x.1 y.1) []) ++ merged (drop (i + 1) a) (drop (j + 1) b) ≡
        out ++ merged (drop i a) (drop j b)
    takes_both l =
        append_assoc out (keep cmp M x.0 (M.plus x.1 y.1) []) (merged (drop (i + 1) a) (drop (j + 1) b))
        ∙ ap (λ r. out ++ r)
        (keep_front cmp M x.0 (M.plus x.1 y.1) (merged (drop (i + 1) a) (drop (j + 1) b))
        ∙ sym (both_next ∙ collect_both L o anti x y (drop (i + 1) a) (drop (j + 1) b) can_x can_y l))

  pub left_over : (a b : List (K × A)) (i j : ℕ) → IsCanonical cmp M a → length b ≤ j →
      merged (drop i a) (drop j b) ≡ drop i a ++ drop j b
  left_over a b i j c h =
      let e = drop_all b j h in
      ap (λ r. merged (drop i a) r) e ∙ collect_left L o anti (drop i a) (IsCanonical-drop a i c)
      ∙ sym (ap (λ r. drop i a ++ r) e ∙ append-nil (drop i a))

  pub right_over : (a b : List (K × A)) (i j : ℕ) → IsCanonical cmp M b → length a ≤ i →
      merged (drop i a) (drop j b) ≡ drop i a ++ drop j b
  right_over a b i j c h =
      let e = drop_all a i h in
      ap (λ r. merged r (drop j b)) e ∙ collect_right L o anti (drop j b) (IsCanonical-drop b j c)
      ∙ sym (ap (λ r. r ++ drop j b) e)
