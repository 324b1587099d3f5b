-- A monomial divides another where each of its pairs fits, and the turns of a division.
use Rattle.std.specs.Prelude.{◌≡◌, ℕ, ◌+◌, ◌-◌, ◌<◌, ◌≤◌, true, false, cond, List, [], ◌∷◌, ◌++◌, length, drop, All}
use Rattle.std.proofs.Common.{get_or, refl, sym, ap, subst, ◌∙◌, arith, T, append_assoc}
use Rattle.std.proofs.lemmas.List.Elements.{All-nil, All-cons, All-head, All-tail}
use Rattle.std.specs.declared.cmp.Ordering.{Ordering}
use Rattle.std.specs.Ordering.{eq_by_cmp}
use Rattle.std.specs.Cmp.{IsTotalOrder}
use Rattle.std.specs.FinMap.{IsAntisymmetric}
use Rattle.std.specs.FinMap.Entries.{below_all}
use Rattle.alg_mono.specs.FiniteMaps.{keep, IsCanonical}
use Rattle.alg_mono.specs.Numbers.{exponents}
use Rattle.alg_mono.specs.Monomials.{exponent, lowered, mono_over, Divides}
use Rattle.alg_mono.proofs.Numbers.{exponent_laws}
use Rattle.alg_mono.proofs.Canonical.{amount-first, amount-below, rest_of, first, second, both, equal}
use Rattle.alg_mono.proofs.Merges.{keep_front, put_in_first, below-collect}
use Rattle.alg_mono.proofs.MergeTurns.{drop_at, IsCanonical-drop}

module _ {K : Type 0} {cmp : K → K → Ordering} (o : IsTotalOrder cmp) (anti : IsAntisymmetric cmp) where
  abbrev Can : List (K × ℕ) → Type 0
  Can m = IsCanonical cmp exponents m

  abbrev Fits : List (K × ℕ) → K × ℕ → Type 0
  Fits m e = e.1 ≤ exponent cmp e.0 m

  pub divides_if_fits : (d m : List (K × ℕ)) → Can d → All (Fits m) d → Divides cmp d m
  divides_if_fits [] m c fits k = omega arith
  divides_if_fits (e ∷ d) m c fits k =
      elim (eq_by_cmp cmp k e.0) as
      (λ t. eq_by_cmp cmp k e.0 ≡ t → cond t e.1 0 + exponent cmp k d ≤ exponent cmp k m) [
        | true ↦ λ p.
            let is : k ≡ e.0 = anti k e.0 (equal _ (subst T (sym p) tt)) in
            let below = subst (λ q. T (below_all cmp q d)) (sym is) (first _ _ c.rises) in
            let none = amount-below exponent_laws o anti k d below in
            let here = subst (λ q. e.1 ≤ exponent cmp q m) (sym is) (All-head (Fits m) e d fits) in
            omega arith
        | false ↦ λ p. let rest = divides_if_fits d m (rest_of exponent_laws o anti e d c)
            (All-tail (Fits m) e d fits) k in omega arith
      ] refl

  pub fits_if_divides : (d m : List (K × ℕ)) → Can d → Divides cmp d m → All (Fits m) d
  fits_if_divides [] m c divides = All-nil (Fits m)
  fits_if_divides (e ∷ d) m c divides =
      All-cons (Fits m) e d
      (subst (λ n. n ≤ exponent cmp e.0 m) (amount-first exponent_laws o anti e d (first _ _ c.rises)) (divides e.0))
      (fits_if_divides d m (rest_of exponent_laws o anti e d c) (λ k. let whole = divides k in omega arith))

  below-lowered : (k : K) (d m : List (K × ℕ)) → T (below_all cmp k m) → T (below_all cmp k (lowered cmp d m))
  below-lowered k d [] h = tt
  below-lowered k d (e ∷ m) h = both _ _ (first _ _ h) (below-lowered k d m (second _ _ h))

  -- the first pair that is left stays, unless the divisor has all of it
  pub over_turn : (m d out : List (K × ℕ)) (i : ℕ) (default : K × ℕ) → Can m → i < length m →
      let x = get_or m i default in
      (out ++ keep cmp exponents x.0 (x.1 - exponent cmp x.0 d) []) ++ mono_over cmp (drop (i + 1) m) d ≡
      out ++ mono_over cmp (drop i m) d
  over_turn m d out i default c h =
      let x = get_or m i default in
      let rest = drop (i + 1) m in
      let left = x.1 - exponent cmp x.0 d in
      let from : drop i m ≡ x ∷ rest = drop_at m i x default h refl in
      let can : Can (x ∷ rest) = subst Can from (IsCanonical-drop exponent_laws o anti m i c) in
      append_assoc out (keep cmp exponents x.0 left []) (mono_over cmp rest d)
      ∙ ap (λ r. out ++ r)
      (keep_front cmp exponents x.0 left (mono_over cmp rest d)
      ∙ sym (ap (λ r. mono_over cmp r d) from
      ∙ put_in_first exponent_laws o anti x.0 left (mono_over cmp rest d)
      (below-collect exponent_laws o anti x.0 (lowered cmp d rest) (below-lowered x.0 d rest (first _ _ can.rises)))))
