-- What a choice of the machine says.
use Rattle.std.specs.Prelude.{◌≡◌, ℕ, suc, ◌+◌, ◌-◌, ◌<◌, ◌≤◌, true, List, [], ◌∷◌, Option, Some, None, length}
use Rattle.std.proofs.Common.{refl, sym, ap, subst, arith}
use Rattle.alg_mono.specs.NumberedPolynomials.{Polynomial}
use Rattle.alg_lines.specs.Lines.{line_at}
use Rattle.alg_groebner.specs.Leads.{reduces}
use Rattle.alg_groebner.specs.Choices.{reducer, found_at, first_reducible, remainder_at}
use Rattle.alg_groebner.specs.declared.remainder.Remainder.{Remainder}
use Rattle.alg_groebner.proofs.Found.{same_some, none_some, found}

pub reducer_says : (lines : List Polynomial) (basis : List ℕ) (p : Polynomial) (j : ℕ) → reducer lines basis p ≡ Some
    j →
    reduces (line_at lines j) p ≡ true
reducer_says lines basis p j e = found (λ k. reduces (line_at lines k) p) basis j e

-- the place that is found has a remainder, which the line reduces
pub reducible_says : (lines : List Polynomial) (basis : List ℕ) (gs : List Remainder) (n r j : ℕ) →
    first_reducible lines basis n gs ≡ Some (r, j) →
    (n ≤ r) × (r < n + length gs) × (reduces (line_at lines j) (remainder_at gs (r - n)).rest ≡ true)
reducible_says lines basis [] n r j e = absurd (none_some (r, j) e)
reducible_says lines basis (g ∷ gs) n r j e =
    elim (reducer lines basis g.rest) as (λ o. reducer lines basis g.rest ≡ o →
    found_at n o (first_reducible lines basis (n + 1) gs) ≡ Some (r, j) →
    (n ≤ r) × (r < n + length (g ∷ gs)) × (reduces (line_at lines j) (remainder_at (g ∷ gs) (r - n)).rest ≡ true)) [
      | Some k ↦ λ t s. here k t s
      | None ↦ λ t s. later (reducible_says lines basis gs (n + 1) r j s)
    ] refl e
  where
    at_zero : (d : ℕ) → d ≡ 0 → remainder_at (g ∷ gs) d ≡ g
    at_zero d z = ap (remainder_at (g ∷ gs)) z

    at_more : (d m : ℕ) → d ≡ suc m → remainder_at (g ∷ gs) d ≡ remainder_at gs m
    at_more d m z = ap (remainder_at (g ∷ gs)) z

    here : (k : ℕ) → reducer lines basis g.rest ≡ Some k → ◌≡◌ {A = Option (ℕ × ℕ)} (Some (n, k)) (Some (r, j)) →
        (n ≤ r) × (r < n + length (g ∷ gs)) × (reduces (line_at lines j) (remainder_at (g ∷ gs) (r - n)).rest ≡ true)
    here k t q =
        let first : ℕ × ℕ = (n, k) in
        let second : ℕ × ℕ = (r, j) in
        let same : first ≡ second = same_some first second q in
        let place : n ≡ r = ap (λ (x : ℕ × ℕ). x.0) same in
        let line : k ≡ j = ap (λ (x : ℕ × ℕ). x.1) same in
        let says = reducer_says lines basis g.rest k t in (
          omega arith,
          omega arith,
          subst (λ (x : Remainder). reduces (line_at lines j) x.rest ≡ true) (sym (at_zero (r - n) (omega arith)))
              (subst (λ i. reduces (line_at lines i) g.rest ≡ true) line says),
        )

    later : ((n + 1) ≤ r) × (r < (n + 1) + length gs) × (reduces (line_at lines j)
        (remainder_at gs (r - (n + 1))).rest ≡ true) →
        (n ≤ r) × (r < n + length (g ∷ gs)) × (reduces (line_at lines j) (remainder_at (g ∷ gs) (r - n)).rest ≡ true)
    later h =
        let low = h.0 in
        let high = h.1 in (
          omega arith,
          omega arith,
          subst (λ (x : Remainder). reduces (line_at lines j) x.rest ≡ true)
              (sym (at_more (r - n) (r - (n + 1)) (omega arith))) h.2,
        )
