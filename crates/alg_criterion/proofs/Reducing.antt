-- The remainders: which one is reduced, and that none is at the end.
use Rattle.std.specs.Prelude.{map, ◌≡◌, ℕ, zero, suc, ◌+◌, ◌<◌, true, false, cond, List, [], ◌∷◌, Option, Some, None, length, slice_set, slice_index_or, All}
use Rattle.std.proofs.Common.{refl, sym, ap, subst, ◌∙◌, inl, arith}
use Rattle.std.specs.List.{position_from}
use Rattle.alg_mono.specs.Mono.{Monomial}
use Rattle.alg_mono.specs.NumberedPolynomials.{Polynomial}
use Rattle.alg_mono.specs.Outcomes.{is_nothing}
use Rattle.alg_lines.specs.Lines.{line_at}
use Rattle.alg_groebner.specs.Choices.{reducer, found_at, first_reducible}
use Rattle.alg_groebner.specs.Leads.{reduces}
use Rattle.alg_groebner.specs.Sound.{IsThere}
use Rattle.alg_groebner.proofs.Found.{same_some, none_some}
use Rattle.alg_criterion.proofs.Spans.{Every, Led, whole, IsLine}
use Rattle.alg_criterion.proofs.Machine.{Has, Pairwise, IsStep, IsReduced}
use Rattle.alg_criterion.proofs.Numbered.{IsWithin, mono_times, mono_over, falling}
use Rattle.alg_criterion.proofs.Lists.{whole-led_of}
use Rattle.alg_criterion.proofs.Members.{has_from, all_has, found_in, not_found}
use Rattle.alg_criterion.proofs.Commons.{no_product}
use Rattle.alg_criterion.proofs.Seeing.{led_at}

-- the line that reduces a remainder is a basis line
pub reducible_in : (lines : List Polynomial) (basis : List ℕ) (gs : _) (n r j : ℕ) →
    first_reducible lines basis n gs ≡ Some (r, j) → Has j basis
reducible_in lines basis [] n r j e = absurd (none_some (r, j) e)
reducible_in lines basis (g ∷ gs) n r j e =
    elim (reducer lines basis g.rest) as (λ o. reducer lines basis g.rest ≡ o →
    found_at n o (first_reducible lines basis (n + 1) gs) ≡ Some (r, j) → Has j basis) [
      | Some k ↦ λ t s. here k t s
      | None ↦ λ t s. reducible_in lines basis gs (n + 1) r j s
    ] refl e
  where
    here : (k : ℕ) → reducer lines basis g.rest ≡ Some k → ◌≡◌ {A = Option (ℕ × ℕ)} (Some (n, k)) (Some (r, j)) →
        Has j basis
    here k t q =
        let first : ℕ × ℕ = (n, k) in
        let second : ℕ × ℕ = (r, j) in
        let line : k ≡ j = ap (λ (x : ℕ × ℕ). x.1) (same_some first second q) in
        subst (λ i. Has i basis) line (found_in (λ i. reduces (line_at lines i) g.rest) basis k t)

module _ (b : ℕ) (basis : List (Led Monomial)) where
  abbrev Step : Polynomial → Polynomial → Type 0
  Step old new = IsStep falling mono_times mono_over (IsWithin b) basis old new

  same_steps : {A : Type 0} (rest : A → Polynomial) (gs : List A) → Pairwise Step (map rest gs) (map rest gs)
  same_steps rest [] = tt
  same_steps rest (g ∷ gs) = (inl refl, same_steps rest gs)

  -- one remainder is reduced, and the others stay
  pub set_steps : {A : Type 0} (gs : List A) (rest : A → Polynomial) (r : ℕ) (y d : A) →
      (r < length gs → Step (rest (slice_index_or gs r d)) (rest y)) →
      Pairwise Step (map rest gs) (map rest (slice_set gs r y))
  set_steps [] rest r y d h = tt
  set_steps (g ∷ gs) rest zero y d h = (h (omega arith), same_steps rest gs)
  set_steps (g ∷ gs) rest (suc r) y d h = (inl refl, set_steps gs rest r y d (λ l. h (omega arith)))

module _ (b : ℕ) (lines : List Polynomial) (basis : List ℕ) (there : All (IsThere lines) basis)
    (line : (l : Led Monomial) → Has l (map (led_at lines) basis) → IsLine falling mono_times (IsWithin b) l) where
  abbrev Reduced : Polynomial → Type 0
  Reduced p = IsReduced falling mono_times mono_over (IsWithin b) (map (led_at lines) basis) p

  reduced_one : (p : Polynomial) → is_nothing p ≡ false → reducer lines basis p ≡ None → Reduced p
  reduced_one [] z e = absurd (let n : true ≡ false = z in grind arith)
  reduced_one (x ∷ p) z e = record {
    led = record { lead = x.0; leading = x.1; rest = p };
    is = refl;
    none = λ l h m.
        let k = has_from (led_at lines) l basis h in
        let whole_line = whole-led_of (line_at lines k.0) (all_has (IsThere lines) k.0 basis there k.1) in
        let test : reduces (whole l) (x ∷ p) ≡ false =
        ap (λ v. reduces (whole v) (x ∷ p)) k.2 ∙ ap (λ v. reduces v (x ∷ p)) whole_line
        ∙ not_found (λ i. reduces (line_at lines i) (x ∷ p)) basis e k.0 k.1 in
        no_product b l (record { lead = x.0; leading = x.1; rest = p }) (line l h).ok.0 test m;
  }

  abbrev zero_from : {A : Type 0} → List A → (A → Polynomial) → ℕ → Option ℕ
  zero_from gs rest r = position_from (λ g. is_nothing (rest g)) r gs

  pub all_reduced : (gs : _) (n r : ℕ) → first_reducible lines basis n gs ≡ None →
      zero_from gs (λ g. g.rest) r ≡ None → Every Reduced (map (λ g. g.rest) gs)
  all_reduced [] n r e z = tt
  all_reduced (g ∷ gs) n r e z =
      elim (is_nothing g.rest) as (λ t. is_nothing g.rest ≡ t →
      cond t (Some r) (zero_from gs (λ g. g.rest) (r + 1)) ≡ None →
      Reduced g.rest × Every Reduced (map (λ g. g.rest) gs)) [
        | true ↦ λ t s. absurd (none_some r (sym s))
        | false ↦ λ t s. elim (reducer lines basis g.rest) as (λ o. reducer lines basis g.rest ≡ o →
            found_at n o (first_reducible lines basis (n + 1) gs) ≡ None →
            Reduced g.rest × Every Reduced (map (λ g. g.rest) gs)) [
              | Some k ↦ λ q u. absurd (none_some (n, k) (sym u))
              | None ↦ λ q u. (reduced_one g.rest t q, all_reduced gs (n + 1) (r + 1) u s)
            ] refl e
      ] refl z
