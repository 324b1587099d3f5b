-- The laws of the search machine.
use Rattle.std.specs.Prelude.{◌≡◌, ◌≢◌, ℕ, ◌≤◌, List, [], ◌∷◌, ◌++◌, length, map, ℤ, pos, ◌+ℤ◌, ◌*ℤ◌, All}
use Rattle.std.proofs.Common.{refl, sym, ap, subst, ◌∙◌, inl, inr, arith}
use Rattle.std.specs.List.{Contains}
use Rattle.std.specs.declared.cmp.Ordering.TheVariants.{Less}
use Rattle.std.specs.Ordering.{nat_cmp}
use Rattle.alg_mono.specs.FiniteMaps.{IsCanonical, Each, products}
use Rattle.alg_mono.specs.Numbers.{exponents, integers}
use Rattle.alg_mono.specs.Mono.{Monomial}
use Rattle.alg_mono.specs.Monomials.{grevlex}
use Rattle.alg_mono.specs.NumberedPolynomials.{Polynomial, power_of, product_of, multiple_of}
use Rattle.alg_mono.specs.Polynomials.{IsPolynomial}
use Rattle.alg_lines.specs.Lines.{line_at}
use Rattle.alg_groebner.specs.Cancelling.{lead_lcm, s_polynomial}
use Rattle.alg_groebner.specs.Leads.{lead}
use Rattle.alg_groebner.specs.Sound.{IsThere, IsSound}
use Rattle.alg_groebner.specs.State.{State, End}
use Rattle.alg_criterion.specs.Combinations.{IsCombination, IsCombinationUpTo, IsBelowOver, ArePairsBelow, sum_of_products}
use Rattle.alg_criterion.specs.Laws.{IsRun, basis_of, LinesAreCombinations, PairsAreBelow, NoneExists}
use Rattle.alg_criterion.proofs.Spans.{Every, Led, whole, Spans, Under, LowOf, lcm_of}
use Rattle.alg_criterion.proofs.Machine.{Has, combined, IsCombination as IsSumOfProducts}
use Rattle.alg_criterion.proofs.Numbered.{IsWithin, mono_times, mono_over, falling}
use Rattle.alg_criterion.proofs.Quotients.{times_comm}
use Rattle.alg_criterion.proofs.Summing.{every-append}
use Rattle.alg_criterion.proofs.Rows.{at-append}
use Rattle.alg_criterion.proofs.Instance.{monomials}
use Rattle.alg_criterion.proofs.Sums.{Any}
use Rattle.alg_criterion.proofs.Invariant.{inv}
use Rattle.alg_criterion.proofs.Ended.{all_below, all_cleared, none_exists_at}
use Rattle.alg_criterion.proofs.Lines.{all_made, made_polys, sum_given}
use Rattle.alg_criterion.proofs.Bounds.{every_more, each_more, polys_bound}
use Rattle.alg_criterion.proofs.Lists.{every_of, all_of, whole-led_of}
use Rattle.alg_criterion.proofs.Members.{has_mapped, has_from, all_has, every_at, contains_has, has_contains}
use Rattle.alg_criterion.proofs.Values.{val, at-sum, at-product, at-times}
use Rattle.alg_criterion.proofs.Cancelled.{s_polynomial_is}
use Rattle.alg_criterion.proofs.Pairs.{polynomial_spans}
use Rattle.alg_criterion.proofs.Restated.{from_spans}
use Rattle.alg_criterion.proofs.Seeing.{led_at, seen}
use Rattle.alg_criterion.proofs.Fine.{IsDone}
use Rattle.alg_criterion.proofs.Running.{IsP, canonical_keys, power_list, length-powers, power_in, not_above, B, b, at_end}

has_hyps : (hs : List Polynomial) → Every (λ h. Has h hs) hs
has_hyps [] = tt
has_hyps (h ∷ hs) = (inl refl, every_more (λ x. Has x hs) (λ x. Has x (h ∷ hs)) (λ x m. inr m) hs (has_hyps hs))

every_two : {A : Type 0} (P Q R : A → Type 0) → ((x : A) → P x → Q x → R x) → (xs : List A) → Every P xs →
    Every Q xs → Every R xs
every_two P Q R f [] h k = tt
every_two P Q R f (x ∷ xs) h k = (f x h.0 k.0, every_two P Q R f xs h.1 k.1)

module _ (hyps : List Polynomial) (g : Polynomial) (power limit : ℕ) (last : State) (e : End)
    (run : IsRun hyps g power limit last e) where
  abbrev d : ℕ
  d = b hyps g power limit last e run 0

  abbrev hyps_ok : Every (IsP d) hyps
  hyps_ok = (B hyps g power limit last e run 0).hyps_ok

  abbrev powers_ok : Every (IsP d) (power_list g 1 power)
  powers_ok = (B hyps g power limit last e run 0).powers_ok

  -- law 1, the lines
  lines_lem : All (IsCombination hyps) last.lines
  lines_lem =
      let f = (at_end hyps g power limit last e run 0).0 in
      let L = monomials d in
      let s = seen hyps last f.made in
      let Sum = λ (p : Polynomial). Spans falling mono_times (IsWithin d) (λ l. Has (whole l) hyps) Any p in
      let restate = λ (p : Polynomial) (i : IsP d p) (x : Sum p).
      from_spans hyps (λ l. Has (whole l) hyps) (λ l h. has_contains (whole l) hyps h) d Any (λ v. Unit {0})
      (λ v h. tt) p (canonical_keys d p i.ok) x in
      let first = every_more (λ h. Has h hyps) Sum
      (λ h m. sum_given L hyps (power_list g 1 power) hyps_ok powers_ok h m) hyps (has_hyps hyps) in
      let second = all_made L hyps (power_list g 1 power) hyps_ok powers_ok s f.reached in
      let polys = made_polys L hyps (power_list g 1 power) hyps_ok powers_ok s f.reached in
      subst (All (IsCombination hyps)) (sym f.lines)
      (all_of (IsCombination hyps) (hyps ++ f.made)
      (every-append (IsCombination hyps) hyps f.made
      (every_two (IsP d) Sum (IsCombination hyps) restate hyps hyps_ok first)
      (every_two (IsP d) Sum (IsCombination hyps) restate f.made polys second)))

module _ (hyps : List Polynomial) (g : Polynomial) (power limit : ℕ) (last : State) (r c : ℕ)
    (run : IsRun hyps g power limit last (End.NoneUpTo r)) where
  abbrev n : ℕ
  n = b hyps g power limit last (End.NoneUpTo r) run c

  abbrev hyps_in : Every (IsP n) hyps
  hyps_in = (B hyps g power limit last (End.NoneUpTo r) run c).hyps_ok

  abbrev powers_in : Every (IsP n) (power_list g 1 power)
  powers_in = (B hyps g power limit last (End.NoneUpTo r) run c).powers_ok

  done : IsDone n hyps (power_list g 1 power) hyps_in powers_in last r
  done = (at_end hyps g power limit last (End.NoneUpTo r) run c).1

  sound : IsSound limit last
  sound = (at_end hyps g power limit last (End.NoneUpTo r) run c).2

  abbrev InBasis : Led Monomial → Type 0
  InBasis l = Has l (map (led_at last.lines) last.basis)

  there : (k : ℕ) → Has k last.basis → whole (led_at last.lines k) ≡ line_at last.lines k
  there k h = whole-led_of (line_at last.lines k) (all_has (IsThere last.lines) k last.basis sound.basis h)

  member : (l : Led Monomial) → InBasis l → Contains (basis_of last) (whole l)
  member l h =
      let k = has_from (led_at last.lines) l last.basis h in
      has_contains (whole l) (basis_of last)
      (subst (λ p. Has p (basis_of last)) (sym (ap (λ v. whole v) k.2 ∙ there k.0 k.1))
      (has_mapped (λ k. line_at last.lines k) k.0 last.basis k.1))

  -- law 1, the hypotheses
  hypotheses_lem : All (IsCombinationUpTo (basis_of last)) hyps
  hypotheses_lem =
      let s = seen hyps last done.fine.made in
      let Sum = λ (h : Polynomial). Spans falling mono_times (IsWithin n) InBasis (LowOf falling h) h in
      all_of (IsCombinationUpTo (basis_of last)) hyps
      (every_two (IsP n) Sum (IsCombinationUpTo (basis_of last))
      (λ h i x. from_spans (basis_of last) InBasis member n (LowOf falling h)
      (λ v. grevlex nat_cmp (lead h) v ≢ Less) (not_above h) h (canonical_keys n h i.ok) x) hyps hyps_in
      (all_cleared (monomials n) hyps (power_list g 1 power) hyps_in powers_in s done.fine.reached done.over))

  -- law 2
  led_pairs_below : (f g' : Led Monomial) → InBasis f → InBasis g' →
      IsBelowOver (basis_of last) (lead_lcm (whole f) (whole g')) (s_polynomial (whole f) (whole g')).poly
  led_pairs_below f g' hf hg =
      let s = seen hyps last done.fine.made in
      let i = inv (monomials n) hyps (power_list g 1 power) hyps_in powers_in s done.fine.reached in
      let jf = i.line f hf in
      let jg = i.line g' hg in
      let below = all_below (monomials n) hyps (power_list g 1 power)
      hyps_in powers_in s done.fine.reached done.over f g' hf hg in
      let low = λ (v : Monomial). Under falling mono_times (IsWithin n)
      (lcm_of falling mono_times (IsWithin n) InBasis mono_over f g') v in
      from_spans (basis_of last) InBasis member n low
      (λ v. grevlex nat_cmp v (lead_lcm (whole f) (whole g')) ≡ Less)
      (λ v h. subst (λ w. grevlex nat_cmp v w ≡ Less) (times_comm (mono_over g'.lead f.lead) f.lead) h)
      (s_polynomial (whole f) (whole g')).poly
      (canonical_keys n (s_polynomial (whole f) (whole g')).poly (s_polynomial_is n f g' jf jg).poly.ok)
      (polynomial_spans n InBasis f g' jf jg low below)

  pairs_lem : ArePairsBelow (basis_of last)
  pairs_lem f g' hf hg =
      let x = has_from (λ k. line_at last.lines k) f last.basis (contains_has f (basis_of last) hf) in
      let y = has_from (λ k. line_at last.lines k) g' last.basis (contains_has g' (basis_of last) hg) in
      let is_f : whole (led_at last.lines x.0) ≡ f = there x.0 x.1 ∙ sym x.2 in
      let is_g : whole (led_at last.lines y.0) ≡ g' = there y.0 y.1 ∙ sym y.2 in
      subst (λ p. IsBelowOver (basis_of last) (lead_lcm f p) (s_polynomial f p).poly) is_g
      (subst (λ p. IsBelowOver (basis_of last) (lead_lcm p (whole (led_at last.lines y.0)))
      (s_polynomial p (whole (led_at last.lines y.0))).poly) is_f
      (led_pairs_below (led_at last.lines x.0) (led_at last.lines y.0)
      (has_mapped (led_at last.lines) x.0 last.basis x.1) (has_mapped (led_at last.lines) y.0 last.basis y.1)))

  -- law 4, for factors within the bound
  at-combined : (q : Monomial) (ss hs : List Polynomial) →
      val q (sum_of_products ss hs) ≡ val q (combined falling mono_times mono_over (IsWithin n) ss hs)
  at-combined q [] hs = refl
  at-combined q (s ∷ ss) [] = refl
  at-combined q (s ∷ ss) (h ∷ hs) =
      at-sum q (product_of s h) (sum_of_products ss hs)
      ∙ (λ i. at-product q s h i +ℤ at-combined q ss hs i)
      ∙ sym (at-append falling q (products mono_times ◌*ℤ◌ s h)
      (combined falling mono_times mono_over (IsWithin n) ss hs))

  none_lem : (a : ℤ) → a ≢ pos 0 → (m : ℕ) → 1 ≤ m → m ≤ r → (factors : List Polynomial) →
      Every (Each (IsWithin n)) factors → multiple_of a [] (power_of g m) ≢ sum_of_products factors hyps
  none_lem a some m low high factors ok same =
      let s = seen hyps last done.fine.made in
      let count : r ≡ length (power_list g 1 power) = done.power in
      let size = length-powers g 1 power in
      let p = power_of g m in
      let inside : Has p (power_list g 1 power) = power_in g 1 power m low (omega arith) in
      let monos = canonical_keys n p (every_at (IsP n) (power_list g 1 power) powers_in p inside).ok in
      every_at (λ p. IsSumOfProducts falling mono_times mono_over (IsWithin n) hyps p → ⊥) (power_list g 1 power)
      (none_exists_at (monomials n) hyps (power_list g 1 power) hyps_in powers_in s done.fine.reached done.over)
      p inside
      (record {
        multiple = a;
        some = some;
        factors = factors;
        ok = ok;
        same = λ q. sym (at-times q a p monos) ∙ ap (val q) same ∙ at-combined q factors hyps;
      })

pub lines_are_combinations : LinesAreCombinations
lines_are_combinations = record {
  lines = lines_lem;
  hypotheses = λ hyps g power limit last r run. hypotheses_lem hyps g power limit last r 0 run;
}

pub pairs_are_below : PairsAreBelow
pairs_are_below hyps g power limit last r run = pairs_lem hyps g power limit last r 0 run

pub none_exists : NoneExists
none_exists hyps g power limit last r run a some m low high factors ok same =
    let fs = every_of (IsPolynomial nat_cmp integers) factors ok in
    let x = polys_bound factors
    (every_more (IsPolynomial nat_cmp integers) (Each (λ m. IsCanonical nat_cmp exponents m)) (λ p i. i.monomials)
    factors fs) in
    let high_bound = (B hyps g power limit last (End.NoneUpTo r) run x.0).above in
    let d = b hyps g power limit last (End.NoneUpTo r) run x.0 in
    none_lem hyps g power limit last r x.0 run a some m low high factors
    (every_more (Each (IsWithin x.0)) (Each (IsWithin d)) (each_more x.0 d high_bound) factors x.1) same
