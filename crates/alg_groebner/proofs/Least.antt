-- What the computed choices find is the least.
use Rattle.std.specs.Prelude.{◌≡◌, ℕ, zero, suc, ◌+◌, ◌<◌, ◌≤◌, Bool, true, false, cond, List, [], ◌∷◌, Option, Some, None, length}
use Rattle.std.proofs.Common.{refl, sym, ap, subst, ◌∙◌, inl, inr, arith}
use Rattle.std.specs.List.{find, position_from}
use Rattle.alg_mono.specs.NumberedPolynomials.{Polynomial}
use Rattle.alg_groebner.specs.Choices.{remainder_at, reducer, found_at, first_reducible}
use Rattle.alg_groebner.specs.Rules.{Rises}
use Rattle.alg_groebner.specs.Sound.{IsIn}
use Rattle.alg_groebner.specs.declared.remainder.Remainder.{Remainder}
use Rattle.alg_groebner.proofs.Found.{same_some, none_some}

pub differ : {A : Type 0} → true ≡ false → A
differ e = absurd (let f : true ≡ false = e in grind arith)

-- ---- the first of a list is the least of rising numbers
above : (n : ℕ) (ks : List ℕ) (i : ℕ) → Rises n ks → IsIn ks i → n ≤ i
above n [] i r h = absurd h
above n (k ∷ ks) i r (inl e) = let low = r.0 in omega arith
above n (k ∷ ks) i r (inr h) = let low = r.0 in let more = above (k + 1) ks i r.1 h in omega arith

pub record IsFirst (test : ℕ → Bool) (ks : List ℕ) (j : ℕ) : Type 0 where
  pub inside : IsIn ks j
  pub passes : test j ≡ true
  pub least : (i : ℕ) → IsIn ks i → test i ≡ true → j ≤ i

pub find_first : (test : ℕ → Bool) (n : ℕ) (ks : List ℕ) (j : ℕ) → Rises n ks → find test ks ≡ Some j →
    IsFirst test ks j
find_first test n [] j r e = absurd (none_some j e)
find_first test n (k ∷ ks) j r e =
    elim (test k) as (λ t. test k ≡ t → cond t (Some k) (find test ks) ≡ Some j → IsFirst test (k ∷ ks) j) [
      | true ↦ λ t f.
          let same = same_some k j f in
          record {
            inside = inl same;
            passes = subst (λ i. test i ≡ true) same t;
            least = λ i h _. elim h as (λ h. j ≤ i) [
              | inl e ↦ omega arith
              | inr h ↦ let more = above (k + 1) ks i r.1 h in omega arith
            ];
          }
      | false ↦ λ t f.
          let rest = find_first test (k + 1) ks j r.1 f in
          record {
            inside = inr rest.inside;
            passes = rest.passes;
            least = λ i h p. elim h as (λ h. j ≤ i) [
              | inl e ↦ differ (sym p ∙ ap test (sym e) ∙ t)
              | inr h ↦ rest.least i h p
            ];
          }
    ] refl e

pub find_some : (test : ℕ → Bool) (ks : List ℕ) (j : ℕ) → find test ks ≡ Some j → IsIn ks j
find_some test [] j e = absurd (none_some j e)
find_some test (k ∷ ks) j e =
    elim (test k) as (λ t. cond t (Some k) (find test ks) ≡ Some j → IsIn (k ∷ ks) j) [
      | true ↦ λ f. inl (same_some k j f)
      | false ↦ λ f. inr (find_some test ks j f)
    ] e

pub find_none : (test : ℕ → Bool) (ks : List ℕ) → find test ks ≡ None → (i : ℕ) → IsIn ks i → test i ≡ true → ⊥
find_none test [] e i h p = h
find_none test (k ∷ ks) e i h p =
    elim (test k) as (λ t. test k ≡ t → cond t (Some k) (find test ks) ≡ None → ⊥) [
      | true ↦ λ t f. none_some k (sym f)
      | false ↦ λ t f. elim h as (λ h. ⊥) [
        | inl e ↦ differ (sym p ∙ ap test (sym e) ∙ t)
        | inr h ↦ find_none test ks f i h p
      ]
    ] refl e

-- ---- the first place of a list
module _ (test : Remainder → Bool) where
  pub record IsPlace (n : ℕ) (gs : List Remainder) (r : ℕ) : Type 0 where
    pub place : ℕ
    pub is : r ≡ n + place
    pub inside : place < length gs
    pub passes : test (remainder_at gs place) ≡ true
    pub least : (k : ℕ) → k < length gs → test (remainder_at gs k) ≡ true → place ≤ k

  pub position_first : (n : ℕ) (gs : List Remainder) (r : ℕ) → position_from test n gs ≡ Some r → IsPlace n gs r
  position_first n [] r e = absurd (none_some r e)
  position_first n (g ∷ gs) r e =
      elim (test g) as (λ t. test g ≡ t → cond t (Some n) (position_from test (n + 1) gs) ≡ Some r →
      IsPlace n (g ∷ gs) r) [
        | true ↦ λ t f.
            let same = same_some n r f in
            record { place = 0; is = omega arith; inside = omega arith; passes = t; least = λ k l p. omega arith }
        | false ↦ λ t f. further t (position_first (n + 1) gs r f)
      ] refl e
    where
      further : test g ≡ false → IsPlace (n + 1) gs r → IsPlace n (g ∷ gs) r
      further t rest =
          let is = rest.is in
          let inside = rest.inside in
          record {
            place = suc rest.place;
            is = omega arith;
            inside = omega arith;
            passes = rest.passes;
            least = later rest.least;
          }
        where
          later : {p : ℕ} → ((k : ℕ) → k < length gs → test (remainder_at gs k) ≡ true → p ≤ k) →
              (k : ℕ) → k < length (g ∷ gs) → test (remainder_at (g ∷ gs) k) ≡ true → suc p ≤ k
          later least zero l p = differ (sym p ∙ t)
          later least (suc k) l p = let h = least k (omega arith) p in omega arith

  pub position_none : (n : ℕ) (gs : List Remainder) → position_from test n gs ≡ None → (k : ℕ) → k < length gs →
      test (remainder_at gs k) ≡ true → ⊥
  position_none n [] e k l p = omega arith
  position_none n (g ∷ gs) e zero l p =
      elim (test g) as (λ t. test g ≡ t → cond t (Some n) (position_from test (n + 1) gs) ≡ None → ⊥) [
        | true ↦ λ t f. none_some n (sym f)
        | false ↦ λ t f. differ (sym p ∙ t)
      ] refl e
  position_none n (g ∷ gs) e (suc k) l p =
      elim (test g) as (λ t. cond t (Some n) (position_from test (n + 1) gs) ≡ None → ⊥) [
        | true ↦ λ f. none_some n (sym f)
        | false ↦ λ f. position_none (n + 1) gs f k (omega arith) p
      ] e

-- ---- the first remainder that is reducible
module _ (lines : List Polynomial) (basis : List ℕ) where
  pub record IsReduced (n : ℕ) (gs : List Remainder) (r j : ℕ) : Type 0 where
    pub place : ℕ
    pub is : r ≡ n + place
    pub inside : place < length gs
    pub by : reducer lines basis (remainder_at gs place).rest ≡ Some j
    pub least : (k : ℕ) → k < length gs → (i : ℕ) → reducer lines basis (remainder_at gs k).rest ≡ Some i → place ≤ k

  none_found : {A : Type 0} (i : ℕ) (o : Option ℕ) → o ≡ None → o ≡ Some i → A
  none_found i o e f = absurd (none_some i (sym e ∙ f))

  pair_same : (x y : ℕ × ℕ) → Some x ≡ Some y → x ≡ y
  pair_same x y e = same_some x y e

  pub reducible_first : (n : ℕ) (gs : List Remainder) (r j : ℕ) → first_reducible lines basis n gs ≡ Some (r, j) →
      IsReduced n gs r j
  reducible_first n [] r j e = absurd (none_some (r, j) e)
  reducible_first n (g ∷ gs) r j e =
      elim (reducer lines basis g.rest) as (λ o. reducer lines basis g.rest ≡ o →
      found_at n o (first_reducible lines basis (n + 1) gs) ≡ Some (r, j) → IsReduced n (g ∷ gs) r j) [
        | Some i ↦ λ t f.
            let same = pair_same (n, i) (r, j) f in
            let place = ap (λ (x : ℕ × ℕ). x.0) same in
            let line = ap (λ (x : ℕ × ℕ). x.1) same in
            record {
              place = 0;
              is = omega arith;
              inside = omega arith;
              by = t ∙ ap (λ k. Some k) line;
              least = λ k l i p. omega arith;
            }
        | None ↦ λ t f. further t (reducible_first (n + 1) gs r j f)
      ] refl e
    where
      further : reducer lines basis g.rest ≡ None → IsReduced (n + 1) gs r j → IsReduced n (g ∷ gs) r j
      further t rest =
          let is = rest.is in
          let inside = rest.inside in
          record {
            place = suc rest.place;
            is = omega arith;
            inside = omega arith;
            by = rest.by;
            least = later rest.least;
          }
        where
          later : {p : ℕ} → ((k : ℕ) → k < length gs → (i : ℕ) →
              reducer lines basis (remainder_at gs k).rest ≡ Some i → p ≤ k) →
              (k : ℕ) → k < length (g ∷ gs) → (i : ℕ) →
              reducer lines basis (remainder_at (g ∷ gs) k).rest ≡ Some i → suc p ≤ k
          later least zero l i p = none_found i (reducer lines basis g.rest) t p
          later least (suc k) l i p = let h = least k (omega arith) i p in omega arith

  pub reducible_none : (n : ℕ) (gs : List Remainder) → first_reducible lines basis n gs ≡ None → (k : ℕ) →
      k < length gs → reducer lines basis (remainder_at gs k).rest ≡ None
  reducible_none n [] e k l = absurd (omega arith)
  reducible_none n (g ∷ gs) e zero l =
      elim (reducer lines basis g.rest) as (λ o. reducer lines basis g.rest ≡ o →
      found_at n o (first_reducible lines basis (n + 1) gs) ≡ None → reducer lines basis g.rest ≡ None) [
        | Some i ↦ λ t f. absurd (none_some (n, i) (sym f))
        | None ↦ λ t f. t
      ] refl e
  reducible_none n (g ∷ gs) e (suc k) l =
      elim (reducer lines basis g.rest) as (λ o. found_at n o (first_reducible lines basis (n + 1) gs) ≡ None →
      reducer lines basis (remainder_at gs k).rest ≡ None) [
        | Some i ↦ λ f. absurd (none_some (n, i) (sym f))
        | None ↦ λ f. reducible_none (n + 1) gs f k (omega arith)
      ] e
