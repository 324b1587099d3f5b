-- What a choice that is made says.
use Rattle.std.specs.Prelude.{◌≡◌, ℕ, suc, ◌+◌, ◌-◌, ◌<◌, ◌≤◌, Bool, true, false, cond, List, [], ◌∷◌, Option, Some, None, length, All, slice_index_or}
use Rattle.std.proofs.Common.{refl, sym, ap, subst, ◌∙◌, arith}
use Rattle.std.specs.List.{find}
use Rattle.std.proofs.lemmas.List.Elements.{All-head, All-tail}
use Rattle.std.proofs.lemmas.List.{get_or_default}
use Rattle.alg_mono.specs.NumberedPolynomials.{Polynomial}
use Rattle.alg_groebner.specs.Leads.{reduces}
use Rattle.alg_groebner.specs.Choices.{remainder_at}
use Rattle.alg_groebner.specs.Work.{member_reducer, member_found, member_reducible}
use Rattle.alg_groebner.specs.declared.member.Member.{Member}
use Rattle.alg_groebner.specs.declared.remainder.Remainder.{Remainder}

pub same_some : {A : Type 0} (x y : A) → Some x ≡ Some y → x ≡ y
same_some x y e = grind arith

pub none_some : {A : Type 0} (x : A) → None ≡ Some x → ⊥
none_some x e = grind arith

pub found : {A : Type 0} (test : A → Bool) (xs : List A) (x : A) → find test xs ≡ Some x → test x ≡ true
found test [] x e = absurd (none_some x e)
found test (y ∷ xs) x e =
    elim (test y) as (λ b. test y ≡ b → cond b (Some y) (find test xs) ≡ Some x → test x ≡ true) [
      | true ↦ λ t s. subst (λ z. test z ≡ true) (same_some y x s) t
      | false ↦ λ t s. found test xs x s
    ] refl e

pub found_holds : {A : Type 0} (P : A → Type 0) (test : A → Bool) (xs : List A) (x : A) → All P xs → Some x ≡ find
    test xs → P x
found_holds P test [] x a e = absurd (none_some x (sym e))
found_holds P test (y ∷ xs) x a e =
    elim (test y) as (λ b. Some x ≡ cond b (Some y) (find test xs) → P x) [
      | true ↦ λ s. subst P (sym (same_some x y s)) (All-head P y xs a)
      | false ↦ λ s. found_holds P test xs x (All-tail P y xs a) s
    ] e

pub member_says : (basis : List Member) (p : Polynomial) (b : Member) → Some b ≡ member_reducer basis p →
    reduces b.poly p ≡ true
member_says basis p b e = found (λ (b : Member). reduces b.poly p) basis b (sym e)

abbrev pub Reduced : List Remainder → ℕ → ℕ → Member → Type 0
Reduced gs n r b = (n ≤ r) × (r < n + length gs) × (reduces b.poly (remainder_at gs (r - n)).rest ≡ true)

-- the place that is found has a remainder, which the line reduces
pub reducible_says : (basis : List Member) (gs : List Remainder) (n r : ℕ) (b : Member) →
    member_reducible basis n gs ≡ Some (r, b) → Reduced gs n r b
reducible_says basis [] n r b e = absurd (none_some (r, b) e)
reducible_says basis (g ∷ gs) n r b e =
    elim (member_reducer basis g.rest) as (λ o. member_reducer basis g.rest ≡ o →
    member_found n o (member_reducible basis (n + 1) gs) ≡ Some (r, b) → Reduced (g ∷ gs) n r b) [
      | Some k ↦ λ t s. here k t s
      | None ↦ λ t s. later (reducible_says basis gs (n + 1) r b s)
    ] refl e
  where
    at_zero : (d : ℕ) → d ≡ 0 → remainder_at (g ∷ gs) d ≡ g
    at_zero d z = ap (remainder_at (g ∷ gs)) z

    at_more : (d m : ℕ) → d ≡ suc m → remainder_at (g ∷ gs) d ≡ remainder_at gs m
    at_more d m z = ap (remainder_at (g ∷ gs)) z

    here : (k : Member) → member_reducer basis g.rest ≡ Some k → ◌≡◌ {A = Option (ℕ × Member)} (Some (n, k))
        (Some (r, b)) →
        Reduced (g ∷ gs) n r b
    here k t q =
        let first : ℕ × Member = (n, k) in
        let second : ℕ × Member = (r, b) in
        let same : first ≡ second = same_some first second q in
        let place : n ≡ r = ap (λ (x : ℕ × Member). x.0) same in
        let line : k ≡ b = ap (λ (x : ℕ × Member). x.1) same in
        let says = member_says basis g.rest k (sym t) in (
          omega arith,
          omega arith,
          subst (λ (x : Remainder). reduces b.poly x.rest ≡ true) (sym (at_zero (r - n) (omega arith)))
              (subst (λ (i : Member). reduces i.poly g.rest ≡ true) line says),
        )

    later : Reduced gs (n + 1) r b → Reduced (g ∷ gs) n r b
    later h =
        let low = h.0 in
        let high = h.1 in (
          omega arith,
          omega arith,
          subst (λ (x : Remainder). reduces b.poly x.rest ≡ true)
              (sym (at_more (r - n) (r - (n + 1)) (omega arith))) h.2,
        )

-- the same of the remainder at that place
module _ (basis : List Member) (gs : List Remainder) (r : ℕ) (b : Member)
    (chosen : Some (r, b) ≡ member_reducible basis 0 gs) where
  pub place_within : r < length gs
  place_within = let h = (reducible_says basis gs 0 r b (sym chosen)).1 in omega arith

  pub at_place : (g : Remainder) → g ≡ slice_index_or gs r g → g ≡ remainder_at gs r
  at_place g e = e ∙ get_or_default gs r g (record { rest = []; steps = [] }) place_within

  pub reduces_there : (g : Remainder) → g ≡ slice_index_or gs r g → reduces b.poly g.rest ≡ true
  reduces_there g e =
      let same : r - 0 ≡ r = omega arith in
      subst (λ (x : Remainder). reduces b.poly x.rest ≡ true) (sym (at_place g e))
      (subst (λ k. reduces b.poly (remainder_at gs k).rest ≡ true) same (reducible_says basis gs 0 r b (sym chosen)).2)
