-- What holds of lines, pairs, members of the basis and steps where one is added.
use Rattle.std.specs.Prelude.{◌≡◌, ◌≢◌, ℕ, true, false, cond, List, [], ◌∷◌, ◌++◌, length, min, max, All, ◌+◌, slice_set, zero, suc, ◌≤◌}
use Rattle.std.proofs.Common.{refl, sym, subst, arith, inl, inr}
use Rattle.std.specs.declared.cmp.Ordering.TheVariants.{Less, Equal, Greater}
use Rattle.std.specs.Ordering.{match_ordering, nat_cmp}
use Rattle.std.specs.FinMap.{nat_cmp-IsAntisymmetric}
use Rattle.std.specs.BTreeSet.{insert_key}
use Rattle.std.proofs.lemmas.Bool.{cases_lt}
use Rattle.std.proofs.lemmas.Map.Views.{All-insert_key}
use Rattle.std.proofs.lemmas.List.{get_or_append_left, length-append}
use Rattle.std.proofs.lemmas.List.Elements.{All-nil, All-cons, All-head, All-tail, All-weaker}
use Rattle.alg_mono.specs.Mono.{Monomial}
use Rattle.alg_mono.specs.NumberedPolynomials.{Polynomial}
use Rattle.alg_lines.specs.Lines.{line_at}
use Rattle.alg_pairs.specs.Order.{pair_cmp}
use Rattle.alg_pairs.specs.declared.pair.Pair.{Pair}
use Rattle.alg_groebner.specs.Leads.{lead, coprime}
use Rattle.alg_groebner.specs.Choices.{pair_of, with_pair, with_pairs, remainder_at}
use Rattle.alg_groebner.specs.Moves.{stepped}
use Rattle.alg_groebner.specs.Sound.{IsThere, HasBoth, IsIn, step_count}
use Rattle.alg_groebner.specs.declared.cancel.Cancelled.{Cancelled}
use Rattle.alg_groebner.specs.declared.remainder.Remainder.{Remainder}
use Rattle.alg_groebner.proofs.Scans.{there_number}

-- ---- lines that are added
pub there_longer : (lines : List Polynomial) (p : Polynomial) (k : ℕ) → IsThere lines k → IsThere (lines ++ p ∷ []) k
there_longer lines p k h =
    let inside = (there_number lines k h).1 in
    subst (λ (q : Polynomial). q ≢ []) (sym (get_or_append_left ([] ∷ lines) (p ∷ []) [] k (omega arith))) h

pub both_longer : (lines : List Polynomial) (p : Polynomial) (x : Pair) → HasBoth lines x → HasBoth (lines ++ p ∷ []) x
both_longer lines p x h = (there_longer lines p x.i h.0, there_longer lines p x.j h.1)

-- ---- pairs that are added
pub of_both : (P : ℕ → Type 0) (a b : ℕ) → P a → P b → P (min a b) × P (max a b)
of_both P a b p q = elim (cases_lt a b) [
  | inl h ↦ (subst P (let e : a ≡ min a b = omega arith in e) p, subst P (let e : b ≡ max a b = omega arith in e) q)
  | inr h ↦ (subst P (let e : b ≡ min a b = omega arith in e) q, subst P (let e : a ≡ max a b = omega arith in e) p)
]

-- what holds of both lines of each pair still does where it holds of the lines of the new ones
abbrev pub Both : (ℕ → Type 0) → Pair → Type 0
Both P x = P x.i × P x.j

pub pair_with : (P : ℕ → Type 0) (lines : List Polynomial) (i k : ℕ) (xs : List Pair) → P i → P k → All (Both P) xs →
    All (Both P) (with_pair lines i k xs)
unfolding with_pair pair_of
pair_with P lines i k xs a b h =
    elim (coprime (lead (line_at lines i)) (lead (line_at lines k))) as
    (λ t. All (Both P) (cond t xs (insert_key pair_cmp xs (pair_of lines i k)))) [
      | true ↦ h
      | false ↦ All-insert_key pair_cmp (pair_of lines i k) (Both P) xs h (of_both P i k a b)
    ]

pub pairs_with : (P : ℕ → Type 0) (lines : List Polynomial) (k : ℕ) (is : List ℕ) (xs : List Pair) → P k → All P is →
    All (Both P) xs → All (Both P) (with_pairs lines k is xs)
pairs_with P lines k [] xs a b h = h
pairs_with P lines k (i ∷ is) xs a b h =
    pairs_with P lines k is (with_pair lines i k xs) a (All-tail P i is b)
    (pair_with P lines i k xs (All-head P i is b) a h)

-- ---- members of the basis
pub all_in : (ks : List ℕ) → All (IsIn ks) ks
all_in [] = All-nil (IsIn [])
all_in (k ∷ ks) =
    All-cons (IsIn (k ∷ ks)) k ks (inl refl) (All-weaker (IsIn ks) (IsIn (k ∷ ks)) (λ i h. inr h) ks (all_in ks))

pub in_more : (ks : List ℕ) (k i : ℕ) → IsIn ks i → IsIn (insert_key nat_cmp ks k) i
in_more [] k i h = absurd h
in_more (j ∷ ks) k i h =
    elim (nat_cmp k j) as (λ o. IsIn (match_ordering o (k ∷ j ∷ ks) (j ∷ ks) (j ∷ insert_key nat_cmp ks k)) i) [
      | Less ↦ inr h
      | Equal ↦ h
      | Greater ↦ elim h [ inl e ↦ inl e | inr t ↦ inr (in_more ks k i t) ]
    ]

pub in_new : (ks : List ℕ) (k : ℕ) → IsIn (insert_key nat_cmp ks k) k
in_new [] k = inl refl
in_new (j ∷ ks) k =
    elim (nat_cmp k j) as (λ o. nat_cmp k j ≡ o →
    IsIn (match_ordering o (k ∷ j ∷ ks) (j ∷ ks) (j ∷ insert_key nat_cmp ks k)) k) [
      | Less ↦ λ e. inl refl
      | Equal ↦ λ e. inl (sym (nat_cmp-IsAntisymmetric k j e))
      | Greater ↦ λ e. inr (in_new ks k)
    ] refl

-- ---- steps that are added
pub one_more : (g : Remainder) (n : Monomial) (j : ℕ) (c : Cancelled) → length ((stepped g n j c).steps) ≡ length
    g.steps + 1
unfolding stepped
one_more g n j c = length-append g.steps ((record { a = c.a; b = c.b; n = n; j = j; d = c.d }) ∷ [])

pub one_step : (gs : List Remainder) (r : ℕ) (n : Monomial) (j : ℕ) (c : Cancelled) →
    step_count (slice_set gs r (stepped (remainder_at gs r) n j c)) ≤ step_count gs + 1
one_step [] r n j c = omega arith
one_step (g ∷ gs) zero n j c = front (length ((stepped g n j c).steps)) (length g.steps) (step_count gs)
    (one_more g n j c)
  where
    front : (a b k : ℕ) → a ≡ b + 1 → a + k ≤ b + k + 1
    front a b k e = omega arith
one_step (g ∷ gs) (suc r) n j c =
    further (length g.steps) (step_count (slice_set gs r (stepped (remainder_at gs r) n j c))) (step_count gs)
    (one_step gs r n j c)
  where
    further : (c a b : ℕ) → a ≤ b + 1 → c + a ≤ c + b + 1
    further c a b h = omega arith
