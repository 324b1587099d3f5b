-- Whole numbers as a ring.
use Rattle.std.specs.Prelude.{◌≡◌, ◌≢◌, ℤ, pos, ◌+ℤ◌, ◌*ℤ◌, true, false, not, T}
use Rattle.std.proofs.Common.{refl, sym, ap, ◌∙◌}
use lib.IntN.{neg_ℤ, +ℤ_assoc, +ℤ_comm, +ℤ_idr, +ℤ_invr, ℤ_discrete, zero-*ℤ}
use Rattle.alg_mono.specs.Numbers.{is_zero}
use Rattle.alg_mono.proofs.Domain.{product_some}
use Rattle.alg_mono.proofs.Integers.{neg_ℤ-*ℤ, +ℤ-*ℤ}
use Rattle.alg_mono.proofs.Numbers.{*ℤ_comm, *ℤ_assoc, *ℤ_dist, is_zero_only}

pub mul_left : (a b c : ℤ) → a *ℤ (b *ℤ c) ≡ b *ℤ (a *ℤ c)
mul_left a b c = sym (*ℤ_assoc a b c) ∙ ap (λ x. x *ℤ c) (*ℤ_comm a b) ∙ *ℤ_assoc b a c

pub add_left : (a b c : ℤ) → a +ℤ (b +ℤ c) ≡ b +ℤ (a +ℤ c)
add_left a b c = sym (+ℤ_assoc a b c) ∙ ap (λ x. x +ℤ c) (+ℤ_comm a b) ∙ +ℤ_assoc b a c

pub ruleset ring = (*ℤ_dist, +ℤ-*ℤ, *ℤ_assoc, *ℤ_comm, mul_left, +ℤ_assoc, +ℤ_comm, add_left)

not_zero : (a : ℤ) → a ≢ pos 0 → T (not (is_zero a))
not_zero a h = elim (is_zero a) as (λ b. is_zero a ≡ b → T (not b)) [
  | true ↦ λ e. absurd (h (is_zero_only a e))
  | false ↦ λ e. tt
] refl

pub product_apart : (a b : ℤ) → a ≢ pos 0 → b ≢ pos 0 → a *ℤ b ≢ pos 0
product_apart a b h k = product_some a b (not_zero a h) (not_zero b k)

pub one_apart : pos 1 ≢ pos 0
one_apart e = cc

pub zero_or : (a b : ℤ) → a *ℤ b ≡ pos 0 → b ≢ pos 0 → a ≡ pos 0
zero_or a b e h = elim (ℤ_discrete a (pos 0)) [ yes p ↦ p | no n ↦ absurd (product_apart a b n h e) ]

-- a cancelled pair, with the opposite on the other side
pub moved : (f b a x y u : ℤ) → f *ℤ ((b *ℤ x) +ℤ (neg_ℤ a *ℤ y)) ≡ u → f *ℤ (b *ℤ x) ≡ u +ℤ (f *ℤ (a *ℤ y))
moved f b a x y u e =
    sym (+ℤ_idr (f *ℤ (b *ℤ x))) ∙ ap (λ z. (f *ℤ (b *ℤ x)) +ℤ z) (sym (gone f a y))
    ∙ sym (+ℤ_assoc (f *ℤ (b *ℤ x)) (f *ℤ (neg_ℤ a *ℤ y)) (f *ℤ (a *ℤ y)))
    ∙ ap (λ z. z +ℤ (f *ℤ (a *ℤ y))) (sym (*ℤ_dist f (b *ℤ x) (neg_ℤ a *ℤ y)) ∙ e)
  where
    gone : (f a y : ℤ) → (f *ℤ (neg_ℤ a *ℤ y)) +ℤ (f *ℤ (a *ℤ y)) ≡ pos 0
    gone f a y = sym (*ℤ_dist f (neg_ℤ a *ℤ y) (a *ℤ y)) ∙ ap (λ z. f *ℤ z) (ap (λ z. z +ℤ (a *ℤ y)) (neg_ℤ-*ℤ a y)
        ∙ +ℤ_comm (neg_ℤ (a *ℤ y)) (a *ℤ y) ∙ +ℤ_invr (a *ℤ y)) ∙ *ℤ_comm f (pos 0) ∙ zero-*ℤ f

-- the two turns of the pivot lemma
pub turn_under : (e c s x y r u : ℤ) → e *ℤ r ≡ (s *ℤ y) +ℤ u →
    e *ℤ ((c *ℤ x) +ℤ r) ≡ (s *ℤ y) +ℤ (((e *ℤ c) *ℤ x) +ℤ u)
turn_under e c s x y r u h = *ℤ_dist e (c *ℤ x) r ∙ (λ i. sym (*ℤ_assoc e c x) i +ℤ h i)
    ∙ add_left ((e *ℤ c) *ℤ x) (s *ℤ y) u

pub turn_equal : (e f b a c s x y r u v : ℤ) → f *ℤ (b *ℤ x) ≡ u +ℤ (f *ℤ (a *ℤ y)) → e *ℤ r ≡ (s *ℤ y) +ℤ v →
    ((e *ℤ f) *ℤ b) *ℤ ((c *ℤ x) +ℤ r) ≡ ((((e *ℤ c) *ℤ f) *ℤ a) +ℤ ((f *ℤ b) *ℤ s)) *ℤ y
    +ℤ (((e *ℤ c) *ℤ u) +ℤ ((f *ℤ b) *ℤ v))
turn_equal e f b a c s x y r u v h k =
    split e f b c x r ∙ (λ i. ((e *ℤ c) *ℤ h i) +ℤ ((f *ℤ b) *ℤ k i)) ∙ join e f b a c s y u v
  where
    split : (e f b c x r : ℤ) → ((e *ℤ f) *ℤ b) *ℤ ((c *ℤ x) +ℤ r) ≡ ((e *ℤ c) *ℤ (f *ℤ (b *ℤ x)))
        +ℤ ((f *ℤ b) *ℤ (e *ℤ r))
    split e f b c x r = simp ring

    join : (e f b a c s y u v : ℤ) → ((e *ℤ c) *ℤ (u +ℤ (f *ℤ (a *ℤ y)))) +ℤ ((f *ℤ b) *ℤ ((s *ℤ y) +ℤ v)) ≡
        ((((e *ℤ c) *ℤ f) *ℤ a) +ℤ ((f *ℤ b) *ℤ s)) *ℤ y +ℤ (((e *ℤ c) *ℤ u) +ℤ ((f *ℤ b) *ℤ v))
    join e f b a c s y u v = simp ring
