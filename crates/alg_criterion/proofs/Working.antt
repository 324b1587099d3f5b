-- The arithmetic of one reduction.
use Rattle.std.specs.Prelude.{◌≡◌, ℤ, ◌+ℤ◌, ◌*ℤ◌}
use Rattle.std.proofs.Common.{sym, ap, ◌∙◌, arith}
use Rattle.std.proofs.lemmas.Int.{ints}
use lib.IntN.{neg_ℤ}
use Rattle.alg_mono.proofs.Integers.{neg_ℤ-*ℤ}
use Rattle.alg_mono.proofs.Numbers.{*ℤ_assoc}
use Rattle.alg_criterion.proofs.Whole.{ring}

pub worked : (a k s d b p c c1 r t : ℤ) → k *ℤ p ≡ (s *ℤ c) +ℤ t → d *ℤ c1 ≡ (a *ℤ c) +ℤ (neg_ℤ b *ℤ r) →
    (a *ℤ k) *ℤ p ≡ ((s *ℤ d) *ℤ c1) +ℤ (((s *ℤ b) *ℤ r) +ℤ (a *ℤ t))
worked a k s d b p c c1 r t h e =
    *ℤ_assoc a k p ∙ ap (λ z. a *ℤ z) h ∙ split a s c t ∙ ap (λ z. (s *ℤ z) +ℤ (a *ℤ t)) (back a c b r
    ∙ ap (λ z. z +ℤ (b *ℤ r)) (sym e)) ∙ join s d c1 b r a t
  where
    split : (a s c t : ℤ) → a *ℤ ((s *ℤ c) +ℤ t) ≡ (s *ℤ (a *ℤ c)) +ℤ (a *ℤ t)
    split a s c t = simp ring

    back : (a c b r : ℤ) → a *ℤ c ≡ ((a *ℤ c) +ℤ (neg_ℤ b *ℤ r)) +ℤ (b *ℤ r)
    back a c b r = cancel (a *ℤ c) (b *ℤ r) ∙ ap (λ z. ((a *ℤ c) +ℤ z) +ℤ (b *ℤ r)) (sym (neg_ℤ-*ℤ b r))
      where
        cancel : (x y : ℤ) → x ≡ (x +ℤ neg_ℤ y) +ℤ y
        cancel x y = omega (arith, ints)

    join : (s d c1 b r a t : ℤ) → (s *ℤ ((d *ℤ c1) +ℤ (b *ℤ r))) +ℤ (a *ℤ t) ≡ ((s *ℤ d) *ℤ c1)
        +ℤ (((s *ℤ b) *ℤ r) +ℤ (a *ℤ t))
    join s d c1 b r a t = simp ring
