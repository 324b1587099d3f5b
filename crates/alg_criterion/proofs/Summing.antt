-- Sums of products appended, and times a number.
use Rattle.std.specs.Prelude.{◌≡◌, List, [], ◌∷◌, ◌++◌, ℤ, pos, ◌+ℤ◌, ◌*ℤ◌}
use Rattle.std.proofs.Common.{sym, ap, ◌∙◌}
use lib.IntN.{+ℤ_assoc, +ℤ_idl, zero-*ℤ}
use Rattle.std.specs.declared.cmp.Ordering.{Ordering}
use Rattle.alg_mono.specs.FiniteMaps.{amount, row}
use Rattle.alg_mono.specs.Numbers.{integers}
use Rattle.alg_mono.proofs.Numbers.{*ℤ_comm, *ℤ_dist}
use Rattle.alg_criterion.proofs.Spans.{Every, whole, Summand, summed}
use Rattle.alg_criterion.proofs.Rows.{at-append, at-row}

pub every-append : {A : Type 0} (P : A → Type 0) (xs ys : List A) → Every P xs → Every P ys → Every P (xs ++ ys)
every-append P [] ys h k = k
every-append P (x ∷ xs) ys h k = (h.0, every-append P xs ys h.1 k)

module _ {M : Type 0} where
  -- each factor times c
  abbrev pub scaled : ℤ → List (Summand M) → List (Summand M)
  scaled c [] = []
  scaled c (t ∷ ts) = record t { factor = c *ℤ t.factor } ∷ scaled c ts

module _ {M : Type 0} (cmp : M → M → Ordering) (times : M → M → M) where
  pub at-summed-append : (q : M) (ts us : List (Summand M)) →
      amount cmp integers.amounts q (summed times (ts ++ us)) ≡ amount cmp integers.amounts q (summed times ts)
      +ℤ amount cmp integers.amounts q (summed times us)
  at-summed-append q [] us = sym (+ℤ_idl (amount cmp integers.amounts q (summed times us)))
  at-summed-append q (t ∷ ts) us =
      let r = row times ◌*ℤ◌ t.by t.factor (whole t.line) in
      at-append cmp q r (summed times (ts ++ us)) ∙ ap (λ x. amount cmp integers.amounts q r +ℤ x)
      (at-summed-append q ts us)
      ∙ sym (+ℤ_assoc (amount cmp integers.amounts q r) (amount cmp integers.amounts q (summed times ts))
      (amount cmp integers.amounts q (summed times us)))
      ∙ ap (λ x. x +ℤ amount cmp integers.amounts q (summed times us)) (sym (at-append cmp q r (summed times ts)))

  pub at-scaled : (q : M) (c : ℤ) (ts : List (Summand M)) →
      amount cmp integers.amounts q (summed times (scaled c ts)) ≡
      c *ℤ amount cmp integers.amounts q (summed times ts)
  at-scaled q c [] = sym (*ℤ_comm c (pos 0) ∙ zero-*ℤ c)
  at-scaled q c (t ∷ ts) =
      let r = λ (d : ℤ). row times ◌*ℤ◌ t.by d (whole t.line) in
      at-append cmp q (r (c *ℤ t.factor)) (summed times (scaled c ts))
      ∙ (λ i. at-row cmp times q t.by c t.factor (whole t.line) i +ℤ at-scaled q c ts i)
      ∙ sym (*ℤ_dist c (amount cmp integers.amounts q (r t.factor)) (amount cmp integers.amounts q (summed times ts)))
      ∙ ap (λ x. c *ℤ x) (sym (at-append cmp q (r t.factor) (summed times ts)))
