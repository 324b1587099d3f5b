-- What stands at a monomial of a row, and of a sum of rows.
use Rattle.std.specs.Prelude.{◌≡◌, Bool, true, false, cond, List, [], ◌∷◌, ◌++◌, ℤ, pos, ◌+ℤ◌, ◌*ℤ◌}
use Rattle.std.proofs.Common.{refl, sym, ap, ◌∙◌, T}
use lib.IntN.{+ℤ_assoc, +ℤ_idl, +ℤ_idr, zero-*ℤ}
use Rattle.std.specs.declared.cmp.Ordering.{Ordering}
use Rattle.std.specs.declared.cmp.Ordering.TheVariants.{Less}
use Rattle.std.specs.Ordering.{is_eq, eq_by_cmp}
use Rattle.std.specs.Cmp.{IsTotalOrder, tied_itself}
use Rattle.std.specs.FinMap.Entries.{below_all}
use Rattle.alg_mono.specs.FiniteMaps.{amount, row, Each}
use Rattle.alg_mono.specs.Numbers.{integers}
use Rattle.alg_mono.proofs.Canonical.{first, second, less}
use Rattle.alg_mono.proofs.Numbers.{*ℤ_comm, *ℤ_assoc, *ℤ_dist, one-*ℤ}
use Rattle.alg_criterion.proofs.Spans.{Every, Led, whole, Summand, summed, top, IsLine, IsGood}

module _ {M : Type 0} (cmp : M → M → Ordering) where
  pub at-append : (q : M) (p r : List (M × ℤ)) → amount cmp integers.amounts q (p ++ r) ≡
      amount cmp integers.amounts q p +ℤ amount cmp integers.amounts q r
  at-append q [] r = sym (+ℤ_idl (amount cmp integers.amounts q r))
  at-append q (e ∷ p) r = ap (λ x. cond (eq_by_cmp cmp q e.0) e.1 (pos 0) +ℤ x) (at-append q p r)
      ∙ sym (+ℤ_assoc (cond (eq_by_cmp cmp q e.0) e.1 (pos 0)) (amount cmp integers.amounts q p)
      (amount cmp integers.amounts q r))

  pub at_times : (b : Bool) (c d : ℤ) → cond b (c *ℤ d) (pos 0) ≡ c *ℤ cond b d (pos 0)
  at_times true c d = refl
  at_times false c d = sym (*ℤ_comm c (pos 0) ∙ zero-*ℤ c)

  -- a number comes out of a row
  pub at-row : (times : M → M → M) (q m : M) (c d : ℤ) (p : List (M × ℤ)) →
      amount cmp integers.amounts q (row times ◌*ℤ◌ m (c *ℤ d) p) ≡
      c *ℤ amount cmp integers.amounts q (row times ◌*ℤ◌ m d p)
  at-row times q m c d [] = sym (*ℤ_comm c (pos 0) ∙ zero-*ℤ c)
  at-row times q m c d (e ∷ p) =
      (λ i. (ap (λ x. cond (eq_by_cmp cmp q (times m e.0)) x (pos 0)) (*ℤ_assoc c d e.1)
      ∙ at_times (eq_by_cmp cmp q (times m e.0)) c (d *ℤ e.1)) i +ℤ at-row times q m c d p i)
      ∙ sym (*ℤ_dist c (cond (eq_by_cmp cmp q (times m e.0)) (d *ℤ e.1) (pos 0))
      (amount cmp integers.amounts q (row times ◌*ℤ◌ m d p)))

  pub at-row_one : (times : M → M → M) (q m : M) (c : ℤ) (p : List (M × ℤ)) →
      amount cmp integers.amounts q (row times ◌*ℤ◌ m c p) ≡ c *ℤ amount cmp integers.amounts q
      (row times ◌*ℤ◌ m (pos 1) p)
  at-row_one times q m c p = ap (λ x. amount cmp integers.amounts q (row times ◌*ℤ◌ m x p))
      (sym (*ℤ_comm c (pos 1) ∙ one-*ℤ c)) ∙ at-row times q m c (pos 1) p

module _ {M : Type 0} {cmp : M → M → Ordering} (o : IsTotalOrder cmp) (times : M → M → M) (times_comm : (m n : M) →
    times m n ≡ times n m) (Ok : M → Type 0) (keeps : (m n k : M) → Ok m → Ok n → cmp m n ≡ Less →
    cmp (times m k) (times n k) ≡ Less) where
  missed : (q m : M) (c : ℤ) (p : List (M × ℤ)) (r : ℤ) → cmp q m ≡ Less → cond (eq_by_cmp cmp q m) c (pos 0) +ℤ r ≡ r
  missed q m c p r l = ap (λ x. cond (is_eq x) c (pos 0) +ℤ r) l ∙ +ℤ_idl r

  -- nothing stands above the lead, for entries all under n
  row_after : (q m n : M) (c : ℤ) (p : List (M × ℤ)) → Ok n → Each Ok p → T (below_all cmp n p) →
      (cmp q (times m n) ≡ Less) → amount cmp integers.amounts q (row times ◌*ℤ◌ m c p) ≡ pos 0
  row_after q m n c [] hn h b l = refl
  row_after q m n c (e ∷ p) hn h b l =
      missed q (times m e.0) (c *ℤ e.1) p (amount cmp integers.amounts q (row times ◌*ℤ◌ m c p))
      (o.trans q (times m n) (times m e.0) l ((λ i. cmp (times_comm m n i) (times_comm m e.0 i))
      ∙ keeps n e.0 m hn h.0 (less _ (first _ _ b))))
      ∙ row_after q m n c p hn h.1 (second _ _ b) l

  rest_after : (m n : M) (c : ℤ) (p : List (M × ℤ)) → Ok n → Each Ok p → T (below_all cmp n p) →
      amount cmp integers.amounts (times m n) (row times ◌*ℤ◌ m c p) ≡ pos 0
  rest_after m n c [] hn h b = refl
  rest_after m n c (e ∷ p) hn h b =
      missed (times m n) (times m e.0) (c *ℤ e.1) p (amount cmp integers.amounts (times m n) (row times ◌*ℤ◌ m c p))
      ((λ i. cmp (times_comm m n i) (times_comm m e.0 i)) ∙ keeps n e.0 m hn h.0 (less _ (first _ _ b)))
      ∙ rest_after m n c p hn h.1 (second _ _ b)

  -- above the lead of a row of a line nothing stands, and at it the product
  pub above_top : (q m : M) (c : ℤ) (l : Led M) → IsLine cmp times Ok l → cmp q (times m l.lead) ≡ Less →
      amount cmp integers.amounts q (row times ◌*ℤ◌ m c (whole l)) ≡ pos 0
  above_top q m c l i h = missed q (times m l.lead) (c *ℤ l.leading) l.rest
      (amount cmp integers.amounts q (row times ◌*ℤ◌ m c l.rest)) h
      ∙ row_after q m l.lead c l.rest (i.ok.0) (i.ok.1) (first _ _ i.canonical.rises) h

  pub at_top : (m : M) (c : ℤ) (l : Led M) → IsLine cmp times Ok l →
      amount cmp integers.amounts (times m l.lead) (row times ◌*ℤ◌ m c (whole l)) ≡ c *ℤ l.leading
  at_top m c l i =
      ap (λ x. cond (is_eq x) (c *ℤ l.leading) (pos 0) +ℤ amount cmp integers.amounts (times m l.lead)
      (row times ◌*ℤ◌ m c l.rest)) (tied_itself o (times m l.lead))
      ∙ ap (λ x. (c *ℤ l.leading) +ℤ x) (rest_after m l.lead c l.rest (i.ok.0) (i.ok.1)
      (first _ _ i.canonical.rises)) ∙ +ℤ_idr (c *ℤ l.leading)

  -- above all leads of a sum nothing stands
  pub above_all : (In : Led M → Type 0) → ((l : Led M) → In l → IsLine cmp times Ok l) →
      (Low : M → Type 0) (q : M) → ((v : M) → Low v → cmp q v ≡ Less) → (ts : List (Summand M)) →
      Every (IsGood cmp times Ok In Low) ts → amount cmp integers.amounts q (summed times ts) ≡ pos 0
  above_all In line Low q h [] g = refl
  above_all In line Low q h (t ∷ ts) g =
      at-append cmp q (row times ◌*ℤ◌ t.by t.factor (whole t.line)) (summed times ts)
      ∙ (λ i. above_top q t.by t.factor t.line (line t.line g.0.member) (h (top times t) g.0.low) i
      +ℤ above_all In line Low q h ts g.1 i)
