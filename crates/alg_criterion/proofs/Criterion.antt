-- Buchberger's criterion (law 3): where the crossed differences of basis lines are below, leads of combinations
-- are divisible.
use Rattle.std.specs.Prelude.{◌≡◌, ◌≢◌, cond, not, List, [], ◌∷◌, ℤ, pos, ◌+ℤ◌, ◌*ℤ◌}
use Rattle.std.proofs.Common.{refl, sym, ap, subst, ◌∙◌, T}
use lib.IntN.{+ℤ_idl, +ℤ_idr, zero-*ℤ, ℤ_discrete}
use Rattle.std.specs.declared.cmp.Ordering.{Ordering}
use Rattle.std.specs.declared.cmp.Ordering.TheVariants.{Less, Equal, Greater}
use Rattle.std.specs.Ordering.{is_lt, is_eq, ordering_reverse}
use Rattle.std.specs.Cmp.{IsTotalOrder, tied_itself}
use Rattle.std.specs.FinMap.{IsAntisymmetric}
use Rattle.std.specs.FinMap.Entries.{below_all}
use Rattle.alg_mono.specs.FiniteMaps.{amount, row, all_some}
use Rattle.alg_mono.specs.Numbers.{integers, is_zero}
use Rattle.alg_mono.proofs.Canonical.{first, second, less, both}
use Rattle.alg_mono.proofs.Numbers.{*ℤ_comm, *ℤ_assoc, one-*ℤ}
use Rattle.alg_criterion.proofs.Spans.{Every, Led, whole, Summand, summed, top, Under, UpTo, IsLine, IsGood, Spans, ArePairsBelow, IsReducible}
use Rattle.alg_criterion.proofs.Whole.{product_apart}
use Rattle.alg_criterion.proofs.Rows.{above_top, at_top, above_all}
use Rattle.alg_criterion.proofs.Pivots.{pivot, leading_apart}
use Rattle.alg_criterion.proofs.Greatest.{greatest}

module _ {M : Type 0} {cmp : M → M → Ordering} (o : IsTotalOrder cmp) (anti : IsAntisymmetric cmp) (times : M → M →
    M) (times_comm : (m n : M) → times m n ≡ times n m)
    (Ok : M → Type 0) (keeps : (m n k : M) → Ok m → Ok n → cmp m n ≡ Less → cmp (times m k) (times n k) ≡ Less)
    (ok_times : (m n : M) → Ok m → Ok n → Ok (times m n))
    (falls : (P : M → Type 0) → ((w : M) → Ok w → ((v : M) → Ok v → cmp w v ≡ Less → P v) → P w) → (w : M) → Ok w → P w)
    (In : Led M → Type 0) (line : (l : Led M) → In l → IsLine cmp times Ok l)
    (pairs_below : ArePairsBelow cmp times Ok In) where
  abbrev Good : (M → Type 0) → Summand M → Type 0
  Good Low t = IsGood cmp times Ok In Low t

  abbrev val : M → List (M × ℤ) → ℤ
  val q p = amount cmp integers.amounts q p

  module _ (p : Led M) (is_line : IsLine cmp times Ok p) where
    abbrev Goal : Type 0
    Goal = IsReducible cmp times Ok In p

    p_apart : p.leading ≢ pos 0
    p_apart e = subst (λ (z : ℤ). T (not (is_zero z))) e (first (not (is_zero p.leading))
        (all_some cmp integers.amounts p.rest) is_line.canonical.no_none)

    amount-below : (q : M) (es : List (M × ℤ)) → T (below_all cmp q es) → amount cmp integers.amounts q es ≡ pos 0
    amount-below q [] h = refl
    amount-below q (e ∷ es) h = ap (λ r. cond (is_eq r) e.1 (pos 0) +ℤ amount cmp integers.amounts q es)
        (less _ (first _ _ h)) ∙ +ℤ_idl (amount cmp integers.amounts q es) ∙ amount-below q es (second _ _ h)

    at_lead : val p.lead (whole p) ≡ p.leading
    at_lead = ap (λ x. cond (is_eq x) p.leading (pos 0) +ℤ val p.lead p.rest) (tied_itself o p.lead)
        ∙ ap (λ x. p.leading +ℤ x) (amount-below p.lead p.rest (first _ _ is_line.canonical.rises)) ∙ +ℤ_idr p.leading

    before_lead : (q : M) → cmp q p.lead ≡ Less → val q (whole p) ≡ pos 0
    before_lead q l = amount-below q (whole p) (both _ _ (subst (λ r. T (is_lt r)) (sym l) tt)
        (below q p.rest l (first _ _ is_line.canonical.rises)))
      where
        below : (x : M) (es : List (M × ℤ)) → cmp x p.lead ≡ Less → T (below_all cmp p.lead es) → T (below_all cmp x es)
        below x [] h g = tt
        below x (e ∷ es) h g = both _ _ (subst (λ r. T (is_lt r))
            (sym (o.trans x p.lead e.0 h (less _ (first _ _ g)))) tt) (below x es h (second _ _ g))

    abbrev Claim : M → Type 0
    Claim w = (m₀ : M) (l₀ : Led M) → Ok m₀ → In l₀ → times m₀ l₀.lead ≡ w →
        Spans cmp times Ok In (UpTo cmp w) (whole p) → Goal

    -- no products at all: p would be zero
    none_at_all : (k : ℤ) → k ≢ pos 0 → ((q : M) → k *ℤ val q (whole p) ≡ pos 0) → ⊥
    none_at_all k h e = product_apart k p.leading h p_apart (ap (λ x. k *ℤ x) (sym at_lead) ∙ e p.lead)

    step : (w : M) → Ok w → ((v : M) → Ok v → cmp w v ≡ Less → Claim v) → Claim w
    step w ok_w ih m₀ l₀ ok₀ in₀ at_w s =
        let r = pivot cmp times Ok In line pairs_below w m₀ l₀ ok₀ in₀ at_w s.terms s.good in
        let k = r.multiple *ℤ s.multiple in
        let k_some = product_apart r.multiple s.multiple r.some s.some in
        let y = λ (q : M). val q (row times ◌*ℤ◌ m₀ (pos 1) (whole l₀)) in
        let main : (q : M) → k *ℤ val q (whole p) ≡ (r.share *ℤ y q) +ℤ val q (summed times r.below) =
        λ q. *ℤ_assoc r.multiple s.multiple (val q (whole p)) ∙ ap (λ z. r.multiple *ℤ z) (s.same q) ∙ r.same q in
        elim (ℤ_discrete r.share (pos 0)) [
          | yes e ↦ finish_below k k_some r.below r.good (λ q. main q
              ∙ ap (λ z. (z *ℤ y q) +ℤ val q (summed times r.below)) e
              ∙ ap (λ z. z +ℤ val q (summed times r.below)) (zero-*ℤ (y q)) ∙ +ℤ_idl (val q (summed times r.below)))
          | no n ↦ finish_at k r.share r.below r.good n main
        ]
      where
        finish_below : (k : ℤ) → k ≢ pos 0 → (ts : List (Summand M)) → Every (Good (Under cmp times Ok w)) ts →
            ((q : M) → k *ℤ val q (whole p) ≡ val q (summed times ts)) → Goal
        finish_below k h [] g e = absurd (none_at_all k h e)
        finish_below k h (t ∷ ts) g e =
            let x = greatest o anti times Ok In (Under cmp times Ok w) t ts g.0 g.1 in
            ih (top times x.summand) (ok_times x.summand.by x.summand.line.lead x.good.ok
            ((line x.summand.line x.good.member).ok.0)) x.good.low
            x.summand.by x.summand.line x.good.ok x.good.member refl
            (record { multiple = k; some = h; terms = t ∷ ts; good = x.all; same = e })

        finish_at : (k share : ℤ) (ts : List (Summand M)) → Every (Good (Under cmp times Ok w)) ts → share ≢ pos 0 →
            ((q : M) → k *ℤ val q (whole p) ≡ (share *ℤ val q (row times ◌*ℤ◌ m₀ (pos 1) (whole l₀)))
            +ℤ val q (summed times ts)) → Goal
        finish_at k share ts g n main = record {
          line = l₀;
          member = in₀;
          quotient = m₀;
          ok = ok₀;
          divides = at_w
              ∙ is_lead;
        }
          where
            -- what stands at w is not zero
            there : k *ℤ val w (whole p) ≡ share *ℤ l₀.leading
            there = main w
                ∙ (λ i. (share *ℤ (subst (λ v. val v (row times ◌*ℤ◌ m₀ (pos 1) (whole l₀)) ≡ pos 1 *ℤ l₀.leading)
                at_w (at_top o times times_comm Ok keeps m₀ (pos 1) l₀ (line l₀ in₀)) ∙ one-*ℤ l₀.leading) i)
                +ℤ above_all o times times_comm Ok keeps In line (Under cmp times Ok w) w (λ v u. u) ts g i)
                ∙ +ℤ_idr (share *ℤ l₀.leading)

            some_there : val w (whole p) ≢ pos 0
            some_there e = product_apart share l₀.leading n (leading_apart cmp times Ok In line l₀ in₀)
                (sym there ∙ ap (λ z. k *ℤ z) e ∙ *ℤ_comm k (pos 0) ∙ zero-*ℤ k)

            -- and nothing above it
            above : (q : M) → cmp q w ≡ Less → k *ℤ val q (whole p) ≡ pos 0
            above q l = main q
                ∙ (λ i. (share *ℤ above_top o times times_comm Ok keeps q m₀ (pos 1) l₀ (line l₀ in₀)
                (subst (λ v. cmp q v ≡ Less) (sym at_w) l) i)
                +ℤ above_all o times times_comm Ok keeps In line (Under cmp times Ok w) q (λ v u. o.trans q w v l u)
                ts g i)
                ∙ +ℤ_idr (share *ℤ pos 0) ∙ *ℤ_comm share (pos 0) ∙ zero-*ℤ share

            k_some : k ≢ pos 0
            k_some e = product_apart share l₀.leading n (leading_apart cmp times Ok In line l₀ in₀) (sym there
                ∙ ap (λ z. z *ℤ val w (whole p)) e ∙ zero-*ℤ (val w (whole p)))

            is_lead : w ≡ p.lead
            is_lead = elim (cmp w p.lead) as (λ x. cmp w p.lead ≡ x → w ≡ p.lead) [
              | Less ↦ λ l. absurd (some_there (before_lead w l))
              | Equal ↦ λ l. anti w p.lead l
              | Greater ↦ λ l. absurd (product_apart k p.leading k_some p_apart (ap (λ x. k *ℤ x) (sym at_lead)
                  ∙ above p.lead (o.antisymm p.lead w ∙ ap ordering_reverse l)))
            ] refl

    pub leads_divide_lem : Spans cmp times Ok In (λ v. Unit {0}) (whole p) → Goal
    leads_divide_lem s = go s.multiple s.some s.terms s.good s.same
      where
        go : (k : ℤ) → k ≢ pos 0 → (ts : List (Summand M)) → Every (Good (λ v. Unit {0})) ts →
            ((q : M) → k *ℤ val q (whole p) ≡ val q (summed times ts)) → Goal
        go k h [] g e = absurd (none_at_all k h e)
        go k h (t ∷ ts) g e =
            let x = greatest o anti times Ok In (λ v. Unit {0}) t ts g.0 g.1 in
            let ok_top = ok_times x.summand.by x.summand.line.lead x.good.ok
            ((line x.summand.line x.good.member).ok.0) in
            falls Claim step (top times x.summand) ok_top x.summand.by x.summand.line x.good.ok x.good.member refl
            (record { multiple = k; some = h; terms = t ∷ ts; good = x.all; same = e })
