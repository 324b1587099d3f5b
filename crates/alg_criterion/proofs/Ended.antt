-- What the invariant says where nothing is left to do.
use Rattle.std.specs.Prelude.{List, [], ◌∷◌, ℤ}
use Rattle.std.proofs.Common.{subst, ◌⊎◌, inl, inr}
use Rattle.std.specs.declared.cmp.Ordering.{Ordering}
use Rattle.alg_criterion.proofs.Spans.{Every, Led, Summand, Under, IsLine, IsGood, Spans, LowOf, IsMonomials, ArePairsBelow, ArePairsBelowLcm}
use Rattle.alg_criterion.proofs.Machine.{Has, Pairwise, Seen, IsPoly, Reached, IsReduced, IsAtItsEnd, IsCombination}
use Rattle.alg_criterion.proofs.Criterion.{leads_divide_lem}
use Rattle.alg_criterion.proofs.Lifts.{from_lcm}
use Rattle.alg_criterion.proofs.Remains.{poly_line, Leaves}
use Rattle.alg_criterion.proofs.Sums.{Any, left_of_combination}
use Rattle.alg_criterion.proofs.Pairwise.{every_map, every_both}
use Rattle.alg_criterion.proofs.Tasks.{Cleared, hyp_task, cleared_idle, s_of, w_of, pair_task, spans_swap, In, Half}
use Rattle.alg_criterion.proofs.Invariant.{Inv, inv}

module _ {M : Type 0} {cmp : M → M → Ordering} {times over : M → M → M} {one : M} {Ok : M → Type 0}
    (L : IsMonomials cmp times over one Ok) where
  abbrev Poly : Type 0
  Poly = List (M × ℤ)

  module _ (hyps powers : List Poly) (hyps_ok : Every (IsPoly cmp times over Ok) hyps)
      (powers_ok : Every (IsPoly cmp times over Ok) powers) where
    -- law 2: at an end by rule 8 all pairs are below
    pub all_below : (s : Seen M) → Reached cmp times over Ok hyps powers s → IsAtItsEnd cmp times over Ok s →
        ArePairsBelowLcm cmp times Ok (In L s) over
    all_below s r o f g hf hg =
        let i = inv L hyps powers hyps_ok powers_ok s r in
        let done : (x y : Led M) → IsLine cmp times Ok x → IsLine cmp times Ok y → Half L s x y →
        Spans cmp times Ok (In L s) (Under cmp times Ok (w_of L x y)) (s_of L x y) = λ x y jx jy h. elim h [
          | inl a ↦ absurd (subst (λ ps. Has (x, y) ps) o.pairs a)
          | inr a ↦ cleared_idle L (In L s) i.line (Under cmp times Ok (w_of L x y)) (s_of L x y)
              (pair_task L x y jx jy) s.current o.current a
        ] in
        elim (i.pairs f g hf hg) [
          | inl h ↦ done f g (i.line f hf) (i.line g hg) h
          | inr h ↦ spans_swap L (In L s) f g (i.line f hf) (i.line g hg) (done g f (i.line g hg) (i.line f hf) h)
        ]

    -- law 1's second half: each hypothesis is a sum of basis lines whose leads do not exceed its own
    pub all_cleared : (s : Seen M) → Reached cmp times over Ok hyps powers s → IsAtItsEnd cmp times over Ok s →
        Every (λ h. Spans cmp times Ok (In L s) (LowOf cmp h) h) hyps
    all_cleared s r o =
        let i = inv L hyps powers hyps_ok powers_ok s r in
        every_both {P = IsPoly cmp times over Ok} {Q = λ h. Has h s.inputs
        ⊎ Cleared L (In L s) s.current (LowOf cmp h) h} {R = λ h. Spans cmp times Ok (In L s) (LowOf cmp h) h}
        (λ h j x. elim x [
          | inl a ↦ absurd (subst (λ hs. Has h hs) o.inputs a)
          | inr a ↦ cleared_idle L (In L s) i.line (LowOf cmp h) h (hyp_task L h j) s.current o.current a
        ]) hyps hyps_ok i.given

    -- law 4: where no remainder can be reduced, no power is a combination of the hypotheses
    pub none_exists_at : (s : Seen M) → Reached cmp times over Ok hyps powers s → IsAtItsEnd cmp times over Ok s →
        Every (λ p. IsCombination cmp times over Ok hyps p → ⊥) powers
    none_exists_at s r o = go powers s.remainders i.left i.rests o.reduced
      where
        i : Inv L hyps powers hyps_ok powers_ok s
        i = inv L hyps powers hyps_ok powers_ok s r

        below : ArePairsBelow cmp times Ok (In L s)
        below = from_lcm L.total L.anti times L.comm L.assoc Ok L.keeps L.ok_times (In L s)
            i.line over L.ok_over L.lcm_least (all_below s r o)

        sums : Every (λ h. Spans cmp times Ok (In L s) Any h) hyps
        sums = every_map {P = λ h. Spans cmp times Ok (In L s) (LowOf cmp h) h}
            {Q = λ h. Spans cmp times Ok (In L s) Any h}
            (λ h x. record {
              multiple = x.multiple;
              some = x.some;
              terms = x.terms;
              good =
                  weaker (LowOf cmp h) x.terms x.good;
              same = x.same;
            }) hyps (all_cleared s r o)
          where
            weaker : (Low : M → Type 0) (ts : List (Summand M)) → Every (IsGood cmp times Ok (In L s) Low) ts →
                Every (IsGood cmp times Ok (In L s) Any) ts
            weaker Low [] g = tt
            weaker Low (t ∷ ts) g = (record { ok = g.0.ok; member = g.0.member; low = tt }, weaker Low ts g.1)

        single : (p g : Poly) → Leaves L (In L s) Any p g → IsPoly cmp times over Ok g →
            IsReduced cmp times over Ok s.basis g → IsCombination cmp times over Ok hyps p → ⊥
        single p g x j d c =
            let sum = left_of_combination L (In L s) i.line hyps p g sums c x in
            let divided = leads_divide_lem L.total L.anti times L.comm Ok L.keeps L.ok_times L.falls (In L s)
            i.line below d.led (poly_line L d.led (subst (IsPoly cmp times over Ok) d.is j))
            (subst (λ v. Spans cmp times Ok (In L s) Any v) d.is sum) in
            d.none divided.line divided.member divided.quotient divided.divides

        go : (ps gs : List Poly) → Pairwise (Leaves L (In L s) Any) ps gs → Every (IsPoly cmp times over Ok) gs →
            Every (IsReduced cmp times over Ok s.basis) gs → Every (λ p. IsCombination cmp times over Ok hyps p → ⊥)
            ps
        go [] gs x j d = tt
        go (p ∷ ps) [] x j d = absurd x
        go (p ∷ ps) (g ∷ gs) x j d = (single p g x.0 j.0 d.0, go ps gs x.1 j.1 d.1)
