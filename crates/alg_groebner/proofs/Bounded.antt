-- The lines and the steps of a run over n atoms are within the limits.
use Rattle.std.specs.Prelude.{◌≡◌, ◌≢◌, ℕ, zero, suc, ◌+◌, ◌-◌, List, [], ◌∷◌, All, slice_index_or}
use Rattle.std.proofs.lemmas.List.Elements.{All-nil, All-cons, All-head, All-tail, All-append, All-get_or, All-set}
use Rattle.std.specs.Cmp.{nat_cmp_total}
use Rattle.std.specs.FinMap.{nat_cmp-IsAntisymmetric}
use Rattle.alg_mono.specs.Mono.{Monomial}
use Rattle.alg_mono.specs.NumberedPolynomials.{Polynomial}
use Rattle.alg_mono.specs.Outcomes.{Outcome}
use Rattle.alg_mono.proofs.Lcm.{IsCanonical-mono_over}
use Rattle.alg_lines.specs.declared.cert.GoalStep.{GoalStep}
use Rattle.alg_lines.specs.declared.cert.Line.{Line}
use Rattle.alg_lines.specs.Lines.{line_at}
use Rattle.alg_pairs.specs.declared.pair.Pair.{Pair}
use Rattle.alg_groebner.specs.Cancelling.{cancelled, cancel_outcome, lead_lcm, left_lift, quotient, reduced, right_lift}
use Rattle.alg_groebner.specs.Choices.{remainder_at}
use Rattle.alg_groebner.specs.declared.remainder.Remainder.{Remainder}
use Rattle.alg_groebner.specs.Leads.{lead}
use Rattle.alg_groebner.specs.Moves.{stepped, with_line, without_pair}
use Rattle.alg_groebner.specs.Runs.{first_state, powers}
use Rattle.alg_groebner.specs.State.{State}
use Rattle.alg_groebner.specs.Within.{HasAtoms, IsOverAtoms, IsWithin}
use Rattle.alg_groebner.proofs.Leading.{reduces_says}
use Rattle.alg_groebner.proofs.Limited.{cancelled_within}
use Rattle.alg_groebner.proofs.Over.{atoms_lcm, atoms_lead, atoms_over, over_cancelled, over_power}
use Rattle.alg_groebner.proofs.Walked.{IsKept}

-- an element of a list, or one that stands for what is not there
at_rest : {X : Type 0} (P : X → Type 0) (x : X) (xs : List X) (k : ℕ) → P x → All P xs → P (slice_index_or xs k x)
at_rest P x [] k h all = h
at_rest P x (y ∷ ys) zero h all = All-head P y ys all
at_rest P x (y ∷ ys) (suc k) h all = at_rest P x ys k h (All-tail P y ys all)

at_any : {X : Type 0} (P : X → Type 0) (x : X) (xs : List X) (k : ℕ) → P x → All P xs →
    P (slice_index_or (x ∷ xs) k x)
at_any P x xs zero h all = h
at_any P x xs (suc k) h all = at_rest P x xs k h all

module _ (n : ℕ) where
  abbrev pub LineHolds : Line → Type 0
  LineHolds l = IsWithin n l.a l.m l.b l.n l.d

  abbrev pub StepHolds : GoalStep → Type 0
  StepHolds s = IsWithin n s.a [] s.b s.n s.d

  pub record IsRemainder (g : Remainder) : Type 0 where
    pub rest : IsOverAtoms n g.rest
    pub steps : All StepHolds g.steps

  pub record Holds (st : State) : Type 0 where
    pub lines : All (IsOverAtoms n) st.lines
    pub made : All LineHolds st.made
    pub remainders : All IsRemainder st.remainders

  nothing_over : IsOverAtoms n []
  nothing_over =
      record { polynomial = record { canonical = record { rises = tt; no_none = tt }; monomials = tt }; atoms = tt }

  line_over : (lines : List Polynomial) (k : ℕ) → All (IsOverAtoms n) lines → IsOverAtoms n (line_at lines k)
  line_over lines k h = at_any (IsOverAtoms n) [] lines k nothing_over h

  quotient_over : (p q : Polynomial) → IsOverAtoms n p → HasAtoms n (quotient p q)
  quotient_over p q h = atoms_over n (lead p) (lead q) (atoms_lead n p h)

  lifts_over : (p q : Polynomial) → IsOverAtoms n p → IsOverAtoms n q → HasAtoms n (lead_lcm p q)
  lifts_over p q h g = atoms_lcm n (lead p) (lead q) (atoms_lead n p h) (atoms_lead n q g)

  -- a line that is made of two that are not zero
  line_held : (st : State) (rest : List Pair) (m : Monomial) (i : ℕ) (q : Monomial) (j : ℕ) → Holds st →
      let c = cancelled m (line_at st.lines i) q (line_at st.lines j) in
      IsWithin n c.a m c.b q c.d → IsOverAtoms n c.poly → Holds (with_line (without_pair st rest) m i q j c)
  unfolding with_line
  line_held st rest m i q j h within over =
      let c = cancelled m (line_at st.lines i) q (line_at st.lines j) in
      let l : Line = record { a = c.a; m = m; i = i; b = c.b; n = q; j = j; d = c.d } in
      record {
        lines = All-append (IsOverAtoms n) st.lines (c.poly ∷ []) h.lines
            (All-cons (IsOverAtoms n) c.poly [] over (All-nil (IsOverAtoms n)));
        made = All-append LineHolds st.made (l ∷ []) h.made (All-cons LineHolds l [] within (All-nil LineHolds));
        remainders = h.remainders;
      }

  -- a remainder after one more step
  remainder_held : (g : Remainder) (q : Monomial) (j : ℕ) (p : Polynomial) → IsRemainder g →
      let c = cancelled [] g.rest q p in
      IsWithin n c.a [] c.b q c.d → IsOverAtoms n c.poly → IsRemainder (stepped g q j c)
  unfolding stepped
  remainder_held g q j p h within over =
      let c = cancelled [] g.rest q p in
      let s : GoalStep = record { a = c.a; b = c.b; n = q; j = j; d = c.d } in
      record {
        rest = over;
        steps = All-append StepHolds g.steps (s ∷ []) h.steps
            (All-cons StepHolds s [] within (All-nil StepHolds));
      }

  -- p reduced by q
  module _ (p q : Polynomial) (hp : IsOverAtoms n p) (hq : IsOverAtoms n q) (some : p ≢ []) (other : q ≢ []) where
    reduced_within : cancel_outcome [] p (quotient p q) q ≡ Outcome.Fine →
        let c = reduced p q in IsWithin n c.a [] c.b (quotient p q) c.d
    reduced_within fine =
        cancelled_within [] p (quotient p q) q hp.polynomial hq.polynomial some other fine n
        record { rises = tt; no_none = tt } tt
        (IsCanonical-mono_over nat_cmp_total nat_cmp-IsAntisymmetric (lead p) (lead q)) (quotient_over p q hp)

    reduced_over : IsOverAtoms n ((reduced p q).poly)
    reduced_over = over_cancelled n [] p (quotient p q) q tt (quotient_over p q hp) hp hq

    abbrev m : Monomial
    m = left_lift p q

    abbrev r : Monomial
    r = right_lift p q

    m_over : HasAtoms n m
    m_over = atoms_over n (lead_lcm p q) (lead p) (lifts_over p q hp hq)

    r_over : HasAtoms n r
    r_over = atoms_over n (lead_lcm p q) (lead q) (lifts_over p q hp hq)

    pair_within : cancel_outcome m p r q ≡ Outcome.Fine → let c = cancelled m p r q in IsWithin n c.a m c.b r c.d
    pair_within fine =
        cancelled_within m p r q hp.polynomial hq.polynomial some other fine n
        (IsCanonical-mono_over nat_cmp_total nat_cmp-IsAntisymmetric (lead_lcm p q) (lead p)) m_over
        (IsCanonical-mono_over nat_cmp_total nat_cmp-IsAntisymmetric (lead_lcm p q) (lead q)) r_over

    pair_over : IsOverAtoms n ((cancelled m p r q).poly)
    pair_over = over_cancelled n m p r q m_over r_over hp hq

  -- each move keeps it
  pub moves_hold : IsKept Holds
  moves_hold = record {
    goal = λ st r j h low says fine.
        let g = remainder_at st.remainders r in
        let q = line_at st.lines j in
        let held : IsRemainder g = All-get_or IsRemainder st.remainders r (record { rest = []; steps = [] }) low
        h.remainders in
        let over = line_over st.lines j h.lines in
        let both = reduces_says q g.rest says in
        let new = stepped g (quotient g.rest q) j (reduced g.rest q) in
        record {
          lines = h.lines;
          made = h.made;
          remainders = All-set IsRemainder st.remainders r new
              (remainder_held g (quotient g.rest q) j q held
              (reduced_within g.rest q held.rest over both.1 both.0 fine)
              (reduced_over g.rest q held.rest over both.1 both.0)) h.remainders;
        };
    line = λ st k j h number says fine.
        let p = line_at st.lines k in
        let q = line_at st.lines j in
        let hp = line_over st.lines k h.lines in
        let hq = line_over st.lines j h.lines in
        let both = reduces_says q p says in
        line_held st st.pairs [] k (quotient p q) j h (reduced_within p q hp hq both.1 both.0 fine)
        (reduced_over p q hp hq both.1 both.0);
    pair = λ st rest i j h first second fine.
        let p = line_at st.lines i in
        let q = line_at st.lines j in
        let hp = line_over st.lines i h.lines in
        let hq = line_over st.lines j h.lines in
        line_held st rest (left_lift p q) i (right_lift p q) j h (pair_within p q hp hq first second fine)
        (pair_over p q hp hq first second);
    drops = λ st h. record { lines = h.lines; made = h.made; remainders = h.remainders };
    joins = λ st k h. record { lines = h.lines; made = h.made; remainders = h.remainders };
    takes = λ st h. record { lines = h.lines; made = h.made; remainders = h.remainders };
  }

  -- the first state
  powers_hold : (g : Polynomial) (r k : ℕ) → IsOverAtoms n g → All IsRemainder (powers g r k)
  powers_hold g r zero h = All-nil IsRemainder
  powers_hold g r (suc k) h =
      All-cons IsRemainder _ (powers g (r + 1) k) (record { rest = over_power n g r h; steps = All-nil StepHolds })
      (powers_hold g (r + 1) k h)

  pub first_holds : (hyps : List Polynomial) (g : Polynomial) (power : ℕ) → All (IsOverAtoms n) hyps → IsOverAtoms n g →
      Holds (first_state hyps (powers g 1 power))
  first_holds hyps g power h over =
      record { lines = h; made = All-nil LineHolds; remainders = powers_hold g 1 power over }
