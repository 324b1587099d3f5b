-- Each step of the machine keeps what a good certificate needs.
use Rattle.std.specs.Prelude.{◌≡◌, ◌≢◌, ℕ, zero, suc, ◌+◌, List, [], ◌∷◌, ◌++◌, All, slice_set}
use Rattle.std.proofs.Common.{arith}
use Rattle.std.specs.Ordering.{nat_cmp}
use Rattle.std.proofs.lemmas.List.Elements.{All-nil, All-append, All-cons, All-get_or}
use Rattle.alg_mono.specs.Numbers.{integers}
use Rattle.alg_mono.specs.Outcomes.{Outcome, power_outcome}
use Rattle.alg_mono.specs.Polynomials.{IsPolynomial}
use Rattle.alg_mono.specs.Mono.{Monomial}
use Rattle.alg_mono.specs.NumberedPolynomials.{Polynomial, power_of}
use Rattle.alg_lines.specs.Lines.{line_at}
use Rattle.alg_lines.specs.Accepting.{IsOneOf, AreLines, AreSteps}
use Rattle.alg_pairs.specs.declared.pair.Pair.{Pair}
use Rattle.alg_groebner.specs.Cancelling.{cancelled, cancel_outcome, quotient}
use Rattle.alg_groebner.specs.State.{State}
use Rattle.alg_groebner.specs.Moves.{with_line, without_pair, stepped, goal_outcome, goal_reduced}
use Rattle.alg_groebner.specs.Choices.{remainder_at}
use Rattle.alg_groebner.specs.declared.remainder.Remainder.{Remainder}
use Rattle.alg_lines.proofs.Following.{lines_more, steps_more}
use Rattle.alg_groebner.proofs.Faithful.{steps_longer, good_line, good_step, IsPolynomial-crossed, IsPolynomial-cancelled}
use Rattle.alg_groebner.proofs.Leading.{leading_some, reduces_says}
use Rattle.alg_groebner.proofs.Scans.{there_number}
use Rattle.alg_groebner.proofs.Walked.{IsKept}

abbrev pub IsP : Polynomial → Type 0
IsP p = IsPolynomial nat_cmp integers p

-- each remainder comes of its power of g by its steps
abbrev pub AllSteps : List Polynomial → Polynomial → ℕ → List Remainder → Type 0
AllSteps lines g r [] = Unit {0}
AllSteps lines g r (x ∷ xs) =
    (power_outcome g r ≡ Outcome.Fine) × AreSteps lines (power_of g r) x.steps x.rest × AllSteps lines g (r + 1) xs

pub record IsFaithful (hyps : List Polynomial) (g : Polynomial) (st : State) : Type 0 where
  pub polys : All IsP st.lines
  pub lines : AreLines hyps st.made st.lines
  pub steps : AllSteps st.lines g 1 st.remainders

all_longer : (lines : List Polynomial) (p g : Polynomial) (r : ℕ) (xs : List Remainder) → AllSteps lines g r xs →
    AllSteps (lines ++ p ∷ []) g r xs
all_longer lines p g r [] h = h
all_longer lines p g r (x ∷ xs) h = (
  h.0,
  steps_longer lines p (power_of g r) x.steps x.rest h.1,
  all_longer lines p g
      (r + 1) xs h.2,
)

all_set : (lines : List Polynomial) (g : Polynomial) (r i : ℕ) (xs : List Remainder) (y : Remainder) → AllSteps lines
    g r xs →
    ((b : Polynomial) → AreSteps lines b (remainder_at xs i).steps (remainder_at xs i).rest → AreSteps lines b y.steps
    y.rest) →
    AllSteps lines g r (slice_set xs i y)
all_set lines g r i [] y h f = h
all_set lines g r zero (x ∷ xs) y h f = (h.0, f (power_of g r) h.1, h.2)
all_set lines g r (suc i) (x ∷ xs) y h f = (h.0, h.1, all_set lines g (r + 1) i xs y h.2 f)

nothing_sound : IsP []
nothing_sound = record { canonical = record { rises = tt; no_none = tt }; monomials = tt }

sound_at : (lines : List Polynomial) (k : ℕ) → All IsP lines → IsOneOf lines k → IsP (line_at lines k)
sound_at lines k h o = let high = o.1 in All-get_or IsP ([] ∷ lines) k [] (omega arith)
    (All-cons IsP [] lines nothing_sound h)

module _ (hyps : List Polynomial) (g : Polynomial) where
  abbrev Faith : State → Type 0
  Faith st = IsFaithful hyps g st

  line_follows : (st : State) (pairs : List Pair) (m : Monomial) (i : ℕ) (n : Monomial) (j : ℕ) → Faith st → IsOneOf
      st.lines i → IsOneOf st.lines j →
      cancel_outcome m (line_at st.lines i) n (line_at st.lines j) ≡ Outcome.Fine →
      Faith (with_line (without_pair st pairs) m i n j (cancelled m (line_at st.lines i) n (line_at st.lines j)))
  unfolding with_line
  line_follows st pairs m i n j f a b fine =
      let p = line_at st.lines i in
      let q = line_at st.lines j in
      let c = cancelled m p n q in
      record {
        polys = All-append IsP st.lines (c.poly ∷ []) f.polys
            (All-cons IsP c.poly [] (IsPolynomial-cancelled m p n q) (All-nil IsP));
        lines = lines_more hyps st.made st.lines _ c.poly f.lines
            (good_line st.lines m i n j a b fine (IsPolynomial-crossed m p n q));
        steps = all_longer st.lines c.poly g 1 st.remainders f.steps;
      }

  goal_follows : (st : State) (r j : ℕ) → Faith st → IsOneOf st.lines j → line_at st.lines j ≢ [] → goal_outcome st r
      j ≡ Outcome.Fine →
      Faith (goal_reduced st r j)
  unfolding stepped
  goal_follows st r j f o some fine =
      let x = remainder_at st.remainders r in
      let q = line_at st.lines j in
      let n = quotient x.rest q in
      let c = cancelled [] x.rest n q in
      record {
        polys = f.polys;
        lines = f.lines;
        steps = all_set st.lines g 1 r st.remainders (stepped x n j c) f.steps
            (λ b h. steps_more st.lines b x.steps x.rest _ c.poly h
            (good_step st.lines x.rest n j o (leading_some q (sound_at st.lines j f.polys o) some) fine));
      }

  -- each move keeps it
  pub moves_follow : IsKept Faith
  moves_follow = record {
    goal = λ st r j f low says fine.
        let some = (reduces_says (line_at st.lines j) _ says).0 in
        goal_follows st r j f (there_number st.lines j some) some fine;
    line = λ st k j f n says fine.
        let some = (reduces_says (line_at st.lines j) _ says).0 in
        line_follows st st.pairs _ k _ j f n (there_number st.lines j some) fine;
    pair = λ st rest i j f first second fine.
        line_follows st rest _ i _ j f (there_number st.lines i first) (there_number st.lines j second) fine;
    drops = λ st f. record { polys = f.polys; lines = f.lines; steps = f.steps };
    joins = λ st k f. record { polys = f.polys; lines = f.lines; steps = f.steps };
    takes = λ st f. record { polys = f.polys; lines = f.lines; steps = f.steps };
  }
