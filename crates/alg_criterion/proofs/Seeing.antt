-- The state of the machine as the proofs see it: lines by themselves, without numbers.
use Rattle.std.specs.Prelude.{map, ◌≡◌, ℕ, ◌+◌, List, [], ◌∷◌, ◌++◌, Option, Some, None, length, drop, All}
use Rattle.std.proofs.Common.{refl, arith}
use Rattle.std.proofs.lemmas.List.{get_or_append_left, get_or_push}
use Rattle.std.proofs.lemmas.List.Elements.{All-head, All-tail}
use Rattle.alg_mono.specs.Mono.{Monomial}
use Rattle.alg_mono.specs.NumberedPolynomials.{Polynomial}
use Rattle.alg_lines.specs.Lines.{line_at}
use Rattle.alg_pairs.specs.declared.pair.Pair.{Pair}
use Rattle.alg_groebner.specs.Moves.{with_line, without_pair}
use Rattle.alg_groebner.specs.Sound.{IsThere, HasBoth}
use Rattle.alg_groebner.specs.State.{State}
use Rattle.alg_groebner.specs.Cancelling.{cancelled}
use Rattle.alg_groebner.proofs.Scans.{there_number}
use Rattle.alg_criterion.proofs.Spans.{Led}
use Rattle.alg_criterion.proofs.Machine.{Seen}
use Rattle.alg_criterion.proofs.Lists.{led_of}

abbrev pub led_at : List Polynomial → ℕ → Led Monomial
led_at lines k = led_of (line_at lines k)

abbrev pub led_pair : List Polynomial → Pair → Led Monomial × Led Monomial
led_pair lines x = (led_at lines x.i, led_at lines x.j)

abbrev pub current_of : List Polynomial → Option ℕ → Option Polynomial
current_of lines None = None
current_of lines (Some k) = Some (line_at lines k)

abbrev pub rests : State → List Polynomial
rests st = map (λ g. g.rest) st.remainders

-- the hypotheses beyond those that were taken are the inputs
abbrev pub seen : List Polynomial → State → List Polynomial → Seen Monomial
seen hyps st made = record {
  basis = map (led_at st.lines) st.basis;
  pairs = map (led_pair st.lines) st.pairs;
  inputs = drop st.taken hyps;
  remainders = rests st;
  current = current_of st.lines st.current;
  made = made;
}

-- ---- one more line
at_longer : (lines : List Polynomial) (p : Polynomial) (k : ℕ) → IsThere lines k →
    line_at (lines ++ p ∷ []) k ≡ line_at lines k
at_longer lines p k h =
    let high = (there_number lines k h).1 in get_or_append_left ([] ∷ lines) (p ∷ []) [] k (omega arith)

leds_longer : (lines : List Polynomial) (p : Polynomial) (ks : List ℕ) → All (IsThere lines) ks →
    map (led_at (lines ++ p ∷ [])) ks ≡ map (led_at lines) ks
leds_longer lines p [] h = refl
leds_longer lines p (k ∷ ks) h =
    λ i. led_of (at_longer lines p k (All-head (IsThere lines) k ks h) i)
    ∷ leds_longer lines p ks (All-tail (IsThere lines) k ks h) i

pairs_longer : (lines : List Polynomial) (p : Polynomial) (xs : List Pair) → All (HasBoth lines) xs →
    map (led_pair (lines ++ p ∷ [])) xs ≡ map (led_pair lines) xs
pairs_longer lines p [] h = refl
pairs_longer lines p (x ∷ xs) h =
    let there = All-head (HasBoth lines) x xs h in
    λ i. (led_of (at_longer lines p x.i there.0 i), led_of (at_longer lines p x.j there.1 i))
    ∷ pairs_longer lines p xs (All-tail (HasBoth lines) x xs h) i

line_new : (lines : List Polynomial) (p : Polynomial) → line_at (lines ++ p ∷ []) (length lines + 1) ≡ p
line_new lines p = get_or_push ([] ∷ lines) p [] (length lines + 1) (omega arith)

pub line_seen : (hyps : List Polynomial) (st : State) (pairs : List Pair) (made : List Polynomial) (m : Monomial)
    (i : ℕ)
    (n : Monomial) (j : ℕ) (p q : Polynomial) → All (IsThere st.lines) st.basis → All (HasBoth st.lines) pairs →
    let c = cancelled m p n q in
    seen hyps (with_line (without_pair st pairs) m i n j c) (made ++ c.poly ∷ []) ≡
    record (seen hyps st made) {
      pairs = map (led_pair st.lines) pairs;
      current = Some c.poly;
      made = made ++ c.poly ∷ [];
    }
unfolding with_line
line_seen hyps st pairs made m i n j p q there both =
    let c = cancelled m p n q in
    λ t. record {
      basis = leds_longer st.lines c.poly st.basis there t;
      pairs = pairs_longer st.lines c.poly pairs both t;
      inputs = drop st.taken hyps;
      remainders = rests st;
      current = Some (line_new st.lines c.poly t);
      made = made ++ c.poly ∷ [];
    }
