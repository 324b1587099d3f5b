-- The state of the machine that the code's state shows.
use Rattle.std.specs.Prelude.{◌≡◌, ℕ, zero, suc, ◌+◌, ◌<◌, ◌≤◌, Bool, true, false, not, cond, List, [], ◌∷◌, ◌++◌, Option, Some, None, length, map, nat_eq, slice_index_or, option_map, All, IfSome}
use Rattle.std.proofs.Common.{refl, sym, ap, ◌∙◌, arith, inl, inr}
use borrow.Author.Tests.{eqb-true, eq-eqb}
use Rattle.std.proofs.lemmas.List.{get_or_append_left}
use Rattle.std.proofs.lemmas.List.Elements.{All-head, All-tail}
use Rattle.alg_mono.specs.Monomials.{MAX_DEGREE, degree}
use Rattle.alg_mono.specs.NumberedPolynomials.{Polynomial}
use Rattle.alg_mono.specs.Outcomes.{is_nothing}
use Rattle.alg_lines.specs.Lines.{line_at}
use Rattle.alg_pairs.specs.declared.pair.Pair.{Pair}
use Rattle.alg_groebner.specs.Cancelling.{lead_lcm}
use Rattle.alg_groebner.specs.Choices.{reducer, found_at, first_reducible}
use Rattle.alg_groebner.specs.Leads.{reduces}
use Rattle.alg_groebner.specs.Sound.{IsNumber, IsIn}
use Rattle.alg_groebner.specs.State.{State}
use Rattle.alg_groebner.specs.Work.{Work, member_at, member_reducer, member_found, member_reducible}
use Rattle.alg_groebner.specs.declared.member.Member.{Member}
use Rattle.alg_groebner.specs.declared.queue.Queue.{Queue}
use Rattle.alg_groebner.specs.declared.remainder.Remainder.{Remainder}

abbrev pub numbers : List Member → List ℕ
numbers bs = map (λ b. b.number) bs

-- with all lines, and with the pairs beyond the limit on degrees
unfoldable pub shown : Work → List Polynomial → List Pair → State
shown w lines over = record {
  given = w.given;
  lines = lines;
  made = w.made;
  basis = numbers w.basis;
  pairs = w.queue.pairs ++ over;
  taken = w.taken;
  remainders = w.remainders;
  current = option_map (λ b. b.number) w.current;
  count = w.count;
}

-- the line with the number has that polynomial
abbrev pub IsLine : List Polynomial → Member → Type 0
IsLine lines b = b.poly ≡ line_at lines b.number

abbrev pub IsWithin : Pair → Type 0
IsWithin x = degree x.lcm ≤ MAX_DEGREE

abbrev pub IsBeyond : List Polynomial → Pair → Type 0
IsBeyond lines x =
    (MAX_DEGREE < degree x.lcm) × (x.lcm ≡ lead_lcm (line_at lines x.i) (line_at lines x.j))

-- those in the queue come first, and its flag tells of the others
pub record AreOver (lines : List Polynomial) (q : Queue) (over : List Pair) : Type 0 where
  pub within : All IsWithin q.pairs
  pub beyond : All (IsBeyond lines) over
  pub flag : q.beyond ≡ not (is_nothing over)

pub record Agrees (hyps : List Polynomial) (w : Work) (lines : List Polynomial) (over : List Pair) : Type 0 where
  pub given : w.given ≡ length hyps
  pub hypotheses : (k : ℕ) → k < w.given → line_at hyps (k + 1) ≡ line_at lines (k + 1)
  pub basis : All (IsLine lines) w.basis
  pub current : IfSome w.current (IsLine lines)
  pub queue : AreOver lines w.queue over

-- ---- one more line
pub at_longer : (lines : List Polynomial) (p : Polynomial) (k : ℕ) → IsNumber lines k → line_at lines k ≡ line_at
    (lines ++ p ∷ []) k
at_longer lines p k h = let high = h.1 in sym (get_or_append_left ([] ∷ lines) (p ∷ []) [] k (omega arith))

last_of : (lines : List Polynomial) (p : Polynomial) (n : ℕ) → n ≡ length lines → p ≡ slice_index_or (lines ++ p ∷ [])
    n []
last_of [] p n e = ap (λ k. slice_index_or (p ∷ []) k []) (sym e)
last_of (q ∷ lines) p zero e = absurd (omega arith)
last_of (q ∷ lines) p (suc n) e = last_of lines p n (omega arith)

pub at_last : (lines : List Polynomial) (p : Polynomial) (n : ℕ) → n ≡ length lines + 1 → p ≡ line_at
    (lines ++ p ∷ []) n
at_last lines p zero e = absurd (omega arith)
at_last lines p (suc n) e = last_of lines p n (omega arith)

-- ---- the choices
reducer_step : (t : Bool) (b : Member) (o : Option ℕ) (later : Option Member) → o ≡ option_map (λ b. b.number) later →
    cond t (Some b.number) o ≡ option_map (λ (b : Member). b.number) (cond t (Some b) later)
reducer_step true b o later e = refl
reducer_step false b o later e = e

pub reducer_same : (lines : List Polynomial) (bs : List Member) (p : Polynomial) → All (IsLine lines) bs →
    reducer lines (numbers bs) p ≡ option_map (λ b. b.number) (member_reducer bs p)
reducer_same lines [] p h = refl
reducer_same lines (b ∷ bs) p h =
    ap (λ (q : Polynomial). cond (reduces q p) (Some b.number) (reducer lines (numbers bs) p))
    (sym (All-head (IsLine lines) b bs h))
    ∙ reducer_step (reduces b.poly p) b (reducer lines (numbers bs) p) (member_reducer bs p)
    (reducer_same lines bs p (All-tail (IsLine lines) b bs h))

abbrev pub numbered : ℕ × Member → ℕ × ℕ
numbered x = (x.0, x.1.number)

found_step : (r : ℕ) (o : Option Member) (first : Option ℕ) (a : Option (ℕ × ℕ)) (b : Option (ℕ × Member)) →
    first ≡ option_map (λ b. b.number) o → a ≡ option_map numbered b →
    found_at r first a ≡ option_map numbered (member_found r o b)
found_step r None first a b f e = ap (λ x. found_at r x a) f ∙ e
found_step r (Some m) first a b f e = ap (λ x. found_at r x a) f

pub reducible_same : (lines : List Polynomial) (bs : List Member) (r : ℕ) (gs : List Remainder) → All (IsLine lines)
    bs →
    first_reducible lines (numbers bs) r gs ≡ option_map numbered (member_reducible bs r gs)
reducible_same lines bs r [] h = refl
reducible_same lines bs r (g ∷ gs) h =
    found_step r (member_reducer bs g.rest) (reducer lines (numbers bs) g.rest)
    (first_reducible lines (numbers bs) (r + 1) gs) (member_reducible bs (r + 1) gs)
    (reducer_same lines bs g.rest h) (reducible_same lines bs (r + 1) gs h)

-- a number of the basis has its line
pub member_there : (bs : List Member) (k : ℕ) → IsIn (numbers bs) k → (b : Member) × (Some b ≡ member_at bs k) ×
    (b.number ≡ k)
member_there [] k h = absurd h
member_there (b ∷ bs) k h =
    elim (nat_eq b.number k) as (λ t. nat_eq b.number k ≡ t →
    (c : Member) × (Some c ≡ cond t (Some b) (member_at bs k)) × (c.number ≡ k)) [
      | true ↦ λ e. (b, refl, eqb-true b.number k e)
      | false ↦ λ e. member_there bs k (later e h)
    ] refl
  where
    later : nat_eq b.number k ≡ false → IsIn (numbers (b ∷ bs)) k → IsIn (numbers bs) k
    later e h = elim h [
      | inl s ↦ absurd (let n : false ≡ true = sym e ∙ eq-eqb b.number k s in grind arith)
      | inr t ↦ t
    ]
