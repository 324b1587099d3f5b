-- The state as the code keeps it, and its moves. Of the lines beyond the hypotheses only the basis lines and the
-- current line have their polynomials, and of the pairs beyond the limit on degrees it is only known whether there is
-- one.
use Rattle.std.specs.Prelude.{ℕ, ◌+◌, ◌==◌, true, cond, List, [], ◌∷◌, ◌++◌, Option, Some, None, nat_lt, length, slice_set}
use Rattle.std.specs.List.{find}
use Rattle.std.specs.declared.cmp.Ordering.{Ordering}
use Rattle.std.specs.Ordering.{nat_cmp}
use Rattle.std.specs.BTreeSet.{insert_key}
use Rattle.alg_mono.specs.Mono.{Monomial}
use Rattle.alg_mono.specs.Monomials.{MAX_DEGREE, degree}
use Rattle.alg_mono.specs.NumberedPolynomials.{Polynomial}
use Rattle.alg_lines.specs.Lines.{line_at}
use Rattle.alg_lines.specs.declared.cert.Line.{Line}
use Rattle.alg_pairs.specs.Order.{pair_cmp}
use Rattle.alg_groebner.specs.Leads.{lead, coprime, reduces}
use Rattle.alg_groebner.specs.Cancelling.{quotient, reduced, lead_lcm, left_lift, right_lift, s_polynomial}
use Rattle.alg_groebner.specs.Choices.{remainder_at}
use Rattle.alg_groebner.specs.Moves.{stepped}
use Rattle.alg_groebner.specs.declared.cancel.Cancelled.{Cancelled}
use Rattle.alg_groebner.specs.declared.member.Member.{Member}
use Rattle.alg_groebner.specs.declared.queue.Queue.{Queue}
use Rattle.alg_groebner.specs.declared.remainder.Remainder.{Remainder}

pub record Work : Type 0 where
  -- how many hypotheses there are
  pub given : ℕ
  pub made : List Line
  -- the basis lines with their numbers, rising
  pub basis : List Member
  pub queue : Queue
  pub taken : ℕ
  pub remainders : List Remainder
  pub current : Option Member
  pub count : ℕ

-- ---- the basis
abbrev pub member_cmp : Member → Member → Ordering
member_cmp b c = nat_cmp b.number c.number

-- the basis line with a number
abbrev pub member_at : List Member → ℕ → Option Member
member_at basis k = find (λ b. b.number == k) basis

-- the first basis line whose lead divides that of p
abbrev pub member_reducer : List Member → Polynomial → Option Member
member_reducer basis p = find (λ b. reduces b.poly p) basis

abbrev pub member_found : ℕ → Option Member → Option (ℕ × Member) → Option (ℕ × Member)
member_found r (Some b) later = Some (r, b)
member_found r None later = later

-- the first remainder that is reducible, by its place from r on, and the first basis line that reduces it
abbrev pub member_reducible : List Member → ℕ → List Remainder → Option (ℕ × Member)
member_reducible basis r [] = None
member_reducible basis r (g ∷ gs) =
    member_found r (member_reducer basis g.rest) (member_reducible basis (r + 1) gs)

-- ---- the pairs
-- a pair of two lines, the lesser number first
unfoldable pub with_ordered : Member → Member → Queue → Queue
with_ordered b c queue =
    let l = lead_lcm b.poly c.poly in
    cond (nat_lt MAX_DEGREE (degree l)) (record queue { beyond = true })
    (record queue { pairs = insert_key pair_cmp queue.pairs (record { lcm = l; j = c.number; i = b.number }) })

-- a pair of two lines, unless their leads are coprime
unfoldable pub with_member : Member → Member → Queue → Queue
with_member b c queue =
    cond (coprime (lead b.poly) (lead c.poly)) queue
    (cond (nat_lt b.number c.number) (with_ordered b c queue) (with_ordered c b queue))

abbrev pub with_members : Member → List Member → Queue → Queue
with_members c [] queue = queue
with_members c (b ∷ bs) queue = with_members c bs (with_member b c queue)

-- ---- the moves
abbrev pub with_current : Work → Member → Work
with_current w c = record w { current = Some c }

unfoldable pub with_made : Work → Monomial → ℕ → Monomial → ℕ → Cancelled → Work
with_made w m i n j c = record w {
  made = w.made ++ (record { a = c.a; m = m; i = i; b = c.b; n = n; j = j; d = c.d }) ∷ [];
  current = Some (record { number = w.given + length w.made + 1; poly = c.poly });
  count = w.count + 1;
}

unfoldable pub with_step : Work → ℕ → Monomial → ℕ → Cancelled → Work
with_step w r n j c = record w {
  remainders = slice_set w.remainders r (stepped (remainder_at w.remainders r) n j c);
  count = w.count + 1;
}

module _ (w : Work) where
  abbrev pub work_goal_reduced : ℕ → Member → Work
  work_goal_reduced r b =
      let p = (remainder_at w.remainders r).rest in
      with_step w r (quotient p b.poly) b.number (reduced p b.poly)

  abbrev pub work_line_reduced : Member → Member → Work
  work_line_reduced c b = with_made w [] c.number (quotient c.poly b.poly) b.number (reduced c.poly b.poly)

  abbrev pub work_joined : Member → Work
  work_joined c = record w {
    basis = insert_key member_cmp w.basis c;
    queue = with_members c w.basis w.queue;
    current = None;
  }

  abbrev pub work_taken : List Polynomial → Work
  work_taken hyps = record w {
    taken = w.taken + 1;
    current = Some (record { number = w.taken + 1; poly = line_at hyps (w.taken + 1) });
  }

  abbrev pub work_pair_taken : Member → Member → Work
  work_pair_taken b c =
      with_made w (left_lift b.poly c.poly) b.number (right_lift b.poly c.poly) c.number (s_polynomial b.poly c.poly)
