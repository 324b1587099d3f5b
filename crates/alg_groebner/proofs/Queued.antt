-- Pairs in the code's queue, and those beyond the limit on degrees.
use Rattle.std.specs.Prelude.{◌≡◌, ℕ, ◌<◌, ◌≤◌, Bool, true, false, not, cond, nat_lt, List, [], ◌∷◌, ◌++◌, min, max, All}
use Rattle.std.proofs.Common.{refl, sym, ap, subst, ◌∙◌, arith, inl, inr}
use Rattle.std.specs.declared.cmp.Ordering.{Ordering}
use Rattle.std.specs.declared.cmp.Ordering.TheVariants.{Less, Equal, Greater}
use Rattle.std.specs.Ordering.{match_ordering, ordering_then, nat_cmp}
use Rattle.std.specs.BTreeSet.{insert_key}
use Rattle.std.proofs.lemmas.Bool.{cases_lt}
use Rattle.std.proofs.lemmas.Map.Views.{All-insert_key}
use Rattle.std.proofs.lemmas.List.Elements.{All-nil, All-cons, All-head, All-tail}
use Rattle.alg_mono.specs.Monomials.{MAX_DEGREE, degree}
use Rattle.alg_mono.specs.NumberedPolynomials.{Polynomial}
use Rattle.alg_mono.specs.Outcomes.{is_nothing}
use Rattle.alg_lines.specs.Lines.{line_at}
use Rattle.alg_pairs.specs.Order.{pair_cmp}
use Rattle.alg_pairs.specs.declared.pair.Pair.{Pair}
use Rattle.alg_groebner.specs.Cancelling.{lead_lcm}
use Rattle.alg_groebner.specs.Choices.{pair_of, with_pair, with_pairs}
use Rattle.alg_groebner.specs.Leads.{lead, coprime}
use Rattle.alg_groebner.specs.Work.{member_cmp, with_ordered, with_member, with_members}
use Rattle.alg_groebner.specs.declared.member.Member.{Member}
use Rattle.alg_groebner.specs.declared.queue.Queue.{Queue}
use Rattle.alg_groebner.proofs.Adding.{is_less, not_less}
use Rattle.alg_groebner.proofs.Shown.{numbers, IsLine, IsWithin, IsBeyond, AreOver}

-- ---- a place among two parts of a list
module _ {X : Type 0} (cmp : X → X → Ordering) (x : X) where
  after : (xs ys : List X) → All (λ y. cmp x y ≡ Greater) xs → insert_key cmp (xs ++ ys) x ≡ xs ++ insert_key cmp ys x
  after [] ys h = refl
  after (y ∷ xs) ys h =
      ap (λ o. match_ordering o (x ∷ y ∷ xs ++ ys) (y ∷ xs ++ ys) (y ∷ insert_key cmp (xs ++ ys) x))
      (All-head (λ y. cmp x y ≡ Greater) y xs h)
      ∙ ap (λ zs. y ∷ zs) (after xs ys (All-tail (λ y. cmp x y ≡ Greater) y xs h))

  before : (xs ys : List X) → All (λ y. cmp x y ≡ Less) ys → insert_key cmp (xs ++ ys) x ≡ insert_key cmp xs x ++ ys
  before [] [] h = refl
  before [] (y ∷ ys) h =
      ap (λ o. match_ordering o (x ∷ y ∷ ys) (y ∷ ys) (y ∷ insert_key cmp ys x)) (All-head (λ y. cmp x y ≡ Less) y ys h)
  before (y ∷ xs) ys h =
      elim (cmp x y) as (λ o. match_ordering o (x ∷ y ∷ xs ++ ys) (y ∷ xs ++ ys) (y ∷ insert_key cmp (xs ++ ys) x)
      ≡ match_ordering o (x ∷ y ∷ xs) (y ∷ xs) (y ∷ insert_key cmp xs x) ++ ys) [
        | Less ↦ refl
        | Equal ↦ refl
        | Greater ↦ ap (λ zs. y ∷ zs) (before xs ys h)
      ]

-- ---- the order of pairs by degrees
greater_degree : (m n : ℕ) → n < m → nat_cmp m n ≡ Greater
greater_degree m n h = grind arith

less_degree : (m n : ℕ) → m < n → nat_cmp m n ≡ Less
less_degree m n h = grind arith

front_less : (o p q : Ordering) → o ≡ Less → ordering_then (ordering_then o p) q ≡ Less
front_less o p q e = ap (λ o. ordering_then (ordering_then o p) q) e

front_greater : (o p q : Ordering) → o ≡ Greater → ordering_then (ordering_then o p) q ≡ Greater
front_greater o p q e = ap (λ o. ordering_then (ordering_then o p) q) e

all_less : (lines : List Polynomial) (x : Pair) (over : List Pair) → IsWithin x → All (IsBeyond lines) over →
    All (λ y. pair_cmp x y ≡ Less) over
all_less lines x [] h a = All-nil (λ y. pair_cmp x y ≡ Less)
all_less lines x (y ∷ over) h a =
    let far = (All-head (IsBeyond lines) y over a).0 in
    All-cons (λ y. pair_cmp x y ≡ Less) y over
    (front_less _ _ _ (less_degree (degree x.lcm) (degree y.lcm) (omega arith)))
    (all_less lines x over h (All-tail (IsBeyond lines) y over a))

all_greater : (x : Pair) (within : List Pair) → MAX_DEGREE < degree x.lcm → All IsWithin within →
    All (λ y. pair_cmp x y ≡ Greater) within
all_greater x [] h a = All-nil (λ y. pair_cmp x y ≡ Greater)
all_greater x (y ∷ within) h a =
    let near = All-head IsWithin y within a in
    All-cons (λ y. pair_cmp x y ≡ Greater) y within
    (front_greater _ _ _ (greater_degree (degree x.lcm) (degree y.lcm) (omega arith)))
    (all_greater x within h (All-tail IsWithin y within a))

-- ---- one pair more
abbrev pub Queued : List Polynomial → Queue → List Pair → Type 0
Queued lines q xs = (over : List Pair) × (xs ≡ q.pairs ++ over) × AreOver lines q over

some_over : (x : Pair) (over : List Pair) → true ≡ not (is_nothing (insert_key pair_cmp over x))
some_over x [] = refl
some_over x (y ∷ over) =
    elim (pair_cmp x y) as (λ o. true ≡ not (is_nothing (match_ordering o (x ∷ y ∷ over) (y ∷ over)
    (y ∷ insert_key pair_cmp over x)))) [
      | Less ↦ refl
      | Equal ↦ refl
      | Greater ↦ refl
    ]

module _ (lines : List Polynomial) (q : Queue) (over : List Pair) (h : AreOver lines q over) (b c : Member)
    (first : IsLine lines b) (second : IsLine lines c) where
  pair : Pair
  pair = record { lcm = lead_lcm b.poly c.poly; j = c.number; i = b.number }

  ordered_by : (t : Bool) → nat_lt MAX_DEGREE (degree (lead_lcm b.poly c.poly)) ≡ t →
      Queued lines (cond t (record q { beyond = true }) (record q { pairs = insert_key pair_cmp q.pairs pair }))
      (insert_key pair_cmp (q.pairs ++ over) pair)
  unfolding pair
  ordered_by true e =
      let far : MAX_DEGREE < degree (lead_lcm b.poly c.poly) = test_less MAX_DEGREE (degree (lead_lcm b.poly c.poly))
      e in (
        insert_key pair_cmp over pair,
        after pair_cmp pair q.pairs over (all_greater pair q.pairs far h.within),
        record {
          within = h.within;
          beyond = All-insert_key pair_cmp pair (IsBeyond lines) over h.beyond
              (far, λ k. lead_lcm (first k) (second k));
          flag = some_over pair over;
        },
      )
    where
      test_less : (a b : ℕ) → nat_lt a b ≡ true → a < b
      test_less a b e = grind arith
  ordered_by false e =
      let near : degree (lead_lcm b.poly c.poly) ≤ MAX_DEGREE = test_not_less MAX_DEGREE
      (degree (lead_lcm b.poly c.poly)) e in (
        over,
        before pair_cmp pair q.pairs over (all_less lines pair over near h.beyond),
        record {
          within = All-insert_key pair_cmp pair IsWithin q.pairs h.within near;
          beyond = h.beyond;
          flag = h.flag;
        },
      )
    where
      test_not_less : (a b : ℕ) → nat_lt a b ≡ false → b ≤ a
      test_not_less a b e = grind arith

  pub ordered_queued : Queued lines (with_ordered b c q)
      (insert_key pair_cmp (q.pairs ++ over) (record { lcm = lead_lcm b.poly c.poly; j = c.number; i = b.number }))
  unfolding with_ordered pair
  ordered_queued = ordered_by (nat_lt MAX_DEGREE (degree (lead_lcm b.poly c.poly))) refl

module _ (lines : List Polynomial) (q : Queue) (over : List Pair) (h : AreOver lines q over) (b c : Member)
    (first : IsLine lines b) (second : IsLine lines c) where
  abbrev By : Bool → Pair → Type 0
  By t x = Queued lines (cond t (with_ordered b c q) (with_ordered c b q)) (insert_key pair_cmp (q.pairs ++ over) x)

  placed : By (nat_lt b.number c.number) (pair_of lines b.number c.number)
  unfolding pair_of
  placed = elim (cases_lt b.number c.number) [
    | inl l ↦
        let is : record { lcm = lead_lcm b.poly c.poly; j = c.number; i = b.number } ≡ pair_of lines b.number c.number =
        λ k. record { lcm = lead_lcm (low_first l k) (high_second l k); j = high l k; i = low l k } in
        subst (λ t. By t (pair_of lines b.number c.number)) (sym (is_less b.number c.number l))
        (subst (λ (x : Pair). By true x) is (ordered_queued lines q over h b c first second))
    | inr l ↦
        let is : record { lcm = lead_lcm c.poly b.poly; j = b.number; i = c.number } ≡ pair_of lines b.number c.number =
        λ k. record { lcm = lead_lcm (low_second l k) (high_first l k); j = high_other l k; i = low_other l k } in
        subst (λ t. By t (pair_of lines b.number c.number)) (sym (not_less b.number c.number l))
        (subst (λ (x : Pair). By false x) is (ordered_queued lines q over h c b second first))
  ]
    where
      low : b.number < c.number → b.number ≡ min b.number c.number
      low l = omega arith

      high : b.number < c.number → c.number ≡ max b.number c.number
      high l = omega arith

      low_other : c.number ≤ b.number → c.number ≡ min b.number c.number
      low_other l = omega arith

      high_other : c.number ≤ b.number → b.number ≡ max b.number c.number
      high_other l = omega arith

      low_first : (l : b.number < c.number) → b.poly ≡ line_at lines (min b.number c.number)
      low_first l = first ∙ ap (line_at lines) (low l)

      high_second : (l : b.number < c.number) → c.poly ≡ line_at lines (max b.number c.number)
      high_second l = second ∙ ap (line_at lines) (high l)

      low_second : (l : c.number ≤ b.number) → c.poly ≡ line_at lines (min b.number c.number)
      low_second l = second ∙ ap (line_at lines) (low_other l)

      high_first : (l : c.number ≤ b.number) → b.poly ≡ line_at lines (max b.number c.number)
      high_first l = first ∙ ap (line_at lines) (high_other l)

  abbrev Tested : Bool → Type 0
  Tested t = Queued lines (cond t q (cond (nat_lt b.number c.number) (with_ordered b c q) (with_ordered c b q)))
      (cond t (q.pairs ++ over) (insert_key pair_cmp (q.pairs ++ over) (pair_of lines b.number c.number)))

  tested : (t : Bool) → Tested t
  tested true = (over, refl, h)
  tested false = placed

  pub member_queued : Queued lines (with_member b c q) (with_pair lines b.number c.number (q.pairs ++ over))
  unfolding with_member with_pair
  member_queued =
      subst (λ (t : Bool). Queued lines
      (cond (coprime (lead b.poly) (lead c.poly)) q (cond (nat_lt b.number c.number) (with_ordered b c q)
      (with_ordered c b q)))
      (cond t (q.pairs ++ over) (insert_key pair_cmp (q.pairs ++ over) (pair_of lines b.number c.number))))
      (λ k. coprime (lead (first k)) (lead (second k))) (tested (coprime (lead b.poly) (lead c.poly)))

-- ---- all pairs of a line
pub members_queued : (lines : List Polynomial) (c : Member) (bs : List Member) (q : Queue) (over : List Pair) →
    AreOver lines q over → All (IsLine lines) bs → IsLine lines c →
    Queued lines (with_members c bs q) (with_pairs lines c.number (numbers bs) (q.pairs ++ over))
members_queued lines c [] q over h a l = (over, refl, h)
members_queued lines c (b ∷ bs) q over h a l =
    let one = member_queued lines q over h b c (All-head (IsLine lines) b bs a) l in
    subst (λ (xs : List Pair). Queued lines (with_members c bs (with_member b c q))
    (with_pairs lines c.number (numbers bs) xs))
    (sym one.1) (members_queued lines c bs (with_member b c q) one.0 one.2 (All-tail (IsLine lines) b bs a) l)

pub numbers-insert : (bs : List Member) (c : Member) → insert_key nat_cmp (numbers bs) c.number ≡ numbers
    (insert_key member_cmp bs c)
numbers-insert [] c = refl
numbers-insert (b ∷ bs) c =
    elim (nat_cmp c.number b.number) as
    (λ o. match_ordering o (c.number ∷ b.number ∷ numbers bs) (b.number ∷ numbers bs)
    (b.number ∷ insert_key nat_cmp (numbers bs) c.number)
    ≡ numbers (match_ordering o (c ∷ b ∷ bs) (b ∷ bs) (b ∷ insert_key member_cmp bs c))) [
      | Less ↦ refl
      | Equal ↦ refl
      | Greater ↦ ap (λ ks. b.number ∷ ks) (numbers-insert bs c)
    ]
