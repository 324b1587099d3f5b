-- Adding one pair.
use Rattle.std.specs.Prelude.{◌≡◌, ℕ, ◌<◌, ◌≤◌, Bool, true, false, cond, nat_lt, OnOk, Result}
use Rattle.std.proofs.Common.{sym, ap, subst, ◌∙◌, arith}
use Rattle.std.specs.declared.alloc.AllocError.{AllocError}
use Rattle.std.specs.Ordering.{nat_cmp}
use Rattle.std.specs.BTreeSet.{insert_key}
use Rattle.alg_mono.specs.Mono.{Monomial}
use Rattle.alg_mono.specs.Monomials.{MAX_DEGREE, degree, lcm}
use Rattle.alg_pairs.specs.Order.{pair_cmp}
use Rattle.alg_groebner.specs.Leads.{lead, coprime}
use Rattle.alg_groebner.specs.Work.{with_ordered, with_member}
use Rattle.alg_groebner.specs.declared.member.Member.{Member}
use Rattle.alg_groebner.specs.declared.queue.Queue.{Queue}

pub not_less : (a b : ℕ) → b ≤ a → nat_lt a b ≡ false
not_less a b h = grind arith

pub is_less : (a b : ℕ) → a < b → nat_lt a b ≡ true
is_less a b h = grind arith

abbrev Chosen : Member → Member → Queue → Monomial → Bool → Queue
Chosen b c q l t =
    cond t (record q { beyond = true })
    (record q { pairs = insert_key pair_cmp q.pairs (record { lcm = l; j = c.number; i = b.number }) })

module _ (b c : Member) (q : Queue) (f g : Monomial) (first : f ≡ lead b.poly) (second : g ≡ lead c.poly) where
  opened : (t : Bool) → nat_lt MAX_DEGREE (degree (lcm nat_cmp f g)) ≡ t →
      Chosen b c q (lcm nat_cmp f g) t ≡ with_ordered b c q
  unfolding with_ordered
  opened t e =
      ap (Chosen b c q (lcm nat_cmp f g)) (sym e)
      ∙ (λ k. Chosen b c q (lcm nat_cmp (first k) (second k))
      (nat_lt MAX_DEGREE (degree (lcm nat_cmp (first k) (second k)))))

  pub pair_within : degree (lcm nat_cmp f g) ≤ MAX_DEGREE →
      record q { pairs = insert_key pair_cmp q.pairs (record { lcm = lcm nat_cmp f g; j = c.number; i = b.number }) }
      ≡ with_ordered b c q
  pair_within h = opened false (not_less MAX_DEGREE (degree (lcm nat_cmp f g)) h)

  pub pair_beyond : MAX_DEGREE < degree (lcm nat_cmp f g) → record q { beyond = true } ≡ with_ordered b c q
  pair_beyond h = opened true (is_less MAX_DEGREE (degree (lcm nat_cmp f g)) h)

  abbrev Ordered : Bool → Bool → Queue
  Ordered t s = cond t q (cond s (with_ordered b c q) (with_ordered c b q))

  abbrev pub Test : Bool → Type 0
  Test t = t ≡ coprime f g

  member_is : (t : Bool) → Test t → (s : Bool) → nat_lt b.number c.number ≡ s → Ordered t s ≡ with_member b c q
  unfolding with_member
  member_is t e s h =
      ap (λ x. Ordered x s) e ∙ (λ k. Ordered (coprime (first k) (second k)) s)
      ∙ ap (λ x. Ordered (coprime (lead b.poly) (lead c.poly)) x) (sym h)

  pub none_added : Test true → q ≡ with_member b c q
  none_added e = member_is true e (nat_lt b.number c.number) (λ k. nat_lt b.number c.number)

  pub first_added : Test false → b.number < c.number → with_ordered b c q ≡ with_member b c q
  first_added e h = member_is false e true (is_less b.number c.number h)

  pub second_added : Test false → c.number ≤ b.number → with_ordered c b q ≡ with_member b c q
  second_added e h = member_is false e false (not_less b.number c.number h)

pub on_ok : {A : Type 0} (r : Result A AllocError) (x a b : Queue) → a ≡ b → OnOk r (x ≡ a) → OnOk r (x ≡ b)
on_ok r x a b e h = subst (λ (y : Queue). OnOk r (x ≡ y)) e h
