-- What is still to be shown of a pair or a hypothesis, and how each move leaves it.
use Rattle.std.specs.Prelude.{◌≡◌, List, [], ◌∷◌, ℤ, pos, negsuc, ◌+ℤ◌, ◌*ℤ◌}
use Rattle.std.proofs.Common.{refl, sym, ap, subst, ◌∙◌, ◌⊎◌, inl, inr, arith}
use Rattle.std.proofs.lemmas.Int.{ints}
use lib.IntN.{neg_ℤ}
use Rattle.std.specs.declared.cmp.Ordering.{Ordering}
use Rattle.std.specs.declared.option.Option.{Option}
use Rattle.std.specs.declared.option.Option.TheVariants.{None, Some}
use Rattle.alg_mono.specs.FiniteMaps.{amount, row}
use Rattle.alg_mono.specs.Numbers.{integers}
use Rattle.alg_mono.proofs.Integers.{neg_ℤ-*ℤ}
use Rattle.alg_mono.proofs.Numbers.{*ℤ_comm, *ℤ_assoc}
use Rattle.alg_criterion.proofs.Spans.{Every, Led, whole, Summand, Under, IsLine, IsGood, Spans, crossed, s_entries, lcm_of, LowOf, IsMonomials}
use Rattle.alg_criterion.proofs.Machine.{Has, Seen, IsPoly, IsReduct, AreCoprime}
use Rattle.alg_criterion.proofs.Whole.{one_apart}
use Rattle.alg_criterion.proofs.Rows.{at-append, at-row_one}
use Rattle.alg_criterion.proofs.Summing.{scaled, at-scaled}
use Rattle.alg_criterion.proofs.Coprime.{coprime_below}
use Rattle.alg_criterion.proofs.Remains.{val, poly_line, before_lead, Above, IsCut, under_cut, upto_cut, Leaves, every-scaled, leaves_reduct, leaves_zero, leaves_line, left_low, s_above}
use Rattle.alg_criterion.proofs.Sums.{Any}
use Rattle.alg_criterion.proofs.Pairwise.{some_same, none_some}

module _ {M : Type 0} {cmp : M → M → Ordering} {times over : M → M → M} {one : M} {Ok : M → Type 0}
    (L : IsMonomials cmp times over one Ok) where
  abbrev pub Poly : Type 0
  Poly = List (M × ℤ)

  abbrev pub Cleared : (Led M → Type 0) → Option Poly → (M → Type 0) → Poly → Type 0
  Cleared In cur Low p = Spans cmp times Ok In Low p ⊎ ((c : Poly) × (cur ≡ Some c) × Leaves L In Low p c)

  -- ---- more basis lines
  pub good_more : (In In2 : Led M → Type 0) → ((l : Led M) → In l → In2 l) →
      (Low : M → Type 0) (ts : List (Summand M)) → Every (IsGood cmp times Ok In Low) ts →
      Every (IsGood cmp times Ok In2 Low) ts
  good_more In In2 f Low [] g = tt
  good_more In In2 f Low (t ∷ ts) g = (
    record { ok = g.0.ok; member = f t.line g.0.member; low = g.0.low },
    good_more In In2 f Low ts g.1,
  )

  pub spans_more : (In In2 : Led M → Type 0) → ((l : Led M) → In l → In2 l) → (Low : M → Type 0) (p : Poly) →
      Spans cmp times Ok In Low p → Spans cmp times Ok In2 Low p
  spans_more In In2 f Low p s = record {
    multiple = s.multiple;
    some = s.some;
    terms = s.terms;
    good =
        good_more In In2 f Low s.terms s.good;
    same = s.same;
  }

  pub leaves_more : (In In2 : Led M → Type 0) → ((l : Led M) → In l → In2 l) → (Low : M → Type 0) (p c : Poly) →
      Leaves L In Low p c → Leaves L In2 Low p c
  leaves_more In In2 f Low p c s = record {
    multiple = s.multiple;
    some = s.some;
    share = s.share;
    share_some =
        s.share_some;
    terms = s.terms;
    good = good_more In In2 f Low s.terms s.good;
    same = s.same;
  }

  -- ---- a task: a polynomial to be a sum of products in Low, outside of which it is zero
  pub record IsTask (Low : M → Type 0) (p : Poly) : Type 0 where
    pub cut : IsCut L Low
    pub zero : (q : M) → Above L Low q → val L q p ≡ pos 0

  pub hyp_task : (h : Poly) → IsPoly cmp times over Ok h → IsTask (LowOf cmp h) h
  hyp_task [] i = record { cut = λ q. inr (λ v a. absurd a); zero = λ q a. refl }
  hyp_task (e ∷ p) i =
      let l : Led M = record { lead = e.0; leading = e.1; rest = p } in
      record { cut = upto_cut L e.0; zero = λ q a. before_lead L l (poly_line L l i) q (a e.0 (inr refl)) }

  module _ (In : Led M → Type 0) (line : (l : Led M) → In l → IsLine cmp times Ok l) (Low : M → Type 0) (p : Poly)
      (task : IsTask Low p) where
    pub cleared_drop : (cur : Option Poly) → cur ≡ Some [] → Cleared In cur Low p → Cleared In None Low p
    cleared_drop cur e (inl s) = inl s
    cleared_drop cur e (inr x) = inl (leaves_zero L In Low p
        (subst (λ c. Leaves L In Low p c) (sym (some_same [] x.0 (sym e ∙ x.1))) x.2))

    pub cleared_reduct : (cur : Option Poly) (old new : Poly) → cur ≡ Some old → IsPoly cmp times over Ok old →
        (l : Led M) → In l → IsReduct cmp times over Ok old l new → Cleared In cur Low p → Cleared In (Some new) Low p
    cleared_reduct cur old new e i l m r (inl s) = inl s
    cleared_reduct cur old new e i l m r (inr x) =
        let s : Leaves L In Low p old = subst (λ c. Leaves L In Low p c) (sym (some_same old x.0 (sym e ∙ x.1))) x.2 in
        let low : Low r.led.lead = left_low L In line Low task.cut p task.zero r.led
        (poly_line L r.led (subst (IsPoly cmp times over Ok) r.old_is i))
        (subst (λ c. Leaves L In Low p c) r.old_is s) in
        inr (new, refl, leaves_reduct L In Low p old new l m r (subst Low (sym r.divides) low) s)

    pub cleared_idle : (cur : Option Poly) → cur ≡ None → Cleared In cur Low p → Spans cmp times Ok In Low p
    cleared_idle cur e (inl s) = s
    cleared_idle cur e (inr x) = none_some x.0 (sym e ∙ x.1)

    pub cleared_join : (cur : Option Poly) (l : Led M) → cur ≡ Some (whole l) → IsLine cmp times Ok l →
        (In2 : Led M → Type 0) → ((k : Led M) → In k → In2 k) → In2 l → Cleared In cur Low p → Cleared In2 None Low p
    cleared_join cur l e i In2 f m (inl s) = inl (spans_more In In2 f Low p s)
    cleared_join cur l e i In2 f m (inr x) =
        let s : Leaves L In Low p (whole l) = subst (λ c. Leaves L In Low p c)
        (sym (some_same (whole l) x.0 (sym e ∙ x.1))) x.2 in
        inl (leaves_line L In2 Low p l m i (left_low L In line Low task.cut p task.zero l i s)
        (leaves_more In In2 f Low p (whole l) s))

  -- ---- pairs
  abbrev pub s_of : Led M → Led M → Poly
  s_of f g = s_entries cmp times Ok Any over f g

  abbrev pub w_of : Led M → Led M → M
  w_of f g = lcm_of cmp times Ok Any over f g

  pub pair_task : (f g : Led M) → IsLine cmp times Ok f → IsLine cmp times Ok g →
      IsTask (Under cmp times Ok (w_of f g)) (s_of f g)
  pair_task f g hf hg = record { cut = under_cut L (w_of f g); zero = s_above L Any f g hf hg }

  pub spans_self : (In : Led M → Type 0) (Low : M → Type 0) (l : Led M) → Spans cmp times Ok In Low (s_of l l)
  spans_self In Low l = record {
    multiple = pos 1;
    some = one_apart;
    terms = [];
    good = tt;
    same = λ q.
        let m = over l.lead l.lead in
        let x = amount cmp integers.amounts q (row times ◌*ℤ◌ m (pos 1) (whole l)) in
        ap (λ z. pos 1 *ℤ z) (at-append cmp q (row times ◌*ℤ◌ m l.leading (whole l))
        (row times ◌*ℤ◌ m (neg_ℤ l.leading) (whole l))
        ∙ (λ i. at-row_one cmp times q m l.leading (whole l) i +ℤ
        (at-row_one cmp times q m (neg_ℤ l.leading) (whole l) ∙ neg_ℤ-*ℤ l.leading x) i) ∙ gone (l.leading *ℤ x));
  }
    where
      gone : (z : ℤ) → z +ℤ neg_ℤ z ≡ pos 0
      gone z = omega (arith, ints)

  -- the two orders of a pair
  pub spans_swap : (In : Led M → Type 0) (f g : Led M) → IsLine cmp times Ok f → IsLine cmp times Ok g →
      Spans cmp times Ok In (Under cmp times Ok (w_of g f)) (s_of g f) →
      Spans cmp times Ok In (Under cmp times Ok (w_of f g)) (s_of f g)
  spans_swap In f g hf hg s = record {
    multiple = s.multiple;
    some = s.some;
    terms = scaled (negsuc 0) s.terms;
    good = subst (λ w. Every (IsGood cmp times Ok In (Under cmp times Ok w)) (scaled (negsuc 0) s.terms))
        (sym (L.lcm_both f.lead g.lead (hf.ok.0) (hg.ok.0))) (every-scaled L In (Under cmp times Ok (w_of g f))
        (negsuc 0) s.terms s.good);
    same = λ q.
        let m = over g.lead f.lead in
        let n = over f.lead g.lead in
        let x = amount cmp integers.amounts q (row times ◌*ℤ◌ m (pos 1) (whole f)) in
        let y = amount cmp integers.amounts q (row times ◌*ℤ◌ n (pos 1) (whole g)) in
        ap (λ z. s.multiple *ℤ z) (at-append cmp q (row times ◌*ℤ◌ m g.leading (whole f))
        (row times ◌*ℤ◌ n (neg_ℤ f.leading) (whole g))
        ∙ (λ i. at-row_one cmp times q m g.leading (whole f) i +ℤ
        (at-row_one cmp times q n (neg_ℤ f.leading) (whole g) ∙ neg_ℤ-*ℤ f.leading y) i)
        ∙ turned (g.leading *ℤ x) (f.leading *ℤ y)
        ∙ ap (λ z. negsuc 0 *ℤ z) (sym (at-append cmp q (row times ◌*ℤ◌ n f.leading (whole g))
        (row times ◌*ℤ◌ m (neg_ℤ g.leading) (whole f))
        ∙ (λ i. at-row_one cmp times q n f.leading (whole g) i +ℤ
        (at-row_one cmp times q m (neg_ℤ g.leading) (whole f) ∙ neg_ℤ-*ℤ g.leading x) i))))
        ∙ out s.multiple (amount cmp integers.amounts q (s_of g f)) ∙ ap (λ z. negsuc 0 *ℤ z) (s.same q)
        ∙ sym (at-scaled cmp times q (negsuc 0) s.terms);
  }
    where
      turned : (a b : ℤ) → a +ℤ neg_ℤ b ≡ negsuc 0 *ℤ (b +ℤ neg_ℤ a)
      turned a b = omega (arith, ints)

      out : (e z : ℤ) → e *ℤ (negsuc 0 *ℤ z) ≡ negsuc 0 *ℤ (e *ℤ z)
      out e z = sym (*ℤ_assoc e (negsuc 0) z) ∙ ap (λ x. x *ℤ z) (*ℤ_comm e (negsuc 0)) ∙ *ℤ_assoc (negsuc 0) e z

  pub coprime_spans : (In : Led M → Type 0) → ((l : Led M) → In l → IsLine cmp times Ok l) → (f g : Led M) → In f →
      In g → AreCoprime cmp times over Ok f.lead g.lead → Spans cmp times Ok In (Under cmp times Ok (w_of f g))
      (s_of f g)
  coprime_spans In line f g hf hg c =
      subst (λ x. Spans cmp times Ok In (Under cmp times Ok (times x f.lead))
      (crossed cmp times Ok In f g x (over f.lead g.lead))) (sym c.1)
      (subst (λ x. Spans cmp times Ok In (Under cmp times Ok (times g.lead f.lead))
      (crossed cmp times Ok In f g g.lead x)) (sym c.0)
      (coprime_below L.total L.anti times L.comm L.assoc Ok L.keeps In line f g hf hg))

  abbrev pub In : Seen M → Led M → Type 0
  In s l = Has l s.basis

  abbrev pub Half : Seen M → Led M → Led M → Type 0
  Half s f g = Has (f, g) s.pairs ⊎ Cleared (In s) s.current (Under cmp times Ok (w_of f g)) (s_of f g)
