-- Sums, multiples and products of polynomials that are sums of basis lines are such sums.
use Rattle.std.specs.Prelude.{◌≡◌, List, [], ◌∷◌, ◌++◌, ℤ, pos, ◌+ℤ◌, ◌*ℤ◌}
use Rattle.std.proofs.Common.{refl, sym, ap, ◌∙◌, arith}
use Rattle.std.proofs.lemmas.Int.{ints}
use lib.IntN.{neg_ℤ}
use Rattle.std.specs.declared.cmp.Ordering.{Ordering}
use Rattle.alg_mono.specs.FiniteMaps.{amount, row, products, Each}
use Rattle.alg_mono.specs.Numbers.{integers}
use Rattle.alg_mono.proofs.Integers.{neg_ℤ-*ℤ}
use Rattle.alg_mono.proofs.Numbers.{*ℤ_assoc, *ℤ_dist}
use Rattle.alg_criterion.proofs.Spans.{Every, Led, Summand, summed, IsLine, IsGood, Spans, IsMonomials}
use Rattle.alg_criterion.proofs.Machine.{combined, IsCombination}
use Rattle.alg_criterion.proofs.Whole.{ring, product_apart, one_apart, mul_left}
use Rattle.alg_criterion.proofs.Rows.{at-append, at-row_one}
use Rattle.alg_criterion.proofs.Summing.{scaled, every-append, at-summed-append, at-scaled}
use Rattle.alg_criterion.proofs.Lifts.{lifted, row_same}
use Rattle.alg_criterion.proofs.Remains.{Leaves, every-scaled}

abbrev pub Any : {M : Type 0} → M → Type 0
Any v = Unit {0}

sum_of_two : (e f p r t u : ℤ) → e *ℤ p ≡ t → f *ℤ r ≡ u → (e *ℤ f) *ℤ (p +ℤ r) ≡ (f *ℤ t) +ℤ (e *ℤ u)
sum_of_two e f p r t u h k = split e f p r ∙ (λ i. (f *ℤ h i) +ℤ (e *ℤ k i))
  where
    split : (e f p r : ℤ) → (e *ℤ f) *ℤ (p +ℤ r) ≡ (f *ℤ (e *ℤ p)) +ℤ (e *ℤ (f *ℤ r))
    split e f p r = simp ring

solved : (k p s g t c x e u : ℤ) → k *ℤ p ≡ (s *ℤ g) +ℤ t → c *ℤ p ≡ x → e *ℤ x ≡ u →
    ((e *ℤ c) *ℤ s) *ℤ g ≡ (k *ℤ u) +ℤ (neg_ℤ (e *ℤ c) *ℤ t)
solved k p s g t c x e u h j l =
    *ℤ_assoc (e *ℤ c) s g ∙ there ((e *ℤ c) *ℤ (s *ℤ g)) ((e *ℤ c) *ℤ t)
    ∙ (λ i. (sym (*ℤ_dist (e *ℤ c) (s *ℤ g) t) ∙ ap (λ z. (e *ℤ c) *ℤ z) (sym h) ∙ turn e c k p
    ∙ ap (λ z. k *ℤ z) (ap (λ z. e *ℤ z) j ∙ l)) i +ℤ sym (neg_ℤ-*ℤ (e *ℤ c) t) i)
  where
    there : (a b : ℤ) → a ≡ (a +ℤ b) +ℤ neg_ℤ b
    there a b = omega (arith, ints)

    turn : (e c k p : ℤ) → (e *ℤ c) *ℤ (k *ℤ p) ≡ k *ℤ (e *ℤ (c *ℤ p))
    turn e c k p = simp ring

module _ {M : Type 0} {cmp : M → M → Ordering} {times over : M → M → M} {one : M} {Ok : M → Type 0}
    (L : IsMonomials cmp times over one Ok) (In : Led M → Type 0) (line : (l : Led M) → In l →
    IsLine cmp times Ok l) where
  abbrev Sum : List (M × ℤ) → Type 0
  Sum p = Spans cmp times Ok In Any p

  abbrev Good : Summand M → Type 0
  Good t = IsGood cmp times Ok In Any t

  pub sum_nil : Sum []
  sum_nil = record { multiple = pos 1; some = one_apart; terms = []; good = tt; same = λ q. refl }

  pub sum-append : (p r : List (M × ℤ)) → Sum p → Sum r → Sum (p ++ r)
  sum-append p r s t = record {
    multiple = s.multiple *ℤ t.multiple;
    some = product_apart s.multiple t.multiple s.some t.some;
    terms = scaled t.multiple s.terms ++ scaled s.multiple t.terms;
    good = every-append Good (scaled t.multiple s.terms) (scaled s.multiple t.terms)
        (every-scaled L In Any t.multiple s.terms s.good) (every-scaled L In Any s.multiple t.terms t.good);
    same = λ q. ap (λ z. (s.multiple *ℤ t.multiple) *ℤ z) (at-append cmp q p r)
        ∙ sum_of_two s.multiple t.multiple (amount cmp integers.amounts q p) (amount cmp integers.amounts q r)
        (amount cmp integers.amounts q (summed times s.terms)) (amount cmp integers.amounts q
        (summed times t.terms)) (s.same q) (t.same q)
        ∙ sym (at-summed-append cmp times q (scaled t.multiple s.terms) (scaled s.multiple t.terms)
        ∙ (λ i. at-scaled cmp times q t.multiple s.terms i +ℤ at-scaled cmp times q s.multiple t.terms i));
  }

  good-lifted : (u : M) → Ok u → (ts : List (Summand M)) → Every Good ts → Every Good (lifted times u ts)
  good-lifted u h [] g = tt
  good-lifted u h (t ∷ ts) g = (
    record { ok = L.ok_times u t.by h g.0.ok; member = g.0.member; low = tt },
    good-lifted u h ts g.1,
  )

  pub sum-row : (m : M) (c : ℤ) (p : List (M × ℤ)) → Ok m → Sum p → Sum (row times ◌*ℤ◌ m c p)
  sum-row m c p h s = record {
    multiple = s.multiple;
    some = s.some;
    terms = scaled c (lifted times m s.terms);
    good = every-scaled L In Any c (lifted times m s.terms) (good-lifted m h s.terms s.good);
    same = λ q. ap (λ z. s.multiple *ℤ z) (at-row_one cmp times q m c p)
        ∙ mul_left s.multiple c (amount cmp integers.amounts q (row times ◌*ℤ◌ m (pos 1) p))
        ∙ ap (λ z. c *ℤ z) (row_same L.total L.anti times L.comm L.assoc Ok L.keeps L.ok_times In line Any m p s q)
        ∙ sym (at-scaled cmp times q c (lifted times m s.terms));
  }

  pub sum-pairs : (f h : List (M × ℤ)) → Each Ok f → Sum h → Sum (products times ◌*ℤ◌ f h)
  sum-pairs [] h o s = sum_nil
  sum-pairs (e ∷ f) h o s = sum-append (row times ◌*ℤ◌ e.0 e.1 h) (products times ◌*ℤ◌ f h)
      (sum-row e.0 e.1 h o.0 s) (sum-pairs f h o.1 s)

  pub sum-combined : (fs hs : List (List (M × ℤ))) → Every (Each Ok) fs → Every Sum hs →
      Sum (combined cmp times over Ok fs hs)
  sum-combined [] hs o s = sum_nil
  sum-combined (f ∷ fs) [] o s = sum_nil
  sum-combined (f ∷ fs) (h ∷ hs) o s = sum-append (products times ◌*ℤ◌ f h) (combined cmp times over Ok fs hs)
      (sum-pairs f h o.0 s.0) (sum-combined fs hs o.1 s.1)

  -- where a multiple of p is a combination of the hypotheses, what is left of p is one of basis lines
  pub left_of_combination : (hs : List (List (M × ℤ))) (p g : List (M × ℤ)) → Every Sum hs →
      IsCombination cmp times over Ok hs p → Leaves L In Any p g → Sum g
  left_of_combination hs p g all c s =
      let u = sum-combined c.factors hs c.ok all in
      record {
        multiple = (u.multiple *ℤ c.multiple) *ℤ s.share;
        some = product_apart (u.multiple *ℤ c.multiple) s.share (product_apart u.multiple c.multiple u.some c.some)
            s.share_some;
        terms = scaled s.multiple u.terms ++ scaled (neg_ℤ (u.multiple *ℤ c.multiple)) s.terms;
        good = every-append Good (scaled s.multiple u.terms) (scaled (neg_ℤ (u.multiple *ℤ c.multiple)) s.terms)
            (every-scaled L In Any s.multiple u.terms u.good) (every-scaled L In Any
            (neg_ℤ (u.multiple *ℤ c.multiple)) s.terms s.good);
        same = λ q.
            solved s.multiple (amount cmp integers.amounts q p) s.share (amount cmp integers.amounts q g)
            (amount cmp integers.amounts q (summed times s.terms)) c.multiple
            (amount cmp integers.amounts q (combined cmp times over Ok c.factors hs)) u.multiple
            (amount cmp integers.amounts q (summed times u.terms)) (s.same q) (c.same q) (u.same q)
            ∙ sym (at-summed-append cmp times q (scaled s.multiple u.terms)
            (scaled (neg_ℤ (u.multiple *ℤ c.multiple)) s.terms) ∙ (λ i. at-scaled cmp times q s.multiple u.terms
            i +ℤ at-scaled cmp times q (neg_ℤ (u.multiple *ℤ c.multiple)) s.terms i));
      }
