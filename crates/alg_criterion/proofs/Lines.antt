-- Law 1's first half: each line, times a nonzero integer, is a combination of the hypotheses.
use Rattle.std.specs.Prelude.{◌≡◌, ◌≢◌, List, [], ◌∷◌, ◌++◌, ℤ, pos, ◌*ℤ◌}
use Rattle.std.proofs.Common.{sym, ap, subst, ◌∙◌, inl, inr}
use lib.IntN.{neg_ℤ}
use Rattle.std.specs.declared.cmp.Ordering.{Ordering}
use Rattle.std.specs.declared.option.Option.TheVariants.{Some}
use Rattle.alg_mono.specs.FiniteMaps.{amount, row}
use Rattle.alg_mono.specs.Numbers.{integers}
use Rattle.alg_mono.proofs.Numbers.{*ℤ_assoc}
use Rattle.alg_criterion.proofs.Spans.{Every, Led, whole, IsLine, Spans, IsMonomials}
use Rattle.alg_criterion.proofs.Machine.{Has, Seen, scale, IsPoly, Reached, start, steps, drops, reduces, joins, takes, pairs_up}
use Rattle.alg_criterion.proofs.Whole.{product_apart, mul_left}
use Rattle.alg_criterion.proofs.Summing.{scaled, at-scaled, every-append}
use Rattle.alg_criterion.proofs.Lifts.{at-scale}
use Rattle.alg_criterion.proofs.Remains.{poly_line, every-scaled, leaves_start, leaves_line}
use Rattle.alg_criterion.proofs.Sums.{Any, sum_nil, sum-append, sum-row}
use Rattle.alg_criterion.proofs.Pairwise.{some_same, none_some, every_has}
use Rattle.alg_criterion.proofs.Invariant.{inv}

module _ {M : Type 0} {cmp : M → M → Ordering} {times over : M → M → M} {one : M} {Ok : M → Type 0}
    (L : IsMonomials cmp times over one Ok) (hyps powers : List (List (M × ℤ)))
    (hyps_ok : Every (IsPoly cmp times over Ok) hyps) (powers_ok : Every (IsPoly cmp times over Ok) powers) where
  abbrev IsGiven : Led M → Type 0
  IsGiven l = Has (whole l) hyps

  abbrev Sum : List (M × ℤ) → Type 0
  Sum p = Spans cmp times Ok IsGiven Any p

  given_poly : (hs : List (List (M × ℤ))) → Every (IsPoly cmp times over Ok) hs → (h : List (M × ℤ)) → Has h hs →
      IsPoly cmp times over Ok h
  given_poly [] i h m = absurd m
  given_poly (x ∷ hs) i h (inl e) = subst (IsPoly cmp times over Ok) (sym e) i.0
  given_poly (x ∷ hs) i h (inr m) = given_poly hs i.1 h m

  line : (l : Led M) → IsGiven l → IsLine cmp times Ok l
  line l m = poly_line L l (given_poly hyps hyps_ok (whole l) m)

  pub sum_given : (h : List (M × ℤ)) → Has h hyps → Sum h
  sum_given [] m = sum_nil L IsGiven line
  sum_given (e ∷ p) m =
      let l : Led M = record { lead = e.0; leading = e.1; rest = p } in
      leaves_line L IsGiven Any (e ∷ p) l m (line l m) tt (leaves_start L IsGiven Any (e ∷ p))

  sum_scale : (c : ℤ) (p : List (M × ℤ)) → Sum p → Sum (scale c p)
  sum_scale c p s = record {
    multiple = s.multiple;
    some = s.some;
    terms = scaled c s.terms;
    good = every-scaled L IsGiven Any c s.terms s.good;
    same = λ q. ap (λ z. s.multiple *ℤ z) (at-scale cmp q c p)
        ∙ mul_left s.multiple c (amount cmp integers.amounts q p) ∙ ap (λ z. c *ℤ z) (s.same q)
        ∙ sym (at-scaled cmp times q c s.terms);
  }

  sum_divided : (d : ℤ) → d ≢ pos 0 → (p new : List (M × ℤ)) →
      ((q : M) → d *ℤ amount cmp integers.amounts q new ≡ amount cmp integers.amounts q p) → Sum p → Sum new
  sum_divided d n p new e s = record {
    multiple = s.multiple *ℤ d;
    some = product_apart s.multiple d s.some n;
    terms = s.terms;
    good = s.good;
    same = λ q. *ℤ_assoc s.multiple d (amount cmp integers.amounts q new) ∙ ap (λ z. s.multiple *ℤ z) (e q) ∙ s.same q;
  }

  record Made (s : Seen M) : Type 0 where
    made : Every Sum s.made
    basis : (l : Led M) → Has l s.basis → Sum (whole l)
    current : (c : List (M × ℤ)) → s.current ≡ Some c → Sum c
    inputs : Every (λ h. Has h hyps) s.inputs

  made_sums : (s : Seen M) → Reached cmp times over Ok hyps powers s → Made s
  made_sums t start = record {
    made = tt;
    basis = λ l h. absurd h;
    current = λ c e. none_some c e;
    inputs =
        every_has hyps;
  }
  made_sums t (steps s r new h) = let m = made_sums s r in
      record { made = m.made; basis = m.basis; current = m.current; inputs = m.inputs }
  made_sums t (drops s r e) = let m = made_sums s r in record {
    made = m.made;
    basis = m.basis;
    current =
        λ c e. none_some c e;
    inputs = m.inputs;
  }
  made_sums t (reduces s r old new e l h d) =
      let m = made_sums s r in
      let sum : Sum new = sum_divided d.d d.d_some (scale d.a old ++ row times ◌*ℤ◌ d.by (neg_ℤ d.b) (whole l))
      new d.same
      (sum-append L IsGiven line (scale d.a old) (row times ◌*ℤ◌ d.by (neg_ℤ d.b) (whole l))
      (sum_scale d.a old (m.current old e)) (sum-row L IsGiven line d.by (neg_ℤ d.b) (whole l) d.ok
      (m.basis l h))) in
      record {
        made = every-append Sum s.made (new ∷ []) m.made (sum, tt);
        basis = m.basis;
        current =
            λ c k. subst Sum (some_same new c k) sum;
        inputs = m.inputs;
      }
  made_sums t (joins s r l e wider l_in grows split more k meets) =
      let m = made_sums s r in
      record {
        made = m.made;
        basis = λ x h. elim (split x h) [
          | inl p ↦
              subst (λ v. Sum (whole v)) (sym p) (m.current (whole l) e)
          | inr h ↦ m.basis x h
        ];
        current =
            λ c e. none_some c e;
        inputs = m.inputs;
      }
  made_sums t (takes s r e h rest k) =
      let m = made_sums s r in
      let all : Every (λ h. Has h hyps) (h ∷ rest) = subst (Every (λ h. Has h hyps)) k m.inputs in
      record {
        made = m.made;
        basis = m.basis;
        current = λ c k. subst Sum (some_same h c k) (sum_given h all.0);
        inputs = all.1;
      }
  made_sums t (pairs_up s r e f g hf hg rest k new d) =
      let m = made_sums s r in
      let i = inv L hyps powers hyps_ok powers_ok s r in
      let of = (i.line f hf).ok.0 in
      let og = (i.line g hg).ok.0 in
      let a = over g.lead f.lead in
      let b = over f.lead g.lead in
      let sum : Sum new = sum_divided d.d d.d_some (row times ◌*ℤ◌ a d.a (whole f)
      ++ row times ◌*ℤ◌ b (neg_ℤ d.b) (whole g)) new d.same
      (sum-append L IsGiven line (row times ◌*ℤ◌ a d.a (whole f)) (row times ◌*ℤ◌ b (neg_ℤ d.b) (whole g))
      (sum-row L IsGiven line a d.a (whole f) (L.ok_over g.lead f.lead og of) (m.basis f hf))
      (sum-row L IsGiven line b (neg_ℤ d.b) (whole g) (L.ok_over f.lead g.lead of og) (m.basis g hg))) in
      record {
        made = every-append Sum s.made (new ∷ []) m.made (sum, tt);
        basis = m.basis;
        current =
            λ c k. subst Sum (some_same new c k) sum;
        inputs = m.inputs;
      }

  pub all_made : (s : Seen M) → Reached cmp times over Ok hyps powers s → Every Sum s.made
  all_made s r = (made_sums s r).made

  pub made_polys : (s : Seen M) → Reached cmp times over Ok hyps powers s → Every (IsPoly cmp times over Ok) s.made
  made_polys t start = tt
  made_polys t (steps s r new h) = made_polys s r
  made_polys t (drops s r e) = made_polys s r
  made_polys t (reduces s r old new e l h d) =
      every-append (IsPoly cmp times over Ok) s.made (new ∷ []) (made_polys s r) (d.poly, tt)
  made_polys t (joins s r l e wider l_in grows split more k meets) = made_polys s r
  made_polys t (takes s r e h rest k) = made_polys s r
  made_polys t (pairs_up s r e f g hf hg rest k new d) =
      every-append (IsPoly cmp times over Ok) s.made (new ∷ []) (made_polys s r) (d.poly, tt)
