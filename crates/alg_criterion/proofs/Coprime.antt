-- Law 2 where the multipliers are the other line's leads, as for coprime leads:  v*n*f - u*m*h = p*h - q*f.
use Rattle.std.specs.Prelude.{◌≡◌, List, [], ◌∷◌, ◌++◌, ℤ, pos, negsuc, ◌+ℤ◌, ◌*ℤ◌}
use Rattle.std.proofs.Common.{refl, sym, ap, subst, ◌∙◌, T, arith}
use Rattle.std.proofs.lemmas.Int.{ints}
use lib.IntN.{neg_ℤ}
use Rattle.std.specs.declared.cmp.Ordering.{Ordering}
use Rattle.std.specs.declared.cmp.Ordering.TheVariants.{Less}
use Rattle.std.specs.Cmp.{IsTotalOrder}
use Rattle.std.specs.FinMap.{IsAntisymmetric}
use Rattle.std.specs.FinMap.Entries.{below_all}
use Rattle.alg_mono.specs.FiniteMaps.{amount, row, products, Each}
use Rattle.alg_mono.specs.Numbers.{integers}
use Rattle.alg_mono.proofs.Canonical.{first, second, less, amount-collect}
use Rattle.alg_mono.proofs.Integers.{neg_ℤ-*ℤ}
use Rattle.alg_mono.proofs.Numbers.{integer_laws}
use Rattle.alg_mono.proofs.Polynomials.{times_poly_comm}
use Rattle.alg_criterion.proofs.Spans.{Every, Led, whole, Summand, summed, Under, IsLine, IsGood, Spans, crossed}
use Rattle.alg_criterion.proofs.Whole.{one_apart}
use Rattle.alg_criterion.proofs.Rows.{at-append, at-row_one}
use Rattle.alg_criterion.proofs.Summing.{scaled, every-append, at-summed-append, at-scaled}

module _ {M : Type 0} where
  -- one summand for each entry of p, all of the line l
  abbrev pub entrywise : List (M × ℤ) → Led M → List (Summand M)
  entrywise [] l = []
  entrywise (e ∷ p) l = record { factor = e.1; by = e.0; line = l } ∷ entrywise p l

  pub summed-entrywise : (times : M → M → M) (p : List (M × ℤ)) (l : Led M) →
      summed times (entrywise p l) ≡ products times ◌*ℤ◌ p (whole l)
  summed-entrywise times [] l = refl
  summed-entrywise times (e ∷ p) l = ap (λ x. row times ◌*ℤ◌ e.0 e.1 (whole l) ++ x) (summed-entrywise times p l)

crossing : (x y p q : ℤ) → x +ℤ p ≡ y +ℤ q → pos 1 *ℤ (y +ℤ neg_ℤ x) ≡ p +ℤ (negsuc 0 *ℤ q)
crossing x y p q e = omega (arith, ints)

module _ {M : Type 0} {cmp : M → M → Ordering} (o : IsTotalOrder cmp) (anti : IsAntisymmetric cmp) (times : M → M →
    M) (times_comm : (m n : M) → times m n ≡ times n m) (times_assoc : (m n k : M) →
    times (times m n) k ≡ times m (times n k))
    (Ok : M → Type 0) (keeps : (m n k : M) → Ok m → Ok n → cmp m n ≡ Less → cmp (times m k) (times n k) ≡ Less)
    (In : Led M → Type 0) (line : (l : Led M) → In l → IsLine cmp times Ok l) where
  good-entrywise : (w m : M) (p : List (M × ℤ)) (l : Led M) → In l → times m l.lead ≡ w → Ok m → Each Ok p →
      T (below_all cmp m p) → Every (IsGood cmp times Ok In (Under cmp times Ok w)) (entrywise p l)
  good-entrywise w m [] l i e hm h b = tt
  good-entrywise w m (x ∷ p) l i e hm h b = (
    record {
      ok = h.0;
      member = i;
      low = subst (λ v. cmp v (times x.0 l.lead) ≡ Less) e
          (keeps m x.0 l.lead hm h.0 (less _ (first _ _ b)));
    },
    good-entrywise w m p l i e hm h.1 (second _ _ b),
  )

  good-scaled : (Low : M → Type 0) (c : ℤ) (ts : List (Summand M)) → Every (IsGood cmp times Ok In Low) ts →
      Every (IsGood cmp times Ok In Low) (scaled c ts)
  good-scaled Low c [] h = tt
  good-scaled Low c (t ∷ ts) h = (record { ok = h.0.ok; member = h.0.member; low = h.0.low }, good-scaled Low c ts h.1)

  pub coprime_below : (f g : Led M) → In f → In g → Spans cmp times Ok In (Under cmp times Ok (times g.lead f.lead))
      (crossed cmp times Ok In f g g.lead f.lead)
  coprime_below f g hf hg =
      let w = times g.lead f.lead in
      let cf = line f hf in
      let cg = line g hg in
      let Low = Under cmp times Ok w in
      let ps = entrywise f.rest g in
      let qs = entrywise g.rest f in
      record {
        multiple = pos 1;
        some = one_apart;
        terms = ps ++ scaled (negsuc 0) qs;
        good = every-append (IsGood cmp times Ok In Low) ps (scaled (negsuc 0) qs)
            (good-entrywise w f.lead f.rest g hg (times_comm f.lead g.lead) (cf.ok.0) (cf.ok.1)
            (first _ _ cf.canonical.rises))
            (good-scaled Low (negsuc 0) qs (good-entrywise w g.lead g.rest f hf refl (cg.ok.0) (cg.ok.1)
            (first _ _ cg.canonical.rises)));
        same = λ q.
            let x = amount cmp integers.amounts q (row times ◌*ℤ◌ f.lead f.leading (whole g)) in
            let y = amount cmp integers.amounts q (row times ◌*ℤ◌ g.lead g.leading (whole f)) in
            let p = amount cmp integers.amounts q (products times ◌*ℤ◌ f.rest (whole g)) in
            let r = amount cmp integers.amounts q (products times ◌*ℤ◌ g.rest (whole f)) in
            let both_ways : x +ℤ p ≡ y +ℤ r =
            sym (at-append cmp q (row times ◌*ℤ◌ f.lead f.leading (whole g)) (products times ◌*ℤ◌ f.rest (whole g)))
            ∙ sym (amount-collect integer_laws.amounts o anti q (products times ◌*ℤ◌ (whole f) (whole g)))
            ∙ ap (amount cmp integers.amounts q) (times_poly_comm integer_laws o anti times times_comm (whole f)
            (whole g))
            ∙ amount-collect integer_laws.amounts o anti q (products times ◌*ℤ◌ (whole g) (whole f))
            ∙ at-append cmp q (row times ◌*ℤ◌ g.lead g.leading (whole f)) (products times ◌*ℤ◌ g.rest (whole f)) in
            let opposite : amount cmp integers.amounts q (row times ◌*ℤ◌ f.lead (neg_ℤ f.leading) (whole g)) ≡ neg_ℤ x =
            at-row_one cmp times q f.lead (neg_ℤ f.leading) (whole g)
            ∙ neg_ℤ-*ℤ f.leading (amount cmp integers.amounts q (row times ◌*ℤ◌ f.lead (pos 1) (whole g)))
            ∙ ap neg_ℤ (sym (at-row_one cmp times q f.lead f.leading (whole g))) in
            ap (λ z. pos 1 *ℤ z) (at-append cmp q (row times ◌*ℤ◌ g.lead g.leading (whole f))
            (row times ◌*ℤ◌ f.lead (neg_ℤ f.leading) (whole g)) ∙ ap (λ z. y +ℤ z) opposite)
            ∙ crossing x y p r both_ways
            ∙ sym (at-summed-append cmp times q ps (scaled (negsuc 0) qs)
            ∙ (λ i. amount cmp integers.amounts q (summed-entrywise times f.rest g i)
            +ℤ (at-scaled cmp times q (negsuc 0) qs ∙ ap (λ z. negsuc 0 *ℤ amount cmp integers.amounts q z)
            (summed-entrywise times g.rest f)) i));
      }
