-- All atoms of a term's fraction are of the term's sort.
use Rattle.std.specs.Prelude.{ℕ, Bool, true, false, [], ◌∷◌, ◌++◌}
use Rattle.std.proofs.Common.{subst}
use Rattle.alg_terms.specs.declared.term.Term.{Term, more_of-Term, Var, Int, Neg', Add', Sub', Mul', Div', Pow', Hom'}
use Rattle.alg_terms.specs.declared.file.File.{File}
use Rattle.alg_terms.specs.Members.{source_of, target_of}
use Rattle.alg_terms.specs.Nodes.{fold_term}
use Rattle.alg_mono.specs.FiniteMaps.{renamed, Each}
use Rattle.alg_mono.specs.Numbers.{exponents, integers}
use Rattle.alg_mono.specs.Monomials.{lowered, scaled}
use Rattle.alg_mono.specs.Polynomials.{poly_neg, poly_power}
use Rattle.alg_mono.proofs.Each.{Each-collect, Each-append, Each-renamed}
use Rattle.alg_mono.proofs.Lcm.{Each-lowered, Each-scaled}
use Rattle.alg_meaning.specs.Atoms.{Polynomial, falling, times, times_poly, one_poly, poly_under}
use Rattle.alg_meaning.specs.Factors.{Factors, poly_cmp, product, lacks, common}
use Rattle.alg_meaning.specs.Fractions.{Fraction, frac, is_unit, quotient}
use Rattle.alg_meaning.proofs.Typed.{IsTyped}
use Rattle.alg_meaning.proofs.AtomSorts.{IsPolyOf, neg_of, plus_of, product_of, power_of, under_of, typed_poly}

-- ---- all polynomials of a fraction are of the term's sort
module _ (file : File) where
  abbrev pub Of : ℕ → Polynomial → Type 0
  Of s p = IsPolyOf file s p

  one_of : (s : ℕ) → Of s one_poly
  one_of s = (tt, tt)

  all_product : (s : ℕ) (m : Factors) → Each (Of s) m → Of s (product m)
  all_product s [] h = one_of s
  all_product s (e ∷ m) h =
      product_of file s (poly_power falling integers [] times e.0 e.1) (product m) (power_of file s e.0 e.1 h.0)
      (all_product s m h.1)

  pub record IsFractionOf (s : ℕ) (a : Fraction) : Type 0 where
    pub top : IsPolyOf file s a.top
    pub below : Each (Of s) a.below

  all_lacks : (s : ℕ) (a b : Factors) → Each (Of s) b → Each (Of s) (lacks a b)
  all_lacks s a b h = Each-collect poly_cmp exponents (Of s) (lowered poly_cmp a b) (Each-lowered poly_cmp (Of s) a b h)

  over_of : (s : ℕ) (a b : Fraction) → IsFractionOf s a → IsFractionOf s b →
      Of s (times_poly a.top (product (lacks a.below b.below)))
  over_of s a b h g =
      product_of file s a.top (product (lacks a.below b.below)) h.top
      (all_product s (lacks a.below b.below) (all_lacks s a.below b.below g.below))

  greater_of : (s : ℕ) (a b : Fraction) → IsFractionOf s a → IsFractionOf s b → Each (Of s) (common a.below b.below)
  greater_of s a b h g =
      Each-collect poly_cmp exponents (Of s) (a.below ++ lacks a.below b.below)
      (Each-append (Of s) a.below (lacks a.below b.below) h.below (all_lacks s a.below b.below g.below))

  quotient_of : (s : ℕ) (a b : Fraction) (c : Bool) → IsFractionOf s a → IsFractionOf s b →
      IsFractionOf s (quotient c a b)
  quotient_of s a b true h g = record {
    top =
        product_of file s (times_poly a.top (product b.below)) b.top
        (product_of file s a.top (product b.below) h.top (all_product s b.below g.below)) g.top;
    below = h.below;
  }
  quotient_of s a b false h g = record {
    top = product_of file s a.top (product b.below) h.top (all_product s b.below g.below);
    below =
        Each-collect poly_cmp exponents (Of s) (a.below ++ (b.top, 1) ∷ [])
        (Each-append (Of s) a.below ((b.top, 1) ∷ []) h.below (g.top, tt));
  }

  pub typed_frac : (s : ℕ) (t : Term) → IsTyped file s t → IsFractionOf s (frac t)
  unfolding fold_term
  typed_frac s (Var k) h = record { top = typed_poly file s (Var k) h; below = tt }
  typed_frac s (Int n) h = record { top = typed_poly file s (Int n) h; below = tt }
  typed_frac s (Neg' p (more_of-Term t r)) h =
      let a = typed_frac s t h in record { top = neg_of file s (frac t).top a.top; below = a.below }
  typed_frac s (Add' p (more_of-Term t r) p' (more_of-Term t' r')) h =
      let a = typed_frac s t h.0 in
      let b = typed_frac s t' h.1 in
      record {
        top =
            plus_of file s (times_poly (frac t).top (product (lacks (frac t).below (frac t').below)))
            (times_poly (frac t').top (product (lacks (frac t').below (frac t).below)))
            (over_of s (frac t) (frac t') a b) (over_of s (frac t') (frac t) b a);
        below = greater_of s (frac t) (frac t') a b;
      }
  typed_frac s (Sub' p (more_of-Term t r) p' (more_of-Term t' r')) h =
      let a = typed_frac s t h.0 in
      let b = typed_frac s t' h.1 in
      let q = times_poly (frac t').top (product (lacks (frac t').below (frac t).below)) in
      record {
        top =
            plus_of file s (times_poly (frac t).top (product (lacks (frac t).below (frac t').below))) (poly_neg q)
            (over_of s (frac t) (frac t') a b) (neg_of file s q (over_of s (frac t') (frac t) b a));
        below = greater_of s (frac t) (frac t') a b;
      }
  typed_frac s (Mul' p (more_of-Term t r) p' (more_of-Term t' r')) h =
      let a = typed_frac s t h.0 in
      let b = typed_frac s t' h.1 in
      record {
        top = product_of file s (frac t).top (frac t').top a.top b.top;
        below =
            Each-collect poly_cmp exponents (Of s) ((frac t).below ++ (frac t').below)
            (Each-append (Of s) (frac t).below (frac t').below a.below b.below);
      }
  typed_frac s (Div' p (more_of-Term t r) p' (more_of-Term t' r')) h =
      quotient_of s (frac t) (frac t') (is_unit (frac t').top) (typed_frac s t h.0) (typed_frac s t' h.1)
  typed_frac s (Pow' p (more_of-Term t r) n) h =
      let a = typed_frac s t h in
      record {
        top = power_of file s (frac t).top n a.top;
        below =
            Each-collect poly_cmp exponents (Of s) (scaled n (frac t).below)
            (Each-scaled (Of s) n (frac t).below a.below);
      }
  typed_frac s (Hom' f p (more_of-Term t r)) h =
      let from = (source_of file f) in
      let a = typed_frac from t h.2 in
      subst (λ w. IsFractionOf w (frac (Hom' f p (more_of-Term t r)))) h.1 (record {
        top = under_of file f h.0 (frac t).top a.top;
        below = Each-collect poly_cmp exponents (Of (target_of file f)) (renamed (poly_under f) (frac t).below)
            (Each-renamed (poly_under f) (Of from) (Of (target_of file f)) (λ q g. under_of file f h.0 q g)
            (frac t).below a.below);
      })
