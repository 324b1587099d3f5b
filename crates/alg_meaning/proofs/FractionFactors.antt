-- No factor of a fraction is zero where no denominator is.
use Rattle.std.specs.Prelude.{◌≡◌, ◌≢◌, ◌<◌, ℕ, zero, suc, Bool, true, false, List, [], ◌∷◌, ◌++◌, length}
use Rattle.std.proofs.Common.{sym, ap, subst, ◌∙◌, inl, inr}
use Rattle.alg_terms.specs.declared.term.Term.{Term, more_of-Term, Var, Int, Neg', Add', Sub', Mul', Div', Pow', Hom'}
use Rattle.alg_terms.specs.declared.file.File.{File}
use Rattle.alg_terms.specs.Kinds.{IsField, IsDomain}
use Rattle.alg_terms.specs.Members.{source_of, target_of}
use Rattle.alg_terms.specs.Nodes.{fold_term}
use Rattle.alg_universe.specs.declared.universe.Universe.{Ghosts}
use Rattle.alg_universe.specs.Value.{Fits, AreValues}
use Rattle.alg_mono.specs.FiniteMaps.{collect, renamed, Each}
use Rattle.alg_mono.specs.Numbers.{exponents}
use Rattle.alg_mono.specs.Monomials.{lowered, scaled}
use Rattle.alg_mono.proofs.Each.{Each-collect, Each-append, Each-renamed}
use Rattle.alg_mono.proofs.Lcm.{Each-lowered, Each-scaled}
use Rattle.alg_meaning.specs.Atoms.{Polynomial, poly_under}
use Rattle.alg_meaning.specs.Factors.{Factors, poly_cmp, lacks, common}
use Rattle.alg_meaning.specs.Fractions.{Fraction, frac, is_unit, quotient}
use Rattle.alg_meaning.proofs.Typed.{IsTyped}
use Rattle.alg_meaning.proofs.DeclaredKinds.{domain_of}
use Rattle.alg_meaning.proofs.Rings.{semi, power}
use Rattle.alg_meaning.proofs.Evaluation.{mono_value}
use Rattle.alg_meaning.proofs.Carriers.{Carrier, same, zero_at, one_at, mul_at, ring_at, semi_at, map_at, morphism_at}
use Rattle.alg_meaning.proofs.AtomValues.{value_at, poly_under_value}
use Rattle.alg_meaning.proofs.TermValues.{term_at}
use Rattle.alg_meaning.proofs.Denominators.{DividesInFields, NoZeroBelow}
use Rattle.alg_meaning.proofs.FractionLists.{undivided}
use Rattle.alg_meaning.proofs.FractionClears.{clear}

module _ {E : Type 0} (u : Ghosts E) {file : File} (fits : Fits u file) {v : List E} (values : AreValues u file v) where
  abbrev val : (s : ℕ) → Polynomial → Carrier u s
  val s p = value_at u fits values s p

  abbrev factors_at : (s : ℕ) → Factors → Carrier u s
  factors_at s m = mono_value (semi_at u s) (value_at u fits values s) m

  -- ---- no factor is zero
  abbrev pub Some : ℕ → Polynomial → Type 0
  Some s q = (val s q).0 ≢ u.zero s

  power_some : (s : ℕ) (x : Carrier u s) (n : ℕ) → IsDomain (u.kind s) → x.0 ≢ u.zero s →
      (power (one_at u s) (mul_at u s) x n).0 ≢ u.zero s
  power_some s x zero d h = u.laws.one_not_zero s d
  power_some s x (suc n) d h =
      let y = power (one_at u s) (mul_at u s) x n in
      λ e. elim (u.laws.no_divisors s x.0 y.0 d x.1 y.1 e) [ inl p ↦ h p | inr q ↦ power_some s x n d h q ]

  pub factors_some : (s : ℕ) (m : Factors) → IsDomain (u.kind s) → Each (Some s) m → (factors_at s m).0 ≢ u.zero s
  factors_some s [] d h = u.laws.one_not_zero s d
  factors_some s (e ∷ m) d h =
      let x = power (one_at u s) (mul_at u s) (val s e.0) e.1 in
      let y = factors_at s m in
      λ g. elim (u.laws.no_divisors s x.0 y.0 d x.1 y.1 g)
      [ inl p ↦ power_some s (val s e.0) e.1 d h.0 p | inr q ↦ factors_some s m d h.1 q ]

  pub common_some : (s : ℕ) (a b : Factors) → Each (Some s) a → Each (Some s) b → Each (Some s) (common a b)
  common_some s a b h g = Each-collect poly_cmp exponents (Some s) (a ++ lacks a b)
      (Each-append (Some s) a (lacks a b) h
      (Each-collect poly_cmp exponents (Some s) (lowered poly_cmp a b) (Each-lowered poly_cmp (Some s) a b g)))

  quotient_some : (s : ℕ) (a b : Fraction) (c : Bool) → Each (Some s) a.below → Some s b.top →
      Each (Some s) (quotient c a b).below
  quotient_some s a b true h g = h
  quotient_some s a b false h g =
      Each-collect poly_cmp exponents (Some s) (a.below ++ (b.top, 1) ∷ [])
      (Each-append (Some s) a.below ((b.top, 1) ∷ []) h (g, tt))

  -- a morphism from a field takes no element but zero to zero
  pub map_nonzero : (f s t : ℕ) (m : u.maps f s t) → IsField (u.kind s) → IsDomain (u.kind t) → (x : Carrier u s) →
      x.0 ≢ u.zero s → u.hom f x.0 ≢ u.zero t
  map_nonzero f s t m k d x h e =
      let i : Carrier u s = (u.inv s x.0, u.laws.has_inv s x.0 x.1) in
      let z : map_at u f s t m x ≡ zero_at u t = same u t (map_at u f s t m x) (zero_at u t) e in
      u.laws.one_not_zero t d (ap (λ (y : Carrier u t). y.0)
      (sym (morphism_at u f s t m).at_one
      ∙ ap (map_at u f s t m) (sym (same u s (mul_at u s x i) (one_at u s) (u.laws.mul_inv s x.0 k x.1 h)))
      ∙ (morphism_at u f s t m).at_times x i ∙ ap (λ y. mul_at u t y (map_at u f s t m i)) z
      ∙ (semi (ring_at u t)).none_times (map_at u f s t m i)))

  map_some : (f : ℕ) (l : f < length file.homs) → IsField (u.kind (source_of file f)) →
      IsDomain (u.kind (target_of file f)) → (q : Polynomial) → Some (source_of file f) q →
      Some (target_of file f) (poly_under f q)
  map_some f l k d q h e =
      let s = (source_of file f) in
      let t = (target_of file f) in
      map_nonzero f s t (fits.maps f l) k d (val s q) h (ap (λ y. y.0) (sym (poly_under_value u fits values f l q)) ∙ e)

  pub some : (s : ℕ) (t : Term) → IsTyped file s t → DividesInFields u file s t → NoZeroBelow u file v s t →
      Each (Some s) (frac t).below
  unfolding fold_term
  some s (Var k) h d z = tt
  some s (Int n) h d z = tt
  some s (Neg' p (more_of-Term t r)) h d z = some s t h d z
  some s (Add' p (more_of-Term t r) p' (more_of-Term t' r')) h d z =
      common_some s (frac t).below (frac t').below (some s t h.0 d.0 z.0) (some s t' h.1 d.1 z.1)
  some s (Sub' p (more_of-Term t r) p' (more_of-Term t' r')) h d z =
      common_some s (frac t).below (frac t').below (some s t h.0 d.0 z.0) (some s t' h.1 d.1 z.1)
  some s (Mul' p (more_of-Term t r) p' (more_of-Term t' r')) h d z =
      Each-collect poly_cmp exponents (Some s) ((frac t).below ++ (frac t').below)
      (Each-append (Some s) (frac t).below (frac t').below (some s t h.0 d.0 z.0) (some s t' h.1 d.1 z.1))
  some s (Div' p (more_of-Term t r) p' (more_of-Term t' r')) h d z =
      let y = term_at u fits values s t' h.1 in
      let q = factors_at s (frac t').below in
      let k = domain_of (u.kind s) d.0 in
      quotient_some s (frac t) (frac t') (is_unit (frac t').top) (some s t h.0 d.1 z.1)
      (λ e. elim (u.laws.no_divisors s y.0 q.0 k y.1 q.1 (ap (λ x. x.0) (clear u fits values s t' h.1 d.2 z.2) ∙ e)) [
        | inl a ↦ z.0 a
        | inr b ↦ factors_some s (frac t').below k (some s t' h.1 d.2 z.2) b
      ])
  some s (Pow' p (more_of-Term t r) n) h d z =
      Each-collect poly_cmp exponents (Some s) (scaled n (frac t).below)
      (Each-scaled (Some s) n (frac t).below (some s t h d z))
  some s (Hom' f p (more_of-Term t r)) h d z =
      let from = (source_of file f) in
      elim d.0 [
        | inl n ↦ subst (λ (m : Factors). Each (Some s) (collect poly_cmp exponents (renamed (poly_under f) m)))
            (sym (undivided t n)) tt
        | inr k ↦ Each-collect poly_cmp exponents (Some s) (renamed (poly_under f) (frac t).below)
            (Each-renamed (poly_under f) (Some from) (Some s)
            (λ q g. subst (λ w. IsDomain (u.kind w) →
            Some w (poly_under f q)) h.1 (λ i. map_some f h.0 k.0 i q g) (domain_of (u.kind s) k.1))
            (frac t).below (some from t h.2 d.1 z))
      ]
