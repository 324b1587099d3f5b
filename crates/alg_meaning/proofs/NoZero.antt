-- Where the conditions hold, no denominator is zero.
use Rattle.std.specs.Prelude.{◌≡◌, ◌≢◌, ◌||◌, ◌&&◌, ◌⊎◌, not, ℕ, zero, suc, Bool, true, false, List, [], ◌∷◌, ◌++◌, ℤ, pos, negsuc, unwrap_or}
use Rattle.std.proofs.Common.{refl, sym, ap, subst, ◌∙◌, inl, inr, arith}
use mathlib.Core.Bool.{true≢false}
use Rattle.alg_terms.specs.declared.file.File.{File}
use Rattle.alg_terms.specs.declared.term.Term.{Term, more_of-Term, Var, Int, Neg', Add', Sub', Mul', Div', Pow', Hom'}
use Rattle.alg_terms.specs.Kinds.{IsField}
use Rattle.alg_terms.specs.Members.{source_of}
use Rattle.alg_universe.specs.declared.universe.Universe.{Ghosts}
use Rattle.alg_universe.specs.Ones.{ones}
use Rattle.alg_universe.specs.Value.{value, Fits, AreValues}
use Rattle.alg_universe.specs.Right.{ConditionHolds}
use Rattle.alg_mono.specs.Numbers.{is_zero}
use Rattle.alg_mono.proofs.Totals.{idr}
use Rattle.alg_meaning.specs.Atoms.{Polynomial}
use Rattle.alg_meaning.specs.Fractions.{frac, is_unit}
use Rattle.alg_meaning.specs.Conditions.{denominators, is_dropped}
use Rattle.alg_meaning.specs.FractionsOver.{is_constant}
use Rattle.alg_meaning.proofs.Typed.{IsTyped}
use Rattle.alg_meaning.proofs.DeclaredKinds.{domain_of}
use Rattle.alg_meaning.proofs.Denominators.{DividesInFields, NoZeroBelow}
use Rattle.alg_meaning.proofs.Rings.{semi, opp_opp, opp_none}
use Rattle.alg_meaning.proofs.Carriers.{Carrier, same, zero_at, one_at, mul_at, opp_at, int_at, ring_at, map_int, int_below}
use Rattle.alg_meaning.proofs.AtomValues.{value_at}
use Rattle.alg_meaning.proofs.TermValues.{term_at}
use Rattle.alg_meaning.proofs.FractionClears.{clear, factors_at, unit_twice}
use Rattle.alg_meaning.proofs.SameTrees.{both_true, EachTerm}
use Rattle.alg_meaning.proofs.Literals.{HasNoSort, place, no_quotient, lit_under, lit_some}

module _ {E : Type 0} (u : Ghosts E) {file : File} (fits : Fits u file) {v : List E} (values : AreValues u file v) where
  abbrev Z : ℕ → Term → Type 0
  Z s t = NoZeroBelow u file v s t

  -- ---- the conditions
  module _ (g : ℕ) (char0 : Bool) where
    -- what the goal's sort says of the sort s of a node below it
    pub record IsBelow (s : ℕ) : Type 0 where
      pub literal : (w : Term) → HasNoSort w → Z s w → value u file v s w ≡ u.zero s → value u file v g w ≡ u.zero g
      pub numbers : char0 ≡ true → (n : ℕ) → ones (u.zero s) (u.one s) (u.add s) (suc n) ≢ u.zero s

    below_under : (f s t : ℕ) (m : u.maps f s t) → IsField (u.kind s) → IsField (u.kind t) → IsBelow t → IsBelow s
    below_under f s t m k l b = record {
      literal =
          λ w n z e. b.literal w n (lit_some u fits values f s t m k l w n z)
          (ap (λ x. x.0) (sym (lit_under u fits values f s t m k l w n z)) ∙ ap (u.hom f) e
          ∙ u.laws.hom_zero f s t m);
      numbers =
          λ c n e. b.numbers c n (sym (int_below u t (pos (suc n)))
          ∙ ap (λ x. x.0) (sym (map_int u f s t m (pos (suc n))))
          ∙ ap (u.hom f) (int_below u s (pos (suc n)) ∙ e) ∙ u.laws.hom_zero f s t m);
    }

    number_some : (s : ℕ) → ((n : ℕ) → ones (u.zero s) (u.one s) (u.add s) (suc n) ≢ u.zero s) → (c : ℤ) →
        not (is_zero c) ≡ true → (int_at u s c).0 ≢ u.zero s
    number_some s F (pos zero) h e = absurd (true≢false (sym h))
    number_some s F (pos (suc n)) h e = F n (sym (int_below u s (pos (suc n))) ∙ e)
    number_some s F (negsuc n) h e =
        let x = int_at u s (pos (suc n)) in
        F n (sym (int_below u s (pos (suc n)))
        ∙ ap (λ y. y.0) (sym (opp_opp (ring_at u s) x)
        ∙ ap (opp_at u s) (same u s (opp_at u s x) (zero_at u s) e) ∙ opp_none (ring_at u s)))

    constant_some : (s : ℕ) → ((n : ℕ) → ones (u.zero s) (u.one s) (u.add s) (suc n) ≢ u.zero s) → (p : Polynomial) →
        is_constant p ≡ true → (value_at u fits values s p).0 ≢ u.zero s
    constant_some s F [] h = absurd (true≢false (sym h))
    constant_some s F (([], c) ∷ []) h =
        λ e. number_some s F c h
        (ap (λ x. x.0) (sym (idr (semi (ring_at u s)).sum (mul_at u s (int_at u s c) (one_at u s))
        ∙ idr (semi (ring_at u s)).product (int_at u s c))) ∙ e)
    constant_some s F _ h = absurd (true≢false (sym h))

    -- one denominator
    denominator_some : (s : ℕ) (t : Term) (h : IsTyped file s t) → IsField (u.kind s) → DividesInFields u file s t →
        Z s t → IsBelow s → (is_dropped char0 t ≡ true) ⊎ ConditionHolds u file v g t → value u file v s t ≢ u.zero s
    denominator_some s t h k d z b (inl a) =
        let x = term_at u fits values s t h in
        let q = factors_at u fits values s (frac t).below in
        let nothing : value u file v s t ≡ u.zero s → value_at u fits values s (frac t).top ≡ zero_at u s
        =
        λ e. sym (clear u fits values s t h d z) ∙ ap (λ y. mul_at u s y q) (same u s x (zero_at u s) e)
        ∙ (semi (ring_at u s)).none_times q in
        elim (is_unit (frac t).top) as (λ c. is_unit (frac t).top ≡ c →
        c || (char0 && is_constant (frac t).top) ≡ true → value u file v s t ≢ u.zero s) [
          | true ↦ λ i o e. u.laws.one_not_zero s (domain_of (u.kind s) k) (ap (λ (y : Carrier u s). y.0)
              (sym (unit_twice u fits values s (frac t).top i) ∙ (λ j. mul_at u s (nothing e j) (nothing e j))
              ∙ (semi (ring_at u s)).none_times (zero_at u s)))
          | false ↦ λ i o e. let c = both_true char0 (is_constant (frac t).top) o in constant_some s (b.numbers c.0)
              (frac t).top c.1 (ap (λ y. y.0) (nothing e))
        ] refl a
    denominator_some s t h k d z b (inr a) =
        elim (place file s t h) [
          | inl e ↦ subst (λ o. value u file v (unwrap_or o g) t ≢ u.zero (unwrap_or o g)) e a
          | inr n ↦ λ e. subst (λ o. value u file v (unwrap_or o g) t ≢ u.zero (unwrap_or o g)) n.1 a
              (b.literal t n.0 z e)
        ]

    abbrev pub H : List Term → Type 0
    H ts = EachTerm (λ t. (is_dropped char0 t ≡ true) ⊎ ConditionHolds u file v g t) ts

    pub parted : (ts us : List Term) → H (ts ++ us) → H ts × H us
    parted [] us h = (tt, h)
    parted (t ∷ ts) us h = let r = parted ts us h.1 in ((h.0, r.0), r.1)

    pub none_zero : (s : ℕ) (t : Term) → IsTyped file s t → DividesInFields u file s t → IsBelow s →
        H (denominators t) → Z s t
    unfolding denominators
    none_zero s (Var k) h d b c = tt
    none_zero s (Int n) h d b c = tt
    none_zero s (Neg' p (more_of-Term t r)) h d b c = none_zero s t h d b c
    none_zero s (Add' p (more_of-Term t r) p' (more_of-Term t' r')) h d b c =
        let w = parted (denominators t) (denominators t') c in
        (none_zero s t h.0 d.0 b w.0, none_zero s t' h.1 d.1 b w.1)
    none_zero s (Sub' p (more_of-Term t r) p' (more_of-Term t' r')) h d b c =
        let w = parted (denominators t) (denominators t') c in
        (none_zero s t h.0 d.0 b w.0, none_zero s t' h.1 d.1 b w.1)
    none_zero s (Mul' p (more_of-Term t r) p' (more_of-Term t' r')) h d b c =
        let w = parted (denominators t) (denominators t') c in
        (none_zero s t h.0 d.0 b w.0, none_zero s t' h.1 d.1 b w.1)
    none_zero s (Div' p (more_of-Term t r) p' (more_of-Term t' r')) h d b c =
        let w = parted (denominators t) (denominators t' ++ t' ∷ []) c in
        let x = parted (denominators t') (t' ∷ []) w.1 in
        let z = none_zero s t' h.1 d.2 b x.0 in
        (denominator_some s t' h.1 d.0 d.2 z b x.1.0, none_zero s t h.0 d.1 b w.0, z)
    none_zero s (Pow' p (more_of-Term t r) n) h d b c = none_zero s t h d b c
    none_zero s (Hom' f p (more_of-Term t r)) h d b c =
        elim d.0 [
          | inl n ↦ no_quotient u fits values (source_of file f) t n
          | inr k ↦ none_zero (source_of file f) t h.2 d.1
              (below_under f (source_of file f) s (subst (λ w. u.maps f (source_of file f) w) h.1 (fits.maps f h.0))
              k.0 k.1 b) c
        ]

    pub goal_below : IsField (u.kind g) → (char0 ≡ true → u.char0 g ≡ true) → IsBelow g
    goal_below k c =
        record {
          literal = λ w n z e. e;
          numbers = λ e n. u.laws.ones_not_zero g (suc n) (c e) (domain_of (u.kind g) k) (omega arith);
        }
