-- Terms of literals mean the same in two fields with a morphism between them.
use Rattle.std.specs.Prelude.{◌≡◌, ◌≢◌, ◌⊎◌, ℕ, List, Option, Some, None}
use Rattle.std.specs.Option.{option_or}
use Rattle.std.proofs.Common.{refl, sym, ap, ◌∙◌, inl, inr}
use Rattle.alg_terms.specs.declared.file.File.{File}
use Rattle.alg_terms.specs.declared.term.Term.{Term, more_of-Term, Var, Int, Neg', Add', Sub', Mul', Div', Pow', Hom'}
use Rattle.alg_terms.specs.Kinds.{IsField}
use Rattle.alg_terms.specs.Members.{source_of}
use Rattle.alg_terms.specs.Nodes.{fold_term}
use Rattle.alg_terms.specs.Sorts.{own_sort}
use Rattle.alg_universe.specs.declared.universe.Universe.{Ghosts}
use Rattle.alg_universe.specs.Value.{Fits, AreValues}
use Rattle.alg_mono.proofs.Totals.{idr}
use Rattle.alg_meaning.proofs.Typed.{IsTyped, HasNoDivision}
use Rattle.alg_meaning.proofs.DeclaredKinds.{domain_of}
use Rattle.alg_meaning.proofs.Denominators.{NoZeroBelow}
use Rattle.alg_meaning.proofs.Rings.{semi, power}
use Rattle.alg_meaning.proofs.Evaluation.{image-power}
use Rattle.alg_meaning.proofs.Clearing.{into_inverse}
use Rattle.alg_meaning.proofs.Carriers.{Carrier, same, one_at, add_at, mul_at, opp_at, int_at, ring_at, semi_at, map_at, morphism_at, map_int, int_below, power_below}
use Rattle.alg_meaning.proofs.TermValues.{term_at, has_value}
use Rattle.alg_meaning.proofs.FractionFactors.{map_nonzero}

-- no variable and no morphism
abbrev pub HasNoSort : Term → Type 0
HasNoSort (Var k) = ⊥
HasNoSort (Int n) = Unit {0}
HasNoSort (Neg' p (more_of-Term t r)) = HasNoSort t
HasNoSort (Add' p (more_of-Term t r) p' (more_of-Term t' r')) = HasNoSort t × HasNoSort t'
HasNoSort (Sub' p (more_of-Term t r) p' (more_of-Term t' r')) = HasNoSort t × HasNoSort t'
HasNoSort (Mul' p (more_of-Term t r) p' (more_of-Term t' r')) = HasNoSort t × HasNoSort t'
HasNoSort (Div' p (more_of-Term t r) p' (more_of-Term t' r')) = HasNoSort t × HasNoSort t'
HasNoSort (Pow' p (more_of-Term t r) n) = HasNoSort t
HasNoSort (Hom' f p t) = ⊥

module _ (file : File) where
  abbrev pub Place : ℕ → Term → Type 0
  Place s t = (own_sort file t ≡ Some s) ⊎ (HasNoSort t × (own_sort file t ≡ None))

  joined : (s : ℕ) (N M : Type 0) (a b : Option ℕ) → (a ≡ Some s) ⊎ (N × (a ≡ None)) →
      (b ≡ Some s) ⊎ (M × (b ≡ None)) → (option_or a b ≡ Some s) ⊎ ((N × M) × (option_or a b ≡ None))
  joined s N M a b (inl e) q = inl (ap (λ o. option_or o b) e)
  joined s N M a b (inr n) (inl e) = inl (λ i. option_or (n.1 i) (e i))
  joined s N M a b (inr n) (inr m) = inr ((n.0, m.0), λ i. option_or (n.1 i) (m.1 i))

  -- a typed term's own sort is its sort, or it has none
  pub place : (s : ℕ) (t : Term) → IsTyped file s t → Place s t
  unfolding fold_term
  place s (Var k) h = inl (ap (λ w. Some w) h.1)
  place s (Int n) h = inr (tt, refl)
  place s (Neg' p (more_of-Term t r)) h = place s t h
  place s (Add' p (more_of-Term t r) p' (more_of-Term t' r')) h =
      joined s (HasNoSort t) (HasNoSort t') (own_sort file t) (own_sort file t') (place s t h.0) (place s t' h.1)
  place s (Sub' p (more_of-Term t r) p' (more_of-Term t' r')) h =
      joined s (HasNoSort t) (HasNoSort t') (own_sort file t) (own_sort file t') (place s t h.0) (place s t' h.1)
  place s (Mul' p (more_of-Term t r) p' (more_of-Term t' r')) h =
      joined s (HasNoSort t) (HasNoSort t') (own_sort file t) (own_sort file t') (place s t h.0) (place s t' h.1)
  place s (Div' p (more_of-Term t r) p' (more_of-Term t' r')) h =
      joined s (HasNoSort t) (HasNoSort t') (own_sort file t) (own_sort file t') (place s t h.0) (place s t' h.1)
  place s (Pow' p (more_of-Term t r) n) h = place s t h
  place s (Hom' f p (more_of-Term t r)) h = inl (ap (λ w. Some w) h.1)

  abbrev typed_anywhere : (s : ℕ) (t : Term) → HasNoSort t → IsTyped file s t
  typed_anywhere s (Var k) n = absurd n
  typed_anywhere s (Int k) n = tt
  typed_anywhere s (Neg' p (more_of-Term t r)) n = typed_anywhere s t n
  typed_anywhere s (Add' p (more_of-Term t r) p' (more_of-Term t' r')) n =
      (typed_anywhere s t n.0, typed_anywhere s t' n.1)
  typed_anywhere s (Sub' p (more_of-Term t r) p' (more_of-Term t' r')) n =
      (typed_anywhere s t n.0, typed_anywhere s t' n.1)
  typed_anywhere s (Mul' p (more_of-Term t r) p' (more_of-Term t' r')) n =
      (typed_anywhere s t n.0, typed_anywhere s t' n.1)
  typed_anywhere s (Div' p (more_of-Term t r) p' (more_of-Term t' r')) n =
      (typed_anywhere s t n.0, typed_anywhere s t' n.1)
  typed_anywhere s (Pow' p (more_of-Term t r) k) n = typed_anywhere s t n
  typed_anywhere s (Hom' f p t) n = absurd n

module _ {E : Type 0} (u : Ghosts E) {file : File} (fits : Fits u file) {v : List E} (values : AreValues u file v) where
  abbrev pub Z : ℕ → Term → Type 0
  Z s t = NoZeroBelow u file v s t

  abbrev pub lit : (s : ℕ) (t : Term) → HasNoSort t → Carrier u s
  lit s t n = term_at u fits values s t (typed_anywhere file s t n)

  pub no_quotient : (s : ℕ) (t : Term) → HasNoDivision t → Z s t
  no_quotient s (Var k) d = tt
  no_quotient s (Int n) d = tt
  no_quotient s (Neg' p (more_of-Term t r)) d = no_quotient s t d
  no_quotient s (Add' p (more_of-Term t r) p' (more_of-Term t' r')) d = (no_quotient s t d.0, no_quotient s t' d.1)
  no_quotient s (Sub' p (more_of-Term t r) p' (more_of-Term t' r')) d = (no_quotient s t d.0, no_quotient s t' d.1)
  no_quotient s (Mul' p (more_of-Term t r) p' (more_of-Term t' r')) d = (no_quotient s t d.0, no_quotient s t' d.1)
  no_quotient s (Div' p (more_of-Term t r) p' (more_of-Term t' r')) d = absurd d
  no_quotient s (Pow' p (more_of-Term t r) n) d = no_quotient s t d
  no_quotient s (Hom' f p (more_of-Term t r)) d = no_quotient (source_of file f) t d

  -- ---- a morphism of fields takes the value of a term of literals to its value
  module _ (f s t : ℕ) (m : u.maps f s t) (k : IsField (u.kind s)) (l : IsField (u.kind t)) where
    abbrev map : Carrier u s → Carrier u t
    map x = map_at u f s t m x

    inverse_under : (x : Carrier u s) → x.0 ≢ u.zero s →
        map (u.inv s x.0, u.laws.has_inv s x.0 x.1) ≡ (u.inv t (map x).0, u.laws.has_inv t (map x).0 (map x).1)
    inverse_under x h =
        let i : Carrier u s = (u.inv s x.0, u.laws.has_inv s x.0 x.1) in
        let y = map x in
        let j : Carrier u t = (u.inv t y.0, u.laws.has_inv t y.0 y.1) in
        let xi : mul_at u t y (map i) ≡ one_at u t = sym ((morphism_at u f s t m).at_times x i)
        ∙ ap (map_at u f s t m) (same u s (mul_at u s x i) (one_at u s) (u.laws.mul_inv s x.0 k x.1 h))
        ∙ (morphism_at u f s t m).at_one in
        let yj : mul_at u t y j ≡ one_at u t = same u t (mul_at u t y j) (one_at u t)
        (u.laws.mul_inv t y.0 l y.1 (map_nonzero u fits values f s t m k (domain_of (u.kind t) l) x h)) in
        sym (idr (semi (ring_at u t)).product (map i)) ∙ ap (mul_at u t (map i)) (sym yj)
        ∙ into_inverse (semi_at u t) y (map i) j xi

    pub lit_under : (w : Term) (n : HasNoSort w) → Z s w → map (lit s w n) ≡ lit t w n
    unfolding fold_term has_value
    lit_under (Var c) n z = absurd n
    lit_under (Int c) n z =
        ap (map_at u f s t m) (same u s (lit s (Int c) tt) (int_at u s c) (sym (int_below u s c)))
        ∙ map_int u f s t m c ∙ same u t (int_at u t c) (lit t (Int c) tt) (int_below u t c)
    lit_under (Neg' p (more_of-Term w r)) n z =
        let x = lit s w n in
        same u t (map (opp_at u s x)) (opp_at u t (map x)) (u.laws.hom_opp f s t x.0 m x.1)
        ∙ ap (opp_at u t) (lit_under w n z)
    lit_under (Add' p (more_of-Term w r) p' (more_of-Term w' r')) n z =
        (morphism_at u f s t m).at_plus (lit s w n.0) (lit s w' n.1)
        ∙ (λ i. add_at u t (lit_under w n.0 z.0 i) (lit_under w' n.1 z.1 i))
    lit_under (Sub' p (more_of-Term w r) p' (more_of-Term w' r')) n z =
        let y = lit s w' n.1 in
        (morphism_at u f s t m).at_plus (lit s w n.0) (opp_at u s y)
        ∙ (λ i. add_at u t (lit_under w n.0 z.0 i)
        ((same u t (map (opp_at u s y)) (opp_at u t (map y)) (u.laws.hom_opp f s t y.0 m y.1)
        ∙ ap (opp_at u t) (lit_under w' n.1 z.1)) i))
    lit_under (Mul' p (more_of-Term w r) p' (more_of-Term w' r')) n z =
        (morphism_at u f s t m).at_times (lit s w n.0) (lit s w' n.1)
        ∙ (λ i. mul_at u t (lit_under w n.0 z.0 i) (lit_under w' n.1 z.1 i))
    lit_under (Div' p (more_of-Term w r) p' (more_of-Term w' r')) n z =
        let y = lit s w' n.1 in
        (morphism_at u f s t m).at_times (lit s w n.0) (u.inv s y.0, u.laws.has_inv s y.0 y.1)
        ∙ (λ i. mul_at u t (lit_under w n.0 z.1 i) ((inverse_under y z.0
        ∙ ap (λ (x : Carrier u t). let i : Carrier u t = (u.inv t x.0, u.laws.has_inv t x.0 x.1) in i)
        (lit_under w' n.1 z.2)) i))
    lit_under (Pow' p (more_of-Term w r) c) n z =
        let x = lit s w n in
        let y = lit t w n in
        ap (map_at u f s t m) (same u s (lit s (Pow' p (more_of-Term w r) c) n) (power (one_at u s) (mul_at u s) x c)
        (sym (power_below u s x c)))
        ∙ image-power (morphism_at u f s t m) x c ∙ ap (λ a. power (one_at u t) (mul_at u t) a c) (lit_under w n z)
        ∙ same u t (power (one_at u t) (mul_at u t) y c) (lit t (Pow' p (more_of-Term w r) c) n) (power_below u t y c)
    lit_under (Hom' h p w) n z = absurd n

    pub lit_some : (w : Term) → HasNoSort w → Z s w → Z t w
    unfolding fold_term has_value
    lit_some (Var c) n z = tt
    lit_some (Int c) n z = tt
    lit_some (Neg' p (more_of-Term w r)) n z = lit_some w n z
    lit_some (Add' p (more_of-Term w r) p' (more_of-Term w' r')) n z = (lit_some w n.0 z.0, lit_some w' n.1 z.1)
    lit_some (Sub' p (more_of-Term w r) p' (more_of-Term w' r')) n z = (lit_some w n.0 z.0, lit_some w' n.1 z.1)
    lit_some (Mul' p (more_of-Term w r) p' (more_of-Term w' r')) n z = (lit_some w n.0 z.0, lit_some w' n.1 z.1)
    lit_some (Div' p (more_of-Term w r) p' (more_of-Term w' r')) n z = (
      (λ e. map_nonzero u fits values f s t m k (domain_of (u.kind t) l) (lit s w' n.1) z.0
          (ap (λ x. x.0) (lit_under w' n.1 z.2) ∙ e)),
      lit_some w n.0 z.1,
      lit_some w' n.1 z.2,
    )
    lit_some (Pow' p (more_of-Term w r) c) n z = lit_some w n z
    lit_some (Hom' h p w) n z = absurd n
