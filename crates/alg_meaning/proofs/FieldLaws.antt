-- The laws of fractions under the conditions of a field goal.
use Rattle.std.specs.Prelude.{◌≡◌, ◌≢◌, ◌⊎◌, not, ℕ, Bool, true, false, List, [], ◌∷◌, ◌++◌, filter, All}
use Rattle.std.proofs.Common.{refl, sym, ap, ◌∙◌, inl, inr}
use Rattle.std.proofs.lemmas.List.Elements.{All-head, All-tail}
use mathlib.Core.Bool.{true≢false}
use Rattle.alg_terms.specs.declared.file.File.{File}
use Rattle.alg_terms.specs.declared.goals.Equation.{Equation}
use Rattle.alg_terms.specs.declared.term.Term.{Term}
use Rattle.alg_terms.specs.Kinds.{IsField}
use Rattle.alg_terms.specs.Members.{sort_at}
use Rattle.alg_terms.specs.GoalRules.{IsEquation, IsByField}
use Rattle.alg_universe.specs.declared.universe.Universe.{Ghosts}
use Rattle.alg_universe.specs.Value.{value, power, Fits, AreValues}
use Rattle.alg_universe.specs.Right.{ConditionHolds}
use Rattle.alg_mono.specs.FiniteMaps.{Each}
use Rattle.alg_mono.proofs.Totals.{idr}
use Rattle.alg_mono.proofs.Lcm.{lcm_comm}
use Rattle.alg_meaning.specs.Factors.{Factors, lacks, common}
use Rattle.alg_meaning.specs.Fractions.{Fraction, frac, cleared}
use Rattle.alg_meaning.specs.Conditions.{denominators, is_dropped, conditions_of}
use Rattle.alg_meaning.specs.FractionValues.{factors_in, IsItsFraction, SidesAreFractions, EqualNumerators}
use Rattle.alg_terms.specs.Lists.{each_once}
use Rattle.alg_meaning.specs.Trees.{same_tree}
use Rattle.alg_meaning.specs.Orders.{poly_total, poly_anti}
use Rattle.alg_meaning.proofs.Typed.{IsTyped, typed_left, typed_right}
use Rattle.alg_meaning.proofs.DeclaredKinds.{domain_of, kind_field, declared_field}
use Rattle.alg_meaning.proofs.Rings.{semi}
use Rattle.alg_meaning.proofs.Carriers.{Carrier, same, one_at, mul_at, ring_at, power_below}
use Rattle.alg_meaning.proofs.AtomValues.{value_at}
use Rattle.alg_meaning.proofs.AtomSorts.{poly_below}
use Rattle.alg_meaning.proofs.TermValues.{term_at}
use Rattle.alg_meaning.proofs.Denominators.{DividesInFields, NoZeroBelow}
use Rattle.alg_meaning.proofs.FractionLists.{canonical}
use Rattle.alg_meaning.proofs.FractionClears.{clear, factors_at, factors-times, val-over}
use Rattle.alg_meaning.proofs.FractionFactors.{some, factors_some, common_some}
use Rattle.alg_meaning.proofs.FractionSorts.{Of, typed_frac}
use Rattle.alg_meaning.proofs.FieldQuotients.{in_fields}
use Rattle.alg_meaning.proofs.SameTrees.{EachTerm, unfiltered, once_is_all}
use Rattle.alg_meaning.proofs.NoZero.{none_zero, goal_below, parted}

module _ {E : Type 0} (u : Ghosts E) {file : File} (fits : Fits u file) {v : List E} (values : AreValues u file v)
    (s : ℕ) where
  over : (x : Carrier u s) (a b : Fraction) →
      mul_at u s x (factors_at u fits values s a.below) ≡ value_at u fits values s a.top →
      mul_at u s x (factors_at u fits values s (common a.below b.below)) ≡ value_at u fits values s (cleared a b)
  over x a b e =
      let p = factors_at u fits values s a.below in
      let l = factors_at u fits values s (lacks a.below b.below) in
      ap (mul_at u s x) (factors-times u fits values s a.below (lacks a.below b.below))
      ∙ sym ((semi (ring_at u s)).product.assoc x p l) ∙ ap (λ z. mul_at u s z l) e
      ∙ sym (val-over u fits values s a.top (lacks a.below b.below))

  -- a factor that is not zero drops out
  drop_factor : IsField (u.kind s) → (x y m : Carrier u s) → m.0 ≢ u.zero s → mul_at u s x m ≡ mul_at u s y m → x ≡ y
  drop_factor k x y m h e =
      let i : Carrier u s = (u.inv s m.0, u.laws.has_inv s m.0 m.1) in
      let P = (semi (ring_at u s)).product in
      let whole : mul_at u s m i ≡ one_at u s = same u s (mul_at u s m i) (one_at u s) (u.laws.mul_inv s m.0 k m.1 h) in
      sym (P.assoc x m i ∙ ap (mul_at u s x) whole ∙ idr P x) ∙ ap (λ z. mul_at u s z i) e ∙ P.assoc y m i
      ∙ ap (mul_at u s y) whole ∙ idr P y

  pub equal_values : IsField (u.kind s) → (t t' : Term) (h : IsTyped file s t) (h' : IsTyped file s t') →
      DividesInFields u file s t → DividesInFields u file s t' → NoZeroBelow u file v s t → NoZeroBelow u file v s t' →
      cleared (frac t) (frac t') ≡ cleared (frac t') (frac t) →
      term_at u fits values s t h ≡ term_at u fits values s t' h'
  equal_values k t t' h h' d d' z z' e =
      let a = frac t in
      let b = frac t' in
      let x = term_at u fits values s t h in
      let y = term_at u fits values s t' h' in
      drop_factor k x y (factors_at u fits values s (common a.below b.below))
      (factors_some u fits values s (common a.below b.below) (domain_of (u.kind s) k)
      (common_some u fits values s a.below b.below (some u fits values s t h d z)
      (some u fits values s t' h' d' z')))
      (over x a b (clear u fits values s t h d z) ∙ ap (λ p. value_at u fits values s p) e
      ∙ sym (over y b a (clear u fits values s t' h' d' z'))
      ∙ ap (λ m. mul_at u s y (factors_at u fits values s m))
      (lcm_comm poly_total poly_anti b.below a.below (canonical t') (canonical t)))

-- what is not dropped is a condition, so each denominator is dropped or its condition holds
module _ (drop : Term → Bool) (P : Term → Type 0) where
  abbrev Kept : Term → Type 0
  Kept t = (drop t ≡ true) ⊎ P t

  each_kept : (ts : List Term) → All P ts → EachTerm Kept ts
  each_kept [] h = tt
  each_kept (t ∷ ts) h = (inr (All-head P t ts h), each_kept ts (All-tail P t ts h))

  dropped : (b : Bool) → not b ≡ false → b ≡ true
  dropped true e = refl
  dropped false e = absurd (true≢false e)

  pub each_denominator : (ts : List Term) → All P (filter (λ t. not (drop t)) (each_once same_tree ts)) →
      EachTerm Kept ts
  each_denominator ts h =
      once_is_all Kept ts
      (unfiltered Kept (λ t. not (drop t)) (λ t e. inl (dropped (drop t) e)) (each_once same_tree ts)
      (each_kept (filter (λ t. not (drop t)) (each_once same_tree ts)) h))

module _ {E : Type 0} (u : Ghosts E) {file : File} (fits : Fits u file) {v : List E} (values : AreValues u file v) where
  factors_below : (s : ℕ) (m : Factors) → Each (Of file s) m →
      (factors_at u fits values s m).0 ≡ factors_in u file v s m
  factors_below s [] h = refl
  factors_below s (e ∷ m) h = λ i. u.mul s
      ((power_below u s (value_at u fits values s e.0) e.1
      ∙ ap (λ x. power u s x e.1) (poly_below u fits values s e.0 h.0)) i)
      (factors_below s m h.1 i)

  is_its_fraction : (s : ℕ) (t : Term) → IsTyped file s t → IsField (u.kind s) → DividesInFields u file s t →
      NoZeroBelow u file v s t →
      IsItsFraction u file v s t
  is_its_fraction s t h k d z =
      let a = typed_frac file s t h in
      let below = factors_below s (frac t).below a.below in
      record {
        equation =
            ap (u.mul s (value u file v s t)) (sym below) ∙ ap (λ x. x.0) (clear u fits values s t h d z)
            ∙ poly_below u fits values s (frac t).top a.top;
        nonzero =
            λ e. factors_some u fits values s (frac t).below (domain_of (u.kind s) k) (some u fits values s t h d z)
            (below ∙ e);
      }

  -- what the conditions of an equation give on both sides
  module _ (e : Equation) (is : IsEquation file e) (by : IsByField file e)
      (hold : All (ConditionHolds u file v e.sort) (conditions_of file e)) where
    abbrev s : ℕ
    s = e.sort

    abbrev char0 : Bool
    char0 = (sort_at file s).char0

    field : IsField (u.kind s)
    field = kind_field u fits s by.field

    left : IsTyped file s e.left
    left = typed_left file e is

    right : IsTyped file s e.right
    right = typed_right file e is

    divides_left : DividesInFields u file s e.left
    divides_left = in_fields u fits s [] e.left left by.left

    divides_right : DividesInFields u file s e.right
    divides_right = in_fields u fits s [] e.right right by.right

    kept : EachTerm (λ t. (is_dropped char0 t ≡ true) ⊎ ConditionHolds u file v s t)
        (denominators e.left ++ denominators e.right)
    kept =
        each_denominator (is_dropped char0) (ConditionHolds u file v s) (denominators e.left ++ denominators e.right)
        hold

    no_zero_left : NoZeroBelow u file v s e.left
    no_zero_left =
        none_zero u fits values s char0 s e.left left divides_left
        (goal_below u fits values s char0 field (fits.chars s (declared_field file s by.field)))
        (parted u fits values s char0 (denominators e.left) (denominators e.right) kept).0

    no_zero_right : NoZeroBelow u file v s e.right
    no_zero_right =
        none_zero u fits values s char0 s e.right right divides_right
        (goal_below u fits values s char0 field (fits.chars s (declared_field file s by.field)))
        (parted u fits values s char0 (denominators e.left) (denominators e.right) kept).1

    sides : IsItsFraction u file v s e.left × IsItsFraction u file v s e.right
    sides = (
      is_its_fraction s e.left left field divides_left no_zero_left,
      is_its_fraction s e.right right field divides_right no_zero_right,
    )

    equal_sides : cleared (frac e.left) (frac e.right) ≡ cleared (frac e.right) (frac e.left) →
        value u file v s e.left ≡ value u file v s e.right
    equal_sides same =
        ap (λ x. x.0) (equal_values u fits values s field e.left e.right left right divides_left divides_right
        no_zero_left no_zero_right same)

pub sides_are_fractions : {E : Type 0} (u : Ghosts E) → SidesAreFractions u
sides_are_fractions u file fits v values e is by hold = sides u fits values e is by hold

pub equal_numerators : {E : Type 0} (u : Ghosts E) → EqualNumerators u
equal_numerators u file fits v values e is by hold = equal_sides u fits values e is by hold
