-- The fractions of both sides of an equation, made and compared: the verdict by field.
use Rattle.std.specs.Prelude.{◌≡◌, ◌≤◌, ℕ, ℤ, Bool, List, [], ◌++◌, length}
use Rattle.std.proofs.Common.{refl, sym, ap, subst, ◌∙◌}
use Rattle.std.specs.Ordering.{nat_cmp}
use Rattle.std.specs.declared.result.Result.{Result}
use Rattle.std.specs.declared.result.Result.TheVariants.{Ok, Err}
use Rattle.std.specs.Result.{IsErrAnd}
use Rattle.alg_terms.specs.declared.term.Atom.{Atom}
use Rattle.alg_terms.specs.declared.term.Term.{Term}
use Rattle.alg_terms.specs.declared.file.File.{File}
use Rattle.alg_terms.specs.declared.goals.Equation.{Equation}
use Rattle.alg_terms.specs.GoalRules.{IsEquation}
use Rattle.alg_terms.specs.Members.{sort_at}
use Rattle.alg_mono.specs.declared.ends.Overrun.{Overrun}
use Rattle.alg_mono.specs.Mono.{Monomial}
use Rattle.alg_mono.specs.NumberedPolynomials.{Polynomial, DifferFirst}
use Rattle.alg_mono.specs.Outcomes.{Outcome}
use Rattle.alg_mono.specs.Refusals.{RefusesWith}
use Rattle.alg_meaning.specs.Atoms.{atom_cmp}
use Rattle.alg_meaning.specs.Conditions.{denominators}
use Rattle.alg_meaning.specs.FractionOutcome.{FractionOutcome, first_not_fine, frac_outcome, of_polynomials}
use Rattle.alg_meaning.specs.FractionRules.{cleared_outcome}
use Rattle.alg_meaning.specs.Fractions.{frac}
use Rattle.alg_meaning.specs.FractionsOver.{FractionOver, cleared}
use Rattle.alg_reify.specs.declared.ends.FractionEnd.{FractionEnd}
use Rattle.alg_reify.specs.Added.{add_conditions}
use Rattle.alg_reify.specs.Ends.{RefusesFractionWith, EndsFractionWith}
use Rattle.alg_reify.specs.FieldVerdict.{FieldVerdict, IsFieldVerdict, sides_outcome}
use Rattle.alg_reify.specs.FractionsUnder.{made_fraction}
use Rattle.alg_reify.specs.MadeSides.{AreBoth, AreCleared, MakesBoth, both_outcome}
use Rattle.alg_reify.specs.MakingFractions.{IsFractionOver, IsMade}
use Rattle.alg_reify.specs.RingVerdict.{own_table}
use Rattle.alg_reify.specs.Table.{MAX_ATOMS}
use Rattle.alg_reify.proofs.EachOnce.{conditions_are}
use Rattle.alg_reify.proofs.FieldVerdicts.{sides_by_numbers}
use Rattle.alg_reify.proofs.FractionMade.{first_told}
use Rattle.alg_reify.proofs.FractionParts.{add_conditions-append}
use Rattle.alg_reify.proofs.Giving.{subst_both}
use Rattle.alg_reify.proofs.Held.{held_left, held_right}

-- a refusal of polynomials is one of fractions
pub told : (e : Overrun) (o : Outcome) → RefusesWith e o → RefusesFractionWith e (of_polynomials o)
told Overrun.Range o h = ap of_polynomials h
told Overrun.Degree o h = ap of_polynomials h
told Overrun.NoMemory o h = tt

-- the numerators come after both fractions
abbrev last : Equation → FractionOutcome
last e = of_polynomials (cleared_outcome atom_cmp (frac e.left) (frac e.right))

both_first : (a b c : FractionOutcome) →
    first_not_fine (first_not_fine a b) c ≡ first_not_fine a (first_not_fine b c)
both_first FractionOutcome.Fine b c = refl
both_first FractionOutcome.Range b c = refl
both_first FractionOutcome.Degree b c = refl
both_first (FractionOutcome.ZeroDenominator t) b c = refl

sides_are : (e : Equation) → first_not_fine (both_outcome e) (last e) ≡ sides_outcome e
sides_are e = both_first (frac_outcome e.left) (frac_outcome e.right) (last e)

-- what ends the making of the fractions ends that of the numerators
pub both_told : (e : Equation) (end : FractionEnd) → EndsFractionWith end (both_outcome e) → EndsFractionWith end (sides_outcome e)
both_told e end h = subst (EndsFractionWith end) (sides_are e) (first_told end (both_outcome e) (last e) h)

module _ (file : File) (e : Equation) (table : List Atom) (is : table ≡ own_table file e) where
  -- the table that the code has holds the atoms of both sides
  pub over_left : IsEquation file e → (path : List ℕ) → path ≡ [] → IsFractionOver table path e.left
  over_left h path none =
      let P : List Atom → List ℕ → Type 0 = λ atoms x. IsFractionOver atoms x e.left in
      subst_both P (sym is) (sym none) record { literals = h.left.literals; held = held_left file e [] }

  pub over_right : IsEquation file e → (path : List ℕ) → path ≡ [] → IsFractionOver table path e.right
  over_right h path none =
      let P : List Atom → List ℕ → Type 0 = λ atoms x. IsFractionOver atoms x e.right in
      subst_both P (sym is) (sym none) record { literals = h.right.literals; held = held_right file e [] }

  module _ {F : Type 0} (fraction : F → FractionOver ℕ) where
    pub both_failed : (all : List Term) (r : Result (F × F) FractionEnd) (end : FractionEnd) →
        IsErrAnd r (λ d. d ≡ end) → EndsFractionWith end (both_outcome e) → MakesBoth fraction file e all r
    both_failed all (Ok p) end came h = absurd came
    both_failed all (Err d) end came h =
        let P : FractionEnd → Type 0 = λ x. EndsFractionWith x (both_outcome e) in subst P (sym came) h

    -- the left side ended
    pub left_told : (end : FractionEnd) → EndsFractionWith end (frac_outcome e.left) → EndsFractionWith end (both_outcome e)
    left_told end h = first_told end (frac_outcome e.left) (frac_outcome e.right) h

    -- the right side did
    pub right_told : frac_outcome e.left ≡ FractionOutcome.Fine → (end : FractionEnd) →
        EndsFractionWith end (frac_outcome e.right) → EndsFractionWith end (both_outcome e)
    right_told fine end h = subst (EndsFractionWith end) (sym (ap (λ o. first_not_fine o (frac_outcome e.right)) fine)) h

    -- both were made
    pub both_are : (char0 : Bool) (start mid after : List ℕ) (seen some all : List Term) (f g : F) → start ≡ [] →
        seen ≡ [] → IsMade fraction char0 table start mid seen some e.left f →
        IsMade fraction char0 table mid after some all e.right g → char0 ≡ (sort_at file e.sort).char0 →
        AreBoth fraction file e all f g
    both_are char0 start mid after seen some all f g begin none first second declared = record {
      left = first.value ∙ (λ i. made_fraction (is i) (begin i) e.left);
      right = second.value ∙ (λ i. made_fraction (is i) ((first.back ∙ begin) i) e.right);
      fine = (λ i. first_not_fine (first.fine i) (second.fine i));
      conditions =
          second.conditions ∙ ap (λ l. add_conditions char0 l (denominators e.right)) first.conditions
          ∙ sym (add_conditions-append char0 seen (denominators e.left) (denominators e.right))
          ∙ (λ i. add_conditions (declared i) (none i) (denominators e.left ++ denominators e.right))
          ∙ conditions_are (sort_at file e.sort).char0 (denominators e.left ++ denominators e.right);
    }

-- ---- the numerators over the common factors
module _ {F : Type 0} (fraction : F → FractionOver ℕ) (file : File) (e : Equation) (all : List Term) (f g : F)
    (both : AreBoth fraction file e all f g) where
  abbrev rule : Outcome
  rule = cleared_outcome nat_cmp (fraction f) (fraction g)

  rule_is : of_polynomials rule ≡ sides_outcome e
  rule_is =
      (λ i. of_polynomials (cleared_outcome nat_cmp (both.left i) (both.right i)))
      ∙ ap of_polynomials (sym (sides_by_numbers file e).outcome)
      ∙ sym (ap (λ o. first_not_fine o (last e)) both.fine) ∙ sides_are e

  pub numerators_told : (end : Overrun) → RefusesWith end rule → EndsFractionWith (FractionEnd.Refused end) (sides_outcome e)
  numerators_told end h = subst (RefusesFractionWith end) rule_is (told end rule h)

  -- they were made
  pub numerators_made : (terms : List Term) (p q : Polynomial) → p ≡ cleared nat_cmp (fraction f) (fraction g) →
      q ≡ cleared nat_cmp (fraction g) (fraction f) → rule ≡ Outcome.Fine → terms ≡ all →
      AreCleared file e terms p q
  numerators_made terms p q left right fine conditions = record {
    left = left ∙ (λ i. cleared nat_cmp (both.left i) (both.right i)) ∙ sym (sides_by_numbers file e).left;
    right = right ∙ (λ i. cleared nat_cmp (both.right i) (both.left i)) ∙ sym (sides_by_numbers file e).right;
    fine = sym rule_is ∙ ap of_polynomials fine;
    conditions = conditions ∙ both.conditions;
  }

-- both numerators were compared
module _ (file : File) (e : Equation) (small : length (own_table file e) ≤ MAX_ATOMS) (all : List Term)
    (p q : Polynomial) (are : AreCleared file e all p q) where
  pub equal_numerators : (terms : List Term) → p ≡ q → terms ≡ all →
      IsFieldVerdict file e (FieldVerdict.Proved terms)
  equal_numerators terms same is = (
    (small, are.fine),
    (sides_by_numbers file e).equal (sym are.left ∙ same ∙ are.right),
    is ∙ are.conditions,
  )

  pub different_numerators : (at : Monomial) (a b : ℤ) → DifferFirst p q at a b →
      IsFieldVerdict file e (FieldVerdict.No at a b)
  different_numerators at a b differ =
      ((small, are.fine), subst_both (λ x y. DifferFirst x y at a b) are.left are.right differ)
