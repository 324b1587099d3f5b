-- The answers to goals by ring and by field can be printed.
use Rattle.std.specs.Prelude.{◌≡◌, ◌≤◌, ◌<◌, ℕ, ℤ, List, [], ◌∷◌, length, nat_le, if◌then◌else◌, unsigned_abs}
use Rattle.std.proofs.Common.{sym, ap, subst, ◌∙◌, arith}
use Rattle.std.proofs.lemmas.Bool.{le-leb}
use Rattle.std.proofs.lemmas.List.Elements.{All-nil, All-cons}
use Rattle.std.proofs.lemmas.Int.{ints, to_z-of_z}
use mir.Val.{to_z, of_z}
use mir.Syntax.{w128}
use Rattle.std.specs.Ordering.{nat_cmp}
use Rattle.alg_lines.specs.declared.answer.Answer.TheVariants.{Proved, No, ZeroDenominator}
use Rattle.alg_mono.specs.FiniteMaps.{Each}
use Rattle.alg_mono.specs.Mono.{Monomial}
use Rattle.alg_mono.specs.Monomials.{IsMono}
use Rattle.alg_mono.specs.Polynomials.{MAX}
use Rattle.alg_printer.specs.Monomials.{IsOverAtoms}
use Rattle.alg_printer.specs.Printable.{IsPrintable, HasForm, IsInteger}
use Rattle.alg_reify.specs.FieldLaws.{FieldNoIsOverTheTable, FieldNoIsWithinRange, FieldTermsMayStand}
use Rattle.alg_reify.specs.FieldVerdict.{FieldVerdict, IsFieldVerdict}
use Rattle.alg_reify.specs.Laws.{NoIsOverTheTable, NoIsWithinRange}
use Rattle.alg_reify.specs.RingVerdict.{RingVerdict, IsRingVerdict, own_table}
use Rattle.alg_reify.specs.Table.{goal_atoms, table, MAX_ATOMS}
use Rattle.alg_terms.specs.declared.file.File.{File}
use Rattle.alg_terms.specs.declared.goals.Goal.{Goal}
use Rattle.alg_terms.specs.declared.goals.Method.TheVariants.{ByRing, ByField}
use Rattle.alg_terms.specs.declared.term.Atom.{Atom}
use Rattle.alg_terms.specs.declared.term.Term.{Term}
use Rattle.alg_terms.specs.GoalRules.{IsEquation, IsGoal}
use Rattle.alg_terms.specs.Members.{uses_of}

-- the atoms of a monomial are among as many
pub each_over : (atoms : List Atom) (m : Monomial) → Each (λ k. k < length atoms) m → IsOverAtoms atoms m
each_over atoms [] h = All-nil (λ (e : ℕ × ℕ). e.0 < length atoms)
each_over atoms (e ∷ m) h = All-cons (λ (e : ℕ × ℕ). e.0 < length atoms) e m h.0 (each_over atoms m h.1)

-- a table of few atoms is one of a goal's answer
pub few : (atoms : List Atom) → length atoms ≤ MAX_ATOMS → (if nat_le (length atoms) MAX_ATOMS then atoms else []) ≡ atoms
few atoms small = ap (λ b. if b then atoms else []) (le-leb (length atoms) MAX_ATOMS small)

-- the atoms of the answer to a goal without uses are those of its equation
own_atoms : (file : File) (goal : Goal) → uses_of goal.method ≡ [] → length (own_table file goal.equation) ≤ MAX_ATOMS →
    goal_atoms file goal ≡ own_table file goal.equation
own_atoms file goal none small =
    ap (λ uses. let atoms = table file goal.equation uses in
    if nat_le (length atoms) MAX_ATOMS then atoms else []) none
    ∙ few (own_table file goal.equation) small

-- what is within the range is printed as an integer
integer : (n : ℤ) → unsigned_abs n ≤ MAX → IsInteger n
integer n h = omega (arith, h)

-- a number within the range is the same where it is handed on
abbrev handed : ℤ → ℤ
handed n = to_z w128 (of_z w128 n)

same_handed : (n : ℤ) → unsigned_abs n ≤ MAX → handed n ≡ n
same_handed n h = to_z-of_z w128 n (omega (arith, ints, h))

both_handed : (P : ℤ → ℤ → Type 0) (left right : ℤ) → unsigned_abs left ≤ MAX → unsigned_abs right ≤ MAX →
    P left right → P (handed left) (handed right)
both_handed P left right l r h =
    subst (λ n. P n (handed right)) (sym (same_handed left l)) (subst (P left) (sym (same_handed right r)) h)

module _ (file : File) (goal : Goal) where
  -- an answer no can be printed below a goal without uses that may have it
  no_may : (at : Monomial) (left right : ℤ) → ((l r : ℤ) → HasForm goal.method (No at l r)) →
      uses_of goal.method ≡ [] → IsMono nat_cmp at → length (own_table file goal.equation) ≤ MAX_ATOMS →
      Each (λ k. k < length (own_table file goal.equation)) at →
      (unsigned_abs left ≤ MAX) × (unsigned_abs right ≤ MAX) → IsPrintable file goal (No at left right)
  no_may at left right form none mono small over numbers = record {
    form = form left right;
    parts = (
      record {
        canonical = mono;
        over =
            subst (λ atoms. IsOverAtoms atoms at) (sym (own_atoms file goal none small))
            (each_over (own_table file goal.equation) at over);
      },
      integer left numbers.0,
      integer right numbers.1,
    );
  }

  abbrev Prints : Monomial → ℤ → ℤ → Type 0
  Prints at left right = IsPrintable file goal (No at left right)

  -- a goal by ring
  module _ (law : NoIsOverTheTable) (range : NoIsWithinRange) (at : Monomial) (left right : ℤ)
      (is : IsEquation file goal.equation) (by : goal.method ≡ ByRing) (mono : IsMono nat_cmp at)
      (verdict : IsRingVerdict file goal.equation (RingVerdict.No at left right)) where
    pub no_prints : Prints at left right
    no_prints =
        no_may at left right (λ l r. subst (λ method. HasForm method (No at l r)) (sym by) tt) (ap uses_of by) mono
        verdict.0.0 (law file goal.equation at left right verdict) (range file goal.equation at left right is verdict)

    pub no_is_printable : Prints at (handed left) (handed right)
    no_is_printable =
        let numbers = range file goal.equation at left right is verdict in
        both_handed (Prints at) left right numbers.0 numbers.1 no_prints

  -- a goal by field
  module _ (law : FieldNoIsOverTheTable) (range : FieldNoIsWithinRange) (at : Monomial) (left right : ℤ)
      (by : goal.method ≡ ByField) (mono : IsMono nat_cmp at)
      (verdict : IsFieldVerdict file goal.equation (FieldVerdict.No at left right)) where
    pub field_no_prints : Prints at left right
    field_no_prints =
        no_may at left right (λ l r. subst (λ method. HasForm method (No at l r)) (sym by) tt) (ap uses_of by) mono
        verdict.0.0 (law file goal.equation at left right verdict) (range file goal.equation at left right verdict)

    pub field_no_is_printable : Prints at (handed left) (handed right)
    field_no_is_printable =
        let numbers = range file goal.equation at left right verdict in
        both_handed (Prints at) left right numbers.0 numbers.1 field_no_prints

  -- the conditions of a goal by field, and a denominator that is zero
  pub conditions_are_printable : FieldTermsMayStand → IsGoal file goal → goal.method ≡ ByField →
      (conditions : List Term) → IsFieldVerdict file goal.equation (FieldVerdict.Proved conditions) →
      IsPrintable file goal (Proved conditions)
  conditions_are_printable stand is by conditions verdict = record {
    form = subst (λ method. HasForm method (Proved conditions)) (sym by) tt;
    parts = stand.conditions file goal conditions is by verdict;
  }

  pub denominator_is_printable : FieldTermsMayStand → IsGoal file goal → goal.method ≡ ByField →
      (t : Term) → IsFieldVerdict file goal.equation (FieldVerdict.ZeroDenominator t) →
      IsPrintable file goal (ZeroDenominator t)
  denominator_is_printable stand is by t verdict = record {
    form = subst (λ method. HasForm method (ZeroDenominator t)) (sym by) tt;
    parts = stand.denominator file goal t is by verdict;
  }
