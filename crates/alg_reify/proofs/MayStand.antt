-- The conditions of a verdict by field, and its denominator that is zero, are terms that may stand in an answer.
use Rattle.std.specs.Prelude.{◌≡◌, ◌≤◌, ◌⊎◌, Bool, true, false, cond, List, [], ◌∷◌, ◌++◌, All, Contains}
use Rattle.std.proofs.Common.{sym, subst, inl, inr}
use Rattle.std.proofs.lemmas.List.Elements.{All-nil, All-cons, All-head, All-tail, All-contains, All-weaker}
use Rattle.alg_terms.specs.declared.file.File.{File}
use Rattle.alg_terms.specs.declared.goals.Equation.{Equation}
use Rattle.alg_terms.specs.declared.goals.Goal.{Goal}
use Rattle.alg_terms.specs.declared.goals.Method.TheVariants.{ByField}
use Rattle.alg_terms.specs.declared.term.Term.{Term, more_of-Term, Var, Int, Neg', Add', Sub', Mul', Div', Pow', Hom'}
use Rattle.alg_terms.specs.AnswerRules.{IsAnswerTerm, MayDivide}
use Rattle.alg_terms.specs.GoalRules.{IsGoal, IsByField, MayBeBy}
use Rattle.alg_terms.specs.Limits.{MAX_DEPTH}
use Rattle.alg_terms.specs.Nodes.{EachNode}
use Rattle.alg_terms.specs.Sorts.{sort_beside}
use Rattle.alg_terms.specs.Term.{depth_of}
use Rattle.alg_terms.specs.TermRules.{IsTerm, IsInRange, HasLiteral, HasExponent, HasAgreeingParts, HasFittingArgument, HasFieldQuotients}
use Rattle.alg_mono.specs.Outcomes.{Outcome}
use Rattle.alg_meaning.specs.Conditions.{denominators, conditions_of}
use Rattle.alg_meaning.specs.ConditionWords.{denominators_of, ConditionsSay}
use Rattle.alg_meaning.specs.FractionOutcome.{FractionOutcome, first_not_fine, of_polynomials, frac_outcome}
use Rattle.alg_meaning.proofs.SameTrees.{EachTerm}
use Rattle.alg_meaning.proofs.Typed.{IsTyped, typed_left, typed_right}
use Rattle.alg_reify.specs.FieldLaws.{FieldTermsMayStand}
use Rattle.alg_reify.specs.FieldVerdict.{sides_outcome}
use Rattle.alg_reify.proofs.FieldTerms.{joined, each_in, deep, quotients}

-- ---- the first outcome that is not fine is one of the two
either : (a b : FractionOutcome) (u : Term) → first_not_fine a b ≡ FractionOutcome.ZeroDenominator u →
    (a ≡ FractionOutcome.ZeroDenominator u) ⊎ (b ≡ FractionOutcome.ZeroDenominator u)
either FractionOutcome.Fine b u h = inr h
either FractionOutcome.Range b u h = absurd (cc)
either FractionOutcome.Degree b u h = absurd (cc)
either (FractionOutcome.ZeroDenominator t) b u h = inl h

-- no operation on polynomials has a denominator
no_denominator : (o : Outcome) (u : Term) → of_polynomials o ≡ FractionOutcome.ZeroDenominator u → ⊥
no_denominator Outcome.Fine u h = cc
no_denominator Outcome.Range u h = cc
no_denominator Outcome.Degree u h = cc

-- the denominator of an outcome
denominator_of : Term → FractionOutcome → Term
denominator_of t (FractionOutcome.ZeroDenominator u) = u
denominator_of t FractionOutcome.Fine = t
denominator_of t FractionOutcome.Range = t
denominator_of t FractionOutcome.Degree = t

pub same_denominator : (t u : Term) → FractionOutcome.ZeroDenominator t ≡ FractionOutcome.ZeroDenominator u → t ≡ u
unfolding denominator_of
same_denominator t u h = λ i. denominator_of t (h i)

-- ---- a denominator that is zero is one of the denominators
module _ (Q : Term → Type 0) where
  split : (ts us : List Term) → EachTerm Q (ts ++ us) → EachTerm Q ts × EachTerm Q us
  split [] us h = (tt, h)
  split (t ∷ ts) us h = let rest = split ts us h.1 in ((h.0, rest.0), rest.1)

  module _ (v : Term) where
    abbrev Zero : FractionOutcome → Type 0
    Zero o = o ≡ FractionOutcome.ZeroDenominator v

    pub in_order : (a b : FractionOutcome) (o : Outcome) → (Zero a → Q v) → (Zero b → Q v) →
        Zero (first_not_fine a (first_not_fine b (of_polynomials o))) → Q v
    in_order a b o in_a in_b h =
        elim (either a (first_not_fine b (of_polynomials o)) v h) [
          | inl z ↦ in_a z
          | inr later ↦
              elim (either b (of_polynomials o) v later)
              [ inl z ↦ in_b z | inr none ↦ absurd (no_denominator o v none) ]
        ]

    at_quotient : (b : Bool) (u : Term) (o : Outcome) → Q u →
        Zero (cond b (FractionOutcome.ZeroDenominator u) (of_polynomials o)) → Q v
    at_quotient true u o is h = subst Q (same_denominator u v h) is
    at_quotient false u o is h = absurd (no_denominator o v h)

    pub zero_is_one : (t : Term) → EachTerm Q (denominators t) → Zero (frac_outcome t) → Q v
    unfolding denominators frac_outcome
    zero_is_one (Var k) h z = absurd (cc)
    zero_is_one (Int n) h z = absurd (cc)
    zero_is_one (Neg' _ (more_of-Term t _)) h z = zero_is_one t h z
    zero_is_one (Add' _ (more_of-Term t _) _ (more_of-Term u _)) h z =
        let s = split (denominators t) (denominators u) h in
        in_order (frac_outcome t) (frac_outcome u) _ (zero_is_one t s.0) (zero_is_one u s.1) z
    zero_is_one (Sub' _ (more_of-Term t _) _ (more_of-Term u _)) h z =
        let s = split (denominators t) (denominators u) h in
        in_order (frac_outcome t) (frac_outcome u) _ (zero_is_one t s.0) (zero_is_one u s.1) z
    zero_is_one (Mul' _ (more_of-Term t _) _ (more_of-Term u _)) h z =
        let s = split (denominators t) (denominators u) h in
        in_order (frac_outcome t) (frac_outcome u) _ (zero_is_one t s.0) (zero_is_one u s.1) z
    zero_is_one (Div' _ (more_of-Term t _) _ (more_of-Term u _)) h z =
        let s = split (denominators t) (denominators u ++ u ∷ []) h in
        let r = split (denominators u) (u ∷ []) s.1 in
        elim (either (frac_outcome t) _ v z) [
          | inl first ↦ zero_is_one t s.0 first
          | inr later ↦
              elim (either (frac_outcome u) _ v later)
              [ inl second ↦ zero_is_one u r.0 second | inr here ↦ at_quotient _ u _ r.1.0 here ]
        ]
    zero_is_one (Pow' _ (more_of-Term t _) n) h z =
        elim (either (frac_outcome t) _ v z)
        [ inl first ↦ zero_is_one t h first | inr none ↦ absurd (no_denominator _ v none) ]
    zero_is_one (Hom' f _ (more_of-Term t _)) h z = zero_is_one t h z

-- ---- the denominators of a goal by field may stand in an answer
both : (A B : Term → Type 0) (ts : List Term) → EachTerm A ts → EachTerm B ts → EachTerm (λ t. A t × B t) ts
both A B [] h g = tt
both A B (t ∷ ts) h g = ((h.0, g.0), both A B ts h.1 g.1)

each_to : (A B : Term → Type 0) → ((t : Term) → A t → B t) → (ts : List Term) → EachTerm A ts → EachTerm B ts
each_to A B to [] h = tt
each_to A B to (t ∷ ts) h = (to t h.0, each_to A B to ts h.1)

pub as_all : (Q : Term → Type 0) (ts : List Term) → EachTerm Q ts → All Q ts
as_all Q [] h = All-nil Q
as_all Q (t ∷ ts) h = All-cons Q t ts h.0 (as_all Q ts h.1)

pub each_of : (Q : Term → Type 0) (ts : List Term) → All Q ts → EachTerm Q ts
each_of Q [] h = tt
each_of Q (t ∷ ts) h = (All-head Q t ts h, each_of Q ts (All-tail Q t ts h))

module _ (file : File) where
  -- what the rules of terms say
  abbrev Nodes : Term → Type 0
  Nodes t =
      (EachNode (IsInRange file) t × EachNode HasLiteral t)
      × ((EachNode HasExponent t × (depth_of t ≤ MAX_DEPTH))
      × (EachNode (HasAgreeingParts file) t × EachNode (HasFittingArgument file) t))

  -- each denominator of a term of the file is one
  terms : (t : Term) → IsTerm file t → EachTerm (IsTerm file) (denominators t)
  terms t h =
      let ds = denominators t in
      each_to Nodes (IsTerm file)
      (λ u n. record {
        indices = n.0.0;
        literals = n.0.1;
        exponents = n.1.0.0;
        depth = n.1.0.1;
        parts = n.1.1.0;
        arguments = n.1.1.1;
      }) ds
      (both _ _ ds (both _ _ ds (each_in (IsInRange file) t h.indices) (each_in HasLiteral t h.literals))
      (both _ _ ds (both _ _ ds (each_in HasExponent t h.exponents) (deep MAX_DEPTH t h.depth))
      (both _ _ ds (each_in (HasAgreeingParts file) t h.parts) (each_in (HasFittingArgument file) t h.arguments))))

  module _ (goal : Goal) (is : IsGoal file goal) (by : goal.method ≡ ByField) where
    abbrev e : Equation
    e = goal.equation

    field : IsByField file e
    field = subst (MayBeBy file e) by is.method

    stands : (t : Term) → IsTerm file t → IsTyped file e.sort t → HasFieldQuotients file e.sort t →
        EachTerm (IsAnswerTerm file goal) (denominators t)
    stands t rules typed fields =
        let ds = denominators t in
        each_to _ (IsAnswerTerm file goal)
        (λ u h. record {
          term = h.0;
          quotients = subst (λ m. MayDivide file m (sort_beside file e.sort u) u) (sym by) h.1;
        }) ds
        (both (IsTerm file) (λ u. HasFieldQuotients file (sort_beside file e.sort u) u) ds (terms t rules)
        (quotients file e.sort e.sort [] t field.field typed fields))

    left_stands : EachTerm (IsAnswerTerm file goal) (denominators e.left)
    left_stands = stands e.left is.equation.left (typed_left file e is.equation) field.left

    right_stands : EachTerm (IsAnswerTerm file goal) (denominators e.right)
    right_stands = stands e.right is.equation.right (typed_right file e is.equation) field.right

    conditions_stand : ConditionsSay → All (IsAnswerTerm file goal) (conditions_of file e)
    conditions_stand say =
        let ds = denominators_of e in
        let all = as_all (IsAnswerTerm file goal) ds
        (joined (IsAnswerTerm file goal) (denominators e.left) (denominators e.right) left_stands right_stands) in
        All-weaker (Contains ds) (IsAnswerTerm file goal)
        (λ t held. All-contains (IsAnswerTerm file goal) ds t all held) (conditions_of file e) (say file e).only

    zero_stands : (t : Term) → sides_outcome e ≡ FractionOutcome.ZeroDenominator t → IsAnswerTerm file goal t
    zero_stands t h =
        in_order (IsAnswerTerm file goal) t (frac_outcome e.left) (frac_outcome e.right) _
        (zero_is_one (IsAnswerTerm file goal) t e.left left_stands)
        (zero_is_one (IsAnswerTerm file goal) t e.right right_stands) h

pub field_terms : ConditionsSay → FieldTermsMayStand
field_terms say = record {
  conditions =
      λ file goal terms is by h. subst (All (IsAnswerTerm file goal)) (sym h.2) (conditions_stand file goal is by say);
  denominator = λ file goal t is by h. zero_stands file goal is by t h.1;
}
