-- A term whose fraction is made, and its parts.
use Rattle.std.specs.Prelude.{◌≡◌, ℕ, Bool, cond, ◌||◌, ◌&&◌, List, [], ◌∷◌, ◌++◌, All, Contains}
use Rattle.std.proofs.Common.{refl, sym, ap, subst, ◌∙◌}
use Rattle.std.specs.Ordering.{nat_cmp}
use Rattle.alg_terms.specs.declared.term.Atom.{Atom}
use Rattle.alg_terms.specs.declared.term.Term.{Term}
use Rattle.alg_terms.specs.Nodes.{EachNode}
use Rattle.alg_terms.specs.TermRules.{HasLiteral}
use Rattle.alg_terms.proofs.Built.{fold_term-Neg, fold_term-Pow}
use Rattle.alg_terms.proofs.Views.{Unary, Binary, unary, binary, binary_node, nodes_unary, nodes_binary, fold_binary}
use Rattle.alg_mono.specs.Outcomes.{is_nothing}
use Rattle.alg_meaning.specs.Conditions.{denominators, is_dropped}
use Rattle.alg_meaning.specs.FractionOutcome.{FractionOutcome, first_not_fine, frac_outcome, of_polynomials}
use Rattle.alg_meaning.specs.FractionRules.{power_of_fraction}
use Rattle.alg_meaning.specs.Fractions.{node_frac, frac, is_unit}
use Rattle.alg_meaning.specs.FractionsOver as over
use Rattle.alg_meaning.specs.FractionsOver.{FractionOver, frac_opposite, frac_power, frac_quotient}
use Rattle.alg_meaning.proofs.Built.{unary_fraction_outcome, binary_fraction_outcome, divisors, denominators_unary, denominators_binary, frac_outcome_unary, frac_outcome_binary}
use Rattle.alg_reify.specs.FractionsUnder.{numbered_along, numbered_frac_along, made_fraction, IsHeld}
use Rattle.alg_reify.specs.Numbered.{numbered}
use Rattle.alg_reify.specs.NumberedFractions.{numbered_fraction}
use Rattle.alg_reify.proofs.FractionsAlong.{top_along}
use Rattle.alg_reify.proofs.FractionsUnder.{fractions_under_paths}
use Rattle.alg_reify.proofs.Leaves.{path_below, leaves_unary}
use Rattle.alg_reify.specs.Added.{drops, add_condition, add_conditions}
use Rattle.alg_reify.specs.MakingFractions.{Operation, operated, operated_outcome, operated_conditions}
use Rattle.alg_reify.proofs.Operations.{operation_of}

-- a term of one part, which stands under the path `inner`
pub record HasPart (atoms : List Atom) (path inner : List ℕ) (t part : Term) (node : FractionOver ℕ → FractionOver ℕ)
    (own : FractionOver ℕ → FractionOutcome) : Type 0 where
  pub literals : EachNode HasLiteral t → EachNode HasLiteral part
  pub held : IsHeld atoms path t → IsHeld atoms inner part
  pub fraction : IsHeld atoms inner part → made_fraction atoms path t ≡ node (made_fraction atoms inner part)
  pub outcome : IsHeld atoms inner part →
      frac_outcome t ≡ first_not_fine (frac_outcome part) (own (made_fraction atoms inner part))
  pub conditions : denominators t ≡ denominators part

-- the fraction that an operation on one part gives, and what of it is its own
abbrev pub operated_part : Unary → FractionOver ℕ → FractionOver ℕ
operated_part Unary.Opposite a = frac_opposite a
operated_part (Unary.Power n) a = frac_power nat_cmp a n
operated_part (Unary.Image f) a = a

abbrev pub part_outcome : Unary → FractionOver ℕ → FractionOutcome
part_outcome Unary.Opposite a = FractionOutcome.Fine
part_outcome (Unary.Power n) a = of_polynomials (power_of_fraction nat_cmp a n)
part_outcome (Unary.Image f) a = FractionOutcome.Fine

module _ (atoms : List Atom) (path : List ℕ) where
  part_fraction : (o : Unary) (t : Term) → IsHeld atoms (path_below o path) t →
      made_fraction atoms path (unary o t) ≡ operated_part o (made_fraction atoms (path_below o path) t)
  part_fraction Unary.Opposite t h =
      ap (numbered_frac_along atoms path) (fold_term-Neg node_frac t)
      ∙ (fractions_under_paths.fractions atoms path t t h h).opposite
  part_fraction (Unary.Power n) t h =
      ap (numbered_frac_along atoms path) (fold_term-Pow node_frac t n)
      ∙ (fractions_under_paths.fractions atoms path t t h h).power n
  part_fraction (Unary.Image f) t h = ap (numbered_fraction atoms) (fractions_under_paths.image path f t)

  own_outcome : (o : Unary) (t : Term) → IsHeld atoms (path_below o path) t →
      unary_fraction_outcome o t ≡ part_outcome o (made_fraction atoms (path_below o path) t)
  own_outcome Unary.Opposite t h = refl
  own_outcome (Unary.Power n) t h = ap of_polynomials ((fractions_under_paths.rules atoms path t t h h).power n)
  own_outcome (Unary.Image f) t h = refl

  -- an operation on one part
  pub part : (o : Unary) {t s inner : Term} → t ≡ unary o s → inner ≡ s →
      HasPart atoms path (path_below o path) t inner (operated_part o) (part_outcome o)
  part o {t = t} {s = s} {inner = inner} e p =
      let P : Term → Type 0 = λ x. HasPart atoms path (path_below o path) x inner (operated_part o) (part_outcome o) in
      subst P (sym (e ∙ ap (unary o) (sym p))) record {
        literals = λ h. ((nodes_unary HasLiteral o inner).0 h).1;
        held = subst (All (Contains atoms)) (leaves_unary path o inner);
        fraction = part_fraction o inner;
        outcome = λ h. frac_outcome_unary o inner ∙ ap (first_not_fine (frac_outcome inner)) (own_outcome o inner h);
        conditions = denominators_unary o inner;
      }

-- ---- two parts

-- a term of two parts and the operation on them
pub record HasTwo (atoms : List Atom) (path : List ℕ) (t l r : Term) (op : Operation) : Type 0 where
  pub literals : EachNode HasLiteral t → EachNode HasLiteral l × EachNode HasLiteral r
  pub fraction : IsHeld atoms path l → IsHeld atoms path r →
      made_fraction atoms path t ≡ operated op (made_fraction atoms path l) (made_fraction atoms path r)
  pub outcome : IsHeld atoms path l → IsHeld atoms path r →
      frac_outcome t ≡ first_not_fine (frac_outcome l) (first_not_fine (frac_outcome r)
      (operated_outcome op (made_fraction atoms path l) (made_fraction atoms path r)))
  pub conditions : IsHeld atoms path r → (char0 : Bool) (seen : List Term) →
      add_conditions char0 seen (denominators t)
      ≡ operated_conditions char0 op (made_fraction atoms path r)
      (add_conditions char0 (add_conditions char0 seen (denominators l)) (denominators r))

pub add_conditions-append : (char0 : Bool) (seen ts us : List Term) →
    add_conditions char0 seen (ts ++ us) ≡ add_conditions char0 (add_conditions char0 seen ts) us
add_conditions-append char0 seen [] us = refl
add_conditions-append char0 seen (t ∷ ts) us =
    add_conditions-append char0 (add_condition (is_dropped char0 t) seen t) ts us

module _ (atoms : List Atom) (path : List ℕ) (l r : Term) where
  abbrev L : FractionOver ℕ
  L = made_fraction atoms path l

  abbrev R : FractionOver ℕ
  R = made_fraction atoms path r

  -- what the tests on the denominator's numerator say
  abbrev along : FractionOver ℕ → Type 0
  along a = numbered_along atoms path (frac r).top ≡ a.top

  top_is : along R
  top_is = ap (numbered atoms) (sym (top_along path (frac r)))

  dropped_is : IsHeld atoms path r → (char0 : Bool) → is_dropped char0 r ≡ drops char0 R.top
  dropped_is h char0 =
      let tests = fractions_under_paths.tests atoms path r h in
      (λ i. tests.unit i || (char0 && tests.constant i)) ∙ ap (drops char0) top_is

  zero_is : IsHeld atoms path r → is_nothing (frac r).top ≡ is_nothing R.top
  zero_is h = (fractions_under_paths.tests atoms path r h).zero ∙ ap is_nothing top_is

  unit_is : IsHeld atoms path r → is_unit (frac r).top ≡ over.is_unit nat_cmp R.top
  unit_is h = (fractions_under_paths.tests atoms path r h).unit ∙ ap (over.is_unit nat_cmp) top_is

  -- the fraction of an operation, what of it is its own, and the condition that it adds
  both_fraction : (o : Binary) → IsHeld atoms path l → IsHeld atoms path r →
      numbered_frac_along atoms path (node_frac (binary_node o (frac l) (frac r))) ≡ operated (operation_of o r) L R
  both_fraction Binary.Sum h g = (fractions_under_paths.fractions atoms path l r h g).sum
  both_fraction Binary.Difference h g = (fractions_under_paths.fractions atoms path l r h g).difference
  both_fraction Binary.Product h g = (fractions_under_paths.fractions atoms path l r h g).product
  both_fraction Binary.Quotient h g =
      (fractions_under_paths.fractions atoms path l r h g).quotient (is_unit (frac r).top)
      ∙ ap (λ unit. frac_quotient nat_cmp unit L R) (unit_is g)

  both_outcome : (o : Binary) → IsHeld atoms path l → IsHeld atoms path r →
      binary_fraction_outcome o l r ≡ operated_outcome (operation_of o r) L R
  both_outcome Binary.Sum h g = ap of_polynomials (fractions_under_paths.rules atoms path l r h g).sum
  both_outcome Binary.Difference h g = ap of_polynomials (fractions_under_paths.rules atoms path l r h g).sum
  both_outcome Binary.Product h g = ap of_polynomials (fractions_under_paths.rules atoms path l r h g).product
  both_outcome Binary.Quotient h g =
      λ i. cond (zero_is g i) (FractionOutcome.ZeroDenominator r)
      (of_polynomials ((fractions_under_paths.rules atoms path l r h g).quotient i))

  own_condition : (o : Binary) → IsHeld atoms path r → (char0 : Bool) (seen : List Term) →
      add_conditions char0 seen (divisors o r) ≡ operated_conditions char0 (operation_of o r) R seen
  own_condition Binary.Sum g char0 seen = refl
  own_condition Binary.Difference g char0 seen = refl
  own_condition Binary.Product g char0 seen = refl
  own_condition Binary.Quotient g char0 seen = ap (λ d. add_condition d seen r) (dropped_is g char0)

  pub two_parts : (o : Binary) → HasTwo atoms path (binary o l r) l r (operation_of o r)
  two_parts o = record {
    literals = λ h. let k = (nodes_binary HasLiteral o l r).0 h in (k.1, k.2);
    fraction = λ h g. ap (numbered_frac_along atoms path) (fold_binary node_frac o l r) ∙ both_fraction o h g;
    outcome = λ h g. frac_outcome_binary o l r
        ∙ ap (λ own. first_not_fine (frac_outcome l) (first_not_fine (frac_outcome r) own)) (both_outcome o h g);
    conditions = λ g char0 seen.
        let left = add_conditions char0 seen (denominators l) in
        ap (add_conditions char0 seen) (denominators_binary o l r)
        ∙ add_conditions-append char0 seen (denominators l) (denominators r ++ divisors o r)
        ∙ add_conditions-append char0 left (denominators r) (divisors o r)
        ∙ own_condition o g char0 (add_conditions char0 left (denominators r));
  }
