-- The polynomial of a term that breaks no rule is within the limits, and the coefficients of No within the range.
use Rattle.std.specs.Prelude.{◌≡◌, ℕ, zero, suc, ◌+◌, ◌*◌, ◌^◌, ◌≤◌, true, false, cond, List, [], ◌∷◌, ℤ, pos, ◌+ℤ◌, sum_by}
use Rattle.std.proofs.Common.{refl, sym, subst, arith}
use Rattle.std.specs.Int.RustNames.{unsigned_abs}
use Rattle.std.proofs.lemmas.Int.{ints}
use Rattle.std.proofs.Math.Nat.{le_trans}
use Rattle.std.specs.Cmp.{nat_cmp_total}
use Rattle.std.specs.FinMap.{nat_cmp-IsAntisymmetric}
use Rattle.std.specs.Ordering.{eq_by_cmp}
use Rattle.alg_terms.specs.declared.term.Atom.{Atom}
use Rattle.alg_terms.specs.declared.term.Term.{Term, more_of-Term, Var, Int, Neg', Add', Sub', Mul', Div', Pow', Hom'}
use Rattle.alg_terms.specs.Nodes.{fold_term, EachNode}
use Rattle.alg_terms.specs.TermRules.{HasLiteral}
use Rattle.alg_mono.specs.FiniteMaps.{products}
use Rattle.alg_mono.specs.Mono.{Monomial}
use Rattle.alg_mono.specs.Monomials.{MAX_DEGREE}
use Rattle.alg_mono.specs.NumberedPolynomials.{before, coefficient_of}
use Rattle.alg_mono.specs.NumberedPolynomials as numbers
use Rattle.alg_mono.specs.Numbers.{integers}
use Rattle.alg_mono.specs.Outcomes.{Outcome, outcome, first_breach, has_zero, norm_product, sum_outcome, product_outcome, power_outcome}
use Rattle.alg_mono.specs.Polynomials.{MAX, norm, poly_degree}
use Rattle.alg_mono.proofs.Canonical.{IsCanonical-collect}
use Rattle.alg_mono.proofs.Degrees.{degree-poly_neg, degree-poly_plus, degree-poly_minus, degree-poly_term, degree-poly_times, degree-poly_power}
use Rattle.alg_mono.proofs.Norms.{norm-cons, norm-poly_neg, norm-poly_plus, norm-poly_minus, norm-poly_term, norm-poly_times, norm-poly_power}
use Rattle.alg_mono.proofs.Numbers.{integer_laws}
use Rattle.alg_mono.proofs.Outcomes.{says_at}
use Rattle.alg_meaning.specs.Atoms.{Polynomial, falling, times, plus, minus, times_poly, power_poly, put_before}
use Rattle.alg_meaning.specs.Orders.{atom_total, atom_anti, falling_total, falling_anti}
use Rattle.alg_meaning.specs.PolynomialOf.{poly_of}
use Rattle.alg_meaning.specs.TermOutcome.{term_outcome}
use Rattle.alg_reify.specs.Numbered.{number_of, numbered}
use Rattle.alg_reify.specs.RingVerdict.{own_table}
use Rattle.alg_reify.specs.Laws.{NoIsWithinRange}
use Rattle.alg_reify.proofs.NormsSome.{no_terms}
use Rattle.alg_reify.proofs.Parts.{within}
use Rattle.alg_reify.proofs.Undone.{degree_image, norm_image}

-- within the limits on norms and degrees
pub record IsWithin (p : Polynomial) : Type 0 where
  pub bounded : norm p ≤ MAX
  pub small : poly_degree p ≤ MAX_DEGREE

-- of two and of three things made in order: where none is the first that breaks a rule, none breaks one
pub both_fine : (o later : Outcome) → first_breach o later ≡ Outcome.Fine →
    (o ≡ Outcome.Fine) × (later ≡ Outcome.Fine)
both_fine Outcome.Fine later h = (refl, h)
both_fine Outcome.Range later h = absurd (cc)
both_fine Outcome.Degree later h = absurd (cc)

all_fine : (o p q : Outcome) → first_breach o (first_breach p q) ≡ Outcome.Fine →
    (o ≡ Outcome.Fine) × (p ≡ Outcome.Fine) × (q ≡ Outcome.Fine)
all_fine o p q h =
    let first = both_fine o (first_breach p q) h in let rest = both_fine p q first.1 in (first.0, rest.0, rest.1)

-- a sum and a difference: their rule is on the norm alone, and no degree is greater than those of both parts
plus_within : (p q : Polynomial) → sum_outcome p q ≡ Outcome.Fine → poly_degree p ≤ MAX_DEGREE →
    poly_degree q ≤ MAX_DEGREE → IsWithin (plus p q)
plus_within p q fine h g = record {
  bounded = le_trans (norm-poly_plus falling p q) (says_at (norm p + norm q) 0 Outcome.Fine fine).0;
  small = grind (arith, degree-poly_plus integers atom_total atom_anti p q);
}

minus_within : (p q : Polynomial) → sum_outcome p q ≡ Outcome.Fine → poly_degree p ≤ MAX_DEGREE →
    poly_degree q ≤ MAX_DEGREE → IsWithin (minus p q)
minus_within p q fine h g = record {
  bounded = le_trans (norm-poly_minus falling p q) (says_at (norm p + norm q) 0 Outcome.Fine fine).0;
  small = grind (arith, degree-poly_minus atom_total atom_anti p q);
}

-- where a factor is zero, the product of the norms is 0
zero_product : (ps : List Polynomial) → has_zero ps ≡ true → norm_product ps ≡ 0
zero_product [] h = absurd (cc)
zero_product ([] ∷ ps) h = omega arith
zero_product ((t ∷ p) ∷ ps) h = nothing (norm (t ∷ p)) (norm_product ps) (zero_product ps h)
  where
    nothing : (a b : ℕ) → b ≡ 0 → a * b ≡ 0
    nothing a b h = subst (λ k. a * k ≡ 0) (sym h) (zero_times a)
      where
        zero_times : (a : ℕ) → a * 0 ≡ 0
        zero_times a = omega arith

-- zero is within the limits
zero_within : (p : Polynomial) → p ≡ [] → IsWithin p
zero_within p e = subst IsWithin (sym e) record { bounded = omega arith; small = omega arith }

-- a product that is no greater than the factors in all, which break no rule: with a factor zero it is zero
pub product_within : (p q : Polynomial) (ps : List Polynomial) → norm p * norm q ≤ norm_product ps →
    poly_degree p + poly_degree q ≤ sum_by poly_degree ps → product_outcome ps ≡ Outcome.Fine →
    IsWithin (times_poly p q)
product_within p q ps h g fine =
    let r = times_poly p q in
    let list = IsCanonical-collect integer_laws.amounts falling_total falling_anti (products times integers.mul p q) in
    let norms = le_trans (norm-poly_times falling times p q) h in
    elim (has_zero ps) as (λ b. has_zero ps ≡ b →
    cond b Outcome.Fine (outcome (norm_product ps) (sum_by poly_degree ps)) ≡ Outcome.Fine → IsWithin r) [
      | true ↦ λ is e. zero_within r (no_terms falling r list.no_none (none (norm r) norms (zero_product ps is)))
      | false ↦ λ is e.
          let says = says_at (norm_product ps) (sum_by poly_degree ps) Outcome.Fine e in record {
            bounded = le_trans norms says.0;
            small = le_trans (degree-poly_times integers atom_total atom_anti p q) (le_trans g says.1);
          }
    ] refl fine
  where
    none : (n : ℕ) {m : ℕ} → n ≤ m → m ≡ 0 → n ≡ 0
    none n h e = omega (arith, h, e)

times_within : (p q : Polynomial) → product_outcome (p ∷ q ∷ []) ≡ Outcome.Fine → IsWithin (times_poly p q)
times_within p q fine = product_within p q (p ∷ q ∷ []) (norms (norm p) (norm q)) (omega arith) fine
  where
    norms : (a b : ℕ) → a * b ≤ a * (b * 1)
    norms a b = omega arith

-- the powers of zero are 1 and zero
zero_power : (n : ℕ) → IsWithin (power_poly [] n)
zero_power zero = record {
  bounded = le_trans (norm-poly_term falling [] (pos 1)) one_within;
  small = le_trans (degree-poly_term integers atom_total atom_anti [] (pos 1)) (omega arith);
}
  where
    one_within : unsigned_abs (pos 1) ≤ MAX
    one_within = omega (arith, ints)
zero_power (suc n) = record { bounded = omega arith; small = omega arith }

-- a power
power_within : (p : Polynomial) (n : ℕ) → power_outcome p n ≡ Outcome.Fine → IsWithin (power_poly p n)
power_within [] n fine = zero_power n
power_within (e ∷ p) n fine =
    let says = says_at (norm (e ∷ p) ^ n) (n * poly_degree (e ∷ p)) Outcome.Fine fine in record {
      bounded = le_trans (norm-poly_power falling times [] (e ∷ p) n) says.0;
      small = le_trans (degree-poly_power integers atom_total atom_anti (e ∷ p) n) says.1;
    }

-- the polynomial of a term is within the limits, its norm where the literals keep their rule
pub record IsTermWithin (t : Term) : Type 0 where
  pub bounded : EachNode HasLiteral t → norm (poly_of t) ≤ MAX
  pub small : poly_degree (poly_of t) ≤ MAX_DEGREE

either_way : {t : Term} → IsWithin (poly_of t) → IsTermWithin t
either_way h = record { bounded = λ g. h.bounded; small = h.small }

pub term_within : (t : Term) → term_outcome t ≡ Outcome.Fine → IsTermWithin t
unfolding fold_term EachNode term_outcome
term_within (Var k) fine = record { bounded = λ h. omega arith; small = omega arith }
term_within (Int n) fine = record {
  bounded = λ h. le_trans (norm-poly_term falling [] n) (within n h);
  small = le_trans (degree-poly_term integers atom_total atom_anti [] n) (omega arith);
}
term_within (Neg' _ (more_of-Term t _)) fine =
    let is = term_within t fine in record {
      bounded = λ h. le_trans (le_same (norm-poly_neg (poly_of t))) (is.bounded h.1);
      small = le_trans (le_same (degree-poly_neg (poly_of t))) is.small;
    }
  where
    le_same : {a b : ℕ} → a ≡ b → a ≤ b
    le_same {a} {b} e = omega (arith, e)
term_within (Add' _ (more_of-Term t _) _ (more_of-Term u _)) fine =
    let is = all_fine (term_outcome t) (term_outcome u) (sum_outcome (poly_of t) (poly_of u)) fine in
    either_way (plus_within (poly_of t) (poly_of u) is.2 (term_within t is.0).small (term_within u is.1).small)
term_within (Sub' _ (more_of-Term t _) _ (more_of-Term u _)) fine =
    let is = all_fine (term_outcome t) (term_outcome u) (sum_outcome (poly_of t) (poly_of u)) fine in
    either_way (minus_within (poly_of t) (poly_of u) is.2 (term_within t is.0).small (term_within u is.1).small)
term_within (Mul' _ (more_of-Term t _) _ (more_of-Term u _)) fine =
    let is = all_fine (term_outcome t) (term_outcome u) (product_outcome (poly_of t ∷ poly_of u ∷ [])) fine in
    either_way (times_within (poly_of t) (poly_of u) is.2)
term_within (Div' _ (more_of-Term t _) _ (more_of-Term u _)) fine =
    record { bounded = λ h. omega arith; small = omega arith }
term_within (Pow' _ (more_of-Term t _) n) fine =
    either_way (power_within (poly_of t) n (both_fine (term_outcome t) (power_outcome (poly_of t) n) fine).1)
term_within (Hom' f _ (more_of-Term t _)) fine =
    let is = term_within t fine in
    let p = poly_of t in record {
      bounded =
          λ h. le_trans (norm_image atom_total atom_anti atom_total atom_anti (put_before f) p) (is.bounded h.1);
      small = le_trans (degree_image atom_total atom_anti atom_total atom_anti (put_before f) p) is.small;
    }

-- no coefficient is greater than the norm
pub coefficient_within : (m : Monomial) (p : numbers.Polynomial) → unsigned_abs (coefficient_of m p) ≤ norm p
coefficient_within m [] = omega (arith, ints)
coefficient_within m (e ∷ p) =
    elim (eq_by_cmp before m e.0) as
    (λ b. unsigned_abs (cond b e.1 (pos 0) +ℤ coefficient_of m p) ≤ norm (e ∷ p)) [
      | true ↦ added e.1 (coefficient_of m p) (norm p) (norm (e ∷ p)) (coefficient_within m p) (norm-cons e p)
      | false ↦ kept e.1 (coefficient_of m p) (norm p) (norm (e ∷ p)) (coefficient_within m p) (norm-cons e p)
    ]
  where
    added : (x c : ℤ) (n all : ℕ) → unsigned_abs c ≤ n → all ≡ unsigned_abs x + n → unsigned_abs (x +ℤ c) ≤ all
    added x c n all h e = omega (arith, ints, h, e)

    kept : (x c : ℤ) (n all : ℕ) → unsigned_abs c ≤ n → all ≡ unsigned_abs x + n → unsigned_abs (pos 0 +ℤ c) ≤ all
    kept x c n all h e = omega (arith, ints, h, e)

-- and so of a numbered polynomial
pub numbered_within : (atoms : List Atom) (p : Polynomial) (m : Monomial) (c : ℤ) → norm p ≤ MAX →
    coefficient_of m (numbered atoms p) ≡ c → unsigned_abs c ≤ MAX
numbered_within atoms p m c h is =
    subst (λ x. unsigned_abs x ≤ MAX) is
    (le_trans (coefficient_within m (numbered atoms p))
    (le_trans (norm_image atom_total atom_anti nat_cmp_total nat_cmp-IsAntisymmetric (number_of atoms) p) h))

-- the coefficients of No are within the range
pub no_is_within_range : NoIsWithinRange
no_is_within_range file e m a b is h =
    let atoms = own_table file e in
    let fine = both_fine (term_outcome e.left) (term_outcome e.right) h.0.1 in
    let left = (term_within e.left fine.0).bounded is.left.literals in
    let right = (term_within e.right fine.1).bounded is.right.literals in (
      numbered_within atoms (poly_of e.left) m a left h.1.left,
      numbered_within atoms (poly_of e.right) m b right h.1.right,
    )
