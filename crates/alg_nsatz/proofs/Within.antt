-- The certificate of a verdict Proved is within the limits and over the goal's table.
use Rattle.std.specs.Prelude.{◌<◌, ◌≤◌, ◌^◌, ℕ, ℤ, pos, Bool, true, false, cond, List, [], ◌∷◌, ◌++◌, All, Contains, filter, map, length}
use Rattle.std.specs.Cmp.{nat_cmp_total}
use Rattle.std.specs.FinMap.{nat_cmp-IsAntisymmetric}
use Rattle.std.specs.Ordering.{int_cmp, is_lt, nat_cmp}
use Rattle.std.specs.BTreeSet.{insert_key}
use Rattle.std.proofs.Common.{sym, subst, arith}
use Rattle.std.proofs.lemmas.List.{get_or_default}
use Rattle.std.proofs.lemmas.List.Elements.{All-nil, All-cons, All-head, All-tail, All-append, All-weaker}
use Rattle.std.proofs.lemmas.Map.Views.{All-insert_key}
use Rattle.alg_terms.specs.declared.file.File.{File}
use Rattle.alg_terms.specs.declared.goals.Equation.{Equation}
use Rattle.alg_terms.specs.declared.goals.Method.{Method}
use Rattle.alg_terms.specs.declared.goals.Method.TheVariants.{ByRing, ByField, ByNsatz}
use Rattle.alg_terms.specs.declared.goals.Use.{Use}
use Rattle.alg_terms.specs.declared.term.Atom.{Atom}
use Rattle.alg_terms.specs.declared.term.Term.{Term}
use Rattle.alg_terms.specs.GoalRules.{IsHyp, IsNsatz, IsUse, MayBeBy}
use Rattle.alg_terms.specs.Limits.{MAX_USES}
use Rattle.alg_terms.specs.Members.{hyp_at, no_hyp, sort_at, uses_of}
use Rattle.alg_mono.specs.FiniteMaps.{Each, renamed}
use Rattle.alg_mono.specs.NumberedPolynomials.{Polynomial, product_of}
use Rattle.alg_mono.specs.Numbers.{integers}
use Rattle.alg_mono.specs.Polynomials.{IsPolynomial, poly_neg}
use Rattle.alg_mono.proofs.Canonical.{IsCanonical-collect}
use Rattle.alg_mono.proofs.Closure.{IsPolynomial-rename}
use Rattle.alg_mono.proofs.Each.{Each-neg}
use Rattle.alg_mono.proofs.Numbers.{exponent_laws, integer_laws}
use Rattle.alg_meaning.specs.Atoms.{atom_cmp}
use Rattle.alg_meaning.specs.PolynomialOf.{poly_of_under}
use Rattle.alg_lines.specs.Constants.{added, constants}
use Rattle.alg_lines.specs.declared.cert.Cert.{Cert}
use Rattle.alg_lines.specs.declared.cert.GoalStep.{GoalStep}
use Rattle.alg_lines.specs.declared.cert.Line.{Line}
use Rattle.alg_groebner.specs.Laws.{CertificatesAreWithin}
use Rattle.alg_groebner.specs.Within.{IsCertWithin, IsLineWithin, IsMagnitude, IsOverAtoms, IsStepWithin}
use Rattle.alg_groebner.proofs.Over.{over_product}
use Rattle.alg_reify.specs.Numbered.{number_of, numbered, numbered_monomial}
use Rattle.alg_reify.specs.Preparing.{difference, goal_difference, is_equation, is_nonzero, nonzero_differences, prepared_goal, prepared_hyps, times_each, used_difference}
use Rattle.alg_reify.specs.Table.{MAX_ATOMS, equation_leaves, leaves, table, use_leaves}
use Rattle.alg_reify.proofs.AtomsIn.{atoms_in}
use Rattle.alg_reify.proofs.FractionsIn.{plus_in}
use Rattle.alg_reify.proofs.Held.{held_sides, held_uses}
use Rattle.alg_reify.proofs.Images.{Each-image}
use Rattle.alg_reify.proofs.Numbering.{contained_numbered}
use Rattle.alg_reify.proofs.Prepared.{left_held, right_held}
use Rattle.alg_reify.proofs.Uses.{use_leaves-at}
use Rattle.alg_nsatz.specs.Laws.{ProvedIsWithin}
use Rattle.alg_nsatz.specs.Verdict.{Certifies, NsatzVerdict, IsVerdictBy}
use Rattle.alg_reify.proofs.UseTurns.{kept_length}
use Rattle.std.proofs.lemmas.List.Elements.{recursion_from_All}

-- ---- lists of which something holds
kept_holds : {X Y : Type 0} (P : X → Type 0) (Q : Y → Type 0) (f : X → Y) (p : X → Bool) → ((x : X) → P x → Q (f x)) →
    (xs : List X) → All P xs → All Q (map f (filter p xs))
kept_holds P Q f p to [] h = All-nil Q
kept_holds {X = X} P Q f p to (x ∷ xs) h =
    let rest = kept_holds P Q f p to xs (All-tail P x xs h) in
    elim (p x) as (λ b. All Q (map f (cond b (x ∷ filter p xs) (filter p xs)))) [
      | true ↦ All-cons Q (f x) (map f (filter p xs)) (to x (All-head P x xs h)) rest
      | false ↦ rest
    ]

mapped : {X : Type 0} (P : X → Type 0) (f : X → ℤ) → ((x : X) → P x → IsMagnitude (f x)) → (xs : List X) → All P xs →
    All IsMagnitude (map f xs)
mapped P f to [] h = All-nil IsMagnitude
mapped P f to (x ∷ xs) h =
    All-cons IsMagnitude (f x) (map f xs) (to x (All-head P x xs h)) (mapped P f to xs (All-tail P x xs h))

-- ---- constants
all_added : (set cs : List ℤ) → All IsMagnitude set → All IsMagnitude cs → All IsMagnitude (added set cs)
all_added set [] h g = h
all_added set (c ∷ cs) h g =
    all_added (cond (is_lt (int_cmp (pos 1) c)) (insert_key int_cmp set c) set) cs
    (elim (is_lt (int_cmp (pos 1) c)) as (λ b. All IsMagnitude (cond b (insert_key int_cmp set c) set)) [
      | true ↦ All-insert_key int_cmp c IsMagnitude set h (All-head IsMagnitude c cs g)
      | false ↦ h
    ]) (All-tail IsMagnitude c cs g)

constants_within : (n : ℕ) (cert : Cert) (char0 : Bool) → IsCertWithin n cert → All IsMagnitude (constants cert char0)
constants_within n cert true h = All-nil IsMagnitude
constants_within n cert false h =
    let divisors = map (λ (l : Line). l.d) cert.lines in
    let factors = map (λ (s : GoalStep). s.a) cert.steps in
    all_added [] (divisors ++ factors) (All-nil IsMagnitude)
    (All-append IsMagnitude divisors factors
    (mapped (IsLineWithin n) (λ (l : Line). l.d) (λ l w. w.within.divisor) cert.lines h.lines)
    (mapped (IsStepWithin n) (λ (s : GoalStep). s.a) (λ s w. w.within.first) cert.steps h.steps))

-- ---- what is prepared is over the table
module _ (atoms : List Atom) where
  abbrev Over : Polynomial → Type 0
  Over p = IsOverAtoms (length atoms) p

  side_over : (path : List ℕ) (t : Term) → All (Contains atoms) (leaves path t) →
      Each (λ m. Each (Contains atoms) m) (poly_of_under path t)
  side_over path t h = atoms_in (Contains atoms) path t (recursion_from_All (Contains atoms) (leaves path t) h)

  difference_over : (path : List ℕ) (e : Equation) → All (Contains atoms) (equation_leaves path e) →
      Over (numbered atoms (difference path e))
  difference_over path e held =
      let p = poly_of_under path e.left in
      let q = poly_of_under path e.right in
      record {
        polynomial =
            IsPolynomial-rename integer_laws nat_cmp_total nat_cmp-IsAntisymmetric (numbered_monomial atoms)
            (λ m. IsCanonical-collect exponent_laws nat_cmp_total nat_cmp-IsAntisymmetric (renamed (number_of atoms) m))
            (difference path e);
        atoms =
            Each-image atom_cmp nat_cmp (number_of atoms) (Contains atoms) (λ k. k < length atoms)
            (λ x there. (contained_numbered atoms x there).0) (difference path e)
            (plus_in atom_cmp (Contains atoms) p (poly_neg q) (side_over path e.left (left_held atoms path e held))
            (Each-neg (λ m. Each (Contains atoms) m) q (side_over path e.right (right_held atoms path e held))));
      }

  product_over : (p : Polynomial) (qs : List Polynomial) → Over p → All Over qs → Over (times_each p qs)
  product_over p [] h g = h
  product_over p (q ∷ qs) h g =
      product_over (product_of p q) qs (over_product (length atoms) p q h (All-head Over q qs g)) (All-tail Over q qs g)

  module _ (file : File) (hyps : All (IsHyp file) file.hyps) (sort : ℕ) where
    -- a use whose atoms the table has
    record IsHeld (w : Use) : Type 0 where
      rules : IsUse file sort w
      held : All (Contains atoms) (use_leaves file w)

    both : (us : List Use) → All (IsUse file sort) us → All (λ w. All (Contains atoms) (use_leaves file w)) us →
        All IsHeld us
    both [] h g = All-nil IsHeld
    both (w ∷ us) h g =
        let Held : Use → Type 0 = λ w. All (Contains atoms) (use_leaves file w) in
        All-cons IsHeld w us (record { rules = All-head (IsUse file sort) w us h; held = All-head Held w us g })
        (both us (All-tail (IsUse file sort) w us h) (All-tail Held w us g))

    use_over : (w : Use) → IsHeld w → Over (used_difference file atoms w)
    use_over w h =
        let hyp = hyp_at file w.hyp in
        difference_over w.path hyp.equation
        (subst (All (Contains atoms))
        (use_leaves-at file w hyp h.rules.hyp (get_or_default file.hyps w.hyp no_hyp hyp h.rules.hyp)) h.held)

    uses_over : (p : Use → Bool) (us : List Use) → All IsHeld us → All Over (map (used_difference file atoms) (filter p us))
    uses_over p us h = kept_holds IsHeld Over (used_difference file atoms) p use_over us h

-- what is prepared is over the table
module _ (file : File) (hyps : All (IsHyp file) file.hyps) (e : Equation) (uses : List Use)
    (each_use : All (IsUse file e.sort) uses) where
  abbrev own : List Atom
  own = table file e uses

  held_all : All (IsHeld own file hyps e.sort) uses
  held_all = both own file hyps e.sort uses each_use (held_uses file e uses)

  hyps_over : All (Over own) (prepared_hyps file e uses)
  hyps_over = uses_over own file hyps e.sort (is_equation file) uses held_all

  goal_over : Over own (prepared_goal file e uses)
  goal_over =
      product_over own (goal_difference file e uses) (nonzero_differences file own uses)
      (difference_over own [] e (held_sides file e uses))
      (uses_over own file hyps e.sort (is_nonzero file) uses held_all)

  -- so these are polynomials
  pub prepared_are : All (λ p. IsPolynomial nat_cmp integers p) (prepared_hyps file e uses)
  prepared_are =
      All-weaker (Over own) (λ p. IsPolynomial nat_cmp integers p) (λ p over. over.polynomial)
      (prepared_hyps file e uses) hyps_over

  pub prepared_is : IsPolynomial nat_cmp integers (prepared_goal file e uses)
  prepared_is = goal_over.polynomial

pub few_prepared : (file : File) (e : Equation) (uses : List Use) → length uses ≤ MAX_USES →
    length (prepared_hyps file e uses) < 2 ^ 31
few_prepared file e uses most =
    let kept = kept_length (is_equation file) (used_difference file (table file e uses)) uses in omega arith

module _ (law : CertificatesAreWithin) (file : File) (hyps : All (IsHyp file) file.hyps) (e : Equation) where
  abbrev Within : List Use → List ℤ → Cert → Type 0
  Within uses numbers cert =
      (length (table file e uses) ≤ MAX_ATOMS) × IsCertWithin (length (table file e uses)) cert
      × All IsMagnitude numbers

  certified_within : (uses : List Use) (power limit : ℕ) (numbers : List ℤ) (cert : Cert) →
      IsNsatz file e uses power limit → Certifies file e uses power limit numbers cert → Within uses numbers cert
  certified_within uses power limit numbers cert is c =
      let atoms = table file e uses in
      let n = length atoms in
      let high = is.power_high in
      let far = is.limit_high in
      let within = subst (IsCertWithin n) (sym c.certificate)
      (law n (prepared_hyps file e uses) (prepared_goal file e uses) power limit
      (hyps_over file hyps e uses is.each_use) (goal_over file hyps e uses is.each_use)
      (few_prepared file e uses is.few_uses) (omega arith) (omega arith) c.last c.least c.ends.1) in
      let char0 = (sort_at file e.sort).char0 in
      (c.ends.0.0, within, subst (All IsMagnitude) (sym c.constants) (constants_within n cert char0 within))

  within_by : (method : Method) (numbers : List ℤ) (cert : Cert) → MayBeBy file e method →
      IsVerdictBy file e method (NsatzVerdict.Proved numbers cert) → Within (uses_of method) numbers cert
  within_by ByRing numbers cert is h = absurd h
  within_by ByField numbers cert is h = absurd h
  within_by (ByNsatz uses power limit) numbers cert is h = certified_within uses power limit numbers cert is h

pub proved_is_within : CertificatesAreWithin → ProvedIsWithin
proved_is_within law file goal hyps is numbers cert h =
    within_by law file hyps goal.equation goal.method numbers cert is.method h
