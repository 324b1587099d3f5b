-- A goal whose certificate is good is right.
use Rattle.std.specs.Prelude.{◌≡◌, ◌≢◌, ◌<◌, ℕ, zero, suc, Bool, true, false, not, cond, List, [], ◌∷◌, All, Contains, filter, map, length, slice_index_or}
use Rattle.std.proofs.Common.{sym, ap, subst, ◌∙◌, arith}
use Rattle.std.proofs.lemmas.List.{get_or_default}
use Rattle.std.proofs.lemmas.List.Elements.{All-nil, All-cons, All-head, All-tail, All-get_or}
use Rattle.alg_terms.specs.declared.declarations.Sort.{Sort}
use Rattle.alg_terms.specs.declared.file.File.{File}
use Rattle.alg_terms.specs.declared.goals.Equation.{Equation}
use Rattle.alg_terms.specs.declared.goals.Method.{Method}
use Rattle.alg_terms.specs.declared.goals.Method.TheVariants.{ByRing, ByField, ByNsatz}
use Rattle.alg_terms.specs.declared.goals.Use.{Use}
use Rattle.alg_terms.specs.declared.term.Atom.{Atom}
use Rattle.alg_terms.specs.GoalRules.{IsEquation, IsGoal, IsHyp, IsNsatz, IsUse, MayBeBy}
use Rattle.alg_terms.specs.Kinds.{IsDomain}
use Rattle.alg_terms.specs.Members.{goal_at, hyp_at, no_goal, no_hyp, no_sort, sort_at, uses_of}
use Rattle.alg_terms.specs.Valid.{IsValid}
use Rattle.alg_universe.specs.declared.universe.Universe.{Ghosts}
use Rattle.alg_universe.specs.Right.{Compare, ConstantHolds, Holds, UseHolds}
use Rattle.alg_universe.specs.Value.{Fits, AreValues}
use Rattle.alg_mono.specs.NumberedPolynomials.{Polynomial}
use Rattle.alg_meaning.specs.PolynomialOf.{poly_of}
use Rattle.alg_meaning.specs.Uses.{UsesHold}
use Rattle.alg_meaning.proofs.AtomValues.{value_at}
use Rattle.alg_meaning.proofs.Carriers.{opp_at, ring_at}
use Rattle.alg_meaning.proofs.DeclaredKinds.{kind_domain}
use Rattle.alg_meaning.proofs.Equal.{same_value}
use Rattle.alg_meaning.proofs.Rings.{cancel}
use Rattle.alg_meaning.proofs.Typed.{typed_left, typed_right, plain}
use Rattle.alg_lines.specs.declared.cert.Cert.{Cert}
use Rattle.alg_lines.specs.Accepting.{IsGood}
use Rattle.alg_lines.specs.Constants.{constants}
use Rattle.alg_reify.specs.Preparing.{equation_differences, goal_difference, is_equation, is_nonzero, nonzero_differences, prepared_goal, prepared_hyps, used_difference}
use Rattle.alg_reify.specs.Table.{equation_leaves, table, use_leaves}
use Rattle.alg_reify.proofs.Held.{held_sides, held_uses}
use Rattle.alg_reify.proofs.Uses.{use_leaves-at}
use Rattle.alg_check.specs.Certificates.{poly_at, IsZeroAt}
use Rattle.alg_check.specs.Certified.{IsCertifiedBy}
use Rattle.alg_check.specs.Laws.{CertifiedIsRight}
use Rattle.alg_check.proofs.CertificateValues.{above, certificates_hold, first_of_product}
use Rattle.alg_check.proofs.TableValues.{by_number, elements, difference_value, numbered_value}

-- a sort of characteristic 0 is one of the file
declared : (sorts : List Sort) (s : ℕ) → (slice_index_or sorts s no_sort).char0 ≡ true → s < length sorts
declared [] s h = absurd (apart h)
  where
    apart : false ≡ true → ⊥
    apart e = cc
declared (x ∷ sorts) zero h = omega arith
declared (x ∷ sorts) (suc s) h = let rest = declared sorts s h in omega arith

module _ {E : Type 0} (u : Ghosts E) (law : UsesHold u) {file : File}
    (valid : IsValid file) (fits : Fits u file) {v : List E} (values : AreValues u file v) (e : Equation)
    (is_equation_of : IsEquation file e) (uses : List Use) (power limit : ℕ)
    (is : IsNsatz file e uses power limit) where
  domain : IsDomain (u.kind e.sort)
  domain = kind_domain u fits e.sort is.domain

  abbrev atoms : List Atom
  atoms = table file e uses

  abbrev x : ℕ → E
  x = by_number u fits values e.sort domain atoms

  abbrev Zero : Polynomial → Type 0
  Zero p = IsZeroAt u e.sort x p

  abbrev Some : Polynomial → Type 0
  Some p = poly_at u e.sort x p ≢ u.zero e.sort

  -- the difference of a use is zero, or not zero where it is a `<>`
  use_value : (w : Use) → IsUse file e.sort w → UseHolds u file v w → All (Contains atoms) (use_leaves file w) →
      Compare (is_nonzero file w) (poly_at u e.sort x (used_difference file atoms w)) (u.zero e.sort)
  use_value w ok holds held =
      let h = hyp_at file w.hyp in
      let rules : IsHyp file h = All-get_or (IsHyp file) file.hyps w.hyp no_hyp ok.hyp valid.hyps in
      let same : use_leaves file w ≡ equation_leaves w.path h.equation =
      use_leaves-at file w h ok.hyp (get_or_default file.hyps w.hyp no_hyp h ok.hyp) in
      let value = numbered_value u fits values e.sort domain atoms h.equation.sort w.path h.equation ok.path ok.sorts
      (typed_left file h.equation rules.equation) (typed_right file h.equation rules.equation)
      (subst (All (Contains atoms)) same held) in
      subst (λ y. Compare (is_nonzero file w) y (u.zero e.sort)) (sym value)
      (law file valid fits v values e.sort is.domain w ok holds)

  put : (w : Use) (us : List Use) (b : Bool) →
      Compare b (poly_at u e.sort x (used_difference file atoms w)) (u.zero e.sort) →
      All Zero (equation_differences file atoms us) × All Some (nonzero_differences file atoms us) →
      All Zero (map (used_difference file atoms) (cond (not b) (w ∷ filter (is_equation file) us)
      (filter (is_equation file) us)))
      × All Some (map (used_difference file atoms) (cond b (w ∷ filter (is_nonzero file) us)
      (filter (is_nonzero file) us)))
  put w us true h rest =
      (rest.0, All-cons Some (used_difference file atoms w) (nonzero_differences file atoms us) h rest.1)
  put w us false h rest =
      (All-cons Zero (used_difference file atoms w) (equation_differences file atoms us) h rest.0, rest.1)

  differences : (us : List Use) → All (IsUse file e.sort) us → All (UseHolds u file v) us →
      All (λ w. All (Contains atoms) (use_leaves file w)) us →
      All Zero (equation_differences file atoms us) × All Some (nonzero_differences file atoms us)
  differences [] ok holds held = (All-nil Zero, All-nil Some)
  differences (w ∷ us) ok holds held =
      let Held : Use → Type 0 = λ w. All (Contains atoms) (use_leaves file w) in
      put w us (is_nonzero file w) (use_value w (All-head (IsUse file e.sort) w us ok)
      (All-head (UseHolds u file v) w us holds) (All-head Held w us held))
      (differences us (All-tail (IsUse file e.sort) w us ok) (All-tail (UseHolds u file v) w us holds)
      (All-tail Held w us held))

  -- where the goal's difference is zero, its sides are equal
  sides : Zero (goal_difference file e uses) → Holds u file v e
  sides z =
      let p = value_at u fits values e.sort (poly_of e.left) in
      let q = value_at u fits values e.sort (poly_of e.right) in
      let none = sym (difference_value u fits values e.sort domain atoms [] e (held_sides file e uses))
      ∙ above u e.sort domain x (elements u fits values e.sort domain atoms) (goal_difference file e uses) z in
      let ring = ring_at u e.sort in
      let same : p ≡ q = cancel ring p q (opp_at u e.sort q) (none ∙ sym (ring.opposite q)) in
      let left = typed_left file e is_equation_of in
      let right = typed_right file e is_equation_of in
      sym (same_value u fits values e.sort e.left left (plain e.left is.divides_nowhere.0))
      ∙ ap (λ y. y.0) same
      ∙ same_value u fits values e.sort e.right right (plain e.right is.divides_nowhere.1)

  certified_holds : (cert : Cert) → IsGood (prepared_hyps file e uses) (prepared_goal file e uses) cert →
      All (UseHolds u file v) uses → All (ConstantHolds u e.sort) (constants cert (sort_at file e.sort).char0) →
      Holds u file v e
  certified_holds cert accepted holds none_zero =
      let both = differences uses is.each_use holds (held_uses file e uses) in
      let each = elements u fits values e.sort domain atoms in
      let none = certificates_hold u e.sort domain x each (prepared_hyps file e uses) (prepared_goal file e uses) cert
      accepted (sort_at file e.sort).char0 (λ is0. fits.chars e.sort (declared file.sorts e.sort is0) is0) both.0
      none_zero in
      sides (first_of_product u e.sort domain x each (goal_difference file e uses)
      (nonzero_differences file atoms uses) both.1 none)

module _ {E : Type 0} (u : Ghosts E) (law : UsesHold u) {file : File} (valid : IsValid file) (fits : Fits u file)
    {v : List E} (values : AreValues u file v) (e : Equation) (is_equation_of : IsEquation file e) (cert : Cert) where
  by_method : (method : Method) → MayBeBy file e method → IsCertifiedBy file e method cert →
      All (UseHolds u file v) (uses_of method) →
      All (ConstantHolds u e.sort) (constants cert (sort_at file e.sort).char0) → Holds u file v e
  by_method ByRing is certified holds none_zero = absurd certified
  by_method ByField is certified holds none_zero = absurd certified
  by_method (ByNsatz uses power limit) is certified holds none_zero =
      certified_holds u law valid fits values e is_equation_of uses power limit is cert certified holds none_zero

pub certified_is_right : {E : Type 0} (u : Ghosts E) → UsesHold u → CertifiedIsRight u
certified_is_right u law file i valid there cert certified fits v values holds conditions none_zero =
    let goal = goal_at file i in
    let is : IsGoal file goal = valid.goals i no_goal there in
    by_method u law valid fits values goal.equation is.equation cert goal.method is.method certified holds none_zero
