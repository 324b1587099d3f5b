-- A goal whose verdict by nsatz is Proved is right.
use Rattle.std.specs.Prelude.{◌≡◌, ◌<◌, ◌^◌, ℕ, ℤ, List, [], ◌∷◌, All, filter, map, length}
use Rattle.std.specs.Cmp.{nat_cmp_total}
use Rattle.std.specs.FinMap.{nat_cmp-IsAntisymmetric}
use Rattle.std.specs.Ordering.{nat_cmp}
use Rattle.std.proofs.Common.{sym, subst, arith}
use Rattle.std.proofs.lemmas.List.Elements.{All-nil, All-cons}
use Rattle.alg_terms.specs.declared.file.File.{File}
use Rattle.alg_terms.specs.declared.goals.Equation.{Equation}
use Rattle.alg_terms.specs.declared.goals.Method.{Method}
use Rattle.alg_terms.specs.declared.goals.Method.TheVariants.{ByRing, ByField, ByNsatz}
use Rattle.alg_terms.specs.declared.goals.Use.{Use}
use Rattle.alg_terms.specs.declared.term.Atom.{Atom}
use Rattle.alg_terms.specs.GoalRules.{IsGoal, IsNsatz, MayBeBy}
use Rattle.alg_terms.specs.Members.{goal_at, hyp_at, no_goal, sort_at}
use Rattle.alg_universe.specs.declared.universe.Universe.{Ghosts}
use Rattle.alg_universe.specs.Right.{ConstantHolds}
use Rattle.alg_mono.specs.FiniteMaps.{renamed}
use Rattle.alg_mono.specs.Numbers.{integers}
use Rattle.alg_mono.specs.Polynomials.{IsPolynomial}
use Rattle.alg_mono.proofs.Canonical.{IsCanonical-collect}
use Rattle.alg_mono.proofs.Closure.{IsPolynomial-rename}
use Rattle.alg_mono.proofs.Numbers.{exponent_laws, integer_laws}
use Rattle.alg_lines.specs.declared.cert.Cert.{Cert}
use Rattle.alg_lines.specs.Accepting.{IsGood}
use Rattle.alg_lines.specs.Constants.{constants}
use Rattle.alg_groebner.specs.Laws.{CertificatesAreGood}
use Rattle.alg_reify.specs.Numbered.{number_of, numbered_monomial}
use Rattle.alg_reify.specs.Preparing.{difference, is_equation, prepared_goal, prepared_hyps, used_difference}
use Rattle.alg_reify.specs.Table.{table}
use Rattle.alg_check.specs.Laws.{CertifiedIsRight}
use Rattle.alg_check.specs.Certified.{IsCertifiedBy}
use Rattle.alg_nsatz.specs.Laws.{ProvedIsRight}
use Rattle.alg_nsatz.specs.Verdict.{NsatzVerdict, IsVerdictBy, IsVerdictOf}
use Rattle.alg_reify.proofs.UseTurns.{kept_length}

-- a numbered polynomial is one
numbered_is : (atoms : List Atom) (file : File) (uses : List Use) →
    All (IsPolynomial nat_cmp integers) (map (used_difference file atoms) uses)
numbered_is atoms file [] = All-nil (IsPolynomial nat_cmp integers)
numbered_is atoms file (w ∷ uses) =
    All-cons (IsPolynomial nat_cmp integers) (used_difference file atoms w) (map (used_difference file atoms) uses)
    (IsPolynomial-rename integer_laws nat_cmp_total nat_cmp-IsAntisymmetric (numbered_monomial atoms)
    (λ m. IsCanonical-collect exponent_laws nat_cmp_total nat_cmp-IsAntisymmetric (renamed (number_of atoms) m))
    (difference w.path (hyp_at file w.hyp).equation)) (numbered_is atoms file uses)

module _ (good : CertificatesAreGood) (file : File) (e : Equation) (numbers : List ℤ) (cert : Cert) where
  -- the certificate of a search is good over what was prepared for it
  pub certified : (uses : List Use) (power limit : ℕ) → IsNsatz file e uses power limit →
      IsVerdictOf file e uses power limit (NsatzVerdict.Proved numbers cert) →
      IsGood (prepared_hyps file e uses) (prepared_goal file e uses) cert
  certified uses power limit is proved =
      let hyps = prepared_hyps file e uses in
      let goal = prepared_goal file e uses in
      let atoms = table file e uses in
      let kept = kept_length (is_equation file) (used_difference file atoms) uses in
      let most = is.few_uses in
      let few : length hyps < 2 ^ 31 = omega (arith, kept, most) in
      let high = is.power_high in
      let far = is.limit_high in
      subst (IsGood hyps goal) (sym proved.certificate)
      (good hyps goal power limit (numbered_is atoms file (filter (is_equation file) uses)) few (omega (arith, high))
      (omega (arith, far)) proved.last proved.least proved.ends.1)

  certified_by : (method : Method) → MayBeBy file e method →
      IsVerdictBy file e method (NsatzVerdict.Proved numbers cert) → IsCertifiedBy file e method cert
  certified_by ByRing is proved = absurd proved
  certified_by ByField is proved = absurd proved
  certified_by (ByNsatz uses power limit) is proved = certified uses power limit is proved

  -- and its constants are those of the verdict
  constants_by : (method : Method) → IsVerdictBy file e method (NsatzVerdict.Proved numbers cert) →
      numbers ≡ constants cert (sort_at file e.sort).char0
  constants_by ByRing proved = absurd proved
  constants_by ByField proved = absurd proved
  constants_by (ByNsatz uses power limit) proved = proved.constants

pub proved_is_right : {E : Type 0} (u : Ghosts E) → CertifiedIsRight u → CertificatesAreGood → ProvedIsRight u
proved_is_right u right good file i valid there numbers cert verdict fits v values holds conditions none_zero =
    let goal = goal_at file i in
    let is : IsGoal file goal = valid.goals i no_goal there in
    let certified = certified_by good file goal.equation numbers cert goal.method is.method verdict in
    let same = constants_by good file goal.equation numbers cert goal.method verdict in
    right file i valid there cert certified fits v values holds conditions
    (subst (All (ConstantHolds u goal.equation.sort)) same none_zero)
