use Rattle.std.proofs.Common.{◌≡◌, ◌≤◌, ◌<◌, [], ◌∙◌, ap, sym, subst, flat_map, map, ℕ, arith}
use Rattle.std.specs.Ordering.{nat_cmp}
use Rattle.std.specs.Prelude.{All, sum_by, unwrap_or}
use Rattle.alg_mono.specs.FiniteMaps.{collect}
use Rattle.alg_mono.specs.Monomials.{MAX_DEGREE, degree}
use Rattle.alg_mono.specs.Numbers.{exponents}
use Rattle.alg_mono.specs.Refusals.{IsOverDegreeLimit}
use Rattle.alg_annotated.specs.Monomials.{HasNames, exponent_of, factor_fault, factor_pair, factors_of}
use Rattle.alg_annotated.proofs.ClearMonomials.{exponents_low, factors_clear, pairs_degree}
use Rattle.alg_annotated.proofs.Factors.{factors_named}
use Rattle.alg_annotated.proofs.scope.Scope.monomial_of.Goals as goal

pub pairs_of-requires : goal.pairs_of-requires
pairs_of-requires c =
    let file = c.args.self.now.declared.now in
    let text = c.args.self.now.text.now in
    let atoms = unwrap_or c.args.atoms.now [] in
    let mono = c.args.mono.now in
    let are = sym c.as_slice.ensures in
    record {
      names = subst (All (HasNames text)) are (factors_named text mono c.requires.well_read);
      low = subst (λ fs. sum_by exponent_of fs ≤ MAX_DEGREE) are
          (exponents_low file text atoms mono c.requires.faultless);
      there = subst (λ fs. flat_map (factor_fault file text atoms) fs ≡ []) are
          (factors_clear file text atoms mono c.requires.faultless);
    }

pub returns-in-Ok : goal.returns-in-Ok
returns-in-Ok c =
    let pair = factor_pair c.args.self.now.declared.now c.args.self.now.text.now (unwrap_or c.args.atoms.now []) in
    c.in-Ok.ensures.ok
    ∙ ap (collect nat_cmp exponents) (c.deref.ensures.value ∙ c.in_ok-pairs.ensures ∙ ap (map pair) c.as_slice.ensures)

-- the exponents are within the greatest degree
pub unreachable-requires : goal.unreachable-requires
unreachable-requires c =
    let file = c.args.self.now.declared.now in
    let text = c.args.self.now.text.now in
    let atoms = unwrap_or c.args.atoms.now [] in
    let mono = c.args.mono.now in
    let over : MAX_DEGREE < degree c.deref.result.now =
    subst (λ e. IsOverDegreeLimit (degree c.deref.result.now) e) c.in-Err-Degree.field-0-is c.in-Err-Degree.ensures.refused in
    let pairs = c.deref.ensures.value ∙ c.in_ok-pairs.ensures
    ∙ ap (map (factor_pair file text atoms)) c.as_slice.ensures in
    let same = ap (degree {K = ℕ}) pairs ∙ pairs_degree file text atoms (factors_of mono) in
    omega (arith, over, same, exponents_low file text atoms mono c.requires.faultless)
