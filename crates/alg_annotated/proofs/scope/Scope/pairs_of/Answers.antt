use Rattle.std.proofs.Common.{[], ◌∷◌, ◌++◌, ◌∙◌, ap, sym, subst, map, take, get_or, arith}
use Rattle.std.specs.Prelude.{unwrap_or}
use Rattle.std.proofs.lemmas.List.{map_more}
use Rattle.std.proofs.lemmas.List.Elements.{All-get_or}
use Rattle.std.proofs.lemmas.List.Sums.{sum_by_more_le}
use Rattle.alg_reify.specs.Numbered.{number_of}
use Rattle.alg_annotated.specs.Monomials.{HasNames, exponent_of, factor_atom, factor_fault, factor_pair}
use Rattle.alg_annotated.proofs.ClearMonomials.{none_of_each, pair_from}
use Rattle.alg_annotated.proofs.scope.Scope.pairs_of.Goals as goal

pub factor_number-requires : goal.factor_number-requires
factor_number-requires c =
    let file = c.args.self.now.declared.now in
    let text = c.args.self.now.text.now in
    let fault = factor_fault file text (unwrap_or c.args.atoms.now []) in
    let factors = c.args.factors.now in
    let i = c.loop-factor.factor-index in
    record {
      names = subst (HasNames text) (sym c.factor-item.is)
          (All-get_or (HasNames text) factors i c.factor-item.result c.loop-factor-test.true c.requires.names);
      there = ap fault c.factor-item.is ∙ none_of_each fault factors i c.factor-item.result c.loop-factor-test.true c.requires.there;
    }

-- an exponent is within the greatest degree
pub overflow_cast-exponent : goal.overflow_cast-exponent
overflow_cast-exponent c =
    let low = sum_by_more_le exponent_of c.args.factors.now c.loop-factor.factor-index c.factor-item.result
    c.loop-factor-test.true in
    let is = c.exponent_of-exponent.ensures ∙ ap exponent_of c.factor-item.is in
    omega (arith, low, is, c.requires.low)

pub loop-factor-preserved : goal.loop-factor-preserved
loop-factor-preserved c =
    let file = c.args.self.now.declared.now in
    let text = c.args.self.now.text.now in
    let atoms = unwrap_or c.args.atoms.now [] in
    let pair = factor_pair file text atoms in
    let factors = c.args.factors.now in
    let i = c.loop-factor.factor-index in
    let number = c.in_ok-number.ensures ∙ ap (λ f. number_of atoms (factor_atom file text f)) c.factor-item.is in
    let exponent = c.exponent_of-exponent.ensures ∙ ap exponent_of c.factor-item.is in
    c.in_ok-push.ensures.items
    ∙ ap (λ ps. ps ++ (c.in_ok-number.number, c.exponent_of-exponent.result) ∷ []) c.loop-factor.invariant
    ∙ ap (λ p. map pair (take i factors) ++ p ∷ [])
    (sym (pair_from file text atoms (get_or factors i c.factor-item.result) _ _ number exponent))
    ∙ sym (map_more pair factors i c.factor-item.result c.loop-factor-test.true)
