use Rattle.std.proofs.Common.{◌∷◌, ◌++◌, ◌∙◌, ap, sym, flat_map, take, arith}
use Rattle.std.proofs.lemmas.List.{take_all}
use Rattle.alg_reader.specs.declared.raw.RawFactor.{out-RawFactor}
use Rattle.alg_reader.specs.RawMonos.{names_in_factor}
use Rattle.alg_annotated.proofs.Factors.{names_alone, names_inside, one_more_factor}
use Rattle.alg_annotated.proofs.atoms.+add_names.Goals as goal

-- nothing stands in parentheses
pub returns-in-None : goal.returns-in-None
returns-in-None t c =
    c.in_ok-push.ensures.items
    ∙ ap (λ ns. c.args.names.now.items ++ ns) (sym (names_alone c.args.factor.now c.in-None.is))

pub loop-inner-preserved : goal.loop-inner-preserved
loop-inner-preserved t c =
    let old = c.args.names.now.items in
    let name = (out-RawFactor c.args.factor.now).name in
    let factors = c.as_slice-inner-items.result.now in
    let i = c.loop-inner.inner-index in
    c.in_ok-add_names-in-Some.ensures ∙ ap (λ ns. ns ++ names_in_factor c.inner-item.result) c.loop-inner.invariant
    ∙ ap (λ f. (old ++ name ∷ flat_map names_in_factor (take i factors)) ++ names_in_factor f) c.inner-item.is
    ∙ one_more_factor old name factors i _ c.loop-inner-test.true

pub returns-after-loop-inner : goal.returns-after-loop-inner
returns-after-loop-inner t c =
    let old = c.args.names.now.items in
    let name = (out-RawFactor c.args.factor.now).name in
    c.loop-inner.invariant
    ∙ ap (λ fs. old ++ name ∷ flat_map names_in_factor fs)
    (take_all c.loop-inner.inner-index c.as_slice-inner-items.result.now (omega arith) ∙ c.as_slice-inner-items.ensures)
    ∙ ap (λ ns. old ++ ns) (sym (names_inside c.args.factor.now _ c.in-Some.is))
