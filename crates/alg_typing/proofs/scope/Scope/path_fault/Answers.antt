use Rattle.std.proofs.Common.{◌≡◌, ◌<◌, ◌+◌, ◌∙◌, ◌==◌, not, ap, drop, length, arith}
use Rattle.std.proofs.lemmas.List.{take_rest}
use Rattle.alg_terms.specs.Members.{source_of}
use Rattle.alg_typing.specs.SortFaults.{sort_along}
use Rattle.alg_typing.proofs.SortSteps.{path_sorts-turn}
use Rattle.alg_typing.proofs.scope.Scope.path_fault.Goals as goal

pub loop-i-preserved : goal.loop-i-preserved
loop-i-preserved c =
    let file = c.args.self.now.declared.now in
    let text = c.args.self.now.text.now in
    let path = c.args.path.now in
    let within : c.loop-i.i < length path = omega arith in
    let inner : c.sort_along.result ≡ sort_along file text (drop (c.loop-i.i + 1) path) c.args.hyp =
    c.sort_along.ensures ∙ ap (λ p. sort_along file text p c.args.hyp) (take_rest path (c.loop-i.i + 1)) in
    let source = c.source_of-source.ensures ∙ ap (source_of file) c.number_at.ensures in
    path_sorts-turn file text path c.args.hyp c.loop-i.i (record { start = 0; stop = 0 }) c.loop-i.first _ _ _ within
    (λ i. not (inner i == source i)) c.fault_where.ensures c.earlier-first.ensures
    ∙ c.loop-i.invariant
