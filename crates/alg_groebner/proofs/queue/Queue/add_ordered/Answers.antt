use Rattle.std.specs.Prelude.{◌≡◌}
use Rattle.std.proofs.Common.{ap, ◌∙◌}
use Rattle.std.specs.BTreeSet.{insert_key}
use Rattle.alg_mono.specs.Mono.{Monomial}
use Rattle.alg_pairs.specs.Order.{pair_cmp}
use Rattle.alg_groebner.proofs.Adding.{pair_within, pair_beyond}
use Rattle.alg_groebner.proofs.queue.Queue.add_ordered.Goals as goal

pub returns-in_ok-insert-in-Ok : goal.returns-in_ok-insert-in-Ok
returns-in_ok-insert-in-Ok c =
    let q = c.args.self.now in
    let x = c.args.b.now in
    let y = c.args.c.now in
    let placed = λ (l : Monomial). insert_key pair_cmp q.pairs (record { lcm = l; j = y.number; i = x.number }) in
    let is : c.insert.new.self ≡ placed c.in-Ok.lcm = c.in_ok-insert-in-Ok.ensures.added in
    (λ k. record q { pairs = (is ∙ ap placed c.in-Ok.ensures.ok) k })
    ∙ pair_within x y q c.lead_of.result.now c.lead_of-2.result.now c.lead_of.ensures.value c.lead_of-2.ensures.value
    c.in-Ok.ensures.within

pub returns-in-Err-Degree : goal.returns-in-Err-Degree
returns-in-Err-Degree c =
    let h = rw c.in-Err-Degree.field-0-is at c.in-Err-Degree.ensures.refused in
    pair_beyond c.args.b.now c.args.c.now c.args.self.now c.lead_of.result.now c.lead_of-2.result.now
    c.lead_of.ensures.value c.lead_of-2.ensures.value h
