use Rattle.alg_groebner.proofs.Adding.{on_ok, none_added, first_added, second_added}
use Rattle.alg_groebner.proofs.queue.Queue.add.Goals as goal

-- the leads are coprime
pub returns-then-are_coprime : goal.returns-then-are_coprime
returns-then-are_coprime c =
    none_added c.args.b.now c.args.c.now c.args.self.now c.lead_of.result.now c.lead_of-2.result.now
    c.lead_of.ensures.value c.lead_of-2.ensures.value c.if-are_coprime.ensures

-- the first number is less
pub returns-then-b-c : goal.returns-then-b-c
returns-then-b-c c =
    let is =
    first_added c.args.b.now c.args.c.now c.args.self.now c.lead_of.result.now c.lead_of-2.result.now
    c.lead_of.ensures.value c.lead_of-2.ensures.value c.if-are_coprime.ensures c.if-b-c.true in
    on_ok c.add_ordered.result c.add_ordered.new.self _ _ is c.add_ordered.ensures

-- or not
pub returns-else-b-c : goal.returns-else-b-c
returns-else-b-c c =
    let is =
    second_added c.args.b.now c.args.c.now c.args.self.now c.lead_of.result.now c.lead_of-2.result.now
    c.lead_of.ensures.value c.lead_of-2.ensures.value c.if-are_coprime.ensures c.if-b-c.false in
    on_ok c.add_ordered-else-b-c.result c.add_ordered-else-b-c.new.self _ _ is c.add_ordered-else-b-c.ensures
