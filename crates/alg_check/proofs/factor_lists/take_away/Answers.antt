use Rattle.std.proofs.Common.{rules, ◌≡◌, ◌-◌, ◌<◌, ◌≤◌, cond, length, sym, ap, ◌∙◌, arith, take_all}
use Rattle.std.specs.Ordering.{eq_by_cmp}
use Rattle.alg_reify.specs.FactorMaps.{order}
use Rattle.alg_check.specs.Factors.{times_in}
use Rattle.alg_check.proofs.FactorCounts.{looked_at, not_taken}
use Rattle.alg_check.proofs.factor_lists.take_away.Goals as goal

-- it is another one
pub loop-i-preserved : goal.loop-i-preserved
loop-i-preserved c =
    let items = c.loop-i.list.items in
    let x = c.index.result.now in
    let there : c.loop-i.i < length items =
    omega (arith, c.loop-i-test.true, c.len-i-end.ensures, ap length c.loop-i.invariant.same) in
    let other : x ≡ c.args.p.now → ⊥ = λ e. let found = c.same.ensures.1 e in search rules in
    record {
      same = c.loop-i.invariant.same;
      apart = looked_at items c.loop-i.i x c.args.p.now there c.index.ensures other c.loop-i.invariant.apart;
    }

-- it is nowhere
pub returns : goal.returns
returns c q =
    let items = c.loop-i.list.items in
    let all : length items ≤ c.loop-i.i =
    omega (arith, c.loop-i-test.false, c.len-i-end.ensures, ap length c.loop-i.invariant.same) in
    let none : times_in c.args.p.now items ≡ 0 =
    ap (times_in c.args.p.now) (sym (take_all c.loop-i.i items all)) ∙ c.loop-i.invariant.apart in
    not_taken c.args.p.now items none q
    ∙ ap (λ l. times_in q l - cond (eq_by_cmp order q c.args.p.now) 1 0) c.loop-i.invariant.same
