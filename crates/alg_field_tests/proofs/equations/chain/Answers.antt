use Rattle.std.proofs.Common.{arith, ◌≡◌, ◌+◌, subst}
use Rattle.alg_field.specs.TestTerms.{IsSide}
use Rattle.alg_field.proofs.TestTerms.{deeper}
use Rattle.alg_field_tests.proofs.equations.chain.Goals as goal

pub loop-k-preserved : goal.loop-k-preserved
loop-k-preserved c = λ file there.
    let d = 4 + c.loop-k._k in
    let e : d + 1 ≡ 4 + (c.loop-k._k + 1) = omega arith in
    subst (λ n. IsSide file n c.in_ok-long-2.long) e
    (c.in_ok-long-2.ensures file d (omega arith) (c.loop-k.invariant file there)
    (deeper file 4 d _ (omega arith) (c.in_ok-one.ensures file there)))
