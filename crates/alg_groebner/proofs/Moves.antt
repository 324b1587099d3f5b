-- What the code's moves leave is what the definitions say.
use Rattle.std.specs.Prelude.{◌≡◌, ℕ, ◌+◌, ◌<◌, List, [], ◌∷◌, ◌++◌, Some, length, slice_set, slice_index_or}
use Rattle.std.proofs.Common.{◌∙◌}
use Rattle.std.proofs.lemmas.List.{get_or_default}
use Rattle.alg_mono.specs.Mono.{Monomial}
use Rattle.alg_lines.specs.declared.cert.GoalStep.{GoalStep}
use Rattle.alg_lines.specs.declared.cert.Line.{Line}
use Rattle.alg_groebner.specs.Moves.{stepped}
use Rattle.alg_groebner.specs.Work.{Work, with_made, with_step}
use Rattle.alg_groebner.specs.declared.cancel.Cancelled.{Cancelled}
use Rattle.alg_groebner.specs.declared.remainder.Remainder.{Remainder}

pub pushed : (w : Work) (m : Monomial) (i : ℕ) (n : Monomial) (j : ℕ) (c : Cancelled) (made : List Line) (number : ℕ) →
    made ≡ w.made ++ (record { a = c.a; m = m; i = i; b = c.b; n = n; j = j; d = c.d }) ∷ [] →
    number ≡ w.given + length w.made + 1 →
    record w { made = made; current = Some (record { number = number; poly = c.poly }); count = w.count + 1 }
    ≡ with_made w m i n j c
unfolding with_made
pushed w m i n j c made number k e =
    λ t. record w { made = k t; current = Some (record { number = e t; poly = c.poly }); count = w.count + 1 }

pub step_pushed : (w : Work) (r : ℕ) (g : Remainder) (n : Monomial) (j : ℕ) (c : Cancelled) (steps : List GoalStep) →
    r < length w.remainders → g ≡ slice_index_or w.remainders r g →
    steps ≡ g.steps ++ (record { a = c.a; b = c.b; n = n; j = j; d = c.d }) ∷ [] →
    record w { remainders = slice_set w.remainders r (record { rest = c.poly; steps = steps }); count = w.count + 1 }
    ≡ with_step w r n j c
unfolding with_step stepped
step_pushed w r g n j c steps h e more =
    let at = e ∙ get_or_default w.remainders r g (record { rest = []; steps = [] }) h in
    (λ k. record w {
      remainders = slice_set w.remainders r (record { rest = c.poly; steps = more k });
      count = w.count
          + 1;
    })
    ∙ (λ k. record w { remainders = slice_set w.remainders r (stepped (at k) n j c); count = w.count + 1 })
