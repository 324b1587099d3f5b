-- What an end of a search says of all sums of products.
use Rattle.std.specs.Prelude.{ℕ, ◌<◌, ◌≤◌, ◌^◌, List, Result, Ok, Err, length, All}
use Rattle.std.specs.Ordering.{nat_cmp}
use Rattle.std.proofs.lemmas.List.Elements.{All-weaker}
use Rattle.alg_mono.specs.Numbers.{integers}
use Rattle.alg_mono.specs.Polynomials.{IsPoly, IsPolynomial}
use Rattle.alg_mono.specs.NumberedPolynomials.{Polynomial}
use Rattle.alg_mono.specs.declared.ends.Overrun.{Overrun}
use Rattle.alg_groebner.specs.Verdicts.{Decides}
use Rattle.alg_groebner.specs.declared.decide.Verdict.{Verdict}
use Rattle.alg_groebner.specs.declared.decide.Verdict.TheVariants.{Proved, NoneUpTo, GaveUp}
use Rattle.alg_criterion.specs.Laws.{NoneExists}
use Rattle.alg_criterion.specs.Sure.{IsSure}

pub sure_lem : NoneExists → (hyps : List Polynomial) (g : Polynomial) (power limit : ℕ) →
    All (λ p. IsPoly nat_cmp p) hyps → IsPoly nat_cmp g → length hyps < 2 ^ 31 → power ≤ 16 → limit ≤ 1000000 →
    (r : Result Verdict Overrun) → Decides hyps g power limit r → IsSure hyps g r
sure_lem none hyps g power limit ps p few powers low (Ok (Proved cert)) d = tt
sure_lem none hyps g power limit ps p few powers low (Ok (NoneUpTo r)) d = none hyps g power limit d.0 r (record {
  hypotheses = All-weaker (λ p. IsPoly nat_cmp p) (λ p. IsPolynomial nat_cmp integers p) (λ p i. i.polynomial) hyps ps;
  goal = p.polynomial;
  few = few;
  powers = powers;
  limited = low;
  comes = d.1;
})
sure_lem none hyps g power limit ps p few powers low (Ok (GaveUp n)) d = tt
sure_lem none hyps g power limit ps p few powers low (Err e) d = tt
