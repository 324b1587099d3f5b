-- What an answer of the search says of all sums of products.
use Rattle.std.specs.Prelude.{List, Result, Ok, Err}
use Rattle.alg_mono.specs.NumberedPolynomials.{Polynomial}
use Rattle.alg_mono.specs.declared.ends.Overrun.{Overrun}
use Rattle.alg_groebner.specs.declared.decide.Verdict.{Verdict}
use Rattle.alg_groebner.specs.declared.decide.Verdict.TheVariants.{Proved, NoneUpTo, GaveUp}
use Rattle.alg_criterion.specs.Laws.{HasNone}

-- where the answer is that no power came to zero there is none
abbrev pub IsSure : List Polynomial → Polynomial → Result Verdict Overrun → Type 0
IsSure hyps g (Ok (NoneUpTo r)) = HasNone hyps g r
IsSure hyps g (Ok (Proved cert)) = Unit {0}
IsSure hyps g (Ok (GaveUp n)) = Unit {0}
IsSure hyps g (Err e) = Unit {0}
