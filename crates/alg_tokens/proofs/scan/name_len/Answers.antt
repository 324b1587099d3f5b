use Rattle.std.proofs.Common.{ℕ, Bool, not, rules}
use Rattle.std.proofs.lemmas.Fn.{always_returns_same}
use Rattle.alg_terms.specs.Names.{continues_name}
use Rattle.alg_tokens.proofs.Runs.{run_to_end, run_to_char}
use Rattle.alg_tokens.proofs.scan.name_len.Goals as goal

pub returns-in-Some : goal.returns-in-Some
returns-in-Some c =
    let k : ℕ → Bool = λ d. not (continues_name d) in
    let found = c.in-Some.ensures.cases.1 k (always_returns_same _ _ _ (λ a r f' q. search rules)) in
    run_to_char continues_name _ _ _ found c.in-Some.ensures.cases.3

pub returns-in-None : goal.returns-in-None
returns-in-None c =
    let k : ℕ → Bool = λ d. not (continues_name d) in
    let found = c.in-None.ensures.cases k (always_returns_same _ _ _ (λ a r f' q. search rules)) in
    run_to_end continues_name _ found
