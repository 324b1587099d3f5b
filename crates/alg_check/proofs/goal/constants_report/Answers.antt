use Rattle.std.proofs.Common.{◌≡◌, rules, inl, inr, refl, ◌∙◌, sym}
use Rattle.alg_check.proofs.goal.constants_report.Goals as goal

-- other constants are printed
pub returns-then-not-same_numbers : goal.returns-then-not-same_numbers
returns-then-not-same_numbers c =
    let other : c.args.numbers.now ≡ c.deref.result.now → ⊥ =
    λ e. let same = c.same_numbers.ensures.1 e in search rules in
    inr ((λ e. other (e ∙ sym (c.deref.ensures.value ∙ c.in_ok-own.ensures))), refl)

pub returns : goal.returns
returns c =
    let same : c.args.numbers.now ≡ c.deref.result.now = search rules in
    inl (same ∙ c.deref.ensures.value ∙ c.in_ok-own.ensures, refl)
