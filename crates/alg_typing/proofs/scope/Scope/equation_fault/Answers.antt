use Rattle.std.proofs.Common.{◌≡◌, ◌∙◌, ap, refl, ℕ, Bool, true, false, not, Option, None, Some, is_some, is_none}
use Rattle.alg_tokens.specs.declared.code.Code.TheVariants as code
use Rattle.alg_typing.specs.Faults.{earlier_of, fault_if, first_of}
use Rattle.alg_typing.proofs.SortSteps.{equation_checked}
use Rattle.alg_typing.proofs.scope.Scope.equation_fault.Goals as goal

none_by : (sort : Option ℕ) (r : Bool) → is_some sort ≡ not r → r ≡ is_none sort
none_by None true h = refl
none_by None false h = h
none_by (Some s) true h = h
none_by (Some s) false h = refl

pub returns : goal.returns
returns c =
    c.earlier-3.ensures ∙ ap (earlier_of _) (c.earlier-2.ensures ∙ ap (earlier_of _) c.earlier.ensures)
    ∙ equation_checked c.args.self.now.declared.now c.args.self.now.text.now c.args.may_divide c.args.e.now
    c.args.sort c.check-left.result c.check-right.result _ _ c.requires.sort
    c.check-left.ensures c.check-right.ensures
    (c.fault_where-differs.ensures ∙ ap (λ b. first_of (fault_if b code.Sort c.args.e.now.relation)) c.differ.ensures)
    (c.fault_where-missing.ensures
    ∙ ap (λ b. first_of (fault_if b code.NoSort c.args.e.now.relation)) (none_by _ _ c.is_none.ensures))
