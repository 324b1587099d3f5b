use Rattle.std.proofs.Common.{◌∙◌, ap, sym, unwrap_or}
use Rattle.alg_typing.proofs.Small.{equation_sort-sides}
use Rattle.alg_typing.proofs.scope.Scope.equation_of.Goals as goal

pub returns : goal.returns
returns c =
    let file = c.args.self.now.declared.now in
    let text = c.args.self.now.text.now in
    let sides =
    c.sort_of_sides-sort.ensures ∙ sym (equation_sort-sides file text c.args.e.now) in
    λ i. record {
      sort = (c.unwrap_or.ensures ∙ ap (λ s. unwrap_or s 0) sides) i;
      left = c.in_ok-left.ensures i;
      right = c.in_ok-right.ensures i;
    }
