use Rattle.std.proofs.Common.{◌∙◌, ap, subst, List}
use Rattle.alg_pairs.specs.Buckets.{least_in}
use Rattle.alg_pairs.specs.Leads.{least_divisor, RisesFrom}
use Rattle.alg_pairs.specs.declared.lead.Lead.{Lead}
use Rattle.alg_pairs.proofs.Lesser.{first_is_least}
use Rattle.alg_pairs.proofs.index.LeadIndex.least_divisor.Goals as goal

pub returns-clause-rises : goal.returns-clause-rises
returns-clause-rises c = subst (RisesFrom 0) c.self.view_is c.self.invariant.rises

pub returns-clause-least : goal.returns-clause-least
returns-clause-least c =
    let m = c.args.m.now in
    c.least_line.ensures ∙ ap (least_in m) c.deref.ensures.value ∙ c.self.invariant.same m
    ∙ first_is_least m 0 c.self.inside.leads.items c.self.invariant.rises
    ∙ ap (λ (xs : List Lead). least_divisor xs m) c.self.view_is
