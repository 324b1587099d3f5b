use Rattle.alg_criterion.proofs.LeadsDivide.{leads_divide}
use Rattle.alg_criterion.proofs.laws.leads_divide.Goals as goal

pub returns : goal.returns
returns c = leads_divide
