use Rattle.alg_mono.proofs.AtNumbers.{division_is_by_products}
use Rattle.alg_mono.proofs.laws.division_is_by_products.Goals as goal

pub returns : goal.returns
returns c = division_is_by_products
