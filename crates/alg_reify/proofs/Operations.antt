-- The operations of terms that code builds, and what they give.
use Rattle.std.specs.Prelude.{◌≡◌, OnOk}
use Rattle.std.proofs.Common.{refl}
use Rattle.std.specs.declared.result.Result.{Result}
use Rattle.std.specs.declared.result.Result.TheVariants.{Ok, Err}
use Rattle.alg_terms.specs.declared.term.Term.{Term}
use Rattle.alg_terms.proofs.Views.{Binary, binary}
use Rattle.alg_reify.specs.MakingFractions.{Operation, operation}

-- the operation on two parts, the right one at hand
abbrev pub operation_of : Binary → Term → Operation
operation_of Binary.Sum u = Operation.Sum
operation_of Binary.Difference u = Operation.Difference
operation_of Binary.Product u = Operation.Product
operation_of Binary.Quotient u = Operation.Quotient u

pub operation_binary : (o : Binary) (t u : Term) → operation (binary o t u) ≡ operation_of o u
unfolding operation Rattle.alg_terms.specs.declared.term.Term.TheBlock.hidden-the_row-Term-0 denote.Hole.Carrier.hidden
operation_binary Binary.Sum t u = refl
operation_binary Binary.Difference t u = refl
operation_binary Binary.Product t u = refl
operation_binary Binary.Quotient t u = refl

-- what holds in any case
pub in_any_case : {A E P : Type 0} (r : Result A E) → P → OnOk r P
in_any_case (Ok x) h = h
in_any_case (Err e) h = tt
