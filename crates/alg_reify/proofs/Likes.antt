-- Polynomials of the same norm and degree break the same rules.
use Rattle.std.specs.Prelude.{◌≡◌, ℕ, ◌+◌, ◌*◌, ◌^◌, ◌||◌, false, cond}
use Rattle.std.proofs.Common.{refl}
use Rattle.alg_terms.proofs.Views.{Binary}
use Rattle.alg_mono.specs.Polynomials.{PolyOver}
use Rattle.alg_mono.specs.Outcomes.{Outcome, outcome, power_outcome}
use Rattle.alg_meaning.proofs.Built.{binary_outcome}
use Rattle.alg_reify.proofs.Undone.{IsLike}

module _ {K L : Type 0} (p : PolyOver K) (r : PolyOver L) (h : IsLike p r) where
  -- the outcome of a power
  pub power_like : (n : ℕ) → power_outcome p n ≡ power_outcome r n
  power_like n = λ i. cond (h.nothing i) Outcome.Fine (outcome (h.norm i ^ n) (n * h.degree i))

  module _ (q : PolyOver K) (s : PolyOver L) (g : IsLike q s) where
    -- the outcome that is an operation's own on two polynomials
    pub own_like : (o : Binary) → binary_outcome o p q ≡ binary_outcome o r s
    own_like Binary.Sum = λ i. outcome (h.norm i + g.norm i) 0
    own_like Binary.Difference = λ i. outcome (h.norm i + g.norm i) 0
    own_like Binary.Product = λ i. cond (h.nothing i || (g.nothing i || false)) Outcome.Fine
        (outcome (h.norm i * (g.norm i * 1)) ((0 + h.degree i) + g.degree i))
    own_like Binary.Quotient = refl
