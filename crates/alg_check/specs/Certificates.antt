-- What a good certificate says of the values of polynomials over atoms by number.
use Rattle.std.specs.Prelude.{◌≡◌, ℕ, Bool, true, List, All}
use Rattle.alg_terms.specs.Kinds.{IsDomain}
use Rattle.alg_universe.specs.declared.universe.Universe.{Ghosts}
use Rattle.alg_universe.specs.Right.{ConstantHolds}
use Rattle.alg_universe.specs.Value.{number, power}
use Rattle.alg_mono.specs.FiniteMaps.{total}
use Rattle.alg_mono.specs.Mono.{Monomial}
use Rattle.alg_mono.specs.NumberedPolynomials.{Polynomial}
use Rattle.alg_lines.specs.declared.cert.Cert.{Cert}
use Rattle.alg_lines.specs.Accepting.{IsGood}
use Rattle.alg_lines.specs.Constants.{constants}

-- s is the sort, and the value of atom k is x k
module _ {E : Type 0} (u : Ghosts E) (s : ℕ) (x : ℕ → E) where
  -- a monomial: the product of the powers of its atoms
  abbrev pub mono_at : Monomial → E
  mono_at m = total (u.one s) (u.mul s) (λ k e. power u s (x k) e) m

  -- a polynomial: the sum of its coefficients times its monomials
  abbrev pub poly_at : Polynomial → E
  poly_at p = total (u.zero s) (u.add s) (λ m c. u.mul s (number u s c) (mono_at m)) p

  -- the value of the polynomial is zero
  abbrev pub IsZeroAt : Polynomial → Type 0
  IsZeroAt p = poly_at p ≡ u.zero s

-- where a certificate is good, at elements of a domain or a field at which the hypotheses are zero and no constant is,
-- the goal is zero
abbrev pub CertificatesHold : {E : Type 0} → Ghosts E → Type 0
CertificatesHold {E} u =
    (s : ℕ) → IsDomain (u.kind s) → (x : ℕ → E) → ((k : ℕ) → u.has s (x k)) →
    (hyps : List Polynomial) (goal : Polynomial) (cert : Cert) → IsGood hyps goal cert →
    (char0 : Bool) → (char0 ≡ true → u.char0 s ≡ true) →
    All (IsZeroAt u s x) hyps → All (ConstantHolds u s) (constants cert char0) → IsZeroAt u s x goal
