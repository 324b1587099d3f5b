-- The factors of a fraction are a canonical list.
use Rattle.std.specs.Prelude.{◌≡◌, true, false, [], ◌∷◌, ◌++◌}
use Rattle.std.proofs.Common.{refl}
use Rattle.alg_terms.specs.declared.term.Term.{Term, more_of-Term, Var, Int, Neg', Add', Sub', Mul', Div', Pow', Hom'}
use Rattle.alg_terms.specs.Nodes.{fold_term}
use Rattle.alg_mono.specs.FiniteMaps.{IsCanonical, collect, renamed}
use Rattle.alg_mono.specs.Numbers.{exponents}
use Rattle.alg_mono.specs.Monomials.{mono_times, scaled}
use Rattle.alg_mono.proofs.Numbers.{exponent_laws}
use Rattle.alg_mono.proofs.Canonical.{IsCanonical-collect}
use Rattle.alg_meaning.specs.Atoms.{poly_under}
use Rattle.alg_meaning.specs.Factors.{poly_cmp, lacks, common}
use Rattle.alg_meaning.specs.Fractions.{frac, is_unit, quotient}
use Rattle.alg_meaning.specs.Orders.{poly_total, poly_anti}
use Rattle.alg_meaning.proofs.Typed.{HasNoDivision}

pub canonical : (t : Term) → IsCanonical poly_cmp exponents (frac t).below
unfolding fold_term
canonical (Var k) = record { rises = tt; no_none = tt }
canonical (Int n) = record { rises = tt; no_none = tt }
canonical (Neg' p (more_of-Term t r)) = canonical t
canonical (Add' p (more_of-Term t r) p' (more_of-Term t' r')) =
    IsCanonical-collect exponent_laws poly_total poly_anti ((frac t).below ++ lacks (frac t).below (frac t').below)
canonical (Sub' p (more_of-Term t r) p' (more_of-Term t' r')) =
    IsCanonical-collect exponent_laws poly_total poly_anti ((frac t).below ++ lacks (frac t).below (frac t').below)
canonical (Mul' p (more_of-Term t r) p' (more_of-Term t' r')) =
    IsCanonical-collect exponent_laws poly_total poly_anti ((frac t).below ++ (frac t').below)
canonical (Div' p (more_of-Term t r) p' (more_of-Term t' r')) =
    elim (is_unit (frac t').top) as (λ b. IsCanonical poly_cmp exponents (quotient b (frac t) (frac t')).below) [
      | true ↦ canonical t
      | false ↦ IsCanonical-collect exponent_laws poly_total poly_anti ((frac t).below ++ ((frac t').top, 1) ∷ [])
    ]
canonical (Pow' p (more_of-Term t r) n) =
    IsCanonical-collect exponent_laws poly_total poly_anti (scaled n (frac t).below)
canonical (Hom' f p (more_of-Term t r)) =
    IsCanonical-collect exponent_laws poly_total poly_anti (renamed (poly_under f) (frac t).below)

-- a term without division has no factors below
pub undivided : (t : Term) → HasNoDivision t → (frac t).below ≡ []
unfolding fold_term
undivided (Var k) d = refl
undivided (Int n) d = refl
undivided (Neg' p (more_of-Term t r)) d = undivided t d
undivided (Add' p (more_of-Term t r) p' (more_of-Term t' r')) d = λ i. common (undivided t d.0 i) (undivided t' d.1 i)
undivided (Sub' p (more_of-Term t r) p' (more_of-Term t' r')) d = λ i. common (undivided t d.0 i) (undivided t' d.1 i)
undivided (Mul' p (more_of-Term t r) p' (more_of-Term t' r')) d =
    λ i. mono_times poly_cmp (undivided t d.0 i) (undivided t' d.1 i)
undivided (Div' p (more_of-Term t r) p' (more_of-Term t' r')) d = absurd d
undivided (Pow' p (more_of-Term t r) n) d = λ i. collect poly_cmp exponents (scaled n (undivided t d i))
undivided (Hom' f p (more_of-Term t r)) d = λ i. collect poly_cmp exponents (renamed (poly_under f) (undivided t d i))
