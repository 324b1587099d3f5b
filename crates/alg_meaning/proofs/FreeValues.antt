-- The polynomial of a term is its value in the universe of polynomials.
use Rattle.std.specs.Prelude.{◌≡◌, ◌<◌, ℕ, zero, suc, ◌+◌, List, [], ◌∷◌, length, slice_index_or, ℤ, pos, negsuc, ◌+ℤ◌}
use Rattle.std.proofs.Common.{refl, sym, ap, ◌∙◌, arith}
use Rattle.std.proofs.lemmas.Int.{ints}
use Rattle.alg_terms.specs.declared.term.Term.{Term, more_of-Term, Var, Int, Neg', Add', Sub', Mul', Div', Pow', Hom'}
use Rattle.alg_terms.specs.declared.file.File.{File}
use Rattle.alg_terms.specs.Members.{source_of}
use Rattle.alg_terms.specs.Nodes.{fold_term}
use Rattle.alg_universe.specs.Ones.{ones}
use Rattle.alg_universe.specs.Value.{value, number, power}
use Rattle.alg_mono.specs.FiniteMaps.{at_key}
use Rattle.alg_mono.specs.Numbers.{integers}
use Rattle.alg_mono.specs.Polynomials.{IsPolynomial, poly_plus, poly_times, poly_term, poly_power, poly_neg}
use Rattle.alg_mono.proofs.Totals.{total-collect, idr}
use Rattle.alg_mono.proofs.Numbers.{integer_laws, integer_sum}
use Rattle.alg_mono.proofs.Canonical.{collect_same, at_key_adds}
use Rattle.alg_mono.proofs.Renaming.{rename-neg}
use Rattle.alg_meaning.specs.Atoms.{Polynomial, atom_cmp, falling, times, plus, one_poly, poly_under, atom_poly, variable}
use Rattle.alg_meaning.specs.PolynomialOf.{poly_of}
use Rattle.alg_meaning.specs.Orders.{falling_total, falling_anti}
use Rattle.alg_meaning.specs.FreeValues.{atoms_from, atoms_of, ValuesArePolynomials, AtomsAreValues, DifferentPolynomials}
use Rattle.alg_meaning.proofs.Typed.{IsTyped, HasNoDivision, typed, plain}
use Rattle.alg_meaning.specs.contracts.free.FreeUniverse.TheImpl as free

constants_add : (a b : ℤ) →
    poly_plus falling integers ((([], a)) ∷ []) (poly_term falling integers [] b) ≡
    poly_term falling integers [] (a +ℤ b)
constants_add a b =
    collect_same integer_laws.amounts falling_total falling_anti (([], a) ∷ poly_term falling integers [] b)
    (([], a +ℤ b) ∷ []) (λ k.
    let g = at_key falling integers.amounts k in
    let G = at_key_adds {cmp = falling} integer_laws.amounts falling_total falling_anti k in
    ap (λ x. g [] a +ℤ x) (total-collect integer_laws.amounts falling_anti integer_sum G (([], b) ∷ [])
    ∙ idr integer_sum (g [] b))
    ∙ sym (G.at_plus [] a b) ∙ sym (idr integer_sum (g [] (a +ℤ b))))

ones_are : (n : ℕ) → ones [] one_poly plus n ≡ poly_term falling integers [] (pos n)
ones_are zero = refl
ones_are (suc n) =
    ap (λ p. plus one_poly p) (ones_are n) ∙ constants_add (pos 1) (pos n)
    ∙ ap (λ c. poly_term falling integers [] c) (next n)
  where
    next : (n : ℕ) → pos 1 +ℤ pos n ≡ pos (suc n)
    next n = omega (arith, ints)

number_is : (s : ℕ) (c : ℤ) → number free.ghosts s c ≡ poly_term falling integers [] c
number_is s (pos n) = ones_are n
number_is s (negsuc n) =
    ap (λ p. poly_neg p) (ones_are (suc n))
    ∙ sym (rename-neg falling_total falling_anti (λ m. m) (([], pos (suc n)) ∷ []))

power_is : (s : ℕ) (p : Polynomial) (n : ℕ) → power free.ghosts s p n ≡ poly_power falling integers [] times p n
power_is s p zero = refl
power_is s p (suc n) = ap (λ q. poly_times falling integers times p q) (power_is s p n)

variable_is : (j n k : ℕ) (d : Polynomial) → k < n → slice_index_or (atoms_from j n) k d ≡ atom_poly (variable (j + k))
variable_is j zero k d l = absurd (omega arith)
variable_is j (suc n) zero d l = ap (λ i. atom_poly (variable i)) (omega arith)
variable_is j (suc n) (suc k) d l =
    variable_is (suc j) n k d (omega arith) ∙ ap (λ i. atom_poly (variable i)) (omega arith)

module _ (file : File) where
  abbrev v : List Polynomial
  v = atoms_of file

  pub value_is : (s : ℕ) (t : Term) → IsTyped file s t → HasNoDivision t → value free.ghosts file v s t ≡ poly_of t
  unfolding fold_term
  value_is s (Var k) h d = variable_is 0 (length file.vars) k [] h.0 ∙ ap (λ i. atom_poly (variable i)) (omega arith)
  value_is s (Int n) h d = number_is s n
  value_is s (Neg' p (more_of-Term t r)) h d = ap (λ p. poly_neg p) (value_is s t h d)
  value_is s (Add' p (more_of-Term t r) p' (more_of-Term t' r')) h d =
      λ i. poly_plus falling integers (value_is s t h.0 d.0 i) (value_is s t' h.1 d.1 i)
  value_is s (Sub' p (more_of-Term t r) p' (more_of-Term t' r')) h d =
      λ i. poly_plus falling integers (value_is s t h.0 d.0 i) (poly_neg (value_is s t' h.1 d.1 i))
  value_is s (Mul' p (more_of-Term t r) p' (more_of-Term t' r')) h d =
      λ i. poly_times falling integers times (value_is s t h.0 d.0 i) (value_is s t' h.1 d.1 i)
  value_is s (Div' p t p' t') h d = absurd d
  value_is s (Pow' p (more_of-Term t r) n) h d =
      ap (λ q. power free.ghosts s q n) (value_is s t h d) ∙ power_is s (poly_of t) n
  value_is s (Hom' f p (more_of-Term t r)) h d = ap (λ p. poly_under f p) (value_is (source_of file f) t h.2 d)

pub values_are_polynomials : ValuesArePolynomials free.ghosts
values_are_polynomials file s t h = value_is file s t (typed file s t h.term h.sort) (plain t h.plain)

pub atoms_are_values : AtomsAreValues free.ghosts
atoms_are_values file = record { count = count 0 (length file.vars); each = λ k d h. each 0 (length file.vars) k d h }
  where
    count : (j n : ℕ) → length (atoms_from j n) ≡ n
    count j zero = refl
    count j (suc n) = omega (arith, count (suc j) n)

    each : (j n k : ℕ) (d : Polynomial) → k < n → IsPolynomial atom_cmp integers (slice_index_or (atoms_from j n) k d)
    each j n k d h =
        rw (variable_is j n k d h) record
        { canonical = record { rises = tt; no_none = tt }; monomials = (record { rises = tt; no_none = tt }, tt) }

pub different_polynomials : DifferentPolynomials free.ghosts
different_polynomials file s left right l r differ same =
    differ (sym (values_are_polynomials file s left l) ∙ same ∙ values_are_polynomials file s right r)
