-- What a property of monomials, kept by their products, holds of what is cancelled; and polynomials over n atoms.
use Rattle.std.specs.Prelude.{ℕ, zero, suc, ◌<◌, [], ◌∷◌, ◌++◌, ℤ, pos, ◌*ℤ◌}
use Rattle.std.specs.Ordering.{nat_cmp}
use Rattle.std.specs.Cmp.{nat_cmp_total}
use Rattle.std.specs.FinMap.{nat_cmp-IsAntisymmetric}
use Rattle.alg_mono.specs.FiniteMaps.{Each, products}
use Rattle.alg_mono.specs.Mono.{Monomial}
use Rattle.alg_mono.specs.Monomials.{lowered, mono_over, mono_times, lcm}
use Rattle.alg_mono.specs.Numbers.{exponents, integers}
use Rattle.alg_mono.specs.NumberedPolynomials.{Polynomial, before, term_of, multiple_of, power_of, product_of}
use Rattle.alg_mono.specs.Polynomials.{poly_neg}
use Rattle.alg_mono.proofs.Closure.{IsPolynomial-power, IsPolynomial-times}
use Rattle.alg_mono.proofs.Each.{Each-append, Each-collect, Each-keep, Each-neg, Each-products}
use Rattle.alg_mono.proofs.Lcm.{Each-lowered}
use Rattle.alg_mono.proofs.Numbers.{integer_laws}
use Rattle.alg_groebner.specs.Cancelling.{left_factor, right_factor, crossed, cancelled}
use Rattle.alg_groebner.specs.Divisors.{content, over_number}
use Rattle.alg_groebner.specs.Leads.{lead, leading}
use Rattle.alg_groebner.specs.Within.{HasAtoms, IsOverAtoms}
use Rattle.alg_groebner.proofs.Faithful.{IsPolynomial-cancelled}

module _ (P : Monomial → Type 0) (times : (m n : Monomial) → P m → P n → P (mono_times nat_cmp m n)) where
  each_multiple : (c : ℤ) (m : Monomial) (p : Polynomial) → P m → Each P p → Each P (multiple_of c m p)
  each_multiple c m p h g =
      Each-collect before integers.amounts P (products (mono_times nat_cmp) ◌*ℤ◌ (term_of m c) p)
      (Each-products (mono_times nat_cmp) ◌*ℤ◌ P P P times (term_of m c) p
      (Each-keep before integers.amounts P m c [] h tt) g)

  each_number : (d : ℤ) (p : Polynomial) → Each P p → Each P (over_number d p)
  each_number d [] h = tt
  each_number d (e ∷ p) h = (h.0, each_number d p h.1)

  each_crossed : (m : Monomial) (p : Polynomial) (n : Monomial) (q : Polynomial) → P m → P n → Each P p → Each P q →
      Each P (crossed m p n q)
  each_crossed m p n q hm hn hp hq =
      let x = multiple_of (left_factor (leading p) (leading q)) m p in
      let y = multiple_of (right_factor (leading p) (leading q)) n q in
      Each-collect before integers.amounts P (x ++ poly_neg y)
      (Each-append P x (poly_neg y) (each_multiple (left_factor (leading p) (leading q)) m p hm hp)
      (Each-neg P y (each_multiple (right_factor (leading p) (leading q)) n q hn hq)))

  pub each_cancelled : (m : Monomial) (p : Polynomial) (n : Monomial) (q : Polynomial) → P m → P n → Each P p →
      Each P q → Each P ((cancelled m p n q).poly)
  unfolding cancelled
  each_cancelled m p n q hm hn hp hq =
      each_number (pos (content (crossed m p n q))) (crossed m p n q) (each_crossed m p n q hm hn hp hq)

  pub each_product : (p q : Polynomial) → Each P p → Each P q → Each P (product_of p q)
  each_product p q h g =
      Each-collect before integers.amounts P (products (mono_times nat_cmp) ◌*ℤ◌ p q)
      (Each-products (mono_times nat_cmp) ◌*ℤ◌ P P P times p q h g)

  each_power : (p : Polynomial) (k : ℕ) → P [] → Each P p → Each P (power_of p k)
  each_power p zero one h = Each-keep before integers.amounts P [] (pos 1) [] one tt
  each_power p (suc k) one h = each_product p (power_of p k) h (each_power p k one h)

module _ (n : ℕ) where
  abbrev Low : ℕ → Type 0
  Low k = k < n

  pub atoms_times : (m q : Monomial) → HasAtoms n m → HasAtoms n q → HasAtoms n (mono_times nat_cmp m q)
  atoms_times m q h g = Each-collect nat_cmp exponents Low (m ++ q) (Each-append Low m q h g)

  pub atoms_over : (m d : Monomial) → HasAtoms n m → HasAtoms n (mono_over nat_cmp m d)
  atoms_over m d h = Each-collect nat_cmp exponents Low (lowered nat_cmp d m) (Each-lowered nat_cmp Low d m h)

  pub atoms_lcm : (m q : Monomial) → HasAtoms n m → HasAtoms n q → HasAtoms n (lcm nat_cmp m q)
  atoms_lcm m q h g = atoms_times m (mono_over nat_cmp q m) h (atoms_over q m g)

  pub atoms_lead : (p : Polynomial) → IsOverAtoms n p → HasAtoms n (lead p)
  atoms_lead [] h = tt
  atoms_lead (e ∷ p) h = h.atoms.0

  pub over_cancelled : (m : Monomial) (p : Polynomial) (q : Monomial) (r : Polynomial) → HasAtoms n m →
      HasAtoms n q → IsOverAtoms n p → IsOverAtoms n r → IsOverAtoms n ((cancelled m p q r).poly)
  over_cancelled m p q r hm hq hp hr = record {
    polynomial = IsPolynomial-cancelled m p q r;
    atoms = each_cancelled (HasAtoms n) atoms_times m p q r hm hq hp.atoms hr.atoms;
  }

  pub over_product : (p q : Polynomial) → IsOverAtoms n p → IsOverAtoms n q → IsOverAtoms n (product_of p q)
  over_product p q h g = record {
    polynomial =
        IsPolynomial-times integer_laws nat_cmp_total nat_cmp-IsAntisymmetric p q h.polynomial g.polynomial;
    atoms = each_product (HasAtoms n) atoms_times p q h.atoms g.atoms;
  }

  pub over_power : (p : Polynomial) (k : ℕ) → IsOverAtoms n p → IsOverAtoms n (power_of p k)
  over_power p k h = record {
    polynomial = IsPolynomial-power integer_laws nat_cmp_total nat_cmp-IsAntisymmetric p k h.polynomial;
    atoms = each_power (HasAtoms n) atoms_times p k tt h.atoms;
  }
