-- The laws of polynomials over atoms as a universe.
use Rattle.std.specs.Prelude.{◌≡◌, ◌≢◌, ◌⊎◌, ◌≤◌, ℕ, zero, suc, cond, [], ◌∷◌, ℤ, pos, ◌+ℤ◌}
use Rattle.std.proofs.Common.{refl, sym, ap, ◌∙◌, inl, inr}
use lib.Dec.{T_prop}
use Rattle.std.specs.Ordering.{is_eq}
use Rattle.std.specs.Cmp.{tied_itself}
use Rattle.alg_universe.specs.Laws.{IsUniverse}
use Rattle.alg_universe.specs.Ones.{ones}
use Rattle.alg_mono.specs.FiniteMaps.{IsCanonical, Each, at_key, total, renamed}
use Rattle.alg_mono.specs.Numbers.{exponents, integers}
use Rattle.alg_mono.specs.Polynomials.{IsPolynomial}
use Rattle.alg_mono.proofs.Numbers.{one_more, some_ones, integer_laws, natural_laws, exponent_laws, integer_sum}
use Rattle.alg_mono.proofs.Canonical.{IsCanonical-collect, at_key_adds}
use Rattle.alg_mono.proofs.Monomials.{mono_times_comm, mono_times_assoc, one_mono_times}
use Rattle.alg_mono.proofs.Polynomials.{plus_comm, plus_assoc, zero_plus, times_poly_comm, times_poly_assoc, times_plus, total-poly_plus}
use Rattle.alg_mono.proofs.Renaming.{one_times, plus_opposite, rename-plus, rename-times, rename-neg}
use Rattle.alg_mono.proofs.Grevlex.{falling-mono_times}
use Rattle.alg_mono.proofs.Domain.{no_zero_divisors, some_first}
use Rattle.alg_mono.proofs.Closure.{IsPolynomial-plus, IsPolynomial-neg, IsPolynomial-times, IsPolynomial-rename}
use Rattle.alg_meaning.specs.Atoms.{Monomial, Polynomial, atom_cmp, falling, times, plus, times_poly, one_poly, put_before, mono_under}
use Rattle.alg_meaning.specs.Free as free
use Rattle.alg_meaning.specs.Orders.{atom_total, atom_anti, falling_total, falling_anti}

abbrev Good : Monomial → Type 0
Good m = IsCanonical atom_cmp exponents m

abbrev Is : Polynomial → Type 0
Is p = IsPolynomial atom_cmp integers p

canonical_prop : (m : Monomial) → IsProp (Good m)
canonical_prop m c d = λ i. record { rises = T_prop _ c.rises d.rises i; no_none = T_prop _ c.no_none d.no_none i }

each_prop : (p : Polynomial) → IsProp (Each Good p)
each_prop [] h g = refl
each_prop (e ∷ p) h g = λ i. (canonical_prop e.0 h.0 g.0 i, each_prop p h.1 g.1 i)

has_prop : (p : Polynomial) → IsProp (Is p)
has_prop p h g = λ i. record {
  canonical =
      record {
        rises = T_prop _ h.canonical.rises g.canonical.rises i;
        no_none = T_prop _ h.canonical.no_none g.canonical.no_none i;
      };
  monomials = each_prop p h.monomials g.monomials i;
}

nothing : Is []
nothing = record { canonical = record { rises = tt; no_none = tt }; monomials = tt }

has_one : Is one_poly
has_one =
    record { canonical = record { rises = tt; no_none = tt }; monomials = (record { rises = tt; no_none = tt }, tt) }

unchanged : (p : Polynomial) → Each Good p → Each (λ m. times [] m ≡ m) p
unchanged [] h = tt
unchanged (e ∷ p) h = (one_mono_times atom_total atom_anti e.0 h.0, unchanged p h.1)

mul_comm : (p q : Polynomial) → times_poly p q ≡ times_poly q p
mul_comm p q = times_poly_comm integer_laws falling_total falling_anti times (mono_times_comm atom_total atom_anti) p q

mul_one : (p : Polynomial) → Is p → times_poly p one_poly ≡ p
mul_one p h =
    mul_comm p one_poly ∙ one_times integer_laws falling_total falling_anti times [] p h.canonical
    (unchanged p h.monomials)

mono_under_times : (f : ℕ) (m n : Monomial) → mono_under f (times m n) ≡ times (mono_under f m) (mono_under f n)
mono_under_times f m n = rename-plus natural_laws atom_anti atom_total atom_anti (put_before f) m n

good_under : (f : ℕ) (m : Monomial) → Good (mono_under f m)
good_under f m = IsCanonical-collect exponent_laws atom_total atom_anti (renamed (put_before f) m)

no_divisors : (p q : Polynomial) → Is p → Is q → times_poly p q ≡ [] → (p ≡ []) ⊎ (q ≡ [])
no_divisors [] q h g z = inl refl
no_divisors (e ∷ p) [] h g z = inr refl
no_divisors (e ∷ p) (f ∷ q) h g z =
    absurd (no_zero_divisors falling_total falling_anti times (mono_times_comm atom_total atom_anti) Good
    (falling-mono_times atom_total atom_anti) (e ∷ p) (f ∷ q) h.canonical g.canonical h.monomials g.monomials
    (some_first e p) (some_first f q) z)

-- the constant part of a sum of ones
abbrev constant_part : Polynomial → ℤ
constant_part p = total (pos 0) ◌+ℤ◌ (at_key falling integers.amounts []) p

constant_part-ones : (n : ℕ) → constant_part (ones [] one_poly plus n) ≡ pos n
constant_part-ones zero = refl
constant_part-ones (suc n) =
    let x = ones [] one_poly plus n in
    total-poly_plus integer_laws falling_anti integer_sum
    (at_key_adds {cmp = falling} integer_laws.amounts falling_total falling_anti []) one_poly x
    ∙ (λ i. (ap (λ r. cond (is_eq r) (pos 1) (pos 0)) (tied_itself falling_total []) i +ℤ pos 0) +ℤ constant_part-ones
    n i)
    ∙ one_more n

ones_not_zero : (n : ℕ) → 1 ≤ n → ones [] one_poly plus n ≢ []
ones_not_zero n h e = some_ones n h (sym (constant_part-ones n) ∙ ap constant_part e)

pub laws :
    IsUniverse free.has free.zero free.one free.add free.opp free.mul free.inv free.hom free.kind free.char0 free.maps
laws = record {
  has_prop = λ s p. has_prop p;
  has_zero = λ s. nothing;
  has_one = λ s. has_one;
  has_add = λ s p q h g. IsPolynomial-plus integer_laws atom_total atom_anti p q h g;
  has_opp = λ s p h. IsPolynomial-neg atom_total atom_anti p h;
  has_mul = λ s p q h g. IsPolynomial-times integer_laws atom_total atom_anti p q h g;
  has_inv = λ s p h. nothing;
  add_assoc = λ s p q r h g k. plus_assoc integer_laws falling_total falling_anti p q r;
  add_comm = λ s p q h g. plus_comm integer_laws falling_total falling_anti p q;
  add_zero =
      λ s p h. plus_comm integer_laws falling_total falling_anti p []
      ∙ zero_plus integer_laws falling_total falling_anti p h.canonical;
  add_opp = λ s p h. plus_opposite falling_total falling_anti p;
  mul_assoc =
      λ s p q r h g k. times_poly_assoc integer_laws falling_total falling_anti times
      (mono_times_assoc atom_total atom_anti) p q r;
  mul_comm = λ s p q h g. mul_comm p q;
  mul_one = λ s p h. mul_one p h;
  mul_add = λ s p q r h g k. times_plus integer_laws falling_total falling_anti times p q r;
  one_not_zero = λ s d. some_first ([], pos 1) [];
  no_divisors = λ s p q d h g e. no_divisors p q h g e;
  mul_inv = λ s p f h g. absurd f;
  ones_not_zero = λ s n c d. ones_not_zero n;
  hom_has = λ f s t p m h. IsPolynomial-rename integer_laws atom_total atom_anti (mono_under f) (good_under f) p;
  hom_zero = λ f s t m. refl;
  hom_one = λ f s t m. refl;
  hom_add = λ f s t p q m h g. rename-plus integer_laws falling_anti falling_total falling_anti (mono_under f) p q;
  hom_opp = λ f s t p m h. rename-neg falling_total falling_anti (mono_under f) p;
  hom_mul =
      λ f s t p q m h g. rename-times integer_laws falling_anti falling_total falling_anti (mono_under f) times times
      (mono_under_times f) p q;
}
