-- The orders of atoms, of monomials and of polynomials over them.
use Rattle.std.specs.Prelude.{ℕ, ℤ, List}
use Rattle.std.proofs.Common.{sym}
use Rattle.std.specs.declared.cmp.Ordering.{Ordering}
use Rattle.std.specs.Ordering.{nat_cmp, int_cmp}
use Rattle.std.proofs.lemmas.Cmp.{int_cmp_total}
use Rattle.std.specs.Cmp.{IsTotalOrder, nat_cmp_total, on_total, back_total, then_total}
use Rattle.std.specs.Cmp.Lexicographic.{slice_cmp, lists_total}
use Rattle.std.specs.FinMap.{IsAntisymmetric, nat_cmp-IsAntisymmetric, int_cmp-IsAntisymmetric, slice_cmp-IsAntisymmetric}
use Rattle.alg_terms.specs.declared.term.Atom.{Atom}
use Rattle.alg_mono.proofs.Monomials.{grevlex_total, grevlex_anti, then_equal}
use Rattle.alg_mono.specs.Monomials.{grevlex}
use Rattle.alg_meaning.specs.Atoms.{atom_cmp, falling}
use Rattle.alg_meaning.specs.Factors.{poly_cmp}
use Rattle.alg_meaning.specs.FactorsOver as over

pub atom_total : IsTotalOrder atom_cmp
atom_total =
    then_total (on_total (λ (a : Atom). a.path) (lists_total nat_cmp_total))
    (on_total (λ (a : Atom). a.var) nat_cmp_total)

pub atom_anti : IsAntisymmetric atom_cmp
atom_anti a b h =
    let e = then_equal (slice_cmp nat_cmp a.path b.path) (nat_cmp a.var b.var) h in
    λ i. record {
      path = slice_cmp-IsAntisymmetric nat_cmp-IsAntisymmetric a.path b.path e.0 i;
      var = nat_cmp-IsAntisymmetric a.var b.var e.1 i;
    }

pub falling_total : IsTotalOrder falling
falling_total = back_total (grevlex_total atom_total atom_anti)

pub falling_anti : IsAntisymmetric falling
falling_anti m n h = sym (grevlex_anti atom_total atom_anti n m h)

-- the orders of polynomials over any atoms in a total order
module _ {K : Type 0} {cmp : K → K → Ordering} (o : IsTotalOrder cmp) (anti : IsAntisymmetric cmp) where
  term_total : IsTotalOrder (over.term_cmp cmp)
  term_total =
      then_total (on_total (λ (e : List (K × ℕ) × ℤ). e.0) (grevlex_total o anti))
      (on_total (λ (e : List (K × ℕ) × ℤ). e.1) int_cmp_total)

  term_anti : IsAntisymmetric (over.term_cmp cmp)
  term_anti e f h =
      let b = then_equal (grevlex cmp e.0 f.0) (int_cmp e.1 f.1) h in
      λ i. (grevlex_anti o anti e.0 f.0 b.0 i, int_cmp-IsAntisymmetric e.1 f.1 b.1 i)

  pub over_total : IsTotalOrder (over.poly_cmp cmp)
  over_total = lists_total term_total

  pub over_anti : IsAntisymmetric (over.poly_cmp cmp)
  over_anti p q h = slice_cmp-IsAntisymmetric term_anti p q h

pub poly_total : IsTotalOrder poly_cmp
poly_total = over_total atom_total atom_anti

pub poly_anti : IsAntisymmetric poly_cmp
poly_anti p q h = over_anti atom_total atom_anti p q h
