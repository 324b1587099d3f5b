-- The laws of the product of monomials, and of their order.
use Rattle.std.specs.Prelude.{◌≡◌, ℕ, ◌+◌, not, List, [], ◌∷◌, ◌++◌, reverse}
use Rattle.std.proofs.Common.{refl, sym, ap, subst, ◌∙◌, T, add_assoc, add_comm}
use Rattle.std.proofs.lemmas.List.{reverse-reverse}
use Rattle.std.specs.declared.cmp.Ordering.{Ordering}
use Rattle.std.specs.declared.cmp.Ordering.TheVariants.{Less, Equal, Greater}
use Rattle.std.specs.Ordering.{is_lt, is_eq, ordering_then, nat_cmp}
use Rattle.std.specs.Cmp.{IsTotalOrder, nat_cmp_total, on_total, back_total, then_total}
use Rattle.std.specs.Cmp.Lexicographic.{slice_cmp, lists_total}
use Rattle.std.specs.FinMap.{IsAntisymmetric, nat_cmp-IsAntisymmetric, slice_cmp-IsAntisymmetric}
use Rattle.std.proofs.lemmas.List.Sums.{sum_by-cons, sum_by-append}
use Rattle.alg_mono.specs.FiniteMaps.{at_key, collect, IsCanonical, total}
use Rattle.alg_mono.specs.Numbers.{exponents}
use Rattle.alg_mono.specs.Monomials.{mono_times, exponent, entry_cmp, degree, grevlex}
use Rattle.alg_mono.proofs.Totals.{IsAdditive, total-collect, total-append}
use Rattle.alg_mono.proofs.Numbers.{exponent_laws, natural_sum}
use Rattle.alg_mono.proofs.Canonical.{collect_same, collect-canonical, at_key_adds, amount-total, amount-collect}

pub then_equal : (r s : Ordering) → ordering_then r s ≡ Equal → (r ≡ Equal) × (s ≡ Equal)
then_equal Less s e = absurd (subst (λ r. T (is_lt r)) e tt)
then_equal Equal s e = (refl, e)
then_equal Greater s e = absurd (subst (λ r. T (not (is_eq r))) e tt)

module _ {K : Type 0} where
  pub degree_total : (m : List (K × ℕ)) → degree m ≡ total 0 ◌+◌ (λ (k : K) (e : ℕ). e) m
  degree_total [] = refl
  degree_total (e ∷ m) = sum_by-cons (λ (x : K × ℕ). x.1) e m ∙ ap (λ n. e.1 + n) (degree_total m)

module _ {K : Type 0} {cmp : K → K → Ordering} (o : IsTotalOrder cmp) (anti : IsAntisymmetric cmp) where
  pub entry_total : IsTotalOrder (entry_cmp cmp)
  entry_total = then_total (on_total (λ (e : K × ℕ). e.0) o) (on_total (λ (e : K × ℕ). e.1) nat_cmp_total)

  pub grevlex_total : IsTotalOrder (grevlex cmp)
  grevlex_total =
      then_total (on_total (λ (m : List (K × ℕ)). degree m) nat_cmp_total)
      (back_total (on_total reverse (lists_total entry_total)))

  entry_anti : IsAntisymmetric (entry_cmp cmp)
  entry_anti e f h =
      let b = then_equal (cmp e.0 f.0) (nat_cmp e.1 f.1) h in
      λ i. (anti e.0 f.0 b.0 i, nat_cmp-IsAntisymmetric e.1 f.1 b.1 i)

  pub grevlex_anti : IsAntisymmetric (grevlex cmp)
  grevlex_anti m n h =
      let b = then_equal (nat_cmp (degree m) (degree n)) (slice_cmp (entry_cmp cmp) (reverse n) (reverse m)) h in
      sym (sym (reverse-reverse n) ∙ ap reverse (slice_cmp-IsAntisymmetric entry_anti (reverse n) (reverse m) b.1)
      ∙ reverse-reverse m)

  pub mono_times_comm : (m n : List (K × ℕ)) → mono_times cmp m n ≡ mono_times cmp n m
  mono_times_comm m n = collect_same exponent_laws o anti (m ++ n) (n ++ m) (λ k.
      let g = at_key cmp exponents k in
      total-append natural_sum g m n ∙ add_comm (total 0 ◌+◌ g m) (total 0 ◌+◌ g n)
      ∙ sym (total-append natural_sum g n m))

  pub exponent-mono_times : (k : K) (m n : List (K × ℕ)) →
      exponent cmp k (mono_times cmp m n) ≡ exponent cmp k m + exponent cmp k n
  exponent-mono_times k m n =
      let g = at_key cmp exponents k in
      amount-collect exponent_laws o anti k (m ++ n) ∙ amount-total exponent_laws o anti k (m ++ n)
      ∙ total-append natural_sum g m n
      ∙ sym (λ i. amount-total exponent_laws o anti k m i + amount-total exponent_laws o anti k n i)

  degree_adds : IsAdditive exponents 0 ◌+◌ (λ (k : K) (e : ℕ). e)
  degree_adds = record { at_none = λ k. refl; at_plus = λ k a b. refl }

  -- to collect changes no degree
  pub degree-collect : (m : List (K × ℕ)) → degree (collect cmp exponents m) ≡ degree m
  degree-collect m =
      degree_total (collect cmp exponents m) ∙ total-collect exponent_laws anti natural_sum degree_adds m
      ∙ sym (degree_total m)

  pub degree-mono_times : (m n : List (K × ℕ)) → degree (mono_times cmp m n) ≡ degree m + degree n
  degree-mono_times m n = degree-collect (m ++ n) ∙ sum_by-append (λ (x : K × ℕ). x.1) m n

  pub mono_times_assoc : (m n l : List (K × ℕ)) →
      mono_times cmp (mono_times cmp m n) l ≡ mono_times cmp m (mono_times cmp n l)
  mono_times_assoc m n l = collect_same exponent_laws o anti (mono_times cmp m n ++ l) (m ++ mono_times cmp n l) (λ k.
      let g = at_key cmp exponents k in
      let G = at_key_adds {cmp = cmp} exponent_laws o anti k in
      let t = λ (x : List (K × ℕ)). total 0 ◌+◌ g x in
      total-append natural_sum g (mono_times cmp m n) l
      ∙ ap (λ x. x + t l) (total-collect exponent_laws anti natural_sum G (m ++ n) ∙ total-append natural_sum g m n)
      ∙ add_assoc (t m) (t n) (t l)
      ∙ sym (total-append natural_sum g m (mono_times cmp n l)
      ∙ ap (λ x. t m + x) (total-collect exponent_laws anti natural_sum G (n ++ l) ∙ total-append natural_sum g n l)))

  pub one_mono_times : (m : List (K × ℕ)) → IsCanonical cmp exponents m → mono_times cmp [] m ≡ m
  one_mono_times m c = collect-canonical exponent_laws o anti m c
