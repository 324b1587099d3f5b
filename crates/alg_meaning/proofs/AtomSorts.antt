-- All atoms of a term's polynomial are of the term's sort, and there both values of a polynomial agree.
use Rattle.std.specs.Prelude.{◌≡◌, ◌<◌, ℕ, zero, suc, List, [], ◌∷◌, ◌++◌, length, slice_index_or}
use Rattle.std.proofs.Common.{refl, sym, ap, subst, ◌∙◌, arith}
use Rattle.alg_terms.specs.declared.term.Term.{Term, more_of-Term, Var, Int, Neg', Add', Sub', Mul', Div', Pow', Hom'}
use Rattle.alg_terms.specs.declared.file.File.{File}
use Rattle.alg_terms.specs.Members.{source_of, target_of, sort_of_var}
use Rattle.alg_terms.specs.Nodes.{fold_term}
use Rattle.alg_universe.specs.declared.universe.Universe.{Ghosts}
use Rattle.alg_universe.specs.Value.{power, Fits, AreValues}
use Rattle.alg_mono.specs.FiniteMaps.{renamed, products, Each}
use Rattle.alg_mono.specs.Numbers.{exponents, integers}
use Rattle.alg_mono.specs.Polynomials.{poly_plus, poly_times, poly_neg, poly_power}
use Rattle.alg_mono.proofs.Each.{Each-keep, Each-collect, Each-append, Each-products, Each-renamed}
use Rattle.alg_meaning.specs.Atoms.{Monomial, Polynomial, atom_cmp, falling, times, put_before, mono_under, poly_under}
use Rattle.alg_terms.specs.declared.term.Atom.{Atom}
use Rattle.alg_meaning.specs.PolynomialOf.{poly_of}
use Rattle.alg_meaning.specs.Values.{along, mono_in, poly_in}
use Rattle.alg_meaning.proofs.Typed.{IsTyped}
use Rattle.alg_meaning.proofs.Carriers.{int_below, power_below}
use Rattle.alg_meaning.proofs.AtomValues.{path_value, path_value-var, path_value-hom, atom_value, monomial_value, value_at}

-- the path's morphisms compose from the variable's sort to t
abbrev pub IsPathTo : File → ℕ → List ℕ → ℕ → Type 0
IsPathTo file t [] k = (k < length file.vars) × (sort_of_var file k ≡ t)
IsPathTo file t (f ∷ path) k = (f < length file.homs) × (target_of file f ≡ t) × IsPathTo file (source_of file f) path k

-- the atoms, and all atoms of a monomial or a polynomial, are of sort t
module _ (file : File) (t : ℕ) where
  abbrev pub IsAtomOf : Atom → Type 0
  IsAtomOf a = IsPathTo file t a.path a.var

  abbrev pub IsMonoOf : Monomial → Type 0
  IsMonoOf m = Each IsAtomOf m

  abbrev pub IsPolyOf : Polynomial → Type 0
  IsPolyOf p = Each IsMonoOf p

module _ (file : File) where
  pub neg_of : (s : ℕ) (p : Polynomial) → IsPolyOf file s p → IsPolyOf file s (poly_neg p)
  neg_of s [] h = tt
  neg_of s (e ∷ p) h = (h.0, neg_of s p h.1)

  pub times_of : (s : ℕ) (m n : Monomial) → IsMonoOf file s m → IsMonoOf file s n → IsMonoOf file s (times m n)
  times_of s m n h g =
      Each-collect atom_cmp exponents (IsAtomOf file s) (m ++ n) (Each-append (IsAtomOf file s) m n h g)

  pub plus_of : (s : ℕ) (p q : Polynomial) → IsPolyOf file s p → IsPolyOf file s q →
      IsPolyOf file s (poly_plus falling integers p q)
  plus_of s p q h g =
      Each-collect falling integers.amounts (IsMonoOf file s) (p ++ q) (Each-append (IsMonoOf file s) p q h g)

  pub product_of : (s : ℕ) (p q : Polynomial) → IsPolyOf file s p → IsPolyOf file s q →
      IsPolyOf file s (poly_times falling integers times p q)
  product_of s p q h g =
      Each-collect falling integers.amounts (IsMonoOf file s) (products times integers.mul p q)
      (Each-products times integers.mul (IsMonoOf file s) (IsMonoOf file s) (IsMonoOf file s) (times_of s) p q h g)

  pub power_of : (s : ℕ) (p : Polynomial) (n : ℕ) → IsPolyOf file s p →
      IsPolyOf file s (poly_power falling integers [] times p n)
  power_of s p zero h = Each-keep falling integers.amounts (IsMonoOf file s) [] integers.one [] tt tt
  power_of s p (suc n) h = product_of s p (poly_power falling integers [] times p n) h (power_of s p n h)

  pub under_of : (f : ℕ) → f < length file.homs → (p : Polynomial) → IsPolyOf file (source_of file f) p →
      IsPolyOf file (target_of file f) (poly_under f p)
  under_of f l p h =
      let s = (source_of file f) in
      let t = (target_of file f) in
      Each-collect falling integers.amounts (IsMonoOf file t) (renamed (mono_under f) p)
      (Each-renamed (mono_under f) (IsMonoOf file s) (IsMonoOf file t)
      (λ m g. Each-collect atom_cmp exponents (IsAtomOf file t) (renamed (put_before f) m)
      (Each-renamed (put_before f) (IsAtomOf file s) (IsAtomOf file t) (λ a is. (l, refl, is)) m g)) p h)

  pub typed_poly : (s : ℕ) (t : Term) → IsTyped file s t → IsPolyOf file s (poly_of t)
  unfolding fold_term
  typed_poly s (Var k) h = ((h, tt), tt)
  typed_poly s (Int n) h = Each-keep falling integers.amounts (IsMonoOf file s) [] n [] tt tt
  typed_poly s (Neg' p (more_of-Term t r)) h = neg_of s (poly_of t) (typed_poly s t h)
  typed_poly s (Add' p (more_of-Term t r) p' (more_of-Term t' r')) h =
      plus_of s (poly_of t) (poly_of t') (typed_poly s t h.0) (typed_poly s t' h.1)
  typed_poly s (Sub' p (more_of-Term t r) p' (more_of-Term t' r')) h =
      plus_of s (poly_of t) (poly_neg (poly_of t')) (typed_poly s t h.0) (neg_of s (poly_of t') (typed_poly s t' h.1))
  typed_poly s (Mul' p (more_of-Term t r) p' (more_of-Term t' r')) h =
      product_of s (poly_of t) (poly_of t') (typed_poly s t h.0) (typed_poly s t' h.1)
  typed_poly s (Div' p (more_of-Term t r) p' (more_of-Term t' r')) h = tt
  typed_poly s (Pow' p (more_of-Term t r) n) h = power_of s (poly_of t) n (typed_poly s t h)
  typed_poly s (Hom' f p (more_of-Term t r)) h =
      subst (λ w. IsPolyOf file w (poly_under f (poly_of t))) h.1
      (under_of f h.0 (poly_of t) (typed_poly (source_of file f) t h.2))

any_default : {E : Type 0} (v : List E) (k : ℕ) (d e : E) → k < length v → slice_index_or v k d ≡ slice_index_or v k e
any_default [] k d e l = absurd (omega arith)
any_default (x ∷ v) zero d e l = refl
any_default (x ∷ v) (suc k) d e l = any_default v k d e (omega arith)

module _ {E : Type 0} (u : Ghosts E) {file : File} (fits : Fits u file) {v : List E} (values : AreValues u file v) where
  path_below : (t : ℕ) (path : List ℕ) (k : ℕ) (d : E) → IsPathTo file t path k →
      (path_value u fits values t path k).0 ≡ along u path (slice_index_or v k d)
  path_below t [] k d h =
      path_value-var u fits values t k h.0 h.1
      ∙ any_default v k (u.zero t) d (subst (λ n. k < n) (sym values.count) h.0)
  path_below t (f ∷ path) k d h =
      path_value-hom u fits values t f path k h.0 h.1 ∙ ap (u.hom f) (path_below (source_of file f) path k d h.2)

  mono_below : (s : ℕ) (m : Monomial) → IsMonoOf file s m → (monomial_value u fits values s m).0 ≡ mono_in u v s m
  mono_below s [] h = refl
  mono_below s (e ∷ m) h = λ i. u.mul s
      ((power_below u s (atom_value u fits values s e.0) e.1
      ∙ ap (λ x. power u s x e.1) (path_below s e.0.path e.0.var (u.zero s) h.0)) i)
      (mono_below s m h.1 i)

  pub poly_below : (s : ℕ) (p : Polynomial) → IsPolyOf file s p → (value_at u fits values s p).0 ≡ poly_in u v s p
  poly_below s [] h = refl
  poly_below s (e ∷ p) h = λ i. u.add s (u.mul s (int_below u s e.1 i) (mono_below s e.0 h.0 i)) (poly_below s p h.1 i)
