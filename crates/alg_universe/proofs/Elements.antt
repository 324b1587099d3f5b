-- The value of a term lies in the carrier of its sort.
use Rattle.std.proofs.Common.{ℕ, zero, suc, ℤ, pos, negsuc, List, [], ◌∷◌, subst, slice_index_or}
use Rattle.alg_terms.specs.declared.file.File.{File}
use Rattle.alg_terms.specs.declared.term.Term.{Term, more_of-Term, Var, Int, Neg', Add', Sub', Mul', Div', Pow', Hom'}
use Rattle.alg_terms.specs.Members.{source_of}
use Rattle.alg_terms.specs.Nodes.{fold_term}
use Rattle.alg_terms.specs.Sorts.{EachNodeAt}
use Rattle.alg_terms.proofs.Typed.{IsTyped, typed_term}
use Rattle.alg_universe.specs.declared.universe.Universe.{Ghosts}
use Rattle.alg_universe.specs.Ones.{ones}
use Rattle.alg_universe.specs.Value.{Fits, AreValues, number, power, value}
use Rattle.alg_universe.specs.ValueLaws.{ValuesAreElements}

module _ {E : Type 0} (u : Ghosts E) where
  pub has_ones : (s n : ℕ) → u.has s (ones (u.zero s) (u.one s) (u.add s) n)
  has_ones s zero = u.laws.has_zero s
  has_ones s (suc n) =
      u.laws.has_add s (u.one s) (ones (u.zero s) (u.one s) (u.add s) n) (u.laws.has_one s) (has_ones s n)

  pub has_number : (s : ℕ) (n : ℤ) → u.has s (number u s n)
  has_number s (pos n) = has_ones s n
  has_number s (negsuc n) = u.laws.has_opp s (ones (u.zero s) (u.one s) (u.add s) (suc n)) (has_ones s (suc n))

  pub has_power : (s : ℕ) (x : E) (n : ℕ) → u.has s x → u.has s (power u s x n)
  has_power s x zero h = u.laws.has_one s
  has_power s x (suc n) h = u.laws.has_mul s x (power u s x n) h (has_power s x n h)

  pub has_value : (file : File) → Fits u file → (v : List E) → AreValues u file v →
      (t : Term) (s : ℕ) (above : List ℕ) → IsTyped file s above t → u.has s (value u file v s t)
  unfolding fold_term EachNodeAt
  has_value file fits v values (Var k) s above (range, is) =
      subst (λ w. u.has w (slice_index_or v k (u.zero s))) is (values.each k (u.zero s) range)
  has_value file fits v values (Int n) s above h = has_number s n
  has_value file fits v values (Neg' _ (more_of-Term t _)) s above h =
      u.laws.has_opp s (value u file v s t) (has_value file fits v values t s above h.1)
  has_value file fits v values (Add' _ (more_of-Term t _) _ (more_of-Term w _)) s above h =
      u.laws.has_add s (value u file v s t) (value u file v s w) (has_value file fits v values t s above h.1)
      (has_value file fits v values w s above h.2)
  has_value file fits v values (Sub' _ (more_of-Term t _) _ (more_of-Term w _)) s above h =
      u.laws.has_add s (value u file v s t) (u.opp s (value u file v s w)) (has_value file fits v values t s above h.1)
      (u.laws.has_opp s (value u file v s w) (has_value file fits v values w s above h.2))
  has_value file fits v values (Mul' _ (more_of-Term t _) _ (more_of-Term w _)) s above h =
      u.laws.has_mul s (value u file v s t) (value u file v s w) (has_value file fits v values t s above h.1)
      (has_value file fits v values w s above h.2)
  has_value file fits v values (Div' _ (more_of-Term t _) _ (more_of-Term w _)) s above h =
      u.laws.has_mul s (value u file v s t) (u.inv s (value u file v s w)) (has_value file fits v values t s above h.1)
      (u.laws.has_inv s (value u file v s w) (has_value file fits v values w s above h.2))
  has_value file fits v values (Pow' _ (more_of-Term t _) n) s above h =
      has_power s (value u file v s t) n (has_value file fits v values t s above h.1)
  has_value file fits v values (Hom' f _ (more_of-Term t _)) s above h =
      let argument = value u file v (source_of file f) t in
      u.laws.hom_has f (source_of file f) s argument
      (subst (λ w. u.maps f (source_of file f) w) h.0.1 (fits.maps f h.0.0))
      (has_value file fits v values t (source_of file f) (f ∷ above) h.1)

  pub values_are_elements : ValuesAreElements u
  values_are_elements file fits v values s t rules h =
      has_value file fits v values t s [] (typed_term file t s rules h [])
