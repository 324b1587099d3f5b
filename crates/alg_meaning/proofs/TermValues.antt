-- Values of terms lie in the carriers.
use Rattle.std.specs.Prelude.{ℕ, zero, suc, List, ℤ, pos, negsuc, slice_index_or}
use Rattle.std.proofs.Common.{subst}
use Rattle.alg_terms.specs.declared.term.Term.{Term, more_of-Term, Var, Int, Neg', Add', Sub', Mul', Div', Pow', Hom'}
use Rattle.alg_terms.specs.declared.file.File.{File}
use Rattle.alg_terms.specs.Members.{source_of, target_of}
use Rattle.alg_terms.specs.Nodes.{fold_term}
use Rattle.alg_universe.specs.declared.universe.Universe.{Ghosts}
use Rattle.alg_universe.specs.Ones.{ones}
use Rattle.alg_universe.specs.Value.{value, number, power, Fits, AreValues}
use Rattle.alg_meaning.proofs.Typed.{IsTyped}
use Rattle.alg_meaning.proofs.Carriers.{Carrier}

module _ {E : Type 0} (u : Ghosts E) where
  abbrev has_ones : (s n : ℕ) → u.has s (ones (u.zero s) (u.one s) (u.add s) n)
  has_ones s zero = u.laws.has_zero s
  has_ones s (suc n) =
      u.laws.has_add s (u.one s) (ones (u.zero s) (u.one s) (u.add s) n) (u.laws.has_one s) (has_ones s n)

  abbrev has_number : (s : ℕ) (n : ℤ) → u.has s (number u s n)
  has_number s (pos n) = has_ones s n
  has_number s (negsuc n) = u.laws.has_opp s (ones (u.zero s) (u.one s) (u.add s) (suc n)) (has_ones s (suc n))

  abbrev has_power : (s : ℕ) (x : E) (n : ℕ) → u.has s x → u.has s (power u s x n)
  has_power s x zero h = u.laws.has_one s
  has_power s x (suc n) h = u.laws.has_mul s x (power u s x n) h (has_power s x n h)

  module _ {file : File} (fits : Fits u file) {v : List E} (values : AreValues u file v) where
    abbrev at : ℕ → Term → E
    at s t = value u file v s t

    unfoldable pub has_value : (s : ℕ) (t : Term) → IsTyped file s t → u.has s (value u file v s t)
    unfolding fold_term
    has_value s (Var k) h = subst (λ w. u.has w (slice_index_or v k (u.zero s))) h.1 (values.each k (u.zero s) h.0)
    has_value s (Int n) h = has_number s n
    has_value s (Neg' p (more_of-Term t r)) h = u.laws.has_opp s (at s t) (has_value s t h)
    has_value s (Add' p (more_of-Term t r) p' (more_of-Term t' r')) h =
        u.laws.has_add s (at s t) (at s t') (has_value s t h.0) (has_value s t' h.1)
    has_value s (Sub' p (more_of-Term t r) p' (more_of-Term t' r')) h =
        u.laws.has_add s (at s t) (u.opp s (at s t')) (has_value s t h.0)
        (u.laws.has_opp s (at s t') (has_value s t' h.1))
    has_value s (Mul' p (more_of-Term t r) p' (more_of-Term t' r')) h =
        u.laws.has_mul s (at s t) (at s t') (has_value s t h.0) (has_value s t' h.1)
    has_value s (Div' p (more_of-Term t r) p' (more_of-Term t' r')) h =
        u.laws.has_mul s (at s t) (u.inv s (at s t')) (has_value s t h.0)
        (u.laws.has_inv s (at s t') (has_value s t' h.1))
    has_value s (Pow' p (more_of-Term t r) n) h = has_power s (at s t) n (has_value s t h)
    has_value s (Hom' f p (more_of-Term t r)) h =
        subst (λ w. u.has w (u.hom f (at (source_of file f) t))) h.1
        (u.laws.hom_has f (source_of file f) (target_of file f) (at (source_of file f) t) (fits.maps f h.0)
        (has_value (source_of file f) t h.2))

    -- the value as an element of the carrier
    abbrev pub term_at : (s : ℕ) (t : Term) → IsTyped file s t → Carrier u s
    term_at s t h = (value u file v s t, has_value s t h)
