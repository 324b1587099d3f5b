-- Which files a universe fits, and the values of terms in it. `Ghosts E` is a universe whose elements are in E.
use Rattle.std.specs.Prelude.{◌≡◌, ◌<◌, ℕ, zero, suc, true, List, length, slice_index_or, ℤ, pos, negsuc}
use Rattle.alg_terms.specs.declared.file.File.{File}
use Rattle.alg_terms.specs.declared.term.Term.{Term}
use Rattle.alg_terms.specs.declared.term.Term.TheOpen.{Term-F}
use Rattle.alg_terms.specs.Kinds.{IsAtMost}
use Rattle.alg_terms.specs.Members.{sort_at, kind_of, source_of, target_of, sort_of_var}
use Rattle.alg_terms.specs.Nodes.{fold_term}
use Rattle.alg_universe.specs.declared.universe.Universe.{Ghosts}
use Rattle.alg_universe.specs.Ones.{ones}

module _ {E : Type 0} (u : Ghosts E) where
  -- the universe has what the file declares: the laws of each sort, and each morphism between its sorts
  pub record Fits (file : File) : Type 0 where
    pub kinds : (s : ℕ) → s < length file.sorts → IsAtMost (kind_of file s) (u.kind s)
    pub chars : (s : ℕ) → s < length file.sorts → (sort_at file s).char0 ≡ true → u.char0 s ≡ true
    pub maps : (f : ℕ) → f < length file.homs → u.maps f (source_of file f) (target_of file f)

  -- one element for each variable of the file, in the carrier of the variable's sort
  pub record AreValues (file : File) (v : List E) : Type 0 where
    pub count : length v ≡ length file.vars
    pub each : (k : ℕ) (d : E) → k < length file.vars → u.has (sort_of_var file k) (slice_index_or v k d)

  -- the sum of n ones; for a negative number, which no valid file has, its opposite
  abbrev pub number : ℕ → ℤ → E
  number s (pos n) = ones (u.zero s) (u.one s) (u.add s) n
  number s (negsuc n) = u.opp s (ones (u.zero s) (u.one s) (u.add s) (suc n))

  -- the product of n times x
  abbrev pub power : ℕ → E → ℕ → E
  power s x zero = u.one s
  power s x (suc n) = u.mul s x (power s x n)

  -- one node's value at each sort, by the values of its parts at each sort
  abbrev pub node_value : File → List E → Term-F (ℕ → E) → ℕ → E
  node_value file v (Term-F.Var k) s = slice_index_or v k (u.zero s)
  node_value file v (Term-F.Int n) s = number s n
  node_value file v (Term-F.Neg t) s = u.opp s (t s)
  node_value file v (Term-F.Add t w) s = u.add s (t s) (w s)
  node_value file v (Term-F.Sub t w) s = u.add s (t s) (u.opp s (w s))
  node_value file v (Term-F.Mul t w) s = u.mul s (t s) (w s)
  node_value file v (Term-F.Div t w) s = u.mul s (t s) (u.inv s (w s))
  node_value file v (Term-F.Pow t n) s = power s (t s) n
  node_value file v (Term-F.Hom f t) s = u.hom f (t (source_of file f))

  -- the value of a term at final sort s, where v are the values of the variables
  abbrev pub value : File → List E → ℕ → Term → E
  value file v s t = fold_term (node_value file v) t s
