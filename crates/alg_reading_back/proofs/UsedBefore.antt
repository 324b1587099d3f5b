-- What a statement of a valid file uses is in the front of the file before it.
use Rattle.std.proofs.Common.{◌≡◌, ◌<◌, ℕ, List, ◌∷◌, ◌++◌, length, sym, ap, subst, arith}
use Rattle.std.specs.Prelude.{All, Contains}
use Rattle.std.specs.List.{flat_map}
use Rattle.std.proofs.lemmas.List.Elements.{All-weaker}
use Rattle.alg_terms.specs.declared.file.File.{File}
use Rattle.alg_terms.specs.declared.file.Statement.{Statement}
use Rattle.alg_terms.specs.declared.goals.Equation.{Equation}
use Rattle.alg_terms.specs.Nodes.{fold_term, EachNode}
use Rattle.alg_terms.specs.Occurring.{node_vars, node_homs, vars_in, homs_in}
use Rattle.alg_terms.specs.Order.{numbers_from, declared_by, declared_by_all}
use Rattle.alg_terms.specs.TermRules.{IsInRange}
use Rattle.alg_terms.specs.Valid.{IsValid}
use Rattle.alg_terms.proofs.JoinedLists.{all_left, all_right}
use Rattle.alg_reading_back.proofs.Fronts.{front, sorts_in, vars_in as vars_before, homs_in as homs_before, hyps_in, next}
use Rattle.alg_reading_back.proofs.Shrinking.{in_range}
use Rattle.alg_reading_back.proofs.Steps.{among_low, rises, length_of_take}

-- what is used of a list is below the count of what was declared
low_in : (f : Statement → List ℕ) (before : List Statement) (used : List ℕ) (n : ℕ) →
    flat_map f before ≡ numbers_from 0 n → All (Contains (flat_map f before)) used → All (λ k. k < n) used
low_in f before used n same h =
    All-weaker (Contains (flat_map f before)) (λ k. k < n)
    (λ k there. among_low n k (subst (λ ks. Contains ks k) same there)) used h

-- both sides of an equation are in range in a file
pub record AreInRange (g : File) (e : Equation) : Type 0 where
  pub left : EachNode (IsInRange g) e.left
  pub right : EachNode (IsInRange g) e.right

module _ (file : File) (valid : IsValid file) (before after : List Statement) (s : Statement)
    (split : file.order ≡ before ++ (s ∷ after)) where
  abbrev g : File
  g = front file before

  pub sorts_low : (used : List ℕ) → All (Contains (declared_by_all before).sorts) used →
      All (λ k. k < sorts_in before) used
  sorts_low used h =
      low_in (λ s. (declared_by s).sorts) before used (sorts_in before)
      (rises (λ s. (declared_by s).sorts) file.order before (s ∷ after) (length file.sorts) split
      (ap (λ m. m.sorts) valid.ordered.once_rising)) h

  pub vars_low : (used : List ℕ) → All (Contains (declared_by_all before).vars) used →
      All (λ k. k < length g.vars) used
  vars_low used h =
      let f : Statement → List ℕ = λ s. (declared_by s).vars in
      let same = rises f file.order before (s ∷ after) (length file.vars) split
      (ap (λ m. m.vars) valid.ordered.once_rising) in
      let fits = (next file valid.ordered before after s split).vars.1 in
      let counted = length_of_take file.vars (vars_before before) (omega arith) in
      subst (λ n. All (λ k. k < n) used) (sym counted) (low_in f before used (vars_before before) same h)

  pub homs_low : (used : List ℕ) → All (Contains (declared_by_all before).homs) used →
      All (λ f. f < length g.homs) used
  homs_low used h =
      let f : Statement → List ℕ = λ s. (declared_by s).homs in
      let same = rises f file.order before (s ∷ after) (length file.homs) split
      (ap (λ m. m.homs) valid.ordered.once_rising) in
      let fits = (next file valid.ordered before after s split).homs.1 in
      let counted = length_of_take file.homs (homs_before before) (omega arith) in
      subst (λ n. All (λ k. k < n) used) (sym counted) (low_in f before used (homs_before before) same h)

  pub hyps_low : (used : List ℕ) → All (Contains (declared_by_all before).hyps) used →
      All (λ h. h < length g.hyps) used
  hyps_low used h =
      let f : Statement → List ℕ = λ s. (declared_by s).hyps in
      let same = rises f file.order before (s ∷ after) (length file.hyps) split
      (ap (λ m. m.hyps) valid.ordered.once_rising) in
      let fits = (next file valid.ordered before after s split).hyps.1 in
      let counted = length_of_take file.hyps (hyps_in before) (omega arith) in
      subst (λ n. All (λ k. k < n) used) (sym counted) (low_in f before used (hyps_in before) same h)

  -- an equation whose variables and morphisms are used is in range there
  pub equation_low : (e : Equation) → All (Contains (declared_by_all before).vars) (vars_in e) →
      All (Contains (declared_by_all before).homs) (homs_in e) → AreInRange g e
  equation_low e vars homs =
      let v = vars_low (vars_in e) vars in
      let h = homs_low (homs_in e) homs in
      let low_var : ℕ → Type 0 = λ k. k < length g.vars in
      let low_hom : ℕ → Type 0 = λ f. f < length g.homs in
      record {
        left = in_range g e.left (all_left low_var (fold_term node_vars e.left) (fold_term node_vars e.right) v)
            (all_left low_hom (fold_term node_homs e.left) (fold_term node_homs e.right) h);
        right = in_range g e.right (all_right low_var (fold_term node_vars e.left) (fold_term node_vars e.right) v)
            (all_right low_hom (fold_term node_homs e.left) (fold_term node_homs e.right) h);
      }
