-- What occurs in the terms of a file is of the file, and its numbers are among those that are declared.
use Rattle.std.proofs.Common.{◌≡◌, ◌<◌, ℕ, zero, suc, ◌+◌, List, [], ◌∷◌, length, map, sym, subst, arith, zero-add}
use Rattle.std.specs.Prelude.{All, Contains, flat_map}
use Rattle.std.proofs.lemmas.List.Elements.{All-nil, All-cons, All-append, All-weaker, All-head, All-tail}
use Rattle.alg_terms.specs.declared.file.File.{File}
use Rattle.alg_terms.specs.declared.goals.Equation.{Equation}
use Rattle.alg_terms.specs.declared.goals.Use.{Use}
use Rattle.alg_terms.specs.declared.term.Term.{Term}
use Rattle.alg_terms.specs.GoalRules.{IsEquation, IsUse}
use Rattle.alg_terms.specs.Nodes.{fold_term, EachNode}
use Rattle.alg_terms.specs.Occurring.{node_vars, node_homs, vars_in, homs_in}
use Rattle.alg_terms.specs.Order.{numbers_from}
use Rattle.alg_terms.specs.TermRules.{IsInRange}
use Rattle.alg_terms.proofs.Views.{Leaf, Unary, Binary, leaf, unary, binary, induction, nodes_binary, vars_binary, homs_binary}

-- each number below the count is one of the numbers to it
number_among : (first count k : ℕ) → k < count → Contains (numbers_from first count) (first + k)
number_among first zero k low = absurd (omega arith)
number_among first (suc count) zero low = (0, omega arith, omega arith)
number_among first (suc count) (suc k) low =
    let (i, below, here) = number_among (suc first) count k (omega arith) in
    let same : first + suc k ≡ suc first + k = omega arith in
    subst (Contains (numbers_from first (suc count))) (sym same) (suc i, omega arith, here)

pub among_numbers : (count : ℕ) (numbers : List ℕ) → All (λ k. k < count) numbers →
    All (Contains (numbers_from 0 count)) numbers
among_numbers count numbers h =
    All-weaker (λ k. k < count) (Contains (numbers_from 0 count))
    (λ k low. subst (Contains (numbers_from 0 count)) (zero-add k) (number_among 0 count k low)) numbers h

module _ (file : File) where
  abbrev IsVarNumber : ℕ → Type 0
  IsVarNumber k = k < length file.vars

  abbrev IsHomNumber : ℕ → Type 0
  IsHomNumber f = f < length file.homs

  -- the variables and the morphisms of a term in range are of the file
  abbrev Occurs : Term → Type 0
  Occurs t = EachNode (IsInRange file) t →
      All IsVarNumber (fold_term node_vars t) × All IsHomNumber (fold_term node_homs t)

  occurs_leaf : (l : Leaf) → Occurs (leaf l)
  unfolding fold_term EachNode
  occurs_leaf (Leaf.Variable k) r = (All-cons IsVarNumber k [] r (All-nil IsVarNumber), All-nil IsHomNumber)
  occurs_leaf (Leaf.Literal n) r = (All-nil IsVarNumber, All-nil IsHomNumber)

  occurs_unary : (o : Unary) (t : Term) → Occurs t → Occurs (unary o t)
  unfolding fold_term EachNode
      Rattle.alg_terms.specs.declared.term.Term.TheBlock.hidden-the_row-Term-0 denote.Hole.Carrier.hidden
  occurs_unary Unary.Opposite t part r = part r.1
  occurs_unary (Unary.Power n) t part r = part r.1
  occurs_unary (Unary.Image f) t part r =
      let (vars, homs) = part r.1 in (vars, All-cons IsHomNumber f (fold_term node_homs t) r.0 homs)

  occurs_binary : (o : Binary) (t u : Term) → Occurs t → Occurs u → Occurs (binary o t u)
  occurs_binary o t u left right r =
      let (here, l, m) = (nodes_binary (IsInRange file) o t u).0 r in
      let (vars, homs) = left l in
      let (vars', homs') = right m in (
        subst (All IsVarNumber) (sym (vars_binary o t u)) (All-append IsVarNumber _ _ vars vars'),
        subst (All IsHomNumber) (sym (homs_binary o t u)) (All-append IsHomNumber _ _ homs homs'),
      )

  occurs : (t : Term) → Occurs t
  occurs = induction Occurs (record { of_leaf = occurs_leaf; of_unary = occurs_unary; of_binary = occurs_binary })

  pub vars_of_equation : (e : Equation) → IsEquation file e → All (λ k. k < length file.vars) (vars_in e)
  vars_of_equation e h =
      All-append (λ k. k < length file.vars) _ _ (occurs e.left h.left.indices).0
      (occurs e.right h.right.indices).0

  pub homs_of_equation : (e : Equation) → IsEquation file e → All (λ f. f < length file.homs) (homs_in e)
  homs_of_equation e h =
      All-append (λ f. f < length file.homs) _ _ (occurs e.left h.left.indices).1
      (occurs e.right h.right.indices).1

  -- the morphisms and the hypotheses of uses are of the file
  pub homs_of_uses : (s : ℕ) (uses : List Use) → All (IsUse file s) uses →
      All (λ f. f < length file.homs) (flat_map (λ used. used.path) uses)
  homs_of_uses s [] h = All-nil (λ f. f < length file.homs)
  homs_of_uses s (used ∷ uses) h =
      All-append (λ f. f < length file.homs) used.path (flat_map (λ used. used.path) uses)
      (All-head (IsUse file s) used uses h).path (homs_of_uses s uses (All-tail (IsUse file s) used uses h))

  pub hyps_of_uses : (s : ℕ) (uses : List Use) → All (IsUse file s) uses →
      All (λ n. n < length file.hyps) (map (λ used. used.hyp) uses)
  hyps_of_uses s [] h = All-nil (λ n. n < length file.hyps)
  hyps_of_uses s (used ∷ uses) h =
      All-cons (λ n. n < length file.hyps) used.hyp (map (λ used. used.hyp) uses)
      (All-head (IsUse file s) used uses h).hyp (hyps_of_uses s uses (All-tail (IsUse file s) used uses h))
