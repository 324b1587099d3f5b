-- The terms of a verdict by field use only the variables and the morphisms of the equation.
use Rattle.std.specs.Prelude.{◌≡◌, ℕ, List, [], ◌∷◌, ◌++◌, All, Contains, flat_map}
use Rattle.std.proofs.Common.{subst, sym}
use Rattle.std.proofs.lemmas.List.Elements.{All-nil, All-append, All-contains, All-contains_itself, All-weaker}
use Rattle.alg_terms.specs.declared.file.File.{File}
use Rattle.alg_terms.specs.declared.goals.Equation.{Equation}
use Rattle.alg_terms.specs.declared.term.Term.{Term, more_of-Term, Var, Int, Neg', Add', Sub', Mul', Div', Pow', Hom'}
use Rattle.alg_terms.specs.Nodes.{fold_term}
use Rattle.alg_terms.specs.Occurring.{UseOnly, node_vars, node_homs, vars_in, homs_in}
use Rattle.alg_terms.proofs.JoinedLists.{all_left, all_right}
use Rattle.alg_meaning.specs.Conditions.{denominators, conditions_of}
use Rattle.alg_meaning.specs.ConditionWords.{denominators_of, ConditionsSay}
use Rattle.alg_meaning.specs.FractionOutcome.{FractionOutcome, frac_outcome}
use Rattle.alg_meaning.proofs.SameTrees.{EachTerm}
use Rattle.alg_reify.specs.FieldLaws.{FieldTermsOccur}
use Rattle.alg_reify.specs.FieldVerdict.{sides_outcome}
use Rattle.alg_reify.proofs.FieldTerms.{joined}
use Rattle.alg_reify.proofs.MayStand.{as_all, each_of, in_order, zero_is_one}

module _ (vars homs : List ℕ) where
  -- a term uses only these variables and morphisms
  abbrev Uses : Term → Type 0
  Uses t = All (Contains vars) (fold_term node_vars t) × All (Contains homs) (fold_term node_homs t)

  parts : (t u : Term) → All (Contains vars) (fold_term node_vars t ++ fold_term node_vars u) →
      All (Contains homs) (fold_term node_homs t ++ fold_term node_homs u) → Uses t × Uses u
  parts t u v h = (
    (
      all_left (Contains vars) (fold_term node_vars t) (fold_term node_vars u) v,
      all_left (Contains homs) (fold_term node_homs t) (fold_term node_homs u) h,
    ),
    (
      all_right (Contains vars) (fold_term node_vars t) (fold_term node_vars u) v,
      all_right (Contains homs) (fold_term node_homs t) (fold_term node_homs u) h,
    ),
  )

  -- so does each denominator of the term
  uses_in : (t : Term) → Uses t → EachTerm Uses (denominators t)
  unfolding fold_term denominators
  uses_in (Var k) h = tt
  uses_in (Int n) h = tt
  uses_in (Neg' _ (more_of-Term t _)) h = uses_in t h
  uses_in (Add' _ (more_of-Term t _) _ (more_of-Term u _)) h =
      let of = parts t u h.0 h.1 in
      joined Uses (denominators t) (denominators u) (uses_in t of.0) (uses_in u of.1)
  uses_in (Sub' _ (more_of-Term t _) _ (more_of-Term u _)) h =
      let of = parts t u h.0 h.1 in
      joined Uses (denominators t) (denominators u) (uses_in t of.0) (uses_in u of.1)
  uses_in (Mul' _ (more_of-Term t _) _ (more_of-Term u _)) h =
      let of = parts t u h.0 h.1 in
      joined Uses (denominators t) (denominators u) (uses_in t of.0) (uses_in u of.1)
  uses_in (Div' _ (more_of-Term t _) _ (more_of-Term u _)) h =
      let of = parts t u h.0 h.1 in
      joined Uses (denominators t) (denominators u ++ u ∷ []) (uses_in t of.0)
      (joined Uses (denominators u) (u ∷ []) (uses_in u of.1) (of.1, tt))
  uses_in (Pow' _ (more_of-Term t _) n) h = uses_in t h
  uses_in (Hom' f _ (more_of-Term t _)) h =
      uses_in t (h.0, all_right (Contains homs) (f ∷ []) (fold_term node_homs t) h.1)

  -- what each term of a list uses is what the list uses
  all_vars : (ts : List Term) → EachTerm Uses ts → All (Contains vars) (flat_map (fold_term node_vars) ts)
  all_vars [] h = All-nil (Contains vars)
  all_vars (t ∷ ts) h =
      All-append (Contains vars) (fold_term node_vars t) (flat_map (fold_term node_vars) ts) h.0.0 (all_vars ts h.1)

  all_homs : (ts : List Term) → EachTerm Uses ts → All (Contains homs) (flat_map (fold_term node_homs) ts)
  all_homs [] h = All-nil (Contains homs)
  all_homs (t ∷ ts) h =
      All-append (Contains homs) (fold_term node_homs t) (flat_map (fold_term node_homs) ts) h.0.1 (all_homs ts h.1)

module _ (e : Equation) where
  abbrev Own : Term → Type 0
  Own = Uses (vars_in e) (homs_in e)

  abbrev OccurIn : List Term → Type 0
  OccurIn = UseOnly (vars_in e) (homs_in e)

  own_sides : Own e.left × Own e.right
  own_sides =
      parts (vars_in e) (homs_in e) e.left e.right (All-contains_itself (vars_in e)) (All-contains_itself (homs_in e))

  own_left : EachTerm Own (denominators e.left)
  own_left = uses_in (vars_in e) (homs_in e) e.left own_sides.0

  own_right : EachTerm Own (denominators e.right)
  own_right = uses_in (vars_in e) (homs_in e) e.right own_sides.1

  occur : (ts : List Term) → EachTerm Own ts → OccurIn ts
  occur ts h = record {
    vars = all_vars (vars_in e) (homs_in e) ts h;
    homs = all_homs (vars_in e) (homs_in e) ts h;
  }

  -- the conditions are denominators of the sides
  conditions_occur : (file : File) → ConditionsSay → OccurIn (conditions_of file e)
  conditions_occur file say =
      let ds = denominators_of e in
      let own = as_all Own ds (joined Own (denominators e.left) (denominators e.right) own_left own_right) in
      occur (conditions_of file e)
      (each_of Own (conditions_of file e) (All-weaker (Contains ds) Own (λ t held. All-contains Own ds t own held)
      (conditions_of file e) (say file e).only))

  -- and so is one that is zero
  zero_occurs : (t : Term) → sides_outcome e ≡ FractionOutcome.ZeroDenominator t → OccurIn (t ∷ [])
  zero_occurs t h =
      let own : Own t = in_order Own t (frac_outcome e.left) (frac_outcome e.right) _
      (zero_is_one Own t e.left own_left) (zero_is_one Own t e.right own_right) h in
      occur (t ∷ []) (own, tt)

pub field_terms_occur : ConditionsSay → FieldTermsOccur
field_terms_occur say = record {
  conditions = λ file e terms h. subst (OccurIn e) (sym h.2) (conditions_occur e file say);
  denominator = λ file e t h. zero_occurs e t h.1;
}
