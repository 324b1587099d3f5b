-- The turns of the loop over the uses of a goal.
use Rattle.std.specs.Prelude.{◌≡◌, ℕ, ◌+◌, ◌<◌, ◌≤◌, Bool, true, false, not, cond, List, [], ◌∷◌, ◌++◌, filter, map, All, Contains, length, drop}
use Rattle.std.proofs.Common.{get_or, refl, sym, ap, subst, ◌∙◌, arith}
use Rattle.std.proofs.lemmas.List.{append_assoc}
use Rattle.alg_terms.specs.declared.term.Atom.{Atom}
use Rattle.alg_terms.specs.declared.file.File.{File}
use Rattle.alg_terms.specs.declared.goals.Hyp.{Hyp}
use Rattle.alg_terms.specs.declared.goals.Use.{Use}
use Rattle.alg_terms.specs.GoalRules.{IsHyp}
use Rattle.alg_mono.specs.declared.ends.Overrun.{Overrun}
use Rattle.alg_mono.specs.NumberedPolynomials.{Polynomial}
use Rattle.alg_mono.specs.Outcomes.{Outcome, first_breach}
use Rattle.alg_mono.specs.Refusals.{RefusesWith}
use Rattle.alg_mono.proofs.MergeTurns.{drop_at}
use Rattle.alg_reify.specs.Preparing.{difference_outcome, equation_differences, is_equation, is_nonzero, nonzero_differences, used_difference, used_equation, uses_outcome}
use Rattle.alg_reify.specs.Table.{equation_leaves, use_leaves}
use Rattle.alg_reify.proofs.Results.{first_told}
use Rattle.alg_reify.proofs.Uses.{use_leaves-at}

-- the hypothesis of a number is one
pub hyp_read : (file : File) → All (IsHyp file) file.hyps → (hyps : List Hyp) → hyps ≡ file.hyps → (k : ℕ) (hyp : Hyp) →
    k < length file.hyps → hyp ≡ get_or hyps k hyp → IsHyp file hyp
hyp_read file all hyps same k hyp there is =
    subst (IsHyp file) (sym (is ∙ ap (λ l. get_or l k hyp) same)) (all k hyp there)

-- the table holds its atoms
pub held_read : (file : File) (atoms : List Atom) (hyps : List Hyp) → hyps ≡ file.hyps → (u : Use) (path : List ℕ) →
    path ≡ u.path → (hyp : Hyp) → u.hyp < length file.hyps → hyp ≡ get_or hyps u.hyp hyp →
    All (Contains atoms) (use_leaves file u) → All (Contains atoms) (equation_leaves path hyp.equation)
held_read file atoms hyps same u path along hyp there is held =
    let P : List ℕ → Type 0 = λ p. All (Contains atoms) (equation_leaves p hyp.equation) in
    subst P (sym along)
    (subst (All (Contains atoms)) (use_leaves-at file u hyp there (is ∙ ap (λ l. get_or l u.hyp hyp) same)) held)

-- a use among them
pub use_held : (file : File) (atoms : List Atom) (uses : List Use) (i : ℕ) (x : Use) → i < length uses →
    x ≡ get_or uses i x → All (λ u. All (Contains atoms) (use_leaves file u)) uses →
    All (Contains atoms) (use_leaves file x)
use_held file atoms uses i x h is all =
    subst (λ (u : Use). All (Contains atoms) (use_leaves file u)) (sym is) (all i x h)

module _ (f : Use → Polynomial) (x : Use) (us : List Use) where
  put_equation : (b : Bool) → cond b [] (f x ∷ []) ++ map f us ≡ map f (cond (not b) (x ∷ us) us)
  put_equation true = refl
  put_equation false = refl

  put_nonzero : (b : Bool) → cond b (f x ∷ []) [] ++ map f us ≡ map f (cond b (x ∷ us) us)
  put_nonzero true = refl
  put_nonzero false = refl

module _ (file : File) (atoms : List Atom) (uses : List Use) (i : ℕ) (x d : Use) (h : i < length uses)
    (e : x ≡ get_or uses i d) where
  abbrev rest : List Use
  rest = drop (i + 1) uses

  from : drop i uses ≡ x ∷ rest
  from = drop_at uses i x d h e

  -- one more among those of its kind
  pub equation_turn : (before after all : List Polynomial) →
      after ≡ before ++ cond (is_nonzero file x) [] (used_difference file atoms x ∷ []) →
      before ++ equation_differences file atoms (drop i uses) ≡ all →
      after ++ equation_differences file atoms rest ≡ all
  equation_turn before after all put is =
      let more = cond (is_nonzero file x) [] (used_difference file atoms x ∷ []) in
      ap (λ l. l ++ equation_differences file atoms rest) put
      ∙ append_assoc before more (equation_differences file atoms rest)
      ∙ ap (λ l. before ++ l)
      (put_equation (used_difference file atoms) x (filter (is_equation file) rest) (is_nonzero file x))
      ∙ sym (ap (λ us. before ++ equation_differences file atoms us) from) ∙ is

  pub nonzero_turn : (before after all : List Polynomial) →
      after ≡ before ++ cond (is_nonzero file x) (used_difference file atoms x ∷ []) [] →
      before ++ nonzero_differences file atoms (drop i uses) ≡ all →
      after ++ nonzero_differences file atoms rest ≡ all
  nonzero_turn before after all put is =
      let more = cond (is_nonzero file x) (used_difference file atoms x ∷ []) [] in
      ap (λ l. l ++ nonzero_differences file atoms rest) put
      ∙ append_assoc before more (nonzero_differences file atoms rest)
      ∙ ap (λ l. before ++ l)
      (put_nonzero (used_difference file atoms) x (filter (is_nonzero file) rest) (is_nonzero file x))
      ∙ sym (ap (λ us. before ++ nonzero_differences file atoms us) from) ∙ is

  -- what making it comes to is the first of what is left
  outcome_from : uses_outcome file (drop i uses)
      ≡ first_breach (difference_outcome x.path (used_equation file x)) (uses_outcome file rest)
  outcome_from = ap (λ us. uses_outcome file us) from

  pub outcome_turn : (all : Outcome) → difference_outcome x.path (used_equation file x) ≡ Outcome.Fine →
      uses_outcome file (drop i uses) ≡ all → uses_outcome file rest ≡ all
  outcome_turn all fine is =
      sym (ap (λ o. first_breach o (uses_outcome file rest)) fine) ∙ sym outcome_from ∙ is

  pub outcome_told : (all : Outcome) (end : Overrun) → RefusesWith end (difference_outcome x.path (used_equation file x)) →
      uses_outcome file (drop i uses) ≡ all → RefusesWith end all
  outcome_told all end told is =
      subst (RefusesWith end) (sym outcome_from ∙ is)
      (first_told end (difference_outcome x.path (used_equation file x)) (uses_outcome file rest) told)

-- what is kept of the uses is no longer
pub kept_length : (p : Use → Bool) (f : Use → Polynomial) (uses : List Use) →
    length (map f (filter p uses)) ≤ length uses
kept_length p f [] = omega arith
kept_length p f (u ∷ uses) = at (p u) (kept_length p f uses)
  where
    at : (b : Bool) → length (map f (filter p uses)) ≤ length uses →
        length (map f (cond b (u ∷ filter p uses) (filter p uses))) ≤ length (u ∷ uses)
    at true h = omega (arith, h)
    at false h = omega (arith, h)
