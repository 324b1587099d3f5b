-- What stops the preparing of a goal by nsatz, and what is prepared, from what was made.
use Rattle.std.specs.Prelude.{◌≡◌, ◌≤◌, List, [], ◌∷◌, length}
use Rattle.std.proofs.Common.{sym, ap, subst, ◌∙◌}
use Rattle.alg_terms.specs.declared.term.Atom.{Atom}
use Rattle.alg_terms.specs.declared.file.File.{File}
use Rattle.alg_terms.specs.declared.goals.Equation.{Equation}
use Rattle.alg_terms.specs.declared.goals.Use.{Use}
use Rattle.alg_mono.specs.declared.ends.Overrun.{Overrun}
use Rattle.alg_mono.specs.NumberedPolynomials.{Polynomial}
use Rattle.alg_mono.specs.Outcomes.{Outcome, first_breach, product_outcome}
use Rattle.alg_mono.specs.Refusals.{RefusesWith}
use Rattle.alg_reify.specs.Numbered.{numbered}
use Rattle.alg_reify.specs.Preparing.{PreparesTo, StopsPreparing, difference, difference_outcome, equation_differences, nonzero_differences, prepared_goal, prepared_hyps, prepared_outcome, times_each, uses_outcome}
use Rattle.alg_reify.specs.Stops.{StopsWith, stop_of_polynomial}
use Rattle.alg_reify.specs.Table.{MAX_ATOMS, table}
use Rattle.alg_reify.proofs.Results.{first_told}

-- a refusal is the stop of its rule
pub rule_stops : (atoms : List Atom) (outcome : Outcome) → length atoms ≤ MAX_ATOMS → (end : Overrun) →
    RefusesWith end outcome → StopsWith atoms outcome (stop_of_polynomial end)
rule_stops atoms outcome small Overrun.Range h = (small, h)
rule_stops atoms outcome small Overrun.Degree h = (small, h)
rule_stops atoms outcome small Overrun.NoMemory h = tt

module _ (file : File) (e : Equation) (uses : List Use) (small : length (table file e uses) ≤ MAX_ATOMS) where
  stops : (end : Overrun) → RefusesWith end (prepared_outcome file e uses) →
      StopsPreparing file e uses (stop_of_polynomial end)
  stops = rule_stops (table file e uses) (prepared_outcome file e uses) small

  -- the goal's difference was refused
  pub goal_stops : (end : Overrun) → RefusesWith end (difference_outcome [] e) →
      StopsPreparing file e uses (stop_of_polynomial end)
  goal_stops end h = stops end (first_told end (difference_outcome [] e) _ h)

  module _ (fine : difference_outcome [] e ≡ Outcome.Fine) where
    -- a use's was
    pub use_stops : (end : Overrun) → RefusesWith end (uses_outcome file uses) →
        StopsPreparing file e uses (stop_of_polynomial end)
    use_stops end h =
        let product = product_outcome (numbered (table file e uses) (difference [] e)
        ∷ nonzero_differences file (table file e uses) uses) in
        stops end (subst (RefusesWith end)
        (sym (ap (λ o. first_breach o (first_breach (uses_outcome file uses) product)) fine))
        (first_told end (uses_outcome file uses) product h))

    module _ (uses_fine : uses_outcome file uses ≡ Outcome.Fine) (atoms : List Atom) (is : atoms ≡ table file e uses)
        (first : Polynomial) (rest : List Polynomial) (made : first ≡ numbered atoms (difference [] e))
        (others : rest ≡ nonzero_differences file atoms uses) where
      -- what is prepared comes to what the product does
      prepared_is : product_outcome (first ∷ rest) ≡ prepared_outcome file e uses
      prepared_is =
          (λ i. product_outcome (made i ∷ others i))
          ∙ ap (λ (t : List Atom). product_outcome (numbered t (difference [] e) ∷ nonzero_differences file t uses)) is
          ∙ (λ i. first_breach (sym fine i) (first_breach (sym uses_fine i)
          (product_outcome (numbered (table file e uses) (difference [] e)
          ∷ nonzero_differences file (table file e uses) uses))))

      -- the product was refused
      pub product_stops : (end : Overrun) → RefusesWith end (product_outcome (first ∷ rest)) →
          StopsPreparing file e uses (stop_of_polynomial end)
      product_stops end h = stops end (subst (RefusesWith end) prepared_is h)

      -- all was made
      pub prepared_fine : product_outcome (first ∷ rest) ≡ Outcome.Fine → PreparesTo file e uses Outcome.Fine
      prepared_fine fine = (small, sym prepared_is ∙ fine)

      pub prepared_hyps_are : (hyps : List Polynomial) → hyps ≡ equation_differences file atoms uses →
          hyps ≡ prepared_hyps file e uses
      prepared_hyps_are hyps are = are ∙ ap (λ (t : List Atom). equation_differences file t uses) is

      pub prepared_goal_is : (goal : Polynomial) → goal ≡ times_each first rest → goal ≡ prepared_goal file e uses
      prepared_goal_is goal product =
          product ∙ (λ i. times_each (made i) (others i))
          ∙ ap (λ (t : List Atom). times_each (numbered t (difference [] e)) (nonzero_differences file t uses)) is
