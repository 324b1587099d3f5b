-- The task of a goal, from what was made.
use Rattle.std.specs.Prelude.{◌≡◌, ◌≤◌, List, [], ◌∷◌, length}
use Rattle.std.proofs.Common.{ap, ◌∙◌}
use Rattle.alg_terms.specs.declared.term.Atom.{Atom}
use Rattle.alg_terms.specs.declared.file.File.{File}
use Rattle.alg_terms.specs.declared.goals.Equation.{Equation}
use Rattle.alg_terms.specs.declared.goals.Use.{Use}
use Rattle.alg_mono.specs.NumberedPolynomials.{Polynomial}
use Rattle.alg_mono.specs.Outcomes.{Outcome, product_outcome}
use Rattle.alg_reify.specs.Numbered.{numbered}
use Rattle.alg_reify.specs.Preparing.{difference, difference_outcome, equation_differences, nonzero_differences, times_each, uses_outcome}
use Rattle.alg_reify.specs.Table.{MAX_ATOMS, table}
use Rattle.alg_reify.proofs.PreparedStops.{prepared_fine, prepared_goal_is, prepared_hyps_are}
use Rattle.alg_nsatz.specs.declared.preparing.Task.{Task}
use Rattle.alg_nsatz.specs.Tasks.{IsPrepared}

-- all was made
pub prepared : (file : File) (e : Equation) (uses : List Use) → length (table file e uses) ≤ MAX_ATOMS →
    difference_outcome [] e ≡ Outcome.Fine → uses_outcome file uses ≡ Outcome.Fine → (atoms : List Atom) →
    atoms ≡ table file e uses → (first : Polynomial) (rest : List Polynomial) →
    first ≡ numbered atoms (difference [] e) → rest ≡ nonzero_differences file atoms uses → (t : Task) →
    product_outcome (first ∷ rest) ≡ Outcome.Fine → t.atoms ≡ length atoms →
    t.hyps ≡ equation_differences file atoms uses → t.goal ≡ times_each first rest → IsPrepared file e uses t
prepared file e uses small fine uses_fine atoms is first rest made others t product_fine count hyps goal = record {
  fine = prepared_fine file e uses small fine uses_fine atoms is first rest made others product_fine;
  atoms = count ∙ ap (λ (t : List Atom). length t) is;
  hyps = prepared_hyps_are file e uses small fine uses_fine atoms is first rest made others t.hyps hyps;
  goal = prepared_goal_is file e uses small fine uses_fine atoms is first rest made others t.goal goal;
}
