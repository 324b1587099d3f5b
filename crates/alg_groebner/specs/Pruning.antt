-- The certificate of a run: the lines that its steps cite, directly or through other lines.
use Rattle.std.specs.Prelude.{ℕ, ◌+◌, ◌-◌, Bool, true, false, cond, List, [], ◌∷◌, ◌++◌, map, drop, length, replicate, slice_set, slice_index_or}
use Rattle.alg_lines.specs.declared.cert.Line.{Line}
use Rattle.alg_lines.specs.declared.cert.GoalStep.{GoalStep}
use Rattle.alg_lines.specs.declared.cert.Cert.{Cert}
use Rattle.alg_groebner.specs.State.{State}
use Rattle.alg_groebner.specs.Choices.{remainder_at}

-- ---- marks, line by line from line 1, where each hypothesis is marked
abbrev pub mark : List Bool → ℕ → List Bool
mark marks n = slice_set marks (n - 1) true

-- what the steps cite
abbrev pub mark_steps : List GoalStep → List Bool → List Bool
mark_steps [] marks = marks
mark_steps (g ∷ gs) marks = mark_steps gs (mark marks g.j)

-- what a line cites, where it is marked itself at that place
abbrev pub mark_line : ℕ → Line → List Bool → List Bool
mark_line place l marks =
    cond (slice_index_or marks place false) (mark (mark marks l.i) l.j) marks

-- what marked lines cite, from the last line back; the first of the list has that place
abbrev pub mark_lines : ℕ → List Line → List Bool → List Bool
mark_lines place [] marks = marks
mark_lines place (l ∷ ls) marks = mark_line place l (mark_lines (place + 1) ls marks)

abbrev pub marks_of : ℕ → List Line → List GoalStep → List Bool
marks_of given made steps =
    mark_lines given made (mark_steps steps (replicate given true ++ replicate (length made) false))

-- ---- new numbers
-- the marked lines in order from the number after `last` on
abbrev pub numbers_after : ℕ → List Bool → List ℕ
numbers_after last [] = []
numbers_after last (true ∷ marks) = (last + 1) ∷ numbers_after (last + 1) marks
numbers_after last (false ∷ marks) = last ∷ numbers_after last marks

abbrev pub number_of : List ℕ → ℕ → ℕ
number_of numbers n = slice_index_or numbers (n - 1) 0

abbrev pub renumbered_line : List ℕ → Line → Line
renumbered_line numbers l = record l { i = number_of numbers l.i; j = number_of numbers l.j }

abbrev pub renumbered_step : List ℕ → GoalStep → GoalStep
renumbered_step numbers g = record g { j = number_of numbers g.j }

-- the marked lines with their new numbers
abbrev pub kept_lines : List ℕ → List Bool → List Line → List Line
kept_lines numbers marks [] = []
kept_lines numbers [] (l ∷ ls) = []
kept_lines numbers (true ∷ marks) (l ∷ ls) = renumbered_line numbers l ∷ kept_lines numbers marks ls
kept_lines numbers (false ∷ marks) (l ∷ ls) = kept_lines numbers marks ls

abbrev pub pruned : ℕ → ℕ → List Line → List GoalStep → List Bool → Cert
pruned power given made steps marks = record {
  power = power;
  lines = kept_lines (numbers_after 0 marks) (drop given marks) made;
  steps = map (renumbered_step (numbers_after 0 marks)) steps;
}

-- the certificate of lines beyond the hypotheses and of steps
unfoldable pub certificate_from : ℕ → List Line → List GoalStep → ℕ → Cert
certificate_from given made steps power = pruned power given made steps (marks_of given made steps)

-- the certificate of a run that came to its end by a power
abbrev pub certificate : State → ℕ → Cert
certificate st power =
    certificate_from st.given st.made (remainder_at st.remainders (power - 1)).steps power
