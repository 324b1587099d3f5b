-- The text of the reports on the goals of a file.
use Rattle.std.specs.Prelude.{ℕ, zero, suc, ◌+◌, List, [], ◌∷◌, ◌++◌, codes, decimal}
use Rattle.alg_lines.specs.declared.answer.GoalCheck.{GoalCheck}
use Rattle.alg_lines.specs.declared.answer.GoalCheck.TheVariants.{OkProved, OkOther, Bad, Unchecked, Atoms, Range, Degree}

-- a breach, and where it is: 0 is the answer as a whole
abbrev pub bad_text : ℕ → List ℕ
bad_text zero = codes "bad"
bad_text (suc k) = codes "bad at " ++ decimal (suc k)

-- what is found of a goal's answer
abbrev pub check_text : GoalCheck → List ℕ
check_text OkProved = codes "ok proved"
check_text OkOther = codes "ok"
check_text (Bad at) = bad_text at
check_text Unchecked = codes "unchecked"
check_text Atoms = codes "atoms"
check_text Range = codes "range"
check_text Degree = codes "degree"

-- the report on goal number k
abbrev pub report_line : ℕ → GoalCheck → List ℕ
report_line k check = codes "goal " ++ decimal k ++ codes ": " ++ check_text check ++ codes "\n"

-- the reports on the goals from number k on
abbrev pub reports_from : ℕ → List GoalCheck → List ℕ
reports_from k [] = []
reports_from k (check ∷ checks) = report_line k check ++ reports_from (k + 1) checks

-- the reports on all goals, which are numbered from 1
abbrev pub reports_text : List GoalCheck → List ℕ
reports_text checks = reports_from 1 checks
