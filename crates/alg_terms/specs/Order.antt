-- The order of a file's statements: what each declares and uses.
use Rattle.std.specs.Prelude.{◌≡◌, ◌≤◌, ◌<◌, ℕ, zero, suc, ◌+◌, List, [], ◌∷◌, ◌++◌, map, length, All, Contains}
use Rattle.std.specs.List.{flat_map}
use Rattle.alg_terms.specs.declared.file.File.{File}
use Rattle.alg_terms.specs.declared.file.Statement.{Statement}
use Rattle.alg_terms.specs.declared.file.Statement.TheVariants as statement
use Rattle.alg_terms.specs.Members.{source_of, target_of, sort_of_var, hyp_at, goal_at, uses_of}
use Rattle.alg_terms.specs.Occurring.{vars_in, homs_in}

-- count numbers, from the first on
abbrev pub numbers_from : ℕ → ℕ → List ℕ
numbers_from first zero = []
numbers_from first (suc count) = first ∷ numbers_from (suc first) count

-- some members of a file, by their numbers in the lists
pub record Members : Type 0 where
  pub sorts : List ℕ
  pub homs : List ℕ
  pub vars : List ℕ
  pub hyps : List ℕ
  pub goals : List ℕ

abbrev pub none : Members
none = record { sorts = []; homs = []; vars = []; hyps = []; goals = [] }

-- what a statement declares
abbrev pub declared_by : Statement → Members
declared_by (statement.Sort s) = record none { sorts = s ∷ [] }
declared_by (statement.Hom f) = record none { homs = f ∷ [] }
declared_by (statement.Vars first count) = record none { vars = numbers_from first count }
declared_by (statement.Hyp h) = record none { hyps = h ∷ [] }
declared_by (statement.Goal i) = record none { goals = i ∷ [] }

-- what a statement uses
abbrev pub used_by : File → Statement → Members
used_by file (statement.Sort s) = none
used_by file (statement.Hom f) = record none { sorts = source_of file f ∷ target_of file f ∷ [] }
used_by file (statement.Vars first count) = record none { sorts = map (sort_of_var file) (numbers_from first count) }
used_by file (statement.Hyp h) =
    let equation = (hyp_at file h).equation in
    record none { homs = homs_in equation; vars = vars_in equation }
used_by file (statement.Goal i) =
    let goal = goal_at file i in
    let uses = uses_of goal.method in
    record none {
      homs = homs_in goal.equation ++ flat_map (λ used. used.path) uses;
      vars = vars_in goal.equation;
      hyps = map (λ used. used.hyp) uses;
    }

-- each of the first members is one of the second
pub record AreAmong (members others : Members) : Type 0 where
  pub sorts : All (Contains others.sorts) members.sorts
  pub homs : All (Contains others.homs) members.homs
  pub vars : All (Contains others.vars) members.vars
  pub hyps : All (Contains others.hyps) members.hyps

-- what several statements declare, in their order
abbrev pub declared_by_all : List Statement → Members
declared_by_all statements = record {
  sorts = flat_map (λ s. (declared_by s).sorts) statements;
  homs = flat_map (λ s. (declared_by s).homs) statements;
  vars = flat_map (λ s. (declared_by s).vars) statements;
  hyps = flat_map (λ s. (declared_by s).hyps) statements;
  goals = flat_map (λ s. (declared_by s).goals) statements;
}

-- all members of a file, rising in each list
abbrev pub members_of : File → Members
members_of file = record {
  sorts = numbers_from 0 (length file.sorts);
  homs = numbers_from 0 (length file.homs);
  vars = numbers_from 0 (length file.vars);
  hyps = numbers_from 0 (length file.hyps);
  goals = numbers_from 0 (length file.goals);
}

-- the statement declares at least one variable if any, and these have one sort
abbrev pub IsOneSorted : File → Statement → Type 0
IsOneSorted file (statement.Sort s) = Unit {0}
IsOneSorted file (statement.Hom f) = Unit {0}
IsOneSorted file (statement.Vars first count) =
    (1 ≤ count) × ((k : ℕ) → k < count → sort_of_var file (first + k) ≡ sort_of_var file first)
IsOneSorted file (statement.Hyp h) = Unit {0}
IsOneSorted file (statement.Goal i) = Unit {0}

-- the statements stand in an order in which they can be read
pub record IsOrdered (file : File) : Type 0 where
  -- each member is declared exactly once, and the members of each list come in rising order
  pub once_rising : declared_by_all file.order ≡ members_of file
  -- each statement on variables has at least one, and they have one sort
  pub one_sorted : All (IsOneSorted file) file.order
  -- each statement uses only members of earlier statements
  pub earlier : (before after : List Statement) (statement : Statement) → file.order ≡ before ++ (statement ∷ after) →
      AreAmong (used_by file statement) (declared_by_all before)
