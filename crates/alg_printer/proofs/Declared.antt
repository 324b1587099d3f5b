-- What the statements of a valid file declare is of the file.
use Rattle.std.proofs.Common.{◌<◌, ◌≤◌, ◌+◌, ℕ, zero, suc, List, [], ◌∷◌, ◌++◌, length, sym, subst, arith}
use Rattle.std.specs.Prelude.{All}
use Rattle.std.specs.List.{AllByRecursion}
use Rattle.std.proofs.lemmas.List.Elements.{All-from_recursion, recursion_from_All}
use Rattle.alg_terms.specs.declared.file.File.{File}
use Rattle.alg_terms.specs.declared.file.Statement.{Statement}
use Rattle.alg_terms.specs.declared.file.Statement.TheVariants as statement
use Rattle.alg_terms.specs.Order.{Members, numbers_from, declared_by, declared_by_all, members_of, IsOneSorted}
use Rattle.alg_terms.specs.Valid.{IsValid}
use Rattle.alg_printer.specs.Text.{IsStatementOf}

-- each number is below the end
abbrev Below : ℕ → List ℕ → Type 0
Below end numbers = AllByRecursion (λ k. k < end) numbers

front : (end : ℕ) (xs ys : List ℕ) → Below end (xs ++ ys) → Below end xs
front end [] ys all = tt
front end (x ∷ xs) ys all = (all.0, front end xs ys all.1)

back : (end : ℕ) (xs ys : List ℕ) → Below end (xs ++ ys) → Below end ys
back end [] ys all = all
back end (x ∷ xs) ys all = back end xs ys all.1

-- the numbers from one on, as many as there are to the end, are below it
numbers_below : (end first count : ℕ) → first + count ≤ end → Below end (numbers_from first count)
numbers_below end first zero fits = tt
numbers_below end first (suc count) fits = (omega arith, numbers_below end (suc first) count (omega arith))

-- where some numbers are below the end, their count fits before it
count_fits : (end first count : ℕ) → Below end (numbers_from first (suc count)) → first + suc count ≤ end
count_fits end first zero all = omega (arith, all.0)
count_fits end first (suc count) all = omega (arith, count_fits end (suc first) count all.1)

some_fit : (end first count : ℕ) → 1 ≤ count → Below end (numbers_from first count) → first + count ≤ end
some_fit end first zero some all = absurd (omega arith)
some_fit end first (suc count) some all = count_fits end first count all

-- all members that these declare are of the file
record AreOf (file : File) (members : Members) : Type 0 where
  sorts : Below (length file.sorts) members.sorts
  homs : Below (length file.homs) members.homs
  vars : Below (length file.vars) members.vars
  hyps : Below (length file.hyps) members.hyps
  goals : Below (length file.goals) members.goals

all_are_of : (file : File) → AreOf file (members_of file)
all_are_of file = record {
  sorts = numbers_below (length file.sorts) 0 (length file.sorts) (omega arith);
  homs = numbers_below (length file.homs) 0 (length file.homs) (omega arith);
  vars = numbers_below (length file.vars) 0 (length file.vars) (omega arith);
  hyps = numbers_below (length file.hyps) 0 (length file.hyps) (omega arith);
  goals = numbers_below (length file.goals) 0 (length file.goals) (omega arith);
}

one_is_of : (file : File) (s : Statement) → AreOf file (declared_by s) → IsOneSorted file s → IsStatementOf file s
one_is_of file (statement.Sort s) are sorted = are.sorts.0
one_is_of file (statement.Hom f) are sorted = are.homs.0
one_is_of file (statement.Vars first count) are sorted =
    (sorted.0, some_fit (length file.vars) first count sorted.0 are.vars)
one_is_of file (statement.Hyp h) are sorted = are.hyps.0
one_is_of file (statement.Goal i) are sorted = are.goals.0

each_is_of : (file : File) (statements : List Statement) → AreOf file (declared_by_all statements) →
    AllByRecursion (IsOneSorted file) statements → AllByRecursion (IsStatementOf file) statements
each_is_of file [] are sorted = tt
each_is_of file (s ∷ statements) are sorted = (
  one_is_of file s (record {
    sorts = front _ (declared_by s).sorts (declared_by_all statements).sorts are.sorts;
    homs = front _ (declared_by s).homs (declared_by_all statements).homs are.homs;
    vars = front _ (declared_by s).vars (declared_by_all statements).vars are.vars;
    hyps = front _ (declared_by s).hyps (declared_by_all statements).hyps are.hyps;
    goals = front _ (declared_by s).goals (declared_by_all statements).goals are.goals;
  }) sorted.0,
  each_is_of file statements (record {
    sorts = back _ (declared_by s).sorts (declared_by_all statements).sorts are.sorts;
    homs = back _ (declared_by s).homs (declared_by_all statements).homs are.homs;
    vars = back _ (declared_by s).vars (declared_by_all statements).vars are.vars;
    hyps = back _ (declared_by s).hyps (declared_by_all statements).hyps are.hyps;
    goals = back _ (declared_by s).goals (declared_by_all statements).goals are.goals;
  }) sorted.1,
)

pub statements_are_of : (file : File) → IsValid file → All (IsStatementOf file) file.order
statements_are_of file valid =
    All-from_recursion (IsStatementOf file) file.order
    (each_is_of file file.order (subst (AreOf file) (sym valid.ordered.once_rising) (all_are_of file))
    (recursion_from_All (IsOneSorted file) file.order valid.ordered.one_sorted))
