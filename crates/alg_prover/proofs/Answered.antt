-- One answer for each goal, in a loop over the goals.
use Rattle.std.specs.Prelude.{◌≡◌, ◌<◌, ◌≤◌, ◌+◌, ℕ, zero, suc, List, [], ◌∷◌, ◌++◌, length, take, map, Some, None, IfSome, slice_index_or}
use Rattle.std.specs.List.{AllZip}
use Rattle.std.proofs.Common.{sym, subst, ◌∙◌, arith}
use Rattle.std.proofs.lemmas.List.{length-map, get_or-map, take_more, take_all}
use Rattle.std.proofs.lemmas.Slice.Zip.{AllZip-long, all_zipped_more}
use Rattle.alg_lines.specs.declared.answer.Answer.{Answer}
use Rattle.alg_lines.specs.declared.answer.Answer.TheVariants.{Atoms}
use Rattle.alg_printer.specs.Printable.{ArePrintable, IsPrintable}
use Rattle.alg_prover.specs.Answers.{IsAnswer, AreAnswers}
use Rattle.alg_terms.specs.declared.file.File.{File}
use Rattle.alg_terms.specs.declared.goals.Goal.{Goal}
use Rattle.alg_terms.specs.Members.{goal_at, no_goal}

-- the answer to a goal, which can be printed below it
abbrev pub IsAnswered : File → Goal → Answer → Type 0
IsAnswered file goal answer = IsAnswer file goal answer × IsPrintable file goal answer

-- the answers to the first goals
abbrev pub AreAnswered : File → ℕ → List Answer → Type 0
AreAnswered file count answers = AllZip (IsAnswered file) (take count file.goals) answers

module _ {X Y : Type 0} (R : X → Y → Type 0) where
  -- one more member
  more : (xs : List X) (ys : List Y) (i : ℕ) (d : X) (y : Y) → i < length xs → AllZip R (take i xs) ys →
      R (slice_index_or xs i d) y → AllZip R (take (i + 1) xs) (ys ++ y ∷ [])
  more xs ys i d y l h r =
      subst (λ front. AllZip R front (ys ++ y ∷ [])) (sym (take_more xs i d l))
      (all_zipped_more R (take i xs) ys (slice_index_or xs i d) y h r)

  -- all members
  whole : (xs : List X) (ys : List Y) (n : ℕ) → length xs ≤ n → AllZip R (take n xs) ys → AllZip R xs ys
  whole xs ys n l h = subst (λ front. AllZip R front ys) (take_all n xs l) h

  -- the members at a place
  at_place : (xs : List X) (ys : List Y) (i : ℕ) (d : X) (e : Y) → i < length xs → AllZip R xs ys →
      R (slice_index_or xs i d) (slice_index_or ys i e)
  at_place [] ys i d e l h = absurd (omega arith)
  at_place (x ∷ xs) [] i d e l h = absurd h
  at_place (x ∷ xs) (y ∷ ys) zero d e l h = h.0
  at_place (x ∷ xs) (y ∷ ys) (suc i) d e l h = at_place xs ys i d e (omega arith) h.1

-- what holds of the parts of a pair
firsts : {X Y : Type 0} (P Q : X → Y → Type 0) (xs : List X) (ys : List Y) → AllZip (λ x y. P x y × Q x y) xs ys →
    AllZip P xs ys
firsts P Q [] [] h = tt
firsts P Q [] (y ∷ ys) h = absurd h
firsts P Q (x ∷ xs) [] h = absurd h
firsts P Q (x ∷ xs) (y ∷ ys) h = (h.0.0, firsts P Q xs ys h.1)

-- an answer to the next goal
pub next_answered : (file : File) (i : ℕ) (answers : List Answer) (answer : Answer) → i < length file.goals →
    AreAnswered file i answers → IsAnswered file (goal_at file i) answer →
    AreAnswered file (i + 1) (answers ++ answer ∷ [])
next_answered file i answers answer within so_far one =
    more (IsAnswered file) file.goals answers i no_goal answer within so_far one

-- all goals are answered
pub all_answered : (file : File) (count : ℕ) (answers : List Answer) → length file.goals ≤ count →
    AreAnswered file count answers → AreAnswers file answers
all_answered file count answers all h =
    firsts (IsAnswer file) (IsPrintable file) file.goals answers
    (whole (IsAnswered file) file.goals answers count all h)

-- answers that can be printed below their goals
pub printable_each : (file : File) (answers : List Answer) → AllZip (IsAnswered file) file.goals answers →
    ArePrintable file (map Some answers)
printable_each file answers each =
    let long : length answers ≡ length file.goals = AllZip-long (IsAnswered file) file.goals answers each in
    record {
      count = length-map answers Some ∙ long;
      each = λ i within.
          subst (λ answer. IfSome answer (IsPrintable file (goal_at file i)))
          (sym (get_or-map Some answers i Atoms None (subst (λ n. i < n) (sym long) within)))
          (at_place (IsAnswered file) file.goals answers i no_goal Atoms within each).1;
    }

-- and so can those of all goals
pub all_printable : (file : File) (count : ℕ) (answers : List Answer) → length file.goals ≤ count →
    AreAnswered file count answers → ArePrintable file (map Some answers)
all_printable file count answers all h =
    printable_each file answers (whole (IsAnswered file) file.goals answers count all h)
