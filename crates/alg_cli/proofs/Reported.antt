-- What the reports in a reply say, and that there is one for each goal.
use Rattle.std.proofs.Common.{◌≡◌, ◌<◌, ◌≤◌, ◌+◌, ℕ, zero, suc, inr, List, [], ◌∷◌, ◌++◌, length, Option, None, Some, Ok, refl, ap, sym, subst, ◌∙◌, arith}
use Rattle.std.specs.Prelude.{slice_get, slice_index_or, IfSome}
use Rattle.std.specs.Option.{option_copied}
use denote.Ref.{Bor}
use Rattle.std.proofs.lemmas.List.{get_or_default, length_push}
use Rattle.std.proofs.lemmas.Option.{slice_get_within}
use Rattle.std.proofs.lemmas.List.Sums.{get_or-le-sum_by}
use Rattle.alg_annotated.specs.declared.annotated.Annotated.{Annotated}
use Rattle.alg_annotated.specs.Kept.{AreAnswersTo, lines_in, size_of}
use Rattle.alg_annotated.specs.Reading.{IsAnnotatedReadingOf}
use Rattle.alg_check.specs.Laws.{OneReport, ProvedIsRight}
use Rattle.alg_check.specs.Reports.{IsFew, IsReport}
use Rattle.alg_lines.specs.declared.answer.Answer.{Answer}
use Rattle.alg_lines.specs.declared.answer.GoalCheck.{GoalCheck}
use Rattle.alg_lines.specs.declared.answer.GoalCheck.TheVariants.{OkProved, Unchecked}
use Rattle.alg_terms.specs.declared.file.File.{File}
use Rattle.alg_terms.specs.declared.goals.Goal.{Goal}
use Rattle.alg_terms.specs.declared.goals.Use.{Use}
use Rattle.alg_terms.specs.Limits.{MAX_TEXT}
use Rattle.alg_terms.specs.Members.{goal_at, no_goal, uses_of}
use Rattle.alg_terms.specs.Valid.{IsValid}
use Rattle.alg_universe.specs.declared.universe.Universe.{Ghosts}
use Rattle.alg_cli.specs.declared.command.Command.TheVariants as command
use Rattle.alg_cli.specs.declared.status.Status.{Status}
use Rattle.alg_cli.specs.Checked.{AreReports, IsCheckReply, IsRightAsPrinted, ReportedAreRight}
use Rattle.alg_cli.specs.Commands.{most_bytes}
use Rattle.alg_cli.specs.Replies.{IsReplyTo}

module _ {E : Type 0} (u : Ghosts E) (law : ProvedIsRight u) where
  -- a goal that is reported proved has an answer, and is right
  right_as_printed : (file : File) (i : ℕ) (answer : Option Answer) → IsValid file → i < length file.goals →
      IsReport file (goal_at file i) answer OkProved → IsRightAsPrinted u file i answer
  right_as_printed file i None valid low is =
      let same : OkProved ≡ Unchecked = is in absurd (cc)
  right_as_printed file i (Some answer) valid low is = law file i answer valid low is

  -- so all goals are right that are reported so
  reported_right : (all : Annotated) (reports : List GoalCheck) → IsValid all.file →
      AreReports all.file all.answers reports → ReportedAreRight u all reports
  reported_right all reports valid are = λ i there.
      let within : i < length reports = slice_get_within reports i OkProved there in
      let low : i < length all.file.goals = subst (λ n. i < n) are.count within in
      right_as_printed all.file i (slice_index_or all.answers i None) valid low (are.each i OkProved there)

  -- the reports on an annotated file are the reply to the bytes that read as it
  pub checked_reply : (bytes : List ℕ) (all : Annotated) (text : List ℕ) (status : Status) →
      length bytes ≤ most_bytes command.Check → IsAnnotatedReadingOf bytes (Ok all) → IsValid all.file →
      IsCheckReply all text status → IsReplyTo u command.Check bytes text status
  checked_reply bytes all text status low reads valid reply =
      inr (
        low,
        inr (record {
          all = all;
          reads = reads;
          reply = reply;
          right = reported_right all reply.reports valid reply.are_reports;
        }),
      )

-- lists of one length with the same members at each place are one list
same_list : {A : Type 0} (xs ys : List A) → length xs ≡ length ys →
    ((i : ℕ) (x y : A) → slice_get xs i ≡ Some x → slice_get ys i ≡ Some y → x ≡ y) → xs ≡ ys
same_list [] [] long h = refl
same_list [] (y ∷ ys) long h = absurd (omega (arith, long))
same_list (x ∷ xs) [] long h = absurd (omega (arith, long))
same_list (x ∷ xs) (y ∷ ys) long h =
    let first : x ≡ y = h 0 x y refl refl in
    let rest : xs ≡ ys = same_list xs ys (omega (arith, long)) (λ i a b one other. h (suc i) a b one other) in
    cc

-- an annotated file has one list of reports
pub one_list : OneReport → (all : Annotated) (one other : List GoalCheck) → AreReports all.file all.answers one →
    AreReports all.file all.answers other → one ≡ other
one_list law all one other is are =
    same_list one other (is.count ∙ sym are.count) (λ i r s first second.
    law all.file (goal_at all.file i) (slice_index_or all.answers i None) r s (is.each i r first) (are.each i s second))

-- there are reports on the first goals
pub record AreFirst (all : Annotated) (goals : ℕ) (reports : List GoalCheck) : Type 0 where
  pub count : length reports ≡ goals
  pub each : (i : ℕ) (report : GoalCheck) → slice_get reports i ≡ Some report →
      IsReport all.file (goal_at all.file i) (slice_index_or all.answers i None) report

-- a member of a list that was pushed to is one of before or the last
before_or_last : {A : Type 0} (P : ℕ → A → Type 0) (xs : List A) (x : A) →
    ((i : ℕ) (y : A) → slice_get xs i ≡ Some y → P i y) → P (length xs) x →
    (i : ℕ) (y : A) → slice_get (xs ++ x ∷ []) i ≡ Some y → P i y
before_or_last P [] x h last zero y there = let same : x ≡ y = cc in subst (P 0) same last
before_or_last P [] x h last (suc i) y there = absurd (cc)
before_or_last P (z ∷ xs) x h last zero y there = h 0 y there
before_or_last P (z ∷ xs) x h last (suc i) y there =
    before_or_last (λ k. P (suc k)) xs x (λ k a at. h (suc k) a at) last i y there

-- and on one goal more
pub next_report : (all : Annotated) (number : ℕ) (reports : List GoalCheck) (report : GoalCheck) →
    AreFirst all number reports →
    IsReport all.file (goal_at all.file number) (slice_index_or all.answers number None) report →
    AreFirst all (number + 1) (reports ++ report ∷ [])
next_report all number reports report so_far is =
    let P : ℕ → GoalCheck → Type 0 =
    λ i r. IsReport all.file (goal_at all.file i) (slice_index_or all.answers i None) r in
    record {
      count = length_push reports report ∙ ap (λ n. n + 1) so_far.count;
      each = before_or_last P reports report so_far.each (subst (λ n. P n report) (sym so_far.count) is);
    }

-- the reports on all goals are those of the file
pub all_reported : (all : Annotated) (number : ℕ) (reports : List GoalCheck) → number ≡ length all.file.goals →
    AreFirst all number reports → AreReports all.file all.answers reports
all_reported all number reports end so_far = record { count = so_far.count ∙ end; each = so_far.each }

-- the answer that is read at the place of a goal, by a reference
pub read_at : (all : Annotated) (i : ℕ) (goals : List Goal) (items : List (Option Answer)) (answer : Option Answer)
    (reference : Option (Bor Answer)) → AreAnswersTo all.file all.answers → goals ≡ all.file.goals → i < length goals →
    items ≡ all.answers → answer ≡ slice_index_or items i answer → option_copied reference ≡ answer →
    option_copied reference ≡ slice_index_or all.answers i None
read_at all i goals items answer reference are same_goals low same is copied =
    let within : i < length all.answers =
    subst (λ n. i < n) (sym are.count) (subst (λ xs. i < length xs) same_goals low) in
    copied ∙ is ∙ ap (λ xs. slice_index_or xs i answer) same ∙ get_or_default all.answers i answer None within

-- what holds of a value holds of what a reference to it reads
pub behind : {T : Type 0} (P : T → Type 0) (reference : Option (Bor T)) (value : Option T) →
    option_copied reference ≡ value → IfSome value P → IfSome reference (λ r. P r.now)
behind P None value same h = tt
behind P (Some r) value same h = subst (λ v. IfSome v P) (sym same) h

-- at most so many as there are bytes are few
few_in : (uses : List Use) (answer : Option Answer) → length uses + lines_in answer ≤ MAX_TEXT →
    IfSome answer (IsFew uses)
few_in uses None few = tt
few_in uses (Some (Answer.Certified numbers cert)) few = omega (arith, few)
few_in uses (Some (Answer.Proved conditions)) few = tt
few_in uses (Some (Answer.No at left right)) few = tt
few_in uses (Some (Answer.ZeroDenominator denominator)) few = tt
few_in uses (Some (Answer.NoneUpTo power)) few = tt
few_in uses (Some (Answer.GaveUp limit)) few = tt
few_in uses (Some Answer.Atoms) few = tt
few_in uses (Some Answer.Range) few = tt
few_in uses (Some Answer.Degree) few = tt

-- so are the uses of each goal with the lines and steps of its answer
pub few_at : (all : Annotated) (i : ℕ) → i < length all.file.goals → AreAnswersTo all.file all.answers →
    size_of all.file all.answers ≤ MAX_TEXT →
    IfSome (slice_index_or all.answers i None) (IsFew (uses_of (goal_at all.file i).method))
few_at all i low are few =
    let uses_in : Goal → ℕ = λ goal. length (uses_of goal.method) in
    let uses = get_or-le-sum_by uses_in all.file.goals i no_goal low in
    let within : i < length all.answers = subst (λ n. i < n) (sym are.count) low in
    let lines = get_or-le-sum_by lines_in all.answers i None within in
    few_in (uses_of (goal_at all.file i).method) (slice_index_or all.answers i None) (omega (arith, uses, lines, few))
