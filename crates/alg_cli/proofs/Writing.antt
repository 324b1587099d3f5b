-- From what a sink took to what a run wrote, and that an input has one reply.
use Rattle.std.proofs.Common.{◌≡◌, ◌⊎◌, inl, inr, ℕ, List, Option, None, Some, map, sym, ap, ◌∙◌, subst, arith}
use Rattle.std.specs.Prelude.{IfSome, Ok, Err}
use Rattle.alg_outside.specs.Bytes.{Appends, ConsumesAll}
use Rattle.alg_load.specs.Loaded.{loaded}
use Rattle.alg_universe.specs.declared.universe.Universe.{Ghosts}
use Rattle.alg_annotated.specs.declared.annotated.Annotated.{Annotated}
use Rattle.alg_annotated.specs.Laws.{OneAnnotatedReading}
use Rattle.alg_annotated.specs.Reading.{IsAnnotatedReadingOf}
use Rattle.alg_check.specs.Laws.{OneReport}
use Rattle.alg_terms.specs.declared.file.File.{File}
use Rattle.alg_tokens.specs.declared.token.Refusal.{Refusal}
use Rattle.alg_typing.specs.Laws.{OneReading}
use Rattle.alg_typing.specs.Reading.{IsReadingOf}
use Rattle.alg_printer.specs.Reports.{reports_text}
use Rattle.alg_printer.specs.Text.{text_of}
use Rattle.alg_prover.specs.Answers.{AreAnswers}
use Rattle.alg_prover.specs.Laws.{OneAnswer}
use Rattle.alg_cli.specs.declared.command.Command.{Command}
use Rattle.alg_cli.specs.declared.command.Command.TheVariants as command
use Rattle.alg_cli.specs.declared.status.Status.{Status}
use Rattle.alg_cli.specs.declared.status.Status.TheVariants.{Done, NotAll, Refused, Usage, ReadFault, WriteFault, NoMemory}
use Rattle.alg_cli.specs.Checked.{AreReports, IsReported, status_of_reports}
use Rattle.alg_cli.specs.Replies.{IsReplyTo, IsReplyWithin, IsRefused, IsAnswered, IsSummary, refusal_text, summary_text, status_of}
use Rattle.alg_cli.specs.Runs.{SinkChange, IsFailure, WritesByStatus, WritesAll, WritesPrefix}
use Rattle.alg_cli.proofs.Reported.{one_list}

-- all of a text was written with the planned status, or a prefix of it and the count of faults rose
abbrev pub WritesOrFails : Status → Status → SinkChange → List ℕ → Type 0 → Type 0
WritesOrFails planned result c text Rose =
    ((result ≡ planned) × WritesAll c text) ⊎ ((result ≡ WriteFault) × Rose × WritesPrefix c text)

writes_all : (IsText : List ℕ → Status → Type 0) (planned : Status) (c : SinkChange) (text : List ℕ) →
    ¬ IsFailure planned → IsText text planned → WritesAll c text → WritesByStatus IsText planned c
writes_all IsText Done c text fine is all = (text, is, all)
writes_all IsText NotAll c text fine is all = (text, is, all)
writes_all IsText Refused c text fine is all = (text, is, all)
writes_all IsText Usage c text fine is all = (text, is, all)
writes_all IsText ReadFault c text fine is all = absurd (fine tt)
writes_all IsText WriteFault c text fine is all = absurd (fine tt)
writes_all IsText NoMemory c text fine is all = absurd (fine tt)

-- what was written is the text of the run
pub writes_by_status : (IsText : List ℕ → Status → Type 0) (planned result : Status) (c : SinkChange) (text : List ℕ)
    (Rose : Type 0) →
    ¬ IsFailure planned → IsText text planned → WritesOrFails planned result c text Rose →
    WritesByStatus IsText result c
writes_by_status IsText planned result c text Rose fine is (inl (same, all)) =
    subst (λ s. WritesByStatus IsText s c) (sym same) (writes_all IsText planned c text fine is all)
writes_by_status IsText planned result c text Rose fine is (inr (failed, rose, prefix)) =
    subst (λ s. WritesByStatus IsText s c) (sym failed) (text, planned, is, prefix)

-- two replies to one input
pub record IsSame (text other : List ℕ) (status planned : Status) : Type 0 where
  pub same_text : text ≡ other
  pub same_status : status ≡ planned

-- a text that is refused has one first fault
refused_once : (IsFirstFault : Refusal → Type 0) →
    ((fault other : Refusal) → IsFirstFault fault → IsFirstFault other → fault ≡ other) →
    (text other : List ℕ) (status planned : Status) → IsRefused IsFirstFault text status →
    IsRefused IsFirstFault other planned → IsSame text other status planned
refused_once IsFirstFault law text other status planned one two =
    let fault : one.fault ≡ two.fault = law one.fault two.fault one.reads two.reads in
    record {
      same_text = one.writes ∙ ap refusal_text fault ∙ sym two.writes;
      same_status = one.ends ∙ sym two.ends;
    }

summary_once : OneAnswer → (goals : ℕ) (text other : List ℕ) (status planned : Status) → IsSummary goals text status →
    IsSummary goals other planned → IsSame text other status planned
summary_once determined goals text other status planned one two =
    let answers : one.answers ≡ two.answers =
    determined (loaded goals) one.answers two.answers one.are_answers two.are_answers in
    record {
      same_text = one.writes ∙ ap (summary_text goals) answers ∙ sym two.writes;
      same_status = one.ends ∙ ap status_of answers ∙ sym two.ends;
    }

-- an input has one reading, without answers and with them, a file one list of answers, and a goal with an answer one
-- report
module _ {E : Type 0} (u : Ghosts E) (reading : OneReading) (annotated : OneAnnotatedReading) (determined : OneAnswer)
    (report : OneReport) where
  one_fault : (bytes : List ℕ) (fault other : Refusal) → IsReadingOf bytes (Err fault) →
      IsReadingOf bytes (Err other) → fault ≡ other
  one_fault bytes fault other one two =
      let same = reading bytes (Err fault) (Err other) one two in cc

  one_annotated_fault : (bytes : List ℕ) (fault other : Refusal) → IsAnnotatedReadingOf bytes (Err fault) →
      IsAnnotatedReadingOf bytes (Err other) → fault ≡ other
  one_annotated_fault bytes fault other one two =
      let same = annotated bytes (Err fault) (Err other) one two in cc

  answered_once : (bytes text other : List ℕ) (status planned : Status) → IsAnswered u bytes text status →
      IsAnswered u bytes other planned → IsSame text other status planned
  answered_once bytes text other status planned one two =
      let same : Ok one.file ≡ Ok two.file = reading bytes (Ok one.file) (Ok two.file) one.reads two.reads in
      let file : one.file ≡ two.file = cc in
      let theirs : AreAnswers two.file one.reply.answers =
      subst (λ f. AreAnswers f one.reply.answers) file one.reply.are_answers in
      let answers : one.reply.answers ≡ two.reply.answers =
      determined two.file one.reply.answers two.reply.answers theirs two.reply.are_answers in
      record {
        same_text = one.reply.writes ∙ ap (λ f. text_of f (map Some one.reply.answers)) file
            ∙ ap (λ a. text_of two.file (map Some a)) answers ∙ sym two.reply.writes;
        same_status = one.reply.ends ∙ ap status_of answers ∙ sym two.reply.ends;
      }

  reported_once : (bytes text other : List ℕ) (status planned : Status) → IsReported u bytes text status →
      IsReported u bytes other planned → IsSame text other status planned
  reported_once bytes text other status planned one two =
      let same : Ok one.all ≡ Ok two.all = annotated bytes (Ok one.all) (Ok two.all) one.reads two.reads in
      let all : one.all ≡ two.all = cc in
      let theirs : AreReports two.all.file two.all.answers one.reply.reports =
      subst (λ a. AreReports a.file a.answers one.reply.reports) all one.reply.are_reports in
      let reports : one.reply.reports ≡ two.reply.reports =
      one_list report two.all one.reply.reports two.reply.reports theirs two.reply.are_reports in
      record {
        same_text = one.reply.writes ∙ ap reports_text reports ∙ sym two.reply.writes;
        same_status = one.reply.ends ∙ ap status_of_reports reports ∙ sym two.reply.ends;
      }

  never_both : (bytes : List ℕ) (file : File) (fault : Refusal) → IsReadingOf bytes (Err fault) →
      IsReadingOf bytes (Ok file) → ⊥
  never_both bytes file fault one two = let same = reading bytes (Err fault) (Ok file) one two in cc

  never_both_annotated : (bytes : List ℕ) (all : Annotated) (fault : Refusal) →
      IsAnnotatedReadingOf bytes (Err fault) → IsAnnotatedReadingOf bytes (Ok all) → ⊥
  never_both_annotated bytes all fault one two = let same = annotated bytes (Err fault) (Ok all) one two in cc

  -- bytes within the limit have one reply
  within_once : (command : Command) (bytes text other : List ℕ) (status planned : Status) →
      IsReplyWithin u command bytes text status → IsReplyWithin u command bytes other planned →
      IsSame text other status planned
  within_once command.Usage bytes text other status planned one two =
      record { same_text = one.writes ∙ sym two.writes; same_status = one.ends ∙ sym two.ends }
  within_once (command.Load goals) bytes text other status planned one two =
      summary_once determined goals text other status planned one two
  within_once command.Prove bytes text other status planned (inl one) (inl two) =
      refused_once (λ fault. IsReadingOf bytes (Err fault)) (one_fault bytes) text other status planned one two
  within_once command.Prove bytes text other status planned (inl one) (inr two) =
      absurd (never_both bytes two.file one.fault one.reads two.reads)
  within_once command.Prove bytes text other status planned (inr one) (inl two) =
      absurd (never_both bytes one.file two.fault two.reads one.reads)
  within_once command.Prove bytes text other status planned (inr one) (inr two) =
      answered_once bytes text other status planned one two
  within_once command.Check bytes text other status planned (inl one) (inl two) =
      refused_once (λ fault. IsAnnotatedReadingOf bytes (Err fault)) (one_annotated_fault bytes) text other status
      planned one two
  within_once command.Check bytes text other status planned (inl one) (inr two) =
      absurd (never_both_annotated bytes two.all one.fault one.reads two.reads)
  within_once command.Check bytes text other status planned (inr one) (inl two) =
      absurd (never_both_annotated bytes one.all two.fault two.reads one.reads)
  within_once command.Check bytes text other status planned (inr one) (inr two) =
      reported_once bytes text other status planned one two

  -- bytes have one reply
  pub one_reply : (command : Command) (bytes text other : List ℕ) (status planned : Status) →
      IsReplyTo u command bytes text status → IsReplyTo u command bytes other planned →
      IsSame text other status planned
  one_reply command bytes text other status planned (inl one) (inl two) =
      record { same_text = one.writes ∙ sym two.writes; same_status = one.ends ∙ sym two.ends }
  one_reply command bytes text other status planned (inl one) (inr (low, _)) =
      absurd (omega (arith, one.large))
  one_reply command bytes text other status planned (inr (low, _)) (inl two) =
      absurd (omega (arith, two.large))
  one_reply command bytes text other status planned (inr (low, one)) (inr (_, two)) =
      within_once command bytes text other status planned one two

  -- where neither count rose, the reply to the bytes was written
  pub always : (command : Command) (bytes text : List ℕ) (planned result : Status) (c : SinkChange) (Rose : Type 0) →
      ¬ Rose → IsReplyTo u command bytes text planned → WritesOrFails planned result c text Rose →
      (other : List ℕ) (status : Status) → IsReplyTo u command bytes other status →
      (result ≡ NoMemory) ⊎ ((result ≡ status) × Appends c.before c.after other)
  always command bytes text planned result c Rose never is (inl (same, all)) other status reply =
      let one = one_reply command bytes text other planned status is reply in
      inr (same ∙ one.same_status, subst (Appends c.before c.after) one.same_text all.0)
  always command bytes text planned result c Rose never is (inr (failed, rose, prefix)) other status reply =
      absurd (never rose)

-- all bytes that were read are the bytes that were told
pub of_told : (before after : Option (List ℕ)) (bytes : List ℕ) → ConsumesAll before after bytes →
    IfSome before (λ told. told ≡ bytes)
of_told None None bytes all = tt
of_told None (Some rest) bytes all = absurd all
of_told (Some told) None bytes all = absurd all
of_told (Some told) (Some rest) bytes all = all.0

-- what holds of each told value of a kind
pub if_told : (before : Option (List ℕ)) (P Q : List ℕ → Type 0) → ((bytes : List ℕ) → P bytes → Q bytes) →
    IfSome before P → IfSome before Q
if_told None P Q f h = tt
if_told (Some told) P Q f h = f told h
