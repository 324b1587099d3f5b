-- What the answers in a reply say.
use Rattle.std.proofs.Common.{◌≤◌, ℕ, inr, Result, Ok, Err, List, length}
use Rattle.std.specs.Prelude.{IfOk}
use Rattle.alg_lines.specs.declared.answer.Answer.{Answer}
use Rattle.alg_lines.specs.declared.answer.Answer.TheVariants.{Proved, Certified, No}
use Rattle.alg_terms.specs.declared.file.File.{File}
use Rattle.alg_terms.specs.Valid.{IsValid}
use Rattle.alg_prover.specs.Answers.{AreAnswers}
use Rattle.alg_prover.specs.InFree.{NoDiffersInFree}
use Rattle.alg_prover.specs.Laws as prover
use Rattle.alg_universe.specs.declared.universe.Universe.{Ghosts}
use Rattle.alg_typing.specs.Reading.{IsReadingOf}
use Rattle.alg_cli.specs.declared.status.Status.{Status}
use Rattle.alg_cli.specs.Replies.{ProvedAreRight, NoesDiffer, IsFileReply, IsReplyTo}
use Rattle.alg_cli.specs.declared.command.Command.TheVariants as command
use Rattle.alg_cli.specs.Commands.{most_bytes}
use Rattle.alg_cli.proofs.NoneUpTo.{nones_have_none}
use Rattle.alg_cli.proofs.Places.{pair_at}
use Rattle.alg_criterion.specs.Laws.{NoneExists}

-- the answers of a valid file that are proofs are right
pub proved_right : {E : Type 0} (u : Ghosts E) → prover.ProvedIsRight u → prover.CertifiedIsRight u →
    (file : File) (answers : List Answer) → IsValid file → AreAnswers file answers → ProvedAreRight u file answers
proved_right u proved certified file answers valid h = record {
  proved = λ i conditions there.
      let (low, answer) = pair_at file file.goals answers i (Proved conditions) h there in
      proved file i conditions valid low answer;
  certified = λ i constants cert there.
      let (low, answer) = pair_at file file.goals answers i (Certified constants cert) h there in
      certified file i constants cert valid low answer;
}

-- and where they are no, the sides differ
pub noes_differ : prover.NoDiffers → NoDiffersInFree → (file : File) (answers : List Answer) → IsValid file →
    AreAnswers file answers → NoesDiffer file answers
noes_differ law in_free file answers valid h = record {
  polynomials = λ i at left right there by_ring.
      let (low, answer) = pair_at file file.goals answers i (No at left right) h there in
      law file i at left right by_ring answer;
  values = λ none i at left right there by_ring.
      let (low, answer) = pair_at file file.goals answers i (No at left right) h there in
      in_free file i at left right valid none low by_ring answer;
}

-- what holds of a success holds in weaker form
pub ok_weaker : {A E : Type 0} (P Q : A → Type 0) (r : Result A E) → ((x : A) → P x → Q x) → IfOk r P → IfOk r Q
ok_weaker P Q (Ok x) f h = f x h
ok_weaker P Q (Err e) f h = tt

-- the file's text with its answers is the reply to the bytes that read as the file
pub answered_reply : {E : Type 0} (u : Ghosts E) → prover.ProvedIsRight u → prover.CertifiedIsRight u →
    prover.NoDiffers → NoDiffersInFree → NoneExists →
    (bytes : List ℕ) (file : File) (text : List ℕ) (status : Status) → length bytes ≤ most_bytes command.Prove →
    IsReadingOf bytes (Ok file) → IsValid file → IsFileReply file text status →
    IsReplyTo u command.Prove bytes text status
answered_reply u proved certified differ in_free none bytes file text status low reads valid reply =
    inr (
      low,
      inr (record {
        file = file;
        reads = reads;
        reply = reply;
        right = proved_right u proved certified file reply.answers valid reply.are_answers;
        differ = noes_differ differ in_free file reply.answers valid reply.are_answers;
        none = nones_have_none none file reply.answers valid reply.are_answers;
      }),
    )
