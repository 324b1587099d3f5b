-- What a run writes, and what its status says of it.
use Rattle.std.specs.Prelude.{◌≡◌, ◌⊎◌, ℕ, List, Option, IfSome}
use Rattle.alg_outside.specs.Bytes.{Appends, AppendsPrefix, Flushes}
use Rattle.alg_outside.specs.declared.source.Sink as sink
use Rattle.alg_universe.specs.declared.universe.Universe.{Ghosts}
use Rattle.alg_cli.specs.declared.command.Command.{Command}
use Rattle.alg_cli.specs.declared.command.Command.TheVariants as command
use Rattle.alg_cli.specs.declared.status.Status.{Status}
use Rattle.alg_cli.specs.declared.status.Status.TheVariants.{Done, NotAll, Refused, Usage, ReadFault, WriteFault, NoMemory}
use Rattle.alg_cli.specs.Commands.{bytes_for}
use Rattle.alg_cli.specs.Replies.{IsReplyTo}

-- the exit status of the program
abbrev pub code_of : Status → ℕ
code_of Done = 0
code_of NotAll = 1
code_of Refused = 2
code_of Usage = 3
code_of ReadFault = 4
code_of WriteFault = 5
code_of NoMemory = 6

-- a run with this status failed, and perhaps has not written all that it had to write
abbrev pub IsFailure : Status → Type 0
IsFailure ReadFault = Unit {0}
IsFailure WriteFault = Unit {0}
IsFailure NoMemory = Unit {0}
IsFailure _ = ⊥

-- the statuses of a command that did not fail
abbrev pub IsStatusOf : Command → Status → Type 0
IsStatusOf command.Prove Done = Unit {0}
IsStatusOf command.Prove NotAll = Unit {0}
IsStatusOf command.Prove Refused = Unit {0}
IsStatusOf command.Check Done = Unit {0}
IsStatusOf command.Check NotAll = Unit {0}
IsStatusOf command.Check Refused = Unit {0}
IsStatusOf (command.Load goals) Done = Unit {0}
IsStatusOf (command.Load goals) NotAll = Unit {0}
IsStatusOf command.Usage Usage = Unit {0}
IsStatusOf _ _ = ⊥

-- what a run has to write and its status then: the reply to the bytes that the command works on, where they are told,
-- with one of the command's statuses
pub record IsReply {E : Type 0} (u : Ghosts E) (command : Command) (left : Option (List ℕ)) (text : List ℕ)
    (status : Status) : Type 0 where
  pub replies : IfSome (bytes_for command left) (λ bytes. IsReplyTo u command bytes text status)
  pub fits : IsStatusOf command status

-- what a sink tells before and after a run: the bytes that it took, and how many of them are flushed
pub record SinkChange : Type 0 where
  pub before : Option (List ℕ)
  pub after : Option (List ℕ)
  pub flushed_before : Option ℕ
  pub flushed_after : Option ℕ

abbrev pub change : {K : Type 0} → sink.Ghosts K → K → K → SinkChange
change k before after = record {
  before = k.written before;
  after = k.written after;
  flushed_before = k.flushed before;
  flushed_after = k.flushed after;
}

-- nothing was written
abbrev pub WritesNothing : SinkChange → Type 0
WritesNothing c = (c.after ≡ c.before) × (c.flushed_after ≡ c.flushed_before)

-- a prefix of a text was written, perhaps all of it or nothing, and no more was flushed
abbrev pub WritesPrefix : SinkChange → List ℕ → Type 0
WritesPrefix c text = AppendsPrefix c.before c.after text × (c.flushed_after ≡ c.flushed_before)

-- all of a text was written and flushed
abbrev pub WritesAll : SinkChange → List ℕ → Type 0
WritesAll c text = Appends c.before c.after text × Flushes c.after c.flushed_before c.flushed_after

-- what a run wrote, by its status: nothing after a failed reading or want of memory, a prefix of its text after a
-- failed writing, and else all of its text, with the status that belongs to it
abbrev pub WritesByStatus : (List ℕ → Status → Type 0) → Status → SinkChange → Type 0
WritesByStatus IsText ReadFault c = WritesNothing c
WritesByStatus IsText NoMemory c = WritesNothing c
WritesByStatus IsText WriteFault c = (text : List ℕ) × (planned : Status) × IsText text planned × WritesPrefix c text
WritesByStatus IsText status c = (text : List ℕ) × IsText text status × WritesAll c text

-- unless memory ran out, the run replied to the bytes that its command works on, and ended with the reply's status
abbrev pub RepliesUnlessNoMemory : {E : Type 0} → Ghosts E → Command → Option (List ℕ) → Status → SinkChange → Type 0
RepliesUnlessNoMemory u command left result c =
    IfSome (bytes_for command left) (λ bytes. (text : List ℕ) (status : Status) →
    IsReplyTo u command bytes text status →
    (result ≡ NoMemory) ⊎ ((result ≡ status) × Appends c.before c.after text))
