-- What each command reads, replies and ends with.
use Rattle.std.proofs.Common.{◌≡◌, ◌<◌, ℕ, inl, inr, List, [], Option, length, codes, refl, arith}
use Rattle.std.specs.Prelude.{IfSome}
use Rattle.alg_universe.specs.declared.universe.Universe.{Ghosts}
use Rattle.alg_cli.specs.declared.command.Command.{Command}
use Rattle.alg_cli.specs.declared.command.Command.TheVariants as command
use Rattle.alg_cli.specs.declared.status.Status.{Status}
use Rattle.alg_cli.specs.declared.status.Status.TheVariants.{Done, NotAll, Refused, Usage, ReadFault, WriteFault, NoMemory}
use Rattle.alg_cli.specs.Commands.{ReadsInput, most_bytes, bytes_for}
use Rattle.alg_cli.specs.Replies.{IsReplyTo}
use Rattle.alg_cli.specs.Runs.{IsFailure, IsStatusOf}

-- a command that reads works on the input
pub works_on_input : (c : Command) (left : Option (List ℕ)) (P : List ℕ → Type 0) → ReadsInput c → IfSome left P →
    IfSome (bytes_for c left) P
works_on_input command.Prove left P reads h = h
works_on_input command.Check left P reads h = h
works_on_input (command.Load goals) left P reads h = absurd reads
works_on_input command.Usage left P reads h = absurd reads

-- and one that does not, on nothing
pub works_on_nothing : (c : Command) (left : Option (List ℕ)) → ¬ ReadsInput c →
    IfSome (bytes_for c left) (λ told. told ≡ [])
works_on_nothing command.Prove left never = absurd (never tt)
works_on_nothing command.Check left never = absurd (never tt)
works_on_nothing (command.Load goals) left never = refl
works_on_nothing command.Usage left never = refl

-- a command that reads may refuse its input
pub may_refuse : (c : Command) → ReadsInput c → IsStatusOf c Refused
may_refuse command.Prove reads = tt
may_refuse command.Check reads = tt
may_refuse (command.Load goals) reads = absurd reads
may_refuse command.Usage reads = absurd reads

-- a status of a command is no failure
pub no_failure : (c : Command) (status : Status) → IsStatusOf c status → ¬ IsFailure status
no_failure c Done fits = λ no. no
no_failure c NotAll fits = λ no. no
no_failure c Refused fits = λ no. no
no_failure c Usage fits = λ no. no
no_failure command.Prove ReadFault fits = absurd fits
no_failure command.Prove WriteFault fits = absurd fits
no_failure command.Prove NoMemory fits = absurd fits
no_failure command.Check ReadFault fits = absurd fits
no_failure command.Check WriteFault fits = absurd fits
no_failure command.Check NoMemory fits = absurd fits
no_failure (command.Load goals) ReadFault fits = absurd fits
no_failure (command.Load goals) WriteFault fits = absurd fits
no_failure (command.Load goals) NoMemory fits = absurd fits
no_failure command.Usage ReadFault fits = absurd fits
no_failure command.Usage WriteFault fits = absurd fits
no_failure command.Usage NoMemory fits = absurd fits

-- only the usage ends as such
pub usage_ends : (c : Command) → IsStatusOf c Usage → c ≡ command.Usage
usage_ends command.Prove fits = absurd fits
usage_ends command.Check fits = absurd fits
usage_ends (command.Load goals) fits = absurd fits
usage_ends command.Usage fits = refl

-- the usage is what is replied where the input is not read
pub usage_reply : {E : Type 0} (u : Ghosts E) (bytes : List ℕ) → length bytes ≡ 0 →
    IsReplyTo u command.Usage bytes (codes "usage\n") Usage
usage_reply u bytes none = inr (omega (arith, none), record { writes = refl; ends = refl })

-- a refusal is what is replied to too many bytes
pub too_large : {E : Type 0} (u : Ghosts E) (c : Command) (bytes : List ℕ) → most_bytes c < length bytes →
    IsReplyTo u c bytes (codes "refused large\n") Refused
too_large u c bytes large = inl (record { large = large; writes = refl; ends = refl })
