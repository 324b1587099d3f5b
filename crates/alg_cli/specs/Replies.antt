-- What an input is replied: the text, the status, and what the answers in it say.
use Rattle.std.specs.Prelude.{◌≡◌, ◌<◌, ◌≤◌, ◌⊎◌, ℕ, ℤ, Bool, true, false, if◌then◌else◌, List, [], ◌++◌, ◌-◌, length, map, codes, decimal, slice_get, Some, Ok, Err}
use Rattle.std.specs.List.{list_all, count_by}
use Rattle.alg_annotated.specs.Reading.{IsAnnotatedReadingOf}
use Rattle.alg_lines.specs.declared.answer.Answer.{Answer}
use Rattle.alg_lines.specs.declared.answer.Answer.TheVariants.{Proved, Certified, No, NoneUpTo}
use Rattle.alg_lines.specs.declared.cert.Cert.{Cert}
use Rattle.alg_load.specs.Loaded.{loaded}
use Rattle.alg_mono.specs.Mono.{Monomial}
use Rattle.alg_printer.specs.Text.{text_of}
use Rattle.alg_prover.specs.Answers.{AreAnswers}
use Rattle.alg_prover.specs.InFree.{DeclaresNoField, ValuesDiffer}
use Rattle.alg_criterion.specs.Laws.{HasNone}
use Rattle.alg_reify.specs.Preparing.{prepared_goal, prepared_hyps}
use Rattle.alg_reify.specs.RingVerdict.{SidesDiffer}
use Rattle.alg_terms.specs.declared.file.File.{File}
use Rattle.alg_terms.specs.declared.goals.Method.TheVariants.{ByRing}
use Rattle.alg_terms.specs.declared.term.Term.{Term}
use Rattle.alg_terms.specs.Members.{goal_at, uses_of}
use Rattle.alg_tokens.specs.declared.token.Refusal.{Refusal}
use Rattle.alg_typing.specs.Reading.{IsReadingOf}
use Rattle.alg_universe.specs.declared.universe.Universe.{Ghosts}
use Rattle.alg_universe.specs.Right.{IsRight}
use Rattle.alg_cli.specs.declared.command.Command.{Command}
use Rattle.alg_cli.specs.declared.status.Status.{Status}
use Rattle.alg_cli.specs.declared.status.Status.TheVariants.{Done, NotAll, Refused, Usage}
use Rattle.alg_cli.specs.Checked.{IsReported}
use Rattle.alg_cli.specs.Commands.{most_bytes}

-- an answer that says that the goal is proved
abbrev pub is_proof : Answer → Bool
is_proof (Proved conditions) = true
is_proof (Certified constants cert) = true
is_proof _ = false

-- a file is done where each goal is proved
abbrev pub status_of : List Answer → Status
status_of answers = if list_all is_proof answers then Done else NotAll

-- a fault as it is written
abbrev pub refusal_text : Refusal → List ℕ
refusal_text fault = codes "refused " ++ decimal fault.code ++ codes " at " ++ decimal fault.at ++ codes "\n"

-- each goal that is answered proved is right in the universe, with the conditions or the constants of its answer
pub record ProvedAreRight {E : Type 0} (u : Ghosts E) (file : File) (answers : List Answer) : Type 0 where
  pub proved : (i : ℕ) (conditions : List Term) → slice_get answers i ≡ Some (Proved conditions) →
      IsRight u file i conditions []
  pub certified : (i : ℕ) (constants : List ℤ) (cert : Cert) → slice_get answers i ≡ Some (Certified constants cert) →
      IsRight u file i [] constants

-- the sides of each goal by ring that is answered no are different polynomials: at the printed monomial, read as atoms,
-- they have the printed coefficients, which differ; where no field is declared, they have different values among the
-- polynomials
pub record NoesDiffer (file : File) (answers : List Answer) : Type 0 where
  pub polynomials : (i : ℕ) (at : Monomial) (left right : ℤ) → slice_get answers i ≡ Some (No at left right) →
      (goal_at file i).method ≡ ByRing → SidesDiffer file (goal_at file i).equation at left right
  pub values : DeclaresNoField file → (i : ℕ) (at : Monomial) (left right : ℤ) →
      slice_get answers i ≡ Some (No at left right) → (goal_at file i).method ≡ ByRing →
      ValuesDiffer file (goal_at file i).equation

-- for each goal that is answered `none up to power` no certificate exists: no integer other than 0 times a power of its
-- prepared polynomial, up to the answer's power, is a sum of integer polynomials times those of its hypotheses
abbrev pub NonesHaveNone : File → List Answer → Type 0
NonesHaveNone file answers =
    (i greatest : ℕ) → slice_get answers i ≡ Some (NoneUpTo greatest) →
    let e = (goal_at file i).equation in
    let uses = uses_of (goal_at file i).method in
    HasNone (prepared_hyps file e uses) (prepared_goal file e uses) greatest

-- the text is the file's with its answers, and the status is that of the answers
pub record IsFileReply (file : File) (text : List ℕ) (status : Status) : Type 0 where
  pub answers : List Answer
  pub are_answers : AreAnswers file answers
  pub writes : text ≡ text_of file (map Some answers)
  pub ends : status ≡ status_of answers

-- the bytes are a file, and the text is its own with its answers, which are right
pub record IsAnswered {E : Type 0} (u : Ghosts E) (bytes text : List ℕ) (status : Status) : Type 0 where
  pub file : File
  pub reads : IsReadingOf bytes (Ok file)
  pub reply : IsFileReply file text status
  pub right : ProvedAreRight u file reply.answers
  pub differ : NoesDiffer file reply.answers
  pub none : NonesHaveNone file reply.answers

-- the bytes are no file, and the text is what is a first fault of theirs
pub record IsRefused (IsFirstFault : Refusal → Type 0) (text : List ℕ) (status : Status) : Type 0 where
  pub fault : Refusal
  pub reads : IsFirstFault fault
  pub writes : text ≡ refusal_text fault
  pub ends : status ≡ Refused

-- there are more bytes than the command reads
pub record IsTooLarge (command : Command) (bytes text : List ℕ) (status : Status) : Type 0 where
  pub large : most_bytes command < length bytes
  pub writes : text ≡ codes "refused large\n"
  pub ends : status ≡ Refused

-- how many answers say that their goal is proved
abbrev pub proofs_in : List Answer → ℕ
proofs_in answers = count_by is_proof answers

-- of so many goals these are proved, and the others not
abbrev pub summary_text : ℕ → List Answer → List ℕ
summary_text goals answers =
    codes "load " ++ decimal goals ++ codes ": " ++ decimal (proofs_in answers) ++ codes " proved, "
    ++ decimal (length answers - proofs_in answers) ++ codes " not\n"

-- the text is the summary of the answers to the loaded file of so many goals, and the status is that of the answers
pub record IsSummary (goals : ℕ) (text : List ℕ) (status : Status) : Type 0 where
  pub answers : List Answer
  pub are_answers : AreAnswers (loaded goals) answers
  pub writes : text ≡ summary_text goals answers
  pub ends : status ≡ status_of answers

-- the usage
pub record IsUsage (text : List ℕ) (status : Status) : Type 0 where
  pub writes : text ≡ codes "usage\n"
  pub ends : status ≡ Usage

-- what a command replies to bytes that are not too many
abbrev pub IsReplyWithin : {E : Type 0} → Ghosts E → Command → List ℕ → List ℕ → Status → Type 0
IsReplyWithin u Command.Prove bytes text status =
    IsRefused (λ fault. IsReadingOf bytes (Err fault)) text status ⊎ IsAnswered u bytes text status
IsReplyWithin u Command.Check bytes text status =
    IsRefused (λ fault. IsAnnotatedReadingOf bytes (Err fault)) text status ⊎ IsReported u bytes text status
IsReplyWithin u (Command.Load goals) bytes text status = IsSummary goals text status
IsReplyWithin u Command.Usage bytes text status = IsUsage text status

-- what a command replies to these bytes
abbrev pub IsReplyTo : {E : Type 0} → Ghosts E → Command → List ℕ → List ℕ → Status → Type 0
IsReplyTo u command bytes text status =
    IsTooLarge command bytes text status
    ⊎ ((length bytes ≤ most_bytes command) × IsReplyWithin u command bytes text status)
