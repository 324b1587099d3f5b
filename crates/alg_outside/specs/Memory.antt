-- Sources and sinks in memory: what they hold, and what one call does.
use Rattle.std.specs.Prelude.{◌≡◌, ℕ, ◌-◌, ◌≤◌, ◌↔◌, ◌⊎◌, ◌≢◌, List, length, min, Contains, IsErr, IfOk}
use Rattle.std.specs.declared.result.Result.{Result}
use Rattle.alg_outside.specs.Faults.{one_more, CountsFailure}

-- the bytes still to come, the most that a call gives, the numbers of the calls that fail, and the
-- counts of calls and of faults
pub record SourceState : Type 0 where
  pub left : List ℕ
  pub piece : ℕ
  pub fails : List ℕ
  pub calls : ℕ
  pub faults : ℕ

-- a call fails where its number, counted from 1, says so, and else gives as many bytes as the
-- piece, the bytes left and the room in the buffer allow
pub record GivesPiece {E : Type 0} (before after : SourceState) (result : Result ℕ E) (room : ℕ)
    : Type 0 where
  pub piece : after.piece ≡ before.piece
  pub fails : after.fails ≡ before.fails
  pub calls : after.calls ≡ one_more before.calls
  pub faults : CountsFailure before.faults after.faults result
  pub failed : IsErr result ↔ Contains before.fails after.calls
  pub count : IfOk result (λ n. n ≡ min (min before.piece (length before.left)) room)

-- the bytes taken, how many of them are flushed, the most bytes in all and in a call, the numbers
-- of the calls that fail, and the counts of calls and of faults
pub record SinkState : Type 0 where
  pub written : List ℕ
  pub flushed : ℕ
  pub room : ℕ
  pub piece : ℕ
  pub fails : List ℕ
  pub calls : ℕ
  pub faults : ℕ

-- what every call on a sink keeps and counts
pub record CountsCall {T E : Type 0} (before after : SinkState) (result : Result T E) : Type 0 where
  pub room : after.room ≡ before.room
  pub piece : after.piece ≡ before.piece
  pub fails : after.fails ≡ before.fails
  pub calls : after.calls ≡ one_more before.calls
  pub faults : CountsFailure before.faults after.faults result

-- the sink has no room left
abbrev pub IsFull : SinkState → Type 0
IsFull sink = sink.room ≤ length sink.written

-- a write fails where its number says so, or where something is offered to a full sink, and else
-- takes as many of the bytes as the piece and the room left allow
pub record TakesPiece {E : Type 0} (before after : SinkState) (result : Result ℕ E) (offered : ℕ)
    : Type 0 where
  pub failed : IsErr result ↔ (Contains before.fails after.calls ⊎ ((offered ≢ 0) × IsFull before))
  pub count : IfOk result
      (λ n. n ≡ min (min before.piece (before.room - length before.written)) offered)
