-- What a call does to the bytes that an object may tell. Each clause also says that whether they
-- are told never changes.
use Rattle.std.specs.Prelude.{◌≡◌, ℕ, ◌<◌, ◌≤◌, Option, Some, None, List, [], ◌++◌, length, take, IfSome, MatchResult, ⊤}
use Rattle.std.specs.declared.result.Result.{Result}

-- both are told and stand in this relation, or neither is told
abbrev pub BothTold : {A B : Type 0} → Option A → Option B → (A → B → Type 0) → Type 0
BothTold None None R = ⊤
BothTold None (Some y) R = ⊥
BothTold (Some x) None R = ⊥
BothTold (Some x) (Some y) R = R x y

-- the bytes were the front of what was left, and the rest is left after them
abbrev pub Consumes : Option (List ℕ) → Option (List ℕ) → List ℕ → Type 0
Consumes before after bytes = BothTold before after (λ all rest. all ≡ bytes ++ rest)

-- the bytes were all that was left, and nothing is left after them
abbrev pub ConsumesAll : Option (List ℕ) → Option (List ℕ) → List ℕ → Type 0
ConsumesAll before after bytes = BothTold before after (λ all rest. (all ≡ bytes) × (rest ≡ []))

-- at most this many bytes were taken from the front of what was left
abbrev pub ConsumesUpTo : Option (List ℕ) → Option (List ℕ) → ℕ → Type 0
ConsumesUpTo before after most = (bytes : List ℕ) × Consumes before after bytes × (length bytes ≤ most)

-- just this many bytes were taken from the front of what was left
abbrev pub ConsumesExactly : Option (List ℕ) → Option (List ℕ) → ℕ → Type 0
ConsumesExactly before after count = (bytes : List ℕ) × Consumes before after bytes × (length bytes ≡ count)

-- what was written grew by the bytes
abbrev pub Appends : Option (List ℕ) → Option (List ℕ) → List ℕ → Type 0
Appends before after bytes = BothTold before after (λ old new. new ≡ old ++ bytes)

-- what was written grew by a front of the bytes, perhaps by all or by none of them
abbrev pub AppendsPrefix : Option (List ℕ) → Option (List ℕ) → List ℕ → Type 0
AppendsPrefix before after bytes =
    (count : ℕ) × (count ≤ length bytes) × Appends before after (take count bytes)

-- nothing is left, where that is told
abbrev pub IsAtEnd : Option (List ℕ) → Type 0
IsAtEnd left = IfSome left (λ rest. rest ≡ [])

-- what is left is still told where it was told before, and it is nothing
abbrev pub IsReadToEnd : Option (List ℕ) → Option (List ℕ) → Type 0
IsReadToEnd before after = BothTold before after (λ all rest. rest ≡ [])

-- the number of flushed bytes became the number of all written ones, where both are told
abbrev pub Flushes : Option (List ℕ) → Option ℕ → Option ℕ → Type 0
Flushes written before after =
    BothTold before after (λ _ count. IfSome written (λ bytes. count ≡ length bytes))

-- a read gives the front of what was left in the front of the buffer, and none only at the end
abbrev pub GivesBytes : {E : Type 0} → Option (List ℕ) → Option (List ℕ) → Result ℕ E → List ℕ → Type 0
GivesBytes before after result buffer =
    MatchResult result
    (λ n. (n ≤ length buffer) × Consumes before after (take n buffer)
    × (n ≡ 0 → 0 < length buffer → IsAtEnd after))
    (λ _. after ≡ before)

-- a write takes a front of the piece, and nothing where it fails
abbrev pub TakesBytes : {E : Type 0} → Option (List ℕ) → Option (List ℕ) → Result ℕ E → List ℕ → Type 0
TakesBytes before after result piece =
    MatchResult result
    (λ n. (n ≤ length piece) × Appends before after (take n piece))
    (λ _. after ≡ before)
