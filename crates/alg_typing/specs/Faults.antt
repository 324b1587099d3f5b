-- Faults and which of them comes first.
use Rattle.std.specs.Prelude.{ℕ, Bool, ◌||◌, ◌&&◌, ◌==◌, nat_lt, if◌then◌else◌, List, [], ◌∷◌, Option, None, Some}
use Rattle.alg_tokens.specs.declared.code.Code.{Code}
use Rattle.alg_tokens.specs.declared.token.Refusal.{Refusal}
use Rattle.alg_tokens.specs.Codes.{fault_at}

-- a fault at a byte, where there is one
abbrev pub fault_if : Bool → Code → ℕ → List Refusal
fault_if there code at = if there then fault_at code at ∷ [] else []

-- the first stands before the second: at a lesser byte, or at the same byte with a lesser code
abbrev pub comes_before : Refusal → Refusal → Bool
comes_before f g = nat_lt f.at g.at || ((f.at == g.at) && nat_lt f.code g.code)

-- of two, the one that comes first
abbrev pub earlier : Refusal → Option Refusal → Refusal
earlier f None = f
earlier f (Some g) = if comes_before g f then g else f

-- the first of several faults, and none where there are none
abbrev pub first_of : List Refusal → Option Refusal
first_of [] = None
first_of (f ∷ faults) = Some (earlier f (first_of faults))

-- of two, where there are any, the one that comes first
abbrev pub earlier_of : Option Refusal → Option Refusal → Option Refusal
earlier_of None g = g
earlier_of (Some f) g = Some (earlier f g)
