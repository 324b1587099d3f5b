-- Where an atom stands in a list of pairs, or would go.
use Rattle.std.specs.Prelude.{◌≡◌, ℕ, ◌<◌, ◌≤◌, length, slice_index_or}
use Rattle.alg_mono.specs.Mono.{Monomial}

-- the atom of the pair at place i
abbrev pub atom_at : Monomial → ℕ → ℕ
atom_at m i = let pair = slice_index_or m i (0, 0) in pair.0

-- the pair at place i has the atom
pub record IsAt (m : Monomial) (atom i : ℕ) : Type 0 where
  pub in_range : i < length m
  pub has_atom : atom_at m i ≡ atom

-- the atom would go at place i: lesser atoms before it, and greater atoms from it on
pub record IsGapFor (m : Monomial) (atom i : ℕ) : Type 0 where
  pub in_range : i ≤ length m
  pub lesser_before : (j : ℕ) → j < i → atom_at m j < atom
  pub greater_after : (j : ℕ) → i ≤ j → j < length m → atom < atom_at m j
