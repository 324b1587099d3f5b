-- What the machine's rules choose, and the pairs that they form.
use Rattle.std.specs.Prelude.{ℕ, ◌+◌, cond, List, [], ◌∷◌, Option, Some, None, min, max, slice_index_or}
use Rattle.std.specs.List.{find, position_from}
use Rattle.std.specs.BTreeSet.{insert_key}
use Rattle.alg_mono.specs.Outcomes.{is_nothing}
use Rattle.alg_mono.specs.NumberedPolynomials.{Polynomial}
use Rattle.alg_lines.specs.Lines.{line_at}
use Rattle.alg_pairs.specs.Order.{pair_cmp}
use Rattle.alg_pairs.specs.declared.pair.Pair.{Pair}
use Rattle.alg_groebner.specs.Leads.{lead, coprime, reduces}
use Rattle.alg_groebner.specs.Cancelling.{lead_lcm}
use Rattle.alg_groebner.specs.declared.remainder.Remainder.{Remainder}

-- the remainder at a place, from 0
abbrev pub remainder_at : List Remainder → ℕ → Remainder
remainder_at gs r = slice_index_or gs r (record { rest = []; steps = [] })

-- the least power that came to zero
abbrev pub zero_power : List Remainder → Option ℕ
zero_power gs = position_from (λ g. is_nothing g.rest) 1 gs

-- the least basis line whose lead divides that of p
abbrev pub reducer : List Polynomial → List ℕ → Polynomial → Option ℕ
reducer lines basis p = find (λ k. reduces (line_at lines k) p) basis

abbrev pub found_at : ℕ → Option ℕ → Option (ℕ × ℕ) → Option (ℕ × ℕ)
found_at r (Some j) later = Some (r, j)
found_at r None later = later

-- the first remainder that is reducible, by its place from r on, and the least basis line that reduces it
abbrev pub first_reducible : List Polynomial → List ℕ → ℕ → List Remainder → Option (ℕ × ℕ)
first_reducible lines basis r [] = None
first_reducible lines basis r (g ∷ gs) =
    found_at r (reducer lines basis g.rest) (first_reducible lines basis (r + 1) gs)

-- the pair of two lines, the lesser number first, whatever the degree of the least common multiple
unfoldable pub pair_of : List Polynomial → ℕ → ℕ → Pair
pair_of lines i k = record {
  lcm = lead_lcm (line_at lines (min i k)) (line_at lines (max i k));
  j = max i k;
  i = min i k;
}

-- the pair in its place, unless the leads are coprime
unfoldable pub with_pair : List Polynomial → ℕ → ℕ → List Pair → List Pair
with_pair lines i k pairs =
    cond (coprime (lead (line_at lines i)) (lead (line_at lines k))) pairs
    (insert_key pair_cmp pairs (pair_of lines i k))

-- a pair of line k with each of these lines
abbrev pub with_pairs : List Polynomial → ℕ → List ℕ → List Pair → List Pair
with_pairs lines k [] pairs = pairs
with_pairs lines k (i ∷ is) pairs = with_pairs lines k is (with_pair lines i k pairs)
