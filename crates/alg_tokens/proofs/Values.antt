-- The value of digits, read one after the other.
use Rattle.std.proofs.Common.{◌≡◌, ◌≤◌, ◌<◌, ℕ, zero, suc, ◌+◌, ◌-◌, ◌*◌, ◌^◌, List, [], ◌∷◌, length, drop, get_or, ◌∙◌, arith}
use Rattle.std.proofs.Math.Nat.{pow-suc}
use Rattle.std.proofs.lemmas.List.{at_drop_more}
use Rattle.alg_tokens.specs.Pieces.{value_of}

-- the value of some digits after which others stand
abbrev pub value_with : ℕ → List ℕ → ℕ
value_with n rest = n * 10 ^ length rest + value_of rest

power_some : (k : ℕ) → 1 ≤ 10 ^ k
power_some zero = omega arith
power_some (suc k) = let one = power_some k in let more = pow-suc 10 k in omega arith

shifted : (n e p q v : ℕ) → q ≡ p * 10 → n * q + (e * p + v) ≡ (n * 10 + e) * p + v
shifted n e p q v h = rw h (omega arith)

shift : (n d : ℕ) (rest : List ℕ) → value_with n (d ∷ rest) ≡ value_with (n * 10 + (d - 48)) rest
shift n d rest = shifted n (d - 48) (10 ^ length rest) (10 ^ suc (length rest)) (value_of rest) (pow-suc 10
    (length rest))

-- the next digit is taken
pub one_digit : (digits : List ℕ) (at n : ℕ) → at < length digits → value_with n (drop at digits) ≡ value_with
    (n * 10 + (get_or digits at 0 - 48)) (drop (at + 1) digits)
one_digit digits at n within = at_drop_more (value_with n) digits at 0 within ∙ shift n (get_or digits at 0)
    (drop (at + 1) digits)

grown : (n p v : ℕ) → 1 ≤ p → n ≤ n * p + v
grown n p v one = grind arith

-- digits that follow make a value no smaller
pub value_grows : (n : ℕ) (rest : List ℕ) → n ≤ value_with n rest
value_grows n rest = grown n (10 ^ length rest) (value_of rest) (power_some (length rest))

-- with one digit more it is at least ten times as great
pub value_grows_more : (n : ℕ) (rest : List ℕ) → 0 < length rest → n * 10 ≤ value_with n rest
value_grows_more n [] some = absurd (omega arith)
value_grows_more n (d ∷ rest) some = let more = value_grows (n * 10 + (d - 48)) rest in let same =
    shift n d rest in omega arith
