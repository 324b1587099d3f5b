-- The run of characters that a search for another character finds.
use Rattle.std.proofs.Common.{◌≡◌, ℕ, Bool, true, false, not, List, length, drop, refl, arith, subst, Some, sym}
use Rattle.std.proofs.Math.Seq.{take-length}
use Rattle.std.proofs.lemmas.Str.{IsCharBoundary-end}
use Rattle.std.specs.Str.{NoCharPasses, IsCharBoundary}
use Rattle.std.specs.Str.Pattern.{FindsBy}
use Rattle.alg_tokens.specs.Runs.{IsRun}

not_is_true : (b : Bool) → not b ≡ true → b ≡ false
not_is_true true h = cc
not_is_true false h = refl

-- no character ends the run
pub run_to_end : (test : ℕ → Bool) (text : List ℕ) → NoCharPasses (λ c. not (test c)) text → IsRun test text
    (length text)
run_to_end test text all = record {
  within = omega arith;
  front = let P : List ℕ → Type 0 = λ bs. NoCharPasses (λ c. not (test c)) bs in subst P (sym (take-length text)) all;
  stops = λ h. absurd (omega arith);
  boundary = IsCharBoundary-end text;
}

-- a character does
pub run_to_char : (test : ℕ → Bool) (text : List ℕ) (i j : ℕ) → FindsBy (λ c. not (test c)) text (Some (i, j))
    → IsCharBoundary text i → IsRun test text i
run_to_char test text i j found boundary = record {
  within = boundary.0;
  front = found.0;
  stops = λ _. (found.1.0, drop j text, found.1.2.split, not_is_true (test found.1.0) found.1.1);
  boundary = boundary;
}
