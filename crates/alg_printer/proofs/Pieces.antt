-- A text that grew by one piece after the other grew by all of them.
use Rattle.std.proofs.Common.{◌≡◌, ℕ, List, ◌++◌, append_assoc, sym, ◌∙◌, ap, Result, Ok, Err}
use Rattle.std.specs.Result.{OnOk}

-- what follows on an `Ok` from what is there on it
pub on_ok : {V E : Type 0} (r : Result V E) (P Q : Type 0) → (P → Q) → OnOk r P → OnOk r Q
on_ok (Ok v) P Q f h = f h
on_ok (Err e) P Q f h = tt

-- the text grew by one more piece
pub more : (old a b w x : List ℕ) → a ≡ old ++ w → b ≡ a ++ x → b ≡ old ++ (w ++ x)
more old a b w x first next = next ∙ ap (λ l. l ++ x) first ∙ append_assoc old w x

-- the text grew by the last piece, and so by all that is wanted
pub grew : {V E : Type 0} (r : Result V E) (old a new w x all : List ℕ) → all ≡ w ++ x → a ≡ old ++ w →
    OnOk r (new ≡ a ++ x) → OnOk r (new ≡ old ++ all)
grew r old a new w x all is first =
    on_ok r (new ≡ a ++ x) (new ≡ old ++ all) (λ h. more old a new w x first h ∙ ap (λ l. old ++ l) (sym is))

-- a piece in front of three
pub in_front : (x y z w : List ℕ) → x ++ (y ++ z ++ w) ≡ x ++ y ++ z ++ w
in_front x y z w = sym (append_assoc x (y ++ z) w) ∙ ap (λ l. l ++ w) (sym (append_assoc x y z))
