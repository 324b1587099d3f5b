-- What holds of a value, where there is one, and of none.
use Rattle.std.proofs.Common.{◌≡◌, ◌≢◌, Option, None, Some, Result, Ok, Err, IfOk, refl}

-- what is known of the value of a success is known in other words
pub ok_maps : {A E : Type 0} (P Q : A → Type 0) → ((a : A) → P a → Q a) → (r : Result A E) → IfOk r P → IfOk r Q
ok_maps P Q f (Ok a) h = f a h
ok_maps P Q f (Err e) h = tt

-- an option without a value
pub is_none : {A : Type 0} (o : Option A) → ((a : A) → o ≢ Some a) → o ≡ None
is_none None other = refl
is_none (Some a) other = absurd (other a refl)
