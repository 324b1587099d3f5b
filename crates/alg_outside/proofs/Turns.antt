-- A further turn: what two calls in a row take from a source, or give to a sink.
use Rattle.std.proofs.Common.{◌≡◌, ℕ, ◌+◌, ◌-◌, List, length, take, drop, ◌++◌, ap, sym, ◌∙◌, append_assoc}
use Rattle.std.proofs.lemmas.List.{take_rest}
use Rattle.std.proofs.Math.Seq.{take-add}
use Rattle.std.specs.Prelude.{Option, Some, None}
use Rattle.alg_outside.specs.Bytes.{Consumes, Appends}

-- the bytes of two reads are those of the first and then those of the second
pub consumes_more : (a b c : Option (List ℕ)) (bytes more : List ℕ)
    → Consumes a b bytes → Consumes b c more → Consumes a c (bytes ++ more)
consumes_more None None None bytes more p q = tt
consumes_more None None (Some z) bytes more p q = q
consumes_more None (Some y) c bytes more p q = absurd p
consumes_more (Some x) None c bytes more p q = absurd p
consumes_more (Some x) (Some y) None bytes more p q = q
consumes_more (Some x) (Some y) (Some z) bytes more p q = p ∙ ap (λ r. bytes ++ r) q ∙ sym (append_assoc bytes more z)

-- the bytes of two writes are those of the first and then those of the second
pub appends_more : (a b c : Option (List ℕ)) (bytes more : List ℕ)
    → Appends a b bytes → Appends b c more → Appends a c (bytes ++ more)
appends_more None None None bytes more p q = tt
appends_more None None (Some z) bytes more p q = q
appends_more None (Some y) c bytes more p q = absurd p
appends_more (Some x) None c bytes more p q = absurd p
appends_more (Some x) (Some y) None bytes more p q = q
appends_more (Some x) (Some y) (Some z) bytes more p q = q ∙ ap (λ r. r ++ more) p ∙ append_assoc x bytes more

-- the front of the bytes and a piece of those after it are a longer front
pub longer_prefix : (bytes : List ℕ) (i n : ℕ)
    → take i bytes ++ take n (take (length bytes - i) (drop i bytes)) ≡ take (i + n) bytes
longer_prefix bytes i n = ap (λ w. take i bytes ++ take n w) (take_rest bytes i) ∙ sym (take-add i n bytes)
