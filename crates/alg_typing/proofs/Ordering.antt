-- Lists of numbers that rise by one, and lists with one more item.
use Rattle.std.proofs.Common.{◌≡◌, ◌<◌, ℕ, zero, suc, ◌+◌, List, [], ◌∷◌, ◌++◌, ◌⊎◌, inl, inr, length, map, refl, sym, ap, ◌∙◌, subst, arith}
use Rattle.std.specs.Prelude.{All}
use Rattle.std.proofs.lemmas.List.Elements.{All-head, All-tail, All-cons, All-nil}
use Rattle.alg_terms.specs.Order.{numbers_from}

-- numbers that rise by one, in two pieces
pub numbers-append : (first m n : ℕ) → numbers_from first (m + n) ≡ numbers_from first m ++ numbers_from (first + m) n
numbers-append first zero n =
    let P : ℕ → ℕ → Type 0 = λ f k. numbers_from first k ≡ numbers_from f n in
    let whole : zero + n ≡ n = omega arith in
    let same : first + zero ≡ first = omega arith in
    subst (λ f. P f (zero + n)) (sym same) (subst (λ k. P first k) (sym whole) refl)
numbers-append first (suc m) n =
    let count : suc m + n ≡ suc (m + n) = omega arith in
    let start : first + suc m ≡ suc first + m = omega arith in
    ap (numbers_from first) count
    ∙ ap (λ numbers. first ∷ numbers) (numbers-append (suc first) m n)
    ∙ ap (λ f. first ∷ (numbers_from (suc first) m ++ numbers_from f n)) (sym start)

-- they are below their end
pub numbers_below : (first count : ℕ) → All (λ k. k < first + count) (numbers_from first count)
numbers_below first zero = All-nil (λ k. k < first + zero)
numbers_below first (suc count) =
    let end : suc first + count ≡ first + suc count = omega arith in
    let later = subst (λ e. All (λ k. k < e) (numbers_from (suc first) count)) end (numbers_below (suc first) count) in
    All-cons (λ k. k < first + suc count) first (numbers_from (suc first) count) (omega arith) later

-- what holds of all of them holds at each
pub numbers_each : (P : ℕ → Type 0) (first count : ℕ) → All P (numbers_from first count) → (k : ℕ) → k < count →
    P (first + k)
numbers_each P first zero h k low = absurd (omega arith)
numbers_each P first (suc count) h zero low =
    subst P (omega arith) (All-head P first (numbers_from (suc first) count) h)
numbers_each P first (suc count) h (suc k) low =
    subst P (omega arith) (numbers_each P (suc first) count (All-tail P first (numbers_from (suc first) count) h) k
    (omega arith))

-- two functions that agree on numbers that rise by one give one list
pub numbers_map : {A : Type 0} (f g : ℕ → A) (first count : ℕ) → ((k : ℕ) → k < count → f (first + k) ≡ g (first + k)) →
    map f (numbers_from first count) ≡ map g (numbers_from first count)
numbers_map f g first zero same = refl
numbers_map f g first (suc count) same =
    let here : f first ≡ g first =
    let e : first + 0 ≡ first = omega arith in subst (λ k. f k ≡ g k) e (same 0 (omega arith)) in
    let later = numbers_map f g (suc first) count (λ k low.
    let e : first + suc k ≡ suc first + k = omega arith in
    subst (λ n. f n ≡ g n) e (same (suc k) (omega arith))) in
    ap (λ x. x ∷ map f (numbers_from (suc first) count)) here ∙ ap (λ xs. g first ∷ xs) later

-- an item of a list with one more is the last one, or stands in the list
pub last_or_before : {X : Type 0} (xs before after : List X) (x y : X) → xs ++ x ∷ [] ≡ before ++ (y ∷ after) →
    ((before ≡ xs) × (y ≡ x)) ⊎ ((front : List X) × (xs ≡ before ++ (y ∷ front)))
last_or_before [] [] after x y h = inl (refl, cc)
last_or_before [] (b ∷ []) after x y h = let long = ap length h in absurd (cc)
last_or_before [] (b ∷ c ∷ before) after x y h = absurd (cc)
last_or_before (w ∷ xs) [] after x y h = inr (xs, ap (λ head. head ∷ xs) cc)
last_or_before (w ∷ xs) (b ∷ before) after x y h =
    let tail : xs ++ x ∷ [] ≡ before ++ (y ∷ after) = cc in
    let head : w ≡ b = cc in
    elim (last_or_before xs before after x y tail) [
      | inl (p, q) ↦ inl (cc, q)
      | inr (front, p) ↦ inr (front, ap (λ z. z ∷ xs) head ∙ ap (λ zs. b ∷ zs) p)
    ]
