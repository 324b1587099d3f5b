-- The least line of lists of leads.
use Rattle.std.specs.Prelude.{◌≡◌, ◌≢◌, ℕ, ◌+◌, ◌<◌, ◌≤◌, ◌==◌, Bool, true, false, cond, List, [], ◌∷◌, ◌++◌, Option, Some, None, min, option_map}
use Rattle.std.proofs.Common.{refl, sym, ap, ◌∙◌, arith}
use Rattle.std.proofs.lemmas.Bool.Decides.{nat_tests}
use Rattle.std.specs.declared.cmp.Ordering.TheVariants.{Less, Equal, Greater}
use Rattle.std.specs.List.{find}
use Rattle.std.specs.Ordering.{match_ordering, nat_cmp}
use Rattle.std.specs.BTreeSet.{insert_key}
use Rattle.alg_mono.specs.Mono.{Monomial}
use Rattle.alg_pairs.specs.Leads.{divides, line_cmp, RisesFrom, least_divisor}
use Rattle.alg_pairs.specs.Buckets.{lesser, line_if, least_of, is_there}
use Rattle.alg_pairs.specs.declared.lead.Lead.{Lead}

-- ---- the lesser of two
pub lesser_none : (x : Option ℕ) → lesser x None ≡ x
lesser_none None = refl
lesser_none (Some a) = refl

pub lesser_assoc : (x y z : Option ℕ) → lesser (lesser x y) z ≡ lesser x (lesser y z)
lesser_assoc None y z = refl
lesser_assoc (Some a) None z = refl
lesser_assoc (Some a) (Some b) None = refl
lesser_assoc (Some a) (Some b) (Some c) = ap Some (let e : min (min a b) c ≡ min a (min b c) = omega arith in e)

pub lesser_comm : (x y : Option ℕ) → lesser x y ≡ lesser y x
lesser_comm None y = sym (lesser_none y)
lesser_comm (Some a) None = refl
lesser_comm (Some a) (Some b) = ap Some (let e : min a b ≡ min b a = omega arith in e)

pub lesser_swap : (x y z : Option ℕ) → lesser x (lesser y z) ≡ lesser y (lesser x z)
lesser_swap x y z = sym (lesser_assoc x y z) ∙ ap (λ w. lesser w z) (lesser_comm x y) ∙ lesser_assoc y x z

-- ---- one more lead
pub least_of-append : (m : Monomial) (xs : List Lead) (x : Lead) →
    least_of m (xs ++ x ∷ []) ≡ lesser (line_if m x) (least_of m xs)
least_of-append m [] x = refl
least_of-append m (y ∷ xs) x =
    ap (lesser (line_if m y)) (least_of-append m xs x) ∙ lesser_swap (line_if m y) (line_if m x) (least_of m xs)

equal_lines : (a b : ℕ) → nat_cmp a b ≡ Equal → b ≡ a
equal_lines a b e = grind arith

less_lines : (a b : ℕ) → nat_cmp a b ≡ Less → (a + 1) ≤ b
less_lines a b e = grind arith

greater_lines : (a b : ℕ) → nat_cmp a b ≡ Greater → (b + 1) ≤ a
greater_lines a b e = grind arith

not_equal : (a b : ℕ) → (a == b) ≡ false → b ≢ a
not_equal a b e = let n = equal_test a b e in λ h. n (sym h)
  where
    equal_test : (a b : ℕ) → (a == b) ≡ false → a ≢ b
    equal_test a b e = grind (arith, nat_tests)

pub least_of-insert : (m : Monomial) (xs : List Lead) (x : Lead) → is_there x.line xs ≡ false →
    least_of m (insert_key line_cmp xs x) ≡ lesser (line_if m x) (least_of m xs)
least_of-insert m [] x h = refl
least_of-insert m (y ∷ xs) x h =
    let other = first_other (y.line == x.line) (is_there x.line xs) h in
    elim (nat_cmp x.line y.line) as (λ o. nat_cmp x.line y.line ≡ o →
    least_of m (match_ordering o (x ∷ y ∷ xs) (y ∷ xs) (y ∷ insert_key line_cmp xs x))
    ≡ lesser (line_if m x) (least_of m (y ∷ xs))) [
      | Less ↦ λ e. refl
      | Equal ↦ λ e. absurd (not_equal y.line x.line other.0 (sym (equal_lines x.line y.line e)))
      | Greater ↦ λ e. ap (lesser (line_if m y)) (least_of-insert m xs x other.1)
          ∙ lesser_swap (line_if m y) (line_if m x) (least_of m xs)
    ] refl
  where
    first_other : (t u : Bool) → cond t true u ≡ false → (t ≡ false) × (u ≡ false)
    first_other true u e = absurd (let f : true ≡ false = e in grind arith)
    first_other false u e = (refl, e)

-- ---- a line that is there
from_start : (n k : ℕ) (xs : List Lead) → RisesFrom k xs → is_there n xs ≡ true → k ≤ n
from_start n k [] r h = absurd (let f : false ≡ true = h in grind arith)
from_start n k (x ∷ xs) r h =
    let low = r.0 in
    elim (x.line == n) as (λ t. (x.line == n) ≡ t → cond t true (is_there n xs) ≡ true → k ≤ n) [
      | true ↦ λ e _. let same = equal_there x.line n e in omega arith
      | false ↦ λ e g. let further = from_start n (x.line + 1) xs r.1 g in omega arith
    ] refl h
  where
    equal_there : (a b : ℕ) → (a == b) ≡ true → a ≡ b
    equal_there a b e = grind (arith, nat_tests)

pub unchanged : (k : ℕ) (xs : List Lead) (x : Lead) → RisesFrom k xs → is_there x.line xs ≡ true →
    xs ≡ insert_key line_cmp xs x
unchanged k [] x r h = absurd (let f : false ≡ true = h in grind arith)
unchanged k (y ∷ xs) x r h =
    elim (y.line == x.line) as (λ t. (y.line == x.line) ≡ t → cond t true (is_there x.line xs) ≡ true →
    y ∷ xs ≡ match_ordering (nat_cmp x.line y.line) (x ∷ y ∷ xs) (y ∷ xs) (y ∷ insert_key line_cmp xs x)) [
      | true ↦ λ e _. ap (λ o. match_ordering o (x ∷ y ∷ xs) (y ∷ xs) (y ∷ insert_key line_cmp xs x))
          (sym (equal_cmp y.line x.line e))
      | false ↦ λ e g.
          let further = from_start x.line (y.line + 1) xs r.1 g in
          ap (λ (zs : List Lead). y ∷ zs) (unchanged (y.line + 1) xs x r.1 g)
          ∙ ap (λ o. match_ordering o (x ∷ y ∷ xs) (y ∷ xs) (y ∷ insert_key line_cmp xs x))
          (sym (greater_cmp x.line y.line further))
    ] refl h
  where
    equal_cmp : (a b : ℕ) → (a == b) ≡ true → nat_cmp b a ≡ Equal
    equal_cmp a b e = grind (arith, nat_tests)

    greater_cmp : (a b : ℕ) → (b + 1) ≤ a → nat_cmp a b ≡ Greater
    greater_cmp a b e = grind arith

pub rises-insert : (n : ℕ) (xs : List Lead) (x : Lead) → n ≤ x.line → RisesFrom n xs →
    RisesFrom n (insert_key line_cmp xs x)
rises-insert n [] x l r = (l, tt)
rises-insert n (y ∷ xs) x l r =
    elim (nat_cmp x.line y.line) as (λ o. nat_cmp x.line y.line ≡ o →
    RisesFrom n (match_ordering o (x ∷ y ∷ xs) (y ∷ xs) (y ∷ insert_key line_cmp xs x))) [
      | Less ↦ λ e. (l, (less_lines x.line y.line e, r.1))
      | Equal ↦ λ e. r
      | Greater ↦ λ e. (r.0, rises-insert (y.line + 1) xs x (greater_lines x.line y.line e) r.1)
    ] refl

-- ---- the first of rising lines is the least
beyond : (m : Monomial) (k n : ℕ) (xs : List Lead) → k < n → RisesFrom n xs →
    lesser (Some k) (least_of m xs) ≡ Some k
beyond m k n [] l r = refl
beyond m k n (x ∷ xs) l r =
    let low = r.0 in
    let rest = beyond m k (x.line + 1) xs (omega arith) r.1 in
    elim (divides x.lead m) as (λ t. lesser (Some k) (lesser (cond t (Some x.line) None) (least_of m xs)) ≡ Some k) [
      | true ↦
          let least : min k x.line ≡ k = omega arith in
          sym (lesser_assoc (Some k) (Some x.line) (least_of m xs))
          ∙ ap (λ a. lesser (Some a) (least_of m xs)) least ∙ rest
      | false ↦ rest
    ]

pub first_is_least : (m : Monomial) (n : ℕ) (xs : List Lead) → RisesFrom n xs →
    least_of m xs ≡ least_divisor xs m
first_is_least m n [] r = refl
first_is_least m n (x ∷ xs) r =
    elim (divides x.lead m) as (λ t. lesser (cond t (Some x.line) None) (least_of m xs)
    ≡ option_map (λ (x : Lead). x.line) (cond t (Some x) (find (λ (x : Lead). divides x.lead m) xs))) [
      | true ↦ beyond m x.line (x.line + 1) xs (omega arith) r.1
      | false ↦ first_is_least m (x.line + 1) xs r.1
    ]
