-- What holds of the constants of a good certificate holds of each number by which it divides.
use Rattle.std.specs.Prelude.{◌≡◌, ℤ, pos, Bool, true, false, cond, List, [], ◌∷◌, All, map, ◌≤ℤ◌, ◌<ℤ◌}
use Rattle.std.proofs.Common.{refl, sym, subst, ◌∙◌, arith}
use Rattle.std.proofs.lemmas.Int.{ints}
use Rattle.std.proofs.lemmas.List.Elements.{All-nil, All-cons, All-head, All-tail}
use Rattle.std.specs.declared.cmp.Ordering.TheVariants.{Less, Equal, Greater}
use Rattle.std.specs.Ordering.{int_cmp, is_lt, match_ordering, MatchOrdering}
use Rattle.std.specs.Cmp.{int_ranks}
use Rattle.std.specs.FinMap.{int_cmp-IsAntisymmetric}
use Rattle.std.specs.BTreeSet.{insert_key}
use Rattle.alg_lines.specs.declared.cert.Line.{Line}
use Rattle.alg_lines.specs.declared.cert.GoalStep.{GoalStep}
use Rattle.alg_lines.specs.declared.cert.Cert.{Cert}
use Rattle.alg_lines.specs.Constants.{added, constants}
use Rattle.alg_lines.proofs.Added.{added-append}

-- P of each number above 1
abbrev Above : (ℤ → Type 0) → ℤ → Type 0
Above P c = is_lt (int_cmp (pos 1) c) ≡ true → P c

module _ (P : ℤ → Type 0) where
  inserted : (set : List ℤ) (c : ℤ) → All P (insert_key int_cmp set c) → P c × All P set
  inserted [] c h = (All-head P c [] h, All-nil P)
  inserted (x ∷ xs) c h =
      elim (int_cmp c x) as (λ r. int_cmp c x ≡ r →
      All P (match_ordering r (c ∷ x ∷ xs) (x ∷ xs) (x ∷ insert_key int_cmp xs c)) → P c × All P (x ∷ xs)) [
        | Less ↦ λ e f. (All-head P c (x ∷ xs) f, All-tail P c (x ∷ xs) f)
        | Equal ↦ λ e f. (subst P (sym (int_cmp-IsAntisymmetric c x e)) (All-head P x xs f), f)
        | Greater ↦ λ e f.
            let rest = inserted xs c (All-tail P x (insert_key int_cmp xs c) f) in
            (rest.0, All-cons P x xs (All-head P x (insert_key int_cmp xs c) f) rest.1)
      ] refl h

  put_in : (set : List ℤ) (c : ℤ) (b : Bool) → is_lt (int_cmp (pos 1) c) ≡ b →
      All P (cond b (insert_key int_cmp set c) set) → Above P c × All P set
  put_in set c true e h = let both = inserted set c h in ((λ _. both.0), both.1)
  put_in set c false e h = ((λ f. absurd (apart (sym f ∙ e))), h)
    where
      apart : true ≡ false → ⊥
      apart e = cc

  all_added : (set cs : List ℤ) → All P (added set cs) → All P set × All (Above P) cs
  all_added set [] h = (h, All-nil (Above P))
  all_added set (c ∷ cs) h =
      let rest = all_added (cond (is_lt (int_cmp (pos 1) c)) (insert_key int_cmp set c) set) cs h in
      let first = put_in set c (is_lt (int_cmp (pos 1) c)) refl rest.0 in
      (first.1, All-cons (Above P) c cs first.0 rest.1)

  module _ (one : P (pos 1)) where
    from_one : (c : ℤ) → pos 1 ≤ℤ c → Above P c → P c
    from_one c h f =
        elim (int_cmp (pos 1) c) as (λ r. int_cmp (pos 1) c ≡ r → (is_lt r ≡ true → P c) → P c) [
          | Less ↦ λ e g. g refl
          | Equal ↦ λ e g. subst P (int_cmp-IsAntisymmetric (pos 1) c e) one
          | Greater ↦ λ e g. absurd (above c h e)
        ] refl f
      where
        above : (c : ℤ) → pos 1 ≤ℤ c → int_cmp (pos 1) c ≡ Greater → ⊥
        above c h e =
            let k : c <ℤ pos 1 =
            subst (λ o. MatchOrdering o (pos 1 <ℤ c) (pos 1 ≡ c) (c <ℤ pos 1)) e (int_ranks (pos 1) c) in
            omega (arith, ints)

    module _ {A : Type 0} (f : A → ℤ) where
      each : (xs : List A) → All (λ x. pos 1 ≤ℤ f x) xs → All (Above P) (map f xs) → All (λ x. P (f x)) xs
      each [] h g = All-nil (λ x. P (f x))
      each (x ∷ xs) h g =
          All-cons (λ y. P (f y)) x xs
          (from_one (f x) (All-head (λ y. pos 1 ≤ℤ f y) x xs h) (All-head (Above P) (f x) (map f xs) g))
          (each xs (All-tail (λ y. pos 1 ≤ℤ f y) x xs h) (All-tail (Above P) (f x) (map f xs) g))

      every_one : ((c : ℤ) → pos 1 ≤ℤ c → P c) → (xs : List A) → All (λ x. pos 1 ≤ℤ f x) xs → All (λ x. P (f x)) xs
      every_one every [] h = All-nil (λ x. P (f x))
      every_one every (x ∷ xs) h =
          All-cons (λ y. P (f y)) x xs (every (f x) (All-head (λ y. pos 1 ≤ℤ f y) x xs h))
          (every_one every xs (All-tail (λ y. pos 1 ≤ℤ f y) x xs h))

    -- P of each d of the lines and each a of the steps
    pub constants_suffice : (cert : Cert) → All (λ l. pos 1 ≤ℤ l.d) cert.lines → All (λ s. pos 1 ≤ℤ s.a) cert.steps →
        (char0 : Bool) → (char0 ≡ true → (c : ℤ) → pos 1 ≤ℤ c → P c) → All P (constants cert char0) →
        All (λ l. P l.d) cert.lines × All (λ s. P s.a) cert.steps
    constants_suffice cert lines steps true every h = (
      every_one (λ (l : Line). l.d) (every refl) cert.lines lines,
      every_one (λ (s : GoalStep). s.a) (every refl) cert.steps steps,
    )
    constants_suffice cert lines steps false every h =
        let divisors = map (λ (l : Line). l.d) cert.lines in
        let factors = map (λ (s : GoalStep). s.a) cert.steps in
        let second = all_added (added [] divisors) factors (subst (All P) (added-append [] divisors factors) h) in
        let first = all_added [] divisors second.0 in
        (each (λ (l : Line). l.d) cert.lines lines first.1, each (λ (s : GoalStep). s.a) cert.steps steps second.1)
