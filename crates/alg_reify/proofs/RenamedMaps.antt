-- Finite maps with their keys renamed, where each key comes back: quotients and least common multiples.
use Rattle.std.specs.Prelude.{◌≡◌, ℕ, ◌+◌, ◌-◌, ◌*◌, Bool, true, false, cond, ◌&&◌, List, [], ◌∷◌}
use Rattle.std.proofs.Common.{refl, sym, ap, subst, ◌∙◌, arith, T}
use Rattle.std.specs.declared.cmp.Ordering.{Ordering}
use Rattle.std.specs.Ordering.{is_eq, eq_by_cmp}
use Rattle.std.specs.Cmp.{IsTotalOrder, tied_itself}
use Rattle.std.specs.FinMap.{IsAntisymmetric}
use Rattle.alg_mono.specs.FiniteMaps.{IsCanonical, Each, amount, rename, renamed, collect, at_key}
use Rattle.alg_mono.specs.Numbers.{exponents}
use Rattle.alg_mono.specs.Monomials.{exponent, mono_over, mono_power, mono_times, lcm, lowered, scaled}
use Rattle.alg_mono.proofs.Totals.{IsAdditive, total-collect, total-renamed}
use Rattle.alg_mono.proofs.Numbers.{exponent_laws, natural_laws}
use Rattle.alg_mono.proofs.Canonical.{same_canonical, at_key_adds, amount-collect, amount-total, IsCanonical-collect, equal}
use Rattle.alg_mono.proofs.Each.{Each-collect}
use Rattle.alg_mono.proofs.Lcm.{Each-lowered, exponent-mono_over}
use Rattle.alg_mono.proofs.Renaming.{rename-plus}

-- each exponent n times, and the keys renamed
renamed-scaled : {K L : Type 0} (f : K → L) (n : ℕ) (m : List (K × ℕ)) → renamed f (scaled n m) ≡ scaled n (renamed f m)
renamed-scaled f n [] = refl
renamed-scaled f n (e ∷ m) = ap (λ r. (f e.0, e.1 * n) ∷ r) (renamed-scaled f n m)

-- the exponent of a key in a list with each exponent n times
pub exponent-scaled : {K : Type 0} (cmp : K → K → Ordering) (k : K) (n : ℕ) (m : List (K × ℕ)) →
    amount cmp exponents k (scaled n m) ≡ amount cmp exponents k m * n
exponent-scaled cmp k n [] = omega arith
exponent-scaled cmp k n (e ∷ m) =
    here n (eq_by_cmp cmp k e.0) e.1 (amount cmp exponents k (scaled n m)) (amount cmp exponents k m)
    (exponent-scaled cmp k n m)
  where
    here : (n : ℕ) (t : Bool) (x a b : ℕ) → a ≡ b * n → cond t (x * n) 0 + a ≡ (cond t x 0 + b) * n
    here n true x a b h = omega (arith, h)
    here n false x a b h = omega (arith, h)

-- the power of a map with its keys renamed is the power of the renamed map
module _ {K L : Type 0} {ck : K → K → Ordering} {cl : L → L → Ordering} (ak : IsAntisymmetric ck)
    (ol : IsTotalOrder cl) (al : IsAntisymmetric cl) (f : K → L) where
  -- the sum at the images does not see whether a list was collected
  image_adds : (l : L) → IsAdditive exponents 0 ◌+◌ (λ k a. at_key cl exponents l (f k) a)
  image_adds l =
      let H = at_key_adds {cmp = cl} exponent_laws ol al l in
      record { at_none = λ k. H.at_none (f k); at_plus = λ k a b. H.at_plus (f k) a b }

  exponent-image : (l : L) (m : List (K × ℕ)) →
      amount cl exponents l (renamed f (collect ck exponents m)) ≡ amount cl exponents l (renamed f m)
  exponent-image l m =
      let h = at_key cl exponents l in
      amount-total exponent_laws ol al l (renamed f (collect ck exponents m))
      ∙ total-renamed f 0 ◌+◌ h (collect ck exponents m)
      ∙ total-collect exponent_laws ak exponent_laws.laws (image_adds l) m
      ∙ sym (total-renamed f 0 ◌+◌ h m) ∙ sym (amount-total exponent_laws ol al l (renamed f m))

  pub rename-power : (n : ℕ) (m : List (K × ℕ)) →
      rename cl exponents f (mono_power ck m n) ≡ mono_power cl (rename cl exponents f m) n
  rename-power n m =
      same_canonical exponent_laws ol al (rename cl exponents f (mono_power ck m n))
      (mono_power cl (rename cl exponents f m) n)
      (IsCanonical-collect exponent_laws ol al (renamed f (mono_power ck m n)))
      (IsCanonical-collect exponent_laws ol al (scaled n (rename cl exponents f m)))
      (λ l. amount-collect exponent_laws ol al l (renamed f (mono_power ck m n)) ∙ exponent-image l (scaled n m)
      ∙ ap (amount cl exponents l) (renamed-scaled f n m) ∙ exponent-scaled cl l n (renamed f m)
      ∙ ap (λ x. x * n) (sym (amount-collect exponent_laws ol al l (renamed f m)))
      ∙ sym (exponent-scaled cl l n (rename cl exponents f m))
      ∙ sym (amount-collect exponent_laws ol al l (scaled n (rename cl exponents f m))))

module _ {K L : Type 0} {ck : K → K → Ordering} {cl : L → L → Ordering} (ok : IsTotalOrder ck)
    (ak : IsAntisymmetric ck) (ol : IsTotalOrder cl) (al : IsAntisymmetric cl) (f : K → L) (g : L → K) where
  -- the key comes back
  abbrev pub Back : K → Type 0
  Back k = g (f k) ≡ k

  equals : {X : Type 0} {c : X → X → Ordering} → IsTotalOrder c → (x y : X) → x ≡ y → eq_by_cmp c x y ≡ true
  equals {c = c} t x y e = subst (λ z. eq_by_cmp c x z ≡ true) e (ap is_eq (tied_itself t x))

  -- a key of L is the image of k exactly where it is an image and k is what it comes from
  image_test : (l : L) (k : K) → Back k →
      eq_by_cmp cl l (f k) ≡ eq_by_cmp cl l (f (g l)) && eq_by_cmp ck (g l) k
  image_test l k back =
      elim (eq_by_cmp cl l (f k)) as (λ s. eq_by_cmp cl l (f k) ≡ s →
      s ≡ eq_by_cmp cl l (f (g l)) && eq_by_cmp ck (g l) k) [
        | true ↦ λ e.
            let is : l ≡ f k = al l (f k) (equal _ (subst T (sym e) tt)) in
            let from : g l ≡ k = ap g is ∙ back in
            sym (λ i. equals ol l (f (g l)) (is ∙ ap f (sym from)) i && equals ok (g l) k from i)
        | false ↦ λ e.
            elim (eq_by_cmp cl l (f (g l))) as (λ t. eq_by_cmp cl l (f (g l)) ≡ t →
            false ≡ t && eq_by_cmp ck (g l) k) [
              | true ↦ λ t.
                  elim (eq_by_cmp ck (g l) k) as (λ u. eq_by_cmp ck (g l) k ≡ u → false ≡ u) [
                    | true ↦ λ u.
                        let is : l ≡ f (g l) = al l (f (g l)) (equal _ (subst T (sym t) tt)) in
                        let from : g l ≡ k = ak (g l) k (equal _ (subst T (sym u) tt)) in
                        sym e ∙ equals ol l (f k) (is ∙ ap f from)
                    | false ↦ λ u. refl
                  ] refl
              | false ↦ λ t. refl
            ] refl
      ] refl

  -- an exponent in the renamed map is that of what the key comes from, if it is an image
  pub exponent-rename : (l : L) (m : List (K × ℕ)) → Each Back m →
      exponent cl l (rename cl exponents f m) ≡ cond (eq_by_cmp cl l (f (g l))) (exponent ck (g l) m) 0
  exponent-rename l m back = amount-collect exponent_laws ol al l (renamed f m) ∙ in_list m back
    where
      either : (t : Bool) (n : ℕ) → n ≡ cond t n n
      either true n = refl
      either false n = refl

      both : (s t u : Bool) (n a b : ℕ) → s ≡ t && u → a ≡ cond t b 0 → cond s n 0 + a ≡ cond t (cond u n 0 + b) 0
      both s true true n a b e i = rw e (ap (λ x. n + x) i)
      both s true false n a b e i = rw e (ap (λ x. 0 + x) i)
      both s false u n a b e i = rw e (omega (arith, i))

      in_list : (m : List (K × ℕ)) → Each Back m →
          exponent cl l (renamed f m) ≡ cond (eq_by_cmp cl l (f (g l))) (exponent ck (g l) m) 0
      in_list [] back = either (eq_by_cmp cl l (f (g l))) 0
      in_list (e ∷ m) back =
          both (eq_by_cmp cl l (f e.0)) (eq_by_cmp cl l (f (g l))) (eq_by_cmp ck (g l) e.0) e.1
          (exponent cl l (renamed f m)) (exponent ck (g l) m) (image_test l e.0 back.0) (in_list m back.1)

  -- what one map has beyond another
  pub rename-over : (m d : List (K × ℕ)) → IsCanonical ck exponents m → Each Back m → Each Back d →
      rename cl exponents f (mono_over ck m d) ≡
      mono_over cl (rename cl exponents f m) (rename cl exponents f d)
  rename-over m d c bm bd =
      let over = mono_over ck m d in
      let fm = rename cl exponents f m in
      let fd = rename cl exponents f d in
      same_canonical exponent_laws ol al (rename cl exponents f over) (mono_over cl fm fd)
      (IsCanonical-collect exponent_laws ol al (renamed f over))
      (IsCanonical-collect exponent_laws ol al (lowered cl fd fm)) (λ l.
      exponent-rename l over
      (Each-collect ck exponents Back (lowered ck d m) (Each-lowered ck Back d m bm))
      ∙ less (eq_by_cmp cl l (f (g l))) (exponent ck (g l) over) (exponent ck (g l) m) (exponent ck (g l) d) _ _
      (exponent-mono_over ok ak (g l) m d c) (exponent-rename l m bm) (exponent-rename l d bd)
      ∙ sym (exponent-mono_over ol al l fm fd (IsCanonical-collect exponent_laws ol al (renamed f m))))
    where
      less : (t : Bool) (x m d fm fd : ℕ) → x ≡ m - d → fm ≡ cond t m 0 → fd ≡ cond t d 0 → cond t x 0 ≡ fm - fd
      less true x m d fm fd e p q = omega arith
      less false x m d fm fd e p q = omega arith

  -- and the greater exponents of both
  pub rename-lcm : (a b : List (K × ℕ)) → IsCanonical ck exponents b → Each Back a → Each Back b →
      rename cl exponents f (lcm ck a b) ≡ lcm cl (rename cl exponents f a) (rename cl exponents f b)
  rename-lcm a b c ba bb =
      rename-plus natural_laws ak ol al f a (mono_over ck b a)
      ∙ ap (λ r. mono_times cl (rename cl exponents f a) r) (rename-over b a c bb ba)
