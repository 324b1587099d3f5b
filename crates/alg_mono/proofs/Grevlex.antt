-- The computed order is grevlex in its own words, and a product keeps it.
use Rattle.std.specs.Prelude.{◌≡◌, ℕ, ◌+◌, ◌<◌, cond, not, List, [], ◌∷◌, ◌++◌, reverse, ◌==◌}
use Rattle.std.proofs.Common.{refl, sym, ap, subst, ◌∙◌, T, arith, add_assoc, zero-add, ◌⊎◌, inl, inr}
use Rattle.std.proofs.lemmas.List.{reverse-append}
use Rattle.std.specs.declared.cmp.Ordering.{Ordering}
use Rattle.std.specs.declared.cmp.Ordering.TheVariants.{Less, Equal, Greater}
use Rattle.std.specs.Ordering.{is_lt, is_eq, ordering_reverse, ordering_then, eq_by_cmp, nat_cmp, flip_args, MatchOrdering}
use Rattle.std.specs.Cmp.{IsTotalOrder, back_total, tied_itself, ranks}
use Rattle.std.specs.Cmp.Lexicographic.{slice_cmp}
use Rattle.std.specs.FinMap.{IsAntisymmetric}
use Rattle.std.specs.FinMap.Entries.{below_all, is_sorted}
use Rattle.alg_mono.specs.FiniteMaps.{IsCanonical, all_some}
use Rattle.alg_mono.specs.Numbers.{exponents}
use Rattle.alg_mono.specs.Monomials.{mono_times, exponent, entry_cmp, degree, grevlex, falling}
use Rattle.alg_mono.specs.Grevlex.{DiffersLast, IsBelow}
use Rattle.alg_mono.proofs.Numbers.{exponent_laws}
use Rattle.alg_mono.proofs.Canonical.{below_less, IsCanonical-collect, both, first, second, less}
use Rattle.alg_mono.proofs.Monomials.{grevlex_total, grevlex_anti, exponent-mono_times, degree-mono_times}

not_less : {P : Type 0} (r : Ordering) → T (not (is_lt r)) → r ≡ Less → P
not_less r h e = absurd (subst (λ x. T (not (is_lt x))) e h)

module _ {K : Type 0} {cmp : K → K → Ordering} (o : IsTotalOrder cmp) (anti : IsAntisymmetric cmp) where
  abbrev Falls : List (K × ℕ) → Type 0
  Falls xs = T (is_sorted (flip_args cmp) xs)

  above_zero : (q : K) (es : List (K × ℕ)) → T (below_all (flip_args cmp) q es) → exponent cmp q es ≡ 0
  above_zero q [] h = refl
  above_zero q (e ∷ es) h =
      ap (λ r. cond (is_eq r) e.1 0 + exponent cmp q es) (o.antisymm q e.0
      ∙ ap ordering_reverse (less (cmp e.0 q) (first _ _ h))) ∙ zero-add (exponent cmp q es)
      ∙ above_zero q es (second _ _ h)

  beyond : (q : K) (x : K × ℕ) (xs : List (K × ℕ)) → cmp x.0 q ≡ Less → Falls (x ∷ xs) → exponent cmp q (x ∷ xs) ≡ 0
  beyond q x xs p h =
      above_zero q (x ∷ xs) (both _ _ (subst (λ r. T (is_lt r)) (sym p) tt)
      (below_less (back_total o) q x.0 xs p (first _ _ h)))

  at_first : (x : K × ℕ) (xs : List (K × ℕ)) → Falls (x ∷ xs) → exponent cmp x.0 (x ∷ xs) ≡ x.1
  at_first x xs h =
      ap (λ r. cond (is_eq r) x.1 0 + exponent cmp x.0 xs) (tied_itself o x.0)
      ∙ ap (λ n. x.1 + n) (above_zero x.0 xs (first _ _ h)) ∙ omega arith

  positive : (x : K × ℕ) → T (not (x.1 == 0)) → 0 < x.1
  positive x h = let n : x.1 ≡ 0 → ⊥ = λ e. subst (λ b. T (not b)) (ap (λ n. n == 0) e) h in omega arith

  falls_rest : (x : K × ℕ) (xs : List (K × ℕ)) → Falls (x ∷ xs) → Falls xs
  falls_rest x xs h = second (below_all (flip_args cmp) x.0 xs) (is_sorted (flip_args cmp) xs) h

  -- two falling lists: the first difference decides
  differs : (ys xs : List (K × ℕ)) → Falls ys → Falls xs → T (all_some cmp exponents xs) →
      slice_cmp (entry_cmp cmp) ys xs ≡ Less → DiffersLast cmp xs ys
  differs [] [] g h s e = not_less Equal tt e
  differs [] (x ∷ xs) g h s e = record {
    last = x.0;
    fewer = subst (λ n. 0 < n) (sym (at_first x xs h)) (positive x (first _ _ s));
    same_later = λ j p. beyond j x xs p h;
  }
  differs (y ∷ ys) [] g h s e = not_less Greater tt e
  differs (y ∷ ys) (x ∷ xs) g h s e =
      elim (cmp y.0 x.0) as (λ r. cmp y.0 x.0 ≡ r →
      ordering_then (ordering_then r (nat_cmp y.1 x.1)) (slice_cmp (entry_cmp cmp) ys xs) ≡ Less →
      DiffersLast cmp (x ∷ xs) (y ∷ ys)) [
        | Less ↦ λ p _. record {
          last = x.0;
          fewer = let zero_there = beyond x.0 y ys p g in rw (zero_there, at_first x xs h) (positive x (first _ _ s));
          same_later = λ j q. beyond j x xs q h ∙ sym (beyond j y ys (o.trans y.0 x.0 j p q) g);
        }
        | Greater ↦ λ p e. not_less Greater tt e
        | Equal ↦ λ p.
            let k : y.0 ≡ x.0 = anti y.0 x.0 p in
            elim (nat_cmp y.1 x.1) as (λ r. MatchOrdering r (y.1 < x.1) (y.1 ≡ x.1) (x.1 < y.1) →
            ordering_then r (slice_cmp (entry_cmp cmp) ys xs) ≡ Less → DiffersLast cmp (x ∷ xs) (y ∷ ys)) [
              | Less ↦ λ c _. record {
                last = x.0;
                fewer =
                    let there : exponent cmp x.0 (y ∷ ys) ≡
                    y.1 =
                    subst (λ q. exponent cmp q (y ∷ ys) ≡ y.1) k (at_first y ys g) in rw
                    (there, at_first x xs h) c;
                same_later = λ j q. beyond j x xs q h ∙ sym (beyond j y ys (ap (λ w. cmp w j) k ∙ q) g);
              }
              | Greater ↦ λ c e. not_less Greater tt e
              | Equal ↦ λ c e.
                  let d : DiffersLast cmp xs ys = differs ys xs (falls_rest y ys g) (falls_rest x xs h)
                  (second (not (x.1 == 0)) (all_some cmp exponents xs) s) e in
                  let heads : (j : K) → cond (eq_by_cmp cmp j y.0) y.1 0 ≡
                  cond (eq_by_cmp cmp j x.0) x.1 0 = λ j i. cond (eq_by_cmp cmp j (k i)) (c i) 0 in
                  record {
                    last = d.last;
                    fewer = let same = heads d.last in let less_there = d.fewer in omega arith;
                    same_later =
                        λ j q. ap (λ n. cond (eq_by_cmp cmp j x.0) x.1 0 + n) (d.same_later j q)
                        ∙ ap (λ n. n + exponent cmp j ys) (sym (heads j));
                  }
            ] (ranks y.1 x.1)
      ] refl e

  -- ---- the reversed list
  snoc : (x : K × ℕ) (xs : List (K × ℕ)) → reverse (x ∷ xs) ≡ reverse xs ++ x ∷ []
  snoc x xs = reverse-append (x ∷ []) xs

  exponent-append : (q : K) (xs ys : List (K × ℕ)) → exponent cmp q (xs ++ ys) ≡ exponent cmp q xs + exponent cmp q ys
  exponent-append q [] ys = sym (zero-add (exponent cmp q ys))
  exponent-append q (x ∷ xs) ys =
      ap (λ n. cond (eq_by_cmp cmp q x.0) x.1 0 + n) (exponent-append q xs ys)
      ∙ sym (add_assoc (cond (eq_by_cmp cmp q x.0) x.1 0) (exponent cmp q xs) (exponent cmp q ys))

  exponent-reverse : (q : K) (xs : List (K × ℕ)) → exponent cmp q (reverse xs) ≡ exponent cmp q xs
  exponent-reverse q [] = refl
  exponent-reverse q (x ∷ xs) =
      ap (exponent cmp q) (snoc x xs) ∙ exponent-append q (reverse xs) (x ∷ [])
      ∙ (let e = exponent-reverse q xs in omega arith)

  all_some-append : (xs : List (K × ℕ)) (x : K × ℕ) → T (all_some cmp exponents xs) → T (not (x.1 == 0)) →
      T (all_some cmp exponents (xs ++ x ∷ []))
  all_some-append [] x h p = both _ _ p tt
  all_some-append (y ∷ xs) x h p = both _ _ (first _ _ h) (all_some-append xs x (second _ _ h) p)

  below-append : (q : K) (xs : List (K × ℕ)) (x : K × ℕ) → T (below_all cmp q xs) → T (is_lt (cmp q x.0)) →
      T (below_all cmp q (xs ++ x ∷ []))
  below-append q [] x h p = both _ _ p tt
  below-append q (y ∷ xs) x h p = both _ _ (first _ _ h) (below-append q xs x (second _ _ h) p)

  below-reverse : (q : K) (xs : List (K × ℕ)) → T (below_all cmp q xs) → T (below_all cmp q (reverse xs))
  below-reverse q [] h = tt
  below-reverse q (x ∷ xs) h =
      subst (λ l. T (below_all cmp q l)) (sym (snoc x xs))
      (below-append q (reverse xs) x (below-reverse q xs (second _ _ h)) (first _ _ h))

  above-append : (q : K) (xs : List (K × ℕ)) (x : K × ℕ) → T (below_all (flip_args cmp) q xs) →
      T (is_lt (cmp x.0 q)) → T (below_all (flip_args cmp) q (xs ++ x ∷ []))
  above-append q [] x h p = both _ _ p tt
  above-append q (y ∷ xs) x h p = both _ _ (first _ _ h) (above-append q xs x (second _ _ h) p)

  falls-append : (xs : List (K × ℕ)) (x : K × ℕ) → Falls xs → T (below_all cmp x.0 xs) → Falls (xs ++ x ∷ [])
  falls-append [] x h p = tt
  falls-append (y ∷ xs) x h p =
      both _ _ (above-append y.0 xs x (first _ _ h) (first _ _ p)) (falls-append xs x (second _ _ h) (second _ _ p))

  falls-reverse : (xs : List (K × ℕ)) → T (is_sorted cmp xs) → Falls (reverse xs)
  falls-reverse [] h = tt
  falls-reverse (x ∷ xs) h =
      subst Falls (sym (snoc x xs))
      (falls-append (reverse xs) x (falls-reverse xs (second _ _ h)) (below-reverse x.0 xs (first _ _ h)))

  all_some-reverse : (xs : List (K × ℕ)) → T (all_some cmp exponents xs) → T (all_some cmp exponents (reverse xs))
  all_some-reverse [] h = tt
  all_some-reverse (x ∷ xs) h =
      subst (λ l. T (all_some cmp exponents l)) (sym (snoc x xs))
      (all_some-append (reverse xs) x (all_some-reverse xs (second _ _ h)) (first _ _ h))

  -- ---- the meaning of `Less`
  then_less : (r s : Ordering) → ordering_then r s ≡ Less → (r ≡ Less) ⊎ ((r ≡ Equal) × (s ≡ Less))
  then_less Less s e = inl refl
  then_less Equal s e = inr (refl, e)
  then_less Greater s e = not_less Greater tt e

  pub grevlex_less : (m n : List (K × ℕ)) → IsCanonical cmp exponents m → IsCanonical cmp exponents n →
      grevlex cmp m n ≡ Less → IsBelow cmp m n
  grevlex_less m n c d e =
      elim (then_less (nat_cmp (degree m) (degree n)) (slice_cmp (entry_cmp cmp) (reverse n) (reverse m)) e) [
        | inl p ↦ inl (let P : Ordering →
            Type 0 =
            λ r. MatchOrdering r (degree m < degree n) (degree m ≡ degree n) (degree n < degree m) in subst P p
            (ranks (degree m) (degree n)))
        | inr p ↦ inr (
          (let P : Ordering → Type 0 = λ r.
              MatchOrdering r (degree m < degree n) (degree m ≡ degree n) (degree n < degree m) in subst P p.0
              (ranks (degree m) (degree n))),
          (let w = differs (reverse n) (reverse m) (falls-reverse n d.rises) (falls-reverse m c.rises)
              (all_some-reverse m c.no_none) p.1 in
              record {
                last = w.last;
                fewer =
                    let f = w.fewer in let a = exponent-reverse w.last m in let b = exponent-reverse w.last n in omega
                    arith;
                same_later = λ j q. sym (exponent-reverse j m) ∙ w.same_later j q ∙ exponent-reverse j n;
              }),
        )
      ]

  below_itself : (m : List (K × ℕ)) → IsBelow cmp m m → ⊥
  below_itself m (inl h) = omega arith
  below_itself m (inr h) = let f = h.1.fewer in omega arith

  asymmetric : (m n : List (K × ℕ)) → IsBelow cmp m n → IsBelow cmp n m → ⊥
  asymmetric m n (inl h) (inl k) = omega arith
  asymmetric m n (inl h) (inr k) = let e = k.0 in omega arith
  asymmetric m n (inr h) (inl k) = let e = h.0 in omega arith
  asymmetric m n (inr h) (inr k) =
      let a = h.1 in
      let b = k.1 in
      elim (cmp a.last b.last) as (λ r. cmp a.last b.last ≡ r → ⊥) [
        | Less ↦ λ p. let e = a.same_later b.last p in let f = b.fewer in omega arith
        | Equal ↦ λ p. let f = a.fewer in let g = subst (λ q. exponent cmp q m < exponent cmp q n)
            (sym (anti a.last b.last p)) b.fewer in omega arith
        | Greater ↦ λ p. let e = b.same_later a.last (o.antisymm b.last a.last
            ∙ ap ordering_reverse p) in let f = a.fewer in omega arith
      ] refl

  pub less_grevlex : (m n : List (K × ℕ)) → IsCanonical cmp exponents m → IsCanonical cmp exponents n →
      IsBelow cmp m n → grevlex cmp m n ≡ Less
  less_grevlex m n c d b =
      elim (grevlex cmp m n) as (λ r. grevlex cmp m n ≡ r → r ≡ Less) [
        | Less ↦ λ e. refl
        | Equal ↦ λ e. absurd (below_itself m (subst (λ x. IsBelow cmp m x) (sym (grevlex_anti o anti m n e)) b))
        | Greater ↦ λ e. absurd (asymmetric m n b (grevlex_less n m d c ((grevlex_total o anti).antisymm n m
            ∙ ap ordering_reverse e)))
      ] refl

  -- a product keeps the order
  pub kept : (m n k : List (K × ℕ)) → IsBelow cmp m n → IsBelow cmp (mono_times cmp m k) (mono_times cmp n k)
  kept m n k (inl h) =
      inl (let a = degree-mono_times o anti m k in let b = degree-mono_times o anti n k in omega arith)
  kept m n k (inr h) =
      let at = h.1.last in
      inr (
        (let a = degree-mono_times o anti m k in let b = degree-mono_times o anti n k in let q = h.0 in omega arith),
        record {
          last = at;
          fewer =
              let a = exponent-mono_times o anti at m k in
              let b = exponent-mono_times o anti at n k in
              let f = h.1.fewer in
              omega arith;
          same_later =
              λ j q. exponent-mono_times o anti j m k ∙ ap (λ x. x + exponent cmp j k) (h.1.same_later j q)
              ∙ sym (exponent-mono_times o anti j n k);
        },
      )

  pub grevlex-mono_times : (m n k : List (K × ℕ)) → IsCanonical cmp exponents m → IsCanonical cmp exponents n →
      grevlex cmp m n ≡ Less → grevlex cmp (mono_times cmp m k) (mono_times cmp n k) ≡ Less
  grevlex-mono_times m n k c d e =
      less_grevlex (mono_times cmp m k) (mono_times cmp n k)
      (IsCanonical-collect exponent_laws o anti (m ++ k)) (IsCanonical-collect exponent_laws o anti (n ++ k))
      (kept m n k (grevlex_less m n c d e))

  -- the order of a polynomial's list
  pub falling_total : IsTotalOrder (falling cmp)
  falling_total = back_total (grevlex_total o anti)

  pub falling_anti : IsAntisymmetric (falling cmp)
  falling_anti m n e = sym (grevlex_anti o anti n m e)

  pub falling-mono_times : (m n k : List (K × ℕ)) → IsCanonical cmp exponents m → IsCanonical cmp exponents n →
      falling cmp m n ≡ Less → falling cmp (mono_times cmp m k) (mono_times cmp n k) ≡ Less
  falling-mono_times m n k c d e = grevlex-mono_times n m k d c e
