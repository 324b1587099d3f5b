-- The pairs of a line that joins the basis.
use Rattle.std.specs.Prelude.{map, ◌≡◌, ℕ, true, false, cond, List, [], ◌∷◌, min, max}
use Rattle.std.proofs.Common.{refl, sym, ap, subst, ◌⊎◌, inl, inr, arith}
use Rattle.std.specs.declared.cmp.Ordering.TheVariants.{Equal}
use Rattle.std.specs.Ordering.{nat_cmp, ordering_then}
use Rattle.std.specs.FinMap.{nat_cmp-IsAntisymmetric}
use Rattle.std.specs.BTreeSet.{insert_key}
use Rattle.std.proofs.lemmas.Bool.{cases_lt}
use Rattle.alg_mono.specs.Mono.{Monomial}
use Rattle.alg_mono.specs.Monomials.{grevlex}
use Rattle.alg_mono.specs.NumberedPolynomials.{Polynomial}
use Rattle.alg_mono.proofs.Monomials.{then_equal}
use Rattle.alg_lines.specs.Lines.{line_at}
use Rattle.alg_pairs.specs.Order.{pair_cmp}
use Rattle.alg_pairs.specs.declared.pair.Pair.{Pair}
use Rattle.alg_groebner.specs.Choices.{pair_of, with_pair, with_pairs}
use Rattle.alg_groebner.specs.Leads.{lead, coprime}
use Rattle.alg_criterion.proofs.Spans.{Led}
use Rattle.alg_criterion.proofs.Machine.{Has}
use Rattle.alg_criterion.proofs.Members.{insert_self, insert_grows}
use Rattle.alg_criterion.proofs.Seeing.{led_at, led_pair}

module _ (lines : List Polynomial) where
  pub same_led : (i k : ℕ) → nat_cmp i k ≡ Equal → led_at lines i ≡ led_at lines k
  same_led i k e = ap (led_at lines) (nat_cmp-IsAntisymmetric i k e)

  same_pair : (x y : Pair) → pair_cmp x y ≡ Equal → led_pair lines x ≡ led_pair lines y
  same_pair x y e =
      let a = then_equal (grevlex nat_cmp x.lcm y.lcm) (ordering_then (nat_cmp x.j y.j) (nat_cmp x.i y.i)) e in
      let c = then_equal (nat_cmp x.j y.j) (nat_cmp x.i y.i) a.1 in
      λ t. (same_led x.i y.i c.1 t, same_led x.j y.j c.0 t)

  abbrev leds : List Pair → List (Led Monomial × Led Monomial)
  leds xs = map (led_pair lines) xs

  pair_grows : (i k : ℕ) (xs : List Pair) (v : Led Monomial × Led Monomial) → Has v (leds xs) →
      Has v (leds (with_pair lines i k xs))
  unfolding with_pair
  pair_grows i k xs v h =
      elim (coprime (lead (line_at lines i)) (lead (line_at lines k))) as
      (λ t. Has v (leds (cond t xs (insert_key pair_cmp xs (pair_of lines i k))))) [
        | true ↦ h
        | false ↦ insert_grows pair_cmp (led_pair lines) same_pair xs (pair_of lines i k) v h
      ]

  pub pairs_grow : (k : ℕ) (is : List ℕ) (xs : List Pair) (v : Led Monomial × Led Monomial) → Has v (leds xs) →
      Has v (leds (with_pairs lines k is xs))
  pairs_grow k [] xs v h = h
  pairs_grow k (i ∷ is) xs v h = pairs_grow k is (with_pair lines i k xs) v (pair_grows i k xs v h)

  abbrev pub Meets : ℕ → ℕ → List Pair → Type 0
  Meets i k xs =
      Has (led_at lines i, led_at lines k) (leds xs) ⊎ Has (led_at lines k, led_at lines i) (leds xs)
      ⊎ (coprime (lead (line_at lines i)) (lead (line_at lines k)) ≡ true)

  new_meets : (i k : ℕ) (xs : List Pair) → Meets i k (with_pair lines i k xs)
  unfolding with_pair pair_of
  new_meets i k xs =
      elim (coprime (lead (line_at lines i)) (lead (line_at lines k))) as
      (λ t. coprime (lead (line_at lines i)) (lead (line_at lines k)) ≡ t →
      Meets i k (cond t xs (insert_key pair_cmp xs (pair_of lines i k)))) [
        | true ↦ λ e. inr (inr e)
        | false ↦ λ e.
            let h = insert_self pair_cmp (led_pair lines) same_pair xs (pair_of lines i k) in
            elim (cases_lt i k) [
              | inl l ↦ inl (subst (λ n. Has (led_at lines n, led_at lines k)
                  (leds (insert_key pair_cmp xs (pair_of lines i k))))
                  (let a : min i k ≡ i = omega arith in a)
                  (subst (λ n. Has (led_at lines (min i k), led_at lines n)
                  (leds (insert_key pair_cmp xs (pair_of lines i k))))
                  (let c : max i k ≡ k = omega arith in c) h))
              | inr l ↦ inr (inl (subst (λ n. Has (led_at lines n, led_at lines i)
                  (leds (insert_key pair_cmp xs (pair_of lines i k))))
                  (let a : min i k ≡ k = omega arith in a)
                  (subst (λ n. Has (led_at lines (min i k), led_at lines n)
                  (leds (insert_key pair_cmp xs (pair_of lines i k))))
                  (let c : max i k ≡ i = omega arith in c) h)))
            ]
      ] refl

  -- each basis line has a pair with the new one, or a coprime lead
  pub pairs_meet : (k : ℕ) (is : List ℕ) (xs : List Pair) (i : ℕ) → Has i is → Meets i k (with_pairs lines k is xs)
  pairs_meet k [] xs i h = absurd h
  pairs_meet k (j ∷ is) xs i (inl e) =
      subst (λ n. Meets n k (with_pairs lines k is (with_pair lines j k xs))) (sym e) (elim (new_meets j k xs) [
        | inl h ↦ inl (pairs_grow k is (with_pair lines j k xs) (led_at lines j, led_at lines k) h)
        | inr r ↦ elim r [
          | inl h ↦ inr (inl (pairs_grow k is (with_pair lines j k xs) (led_at lines k, led_at lines j) h))
          | inr c ↦ inr (inr c)
        ]
      ])
  pairs_meet k (j ∷ is) xs i (inr h) = pairs_meet k is (with_pair lines j k xs) i h
