-- The canonical list is canonical, and two canonical lists with the same amounts are equal.
use Rattle.std.specs.Prelude.{◌≡◌, ◌≢◌, Bool, true, false, cond, not, ◌&&◌, List, [], ◌∷◌}
use Rattle.std.proofs.Common.{refl, sym, ap, subst, ◌∙◌, T}
use Rattle.std.specs.declared.cmp.Ordering.{Ordering}
use Rattle.std.specs.declared.cmp.Ordering.TheVariants.{Less, Equal, Greater}
use Rattle.std.specs.Ordering.{is_lt, is_eq, ordering_reverse, eq_by_cmp}
use Rattle.std.specs.Cmp.{IsTotalOrder, tied_itself}
use Rattle.std.specs.FinMap.{IsAntisymmetric}
use Rattle.std.specs.FinMap.Entries.{by_order, below_all}
use Rattle.alg_mono.specs.FiniteMaps.{Amounts, at_key, amount, keep, put_in, collect, IsCanonical, total}
use Rattle.alg_mono.proofs.Totals.{IsAmounts, IsAdditive, total-collect}

pub both : (a b : Bool) → T a → T b → T (a && b)
both true b p q = q
both false b p q = p

pub first : (a b : Bool) → T (a && b) → T a
first true b p = tt
first false b p = p

pub second : (a b : Bool) → T (a && b) → T b
second true b p = p
second false b p = absurd p

pub less : (o : Ordering) → T (is_lt o) → o ≡ Less
less Less p = refl
less Equal p = absurd p
less Greater p = absurd p

pub equal : (r : Ordering) → T (is_eq r) → r ≡ Equal
equal Less p = absurd p
equal Equal p = refl
equal Greater p = absurd p

module _ {K A : Type 0} {cmp : K → K → Ordering} (o : IsTotalOrder cmp) where
  pub below_less : (x y : K) (es : List (K × A)) → cmp x y ≡ Less → T (below_all cmp y es) → T (below_all cmp x es)
  below_less x y [] p h = tt
  below_less x y (e ∷ es) p h =
      both _ _ (subst (λ r. T (is_lt r)) (sym (o.trans x y e.0 p (less _ (first _ _ h)))) tt)
      (below_less x y es p (second _ _ h))

module _ {K A : Type 0} {cmp : K → K →
    Ordering} {M : Amounts A} (L : IsAmounts M) (o : IsTotalOrder cmp) (anti : IsAntisymmetric cmp) where
  below-keep : (x k : K) (a : A) (es : List (K × A)) → T (is_lt (cmp x k)) → T (below_all cmp x es) →
      T (below_all cmp x (keep cmp M k a es))
  below-keep x k a es p h =
      elim (M.is_none a) as (λ b. T (below_all cmp x (cond b es ((k, a) ∷ es)))) [ true ↦ h | false ↦ both _ _ p h ]

  pub below-put_in : (x k : K) (a : A) (es : List (K × A)) → T (is_lt (cmp x k)) → T (below_all cmp x es) →
      T (below_all cmp x (put_in cmp M k a es))
  below-put_in x k a [] p h = below-keep x k a [] p h
  below-put_in x k a (e ∷ es) p h =
      elim (cmp k e.0) as (λ r.
      T (below_all cmp x (by_order r (keep cmp M k a (e ∷ es)) (keep cmp M e.0 (M.plus a e.1) es)
      (e ∷ put_in cmp M k a es)))) [
        | Less ↦ below-keep x k a (e ∷ es) p h
        | Equal ↦ below-keep x e.0 (M.plus a e.1) es (first _ _ h) (second _ _ h)
        | Greater ↦ both _ _ (first _ _ h) (below-put_in x k a es p (second _ _ h))
      ]

  pub IsCanonical-keep : (k : K) (a : A) (es : List (K × A)) → T (below_all cmp k es) → IsCanonical cmp M es →
      IsCanonical cmp M (keep cmp M k a es)
  IsCanonical-keep k a es p c =
      elim (M.is_none a) as (λ b. M.is_none a ≡ b → IsCanonical cmp M (cond b es ((k, a) ∷ es))) [
        | true ↦ λ e. c
        | false ↦ λ e. record {
          rises = both _ _ p c.rises;
          no_none = both _ _ (subst (λ b. T (not b)) (sym e) tt) c.no_none;
        }
      ] refl

  pub rest_of : (e : K × A) (es : List (K × A)) → IsCanonical cmp M (e ∷ es) → IsCanonical cmp M es
  rest_of e es c = record { rises = second _ _ c.rises; no_none = second _ _ c.no_none }

  pub IsCanonical-put_in : (k : K) (a : A) (es : List (K × A)) → IsCanonical cmp M es →
      IsCanonical cmp M (put_in cmp M k a es)
  IsCanonical-put_in k a [] c = IsCanonical-keep k a [] tt c
  IsCanonical-put_in k a (e ∷ es) c =
      elim (cmp k e.0) as (λ r. cmp k e.0 ≡ r →
      IsCanonical cmp M (by_order r (keep cmp M k a (e ∷ es)) (keep cmp M e.0 (M.plus a e.1) es)
      (e ∷ put_in cmp M k a es))) [
        | Less ↦ λ p. IsCanonical-keep k a (e ∷ es)
            (both _ _ (subst (λ r. T (is_lt r)) (sym p) tt) (below_less o k e.0 es p (first _ _ c.rises))) c
        | Equal ↦ λ p. IsCanonical-keep e.0 (M.plus a e.1) es (first _ _ c.rises) (rest_of e es c)
        | Greater ↦ λ p.
            let d = IsCanonical-put_in k a es (rest_of e es c) in
            record {
              rises =
                  both _ _ (below-put_in e.0 k a es (subst (λ r. T (is_lt r)) (sym (o.antisymm e.0 k
                  ∙ ap ordering_reverse p)) tt) (first _ _ c.rises)) d.rises;
              no_none = both _ _ (first _ _ c.no_none) d.no_none;
            }
      ] refl

  pub IsCanonical-collect : (es : List (K × A)) → IsCanonical cmp M (collect cmp M es)
  IsCanonical-collect [] = record { rises = tt; no_none = tt }
  IsCanonical-collect (e ∷ es) = IsCanonical-put_in e.0 e.1 (collect cmp M es) (IsCanonical-collect es)

  pub amount-below : (q : K) (es : List (K × A)) → T (below_all cmp q es) → amount cmp M q es ≡ M.none
  amount-below q [] h = refl
  amount-below q (e ∷ es) h =
      ap (λ r. M.plus (cond (is_eq r) e.1 M.none) (amount cmp M q es)) (less _ (first _ _ h)) ∙ L.laws.idl _
      ∙ amount-below q es (second _ _ h)

  pub amount-first : (e : K × A) (es : List (K × A)) → T (below_all cmp e.0 es) → amount cmp M e.0 (e ∷ es) ≡ e.1
  amount-first e es h =
      ap (λ r. M.plus (cond (is_eq r) e.1 M.none) (amount cmp M e.0 es)) (tied_itself o e.0)
      ∙ ap (M.plus e.1) (amount-below e.0 es h) ∙ L.laws.comm e.1 M.none ∙ L.laws.idl e.1

  some_first : (e : K × A) → T (not (M.is_none e.1)) → e.1 ≢ M.none
  some_first e h p = subst (λ b. T (not b)) (ap M.is_none p ∙ L.none_is) h

  -- a key below each key of the other list
  missed : (e f : K × A) (es fs : List (K × A)) → cmp e.0 f.0 ≡ Less → IsCanonical cmp M (e ∷ es) →
      IsCanonical cmp M (f ∷ fs) → amount cmp M e.0 (e ∷ es) ≢ amount cmp M e.0 (f ∷ fs)
  missed e f es fs p c d is = some_first e (first _ _ c.no_none)
      (sym (amount-first e es (first _ _ c.rises)) ∙ is
      ∙ amount-below e.0 (f ∷ fs)
      (both _ _ (subst (λ r. T (is_lt r)) (sym p) tt) (below_less o e.0 f.0 fs p (first _ _ d.rises))))

  tails : (k q : K) (a b : A) (es fs : List (K × A)) → T (below_all cmp k es) → T (below_all cmp k fs) →
      amount cmp M q ((k, a) ∷ es) ≡ amount cmp M q ((k, b) ∷ fs) → amount cmp M q es ≡ amount cmp M q fs
  tails k q a b es fs g h =
      elim (eq_by_cmp cmp q k) as (λ t. eq_by_cmp cmp q k ≡ t →
      M.plus (cond t a M.none) (amount cmp M q es) ≡ M.plus (cond t b M.none) (amount cmp M q fs) →
      amount cmp M q es ≡ amount cmp M q fs) [
        | true ↦ λ p is.
            let t = anti q k (equal _ (subst T (sym p) tt)) in
            let u : amount cmp M q es ≡ M.none = amount-below q es (subst (λ x. T (below_all cmp x es)) (sym t) g) in
            u ∙ sym (amount-below q fs (subst (λ x. T (below_all cmp x fs)) (sym t) h))
        | false ↦ λ p is. sym (L.laws.idl _) ∙ is ∙ L.laws.idl _
      ] refl

  pub same_canonical : (es fs : List (K × A)) → IsCanonical cmp M es → IsCanonical cmp M fs →
      ((q : K) → amount cmp M q es ≡ amount cmp M q fs) → es ≡ fs
  same_canonical [] [] c d is = refl
  same_canonical [] (f ∷ fs) c d is =
      absurd (some_first f (first _ _ d.no_none) (sym (amount-first f fs (first _ _ d.rises)) ∙ sym (is f.0)))
  same_canonical (e ∷ es) [] c d is =
      absurd (some_first e (first _ _ c.no_none) (sym (amount-first e es (first _ _ c.rises)) ∙ is e.0))
  same_canonical (e ∷ es) (f ∷ fs) c d is =
      elim (cmp e.0 f.0) as (λ r. cmp e.0 f.0 ≡ r → e ∷ es ≡ f ∷ fs) [
        | Less ↦ λ p. absurd (missed e f es fs p c d (is e.0))
        | Greater ↦ λ p. absurd (missed f e fs es (o.antisymm f.0 e.0 ∙ ap ordering_reverse p) d c (sym (is f.0)))
        | Equal ↦ λ p.
            let keys = anti e.0 f.0 p in
            let below : T (below_all cmp e.0 fs) = subst (λ x. T (below_all cmp x fs)) (sym keys) (first _ _ d.rises) in
            let amounts = sym (amount-first e es (first _ _ c.rises)) ∙ is e.0
            ∙ ap (λ k. amount cmp M k (f ∷ fs)) keys ∙ amount-first f fs (first _ _ d.rises) in
            let rest = same_canonical es fs (rest_of e es c) (rest_of f fs d)
            (λ q. tails e.0 q e.1 f.1 es fs (first _ _ c.rises) below
            (is q ∙ ap (λ k. amount cmp M q ((k, f.1) ∷ fs)) (sym keys))) in
            λ i. (keys i, amounts i) ∷ rest i
      ] refl

  -- the amount is such a sum
  pub at_key_adds : (q : K) → IsAdditive M M.none M.plus (at_key cmp M q)
  at_key_adds q = record {
    at_none = λ k. elim (eq_by_cmp cmp q k) as (λ b. cond b M.none M.none ≡ M.none) [ true ↦ refl | false ↦ refl ];
    at_plus =
        λ k a b. elim (eq_by_cmp cmp q k) as
        (λ t. cond t (M.plus a b) M.none ≡ M.plus (cond t a M.none) (cond t b M.none))
        [ true ↦ refl | false ↦ sym (L.laws.idl M.none) ];
  }

  pub amount-total : (q : K) (es : List (K × A)) → amount cmp M q es ≡ total M.none M.plus (at_key cmp M q) es
  amount-total q [] = refl
  amount-total q (e ∷ es) = ap (M.plus (at_key cmp M q e.0 e.1)) (amount-total q es)

  pub amount-collect : (q : K) (es : List (K × A)) → amount cmp M q (collect cmp M es) ≡ amount cmp M q es
  amount-collect q es =
      amount-total q (collect cmp M es) ∙ total-collect L anti L.laws (at_key_adds q) es ∙ sym (amount-total q es)

  -- two lists whose amounts are the same collect to one list
  pub collect_same : (es fs : List (K × A)) →
      ((q : K) → total M.none M.plus (at_key cmp M q) es ≡ total M.none M.plus (at_key cmp M q) fs) →
      collect cmp M es ≡ collect cmp M fs
  collect_same es fs is =
      same_canonical (collect cmp M es) (collect cmp M fs) (IsCanonical-collect es) (IsCanonical-collect fs)
      (λ q. amount-collect q es ∙ amount-total q es ∙ is q ∙ sym (amount-total q fs) ∙ sym (amount-collect q fs))

  pub collect-canonical : (es : List (K × A)) → IsCanonical cmp M es → collect cmp M es ≡ es
  collect-canonical es c = same_canonical (collect cmp M es) es (IsCanonical-collect es) c (λ q. amount-collect q es)
