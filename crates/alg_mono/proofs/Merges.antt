-- The first entry of the canonical list of two canonical lists, one after the other.
use Rattle.std.specs.Prelude.{◌≡◌, true, false, cond, not, List, [], ◌∷◌, ◌++◌}
use Rattle.std.proofs.Common.{refl, sym, ap, subst, ◌∙◌, T, append-nil}
use Rattle.std.specs.declared.cmp.Ordering.{Ordering}
use Rattle.std.specs.declared.cmp.Ordering.TheVariants.{Less, Equal, Greater}
use Rattle.std.specs.Ordering.{is_lt, ordering_reverse, eq_by_cmp}
use Rattle.std.specs.Cmp.{IsTotalOrder}
use Rattle.std.specs.FinMap.{IsAntisymmetric}
use Rattle.std.specs.FinMap.Entries.{by_order, below_all}
use Rattle.alg_mono.specs.FiniteMaps.{Amounts, at_key, keep, put_in, collect, IsCanonical, total}
use Rattle.alg_mono.proofs.Totals.{IsAmounts, total-append}
use Rattle.alg_mono.proofs.Canonical.{both, first, second, less, below_less, below-put_in, collect_same, collect-canonical}

module _ {K A : Type 0} (cmp : K → K → Ordering) (M : Amounts A) where
  pub keep_front : (k : K) (c : A) (rest : List (K × A)) → keep cmp M k c [] ++ rest ≡ keep cmp M k c rest
  keep_front k c rest =
      elim (M.is_none c) as (λ t. cond t [] ((k, c) ∷ []) ++ rest ≡ cond t rest ((k, c) ∷ rest))
      [ true ↦ refl | false ↦ refl ]

module _ {K A : Type 0} {cmp : K → K →
    Ordering} {M : Amounts A} (L : IsAmounts M) (o : IsTotalOrder cmp) (anti : IsAntisymmetric cmp) where
  pub put_in_first : (k : K) (a : A) (es : List (K × A)) → T (below_all cmp k es) →
      put_in cmp M k a es ≡ keep cmp M k a es
  put_in_first k a [] h = refl
  put_in_first k a (e ∷ es) h =
      ap (λ r. by_order r (keep cmp M k a (e ∷ es)) (keep cmp M e.0 (M.plus a e.1) es) (e ∷ put_in cmp M k a es))
      (less _ (first _ _ h))

  pub below-collect : (q : K) (es : List (K × A)) → T (below_all cmp q es) → T (below_all cmp q (collect cmp M es))
  below-collect q [] h = tt
  below-collect q (e ∷ es) h =
      below-put_in L o anti q e.0 e.1 (collect cmp M es) (first _ _ h) (below-collect q es (second _ _ h))

  below-append : (q : K) (es fs : List (K × A)) → T (below_all cmp q es) → T (below_all cmp q fs) →
      T (below_all cmp q (es ++ fs))
  below-append q [] fs h g = g
  below-append q (e ∷ es) fs h g = both _ _ (first _ _ h) (below-append q es fs (second _ _ h) g)

  keep_some : (e : K × A) (es : List (K × A)) → T (not (M.is_none e.1)) → keep cmp M e.0 e.1 es ≡ e ∷ es
  keep_some e es h =
      elim (M.is_none e.1) as (λ b. T (not b) →
      cond b es (e ∷ es) ≡ e ∷ es) [ true ↦ λ h. absurd h | false ↦ λ h. refl ] h

  -- an entry below all others stays first
  collect_before : (x : K × A) (es : List (K × A)) → T (not (M.is_none x.1)) → T (below_all cmp x.0 es) →
      collect cmp M (x ∷ es) ≡ x ∷ collect cmp M es
  collect_before x es s h =
      put_in_first x.0 x.1 (collect cmp M es) (below-collect x.0 es h) ∙ keep_some x (collect cmp M es) s

  pub collect_swap : (es fs : List (K × A)) → collect cmp M (es ++ fs) ≡ collect cmp M (fs ++ es)
  collect_swap es fs = collect_same L o anti (es ++ fs) (fs ++ es) (λ k.
      let g = at_key cmp M k in
      total-append L.laws g es fs ∙ L.laws.comm (total M.none M.plus g es) (total M.none M.plus g fs)
      ∙ sym (total-append L.laws g fs es))

  -- an entry without amount adds nothing
  pub collect_none : (k : K) (es : List (K × A)) → collect cmp M ((k, M.none) ∷ es) ≡ collect cmp M es
  collect_none k es =
      collect_same L o anti ((k, M.none) ∷ es) es
      (λ q. ap (λ a. M.plus a (total M.none M.plus (at_key cmp M q) es)) (nothing q)
      ∙ L.laws.idl (total M.none M.plus (at_key cmp M q) es))
    where
      nothing : (q : K) → at_key cmp M q k M.none ≡ M.none
      nothing q = elim (eq_by_cmp cmp q k) as (λ b. cond b M.none M.none ≡ M.none) [ true ↦ refl | false ↦ refl ]

  below_second : (x y : K × A) (q : List (K × A)) → cmp x.0 y.0 ≡ Less → IsCanonical cmp M (y ∷ q) →
      T (below_all cmp x.0 (y ∷ q))
  below_second x y q l d = both _ _ (subst (λ r. T (is_lt r)) (sym l) tt) (below_less o x.0 y.0 q l (first _ _ d.rises))

  pub collect_first : (x y : K × A) (p q : List (K × A)) → IsCanonical cmp M (x ∷ p) → IsCanonical cmp M (y ∷ q) →
      cmp x.0 y.0 ≡ Less →
      collect cmp M ((x ∷ p) ++ (y ∷ q)) ≡ x ∷ collect cmp M (p ++ (y ∷ q))
  collect_first x y p q c d l =
      collect_before x (p ++ (y ∷ q)) (first _ _ c.no_none)
      (below-append x.0 p (y ∷ q) (first _ _ c.rises) (below_second x y q l d))

  pub collect_second : (x y : K × A) (p q : List (K × A)) → IsCanonical cmp M (x ∷ p) → IsCanonical cmp M (y ∷ q) →
      cmp x.0 y.0 ≡ Greater →
      collect cmp M ((x ∷ p) ++ (y ∷ q)) ≡ y ∷ collect cmp M ((x ∷ p) ++ q)
  collect_second x y p q c d g =
      collect_swap (x ∷ p) (y ∷ q) ∙ collect_first y x q p d c (o.antisymm y.0 x.0 ∙ ap ordering_reverse g)
      ∙ ap (λ l. y ∷ l) (collect_swap q (x ∷ p))

  pub collect_both : (x y : K × A) (p q : List (K × A)) → IsCanonical cmp M (x ∷ p) → IsCanonical cmp M (y ∷ q) →
      cmp x.0 y.0 ≡ Equal →
      collect cmp M ((x ∷ p) ++ (y ∷ q)) ≡ keep cmp M x.0 (M.plus x.1 y.1) (collect cmp M (p ++ q))
  collect_both x y p q c d e =
      let k = anti x.0 y.0 e in
      let below_p : T (below_all cmp y.0 p) = subst (λ z. T (below_all cmp z p)) k (first _ _ c.rises) in
      ap (put_in cmp M x.0 x.1) (collect_swap p (y ∷ q)
      ∙ collect_before y (q ++ p) (first _ _ d.no_none) (below-append y.0 q p (first _ _ d.rises) below_p))
      ∙ ap (λ r. by_order r (keep cmp M x.0 x.1 (y ∷ collect cmp M (q ++ p)))
      (keep cmp M y.0 (M.plus x.1 y.1) (collect cmp M (q ++ p)))
      (y ∷ put_in cmp M x.0 x.1 (collect cmp M (q ++ p)))) e
      ∙ (λ i. keep cmp M (sym k i) (M.plus x.1 y.1) (collect_swap q p i))

  pub collect_left : (p : List (K × A)) → IsCanonical cmp M p → collect cmp M (p ++ []) ≡ p
  collect_left p c = ap (collect cmp M) (append-nil p) ∙ collect-canonical L o anti p c

  pub collect_right : (q : List (K × A)) → IsCanonical cmp M q → collect cmp M ([] ++ q) ≡ q
  collect_right q c = collect-canonical L o anti q c
