-- A product row by row.
use Rattle.std.specs.Prelude.{◌≡◌, List, [], ◌∷◌, ◌++◌}
use Rattle.std.proofs.Common.{sym, ap, ◌∙◌}
use Rattle.std.specs.declared.cmp.Ordering.{Ordering}
use Rattle.std.specs.Cmp.{IsTotalOrder}
use Rattle.std.specs.FinMap.{IsAntisymmetric}
use Rattle.alg_mono.specs.FiniteMaps.{at_key, total, row, products}
use Rattle.alg_mono.specs.Numbers.{Numbers}
use Rattle.alg_mono.specs.Polynomials.{poly_plus, poly_times}
use Rattle.alg_mono.proofs.Totals.{total-append, total-products, total-row, idr}
use Rattle.alg_mono.proofs.Numbers.{IsNumbers}
use Rattle.alg_mono.proofs.Canonical.{collect_same, at_key_adds}
use Rattle.alg_mono.proofs.Polynomials.{total-poly_times}

module _ {M A : Type 0} {cmp : M → M →
    Ordering} {C : Numbers A} (N : IsNumbers C) (o : IsTotalOrder cmp) (anti : IsAntisymmetric cmp) (times : M → M →
    M) where
  abbrev Tot : (M → A → A) → List (M × A) → A
  Tot g p = total C.amounts.none C.amounts.plus g p

  -- one more term on the left adds its row
  pub product_snoc : (p q : List (M × A)) (e : M × A) →
      poly_times cmp C times (p ++ e ∷ []) q ≡ poly_plus cmp C (poly_times cmp C times p q) (row times C.mul e.0 e.1 q)
  product_snoc p q e =
      collect_same N.amounts o anti (products times C.mul (p ++ e ∷ []) q)
      (poly_times cmp C times p q ++ row times C.mul e.0 e.1 q) (λ k.
      let S = N.amounts.laws in
      let plus = C.amounts.plus in
      let g = at_key cmp C.amounts k in
      let G = at_key_adds {cmp = cmp} N.amounts o anti k in
      let r = λ (m : M) (c : A). Tot (λ n d. g (times m n) (C.mul c d)) q in
      total-products times C.mul S g (p ++ e ∷ []) q ∙ total-append S r p (e ∷ [])
      ∙ ap (plus (Tot r p)) (idr S (r e.0 e.1))
      ∙ sym (total-append S g (poly_times cmp C times p q) (row times C.mul e.0 e.1 q)
      ∙ (λ i. plus (total-poly_times N anti S G times p q i) (total-row times C.mul S g e.0 e.1 q i))))
