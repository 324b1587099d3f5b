-- A sort of a universe is a ring on its carrier, and a morphism keeps its operations.
use Rattle.std.specs.Prelude.{◌≡◌, ℕ, zero, suc, ℤ, pos, negsuc}
use Rattle.std.proofs.Common.{refl, ap, ◌∙◌}
use mathlib.Core.HLevel.{Σ_prop_path}
use Rattle.alg_universe.specs.declared.universe.Universe.{Ghosts}
use Rattle.alg_universe.specs.Ones.{ones}
use Rattle.alg_universe.specs.Value.{number, power as power_in}
use Rattle.alg_mono.specs.Numbers.{integers}
use Rattle.alg_meaning.proofs.Rings.{IsRing, int_value, power, semi, iv-plus, iv-times, idr}
use Rattle.alg_meaning.proofs.Evaluation.{Semiring, IsNumbering, IsMorphism}

module _ {E : Type 0} (u : Ghosts E) where
  abbrev pub Carrier : ℕ → Type 0
  Carrier s = (x : E) × u.has s x

  pub same : (s : ℕ) (x y : Carrier s) → x.0 ≡ y.0 → x ≡ y
  same s x y e = Σ_prop_path (λ z. u.laws.has_prop s z) e

  abbrev pub zero_at : (s : ℕ) → Carrier s
  zero_at s = (u.zero s, u.laws.has_zero s)

  abbrev pub one_at : (s : ℕ) → Carrier s
  one_at s = (u.one s, u.laws.has_one s)

  abbrev pub add_at : (s : ℕ) → Carrier s → Carrier s → Carrier s
  add_at s x y = (u.add s x.0 y.0, u.laws.has_add s x.0 y.0 x.1 y.1)

  abbrev pub mul_at : (s : ℕ) → Carrier s → Carrier s → Carrier s
  mul_at s x y = (u.mul s x.0 y.0, u.laws.has_mul s x.0 y.0 x.1 y.1)

  abbrev pub opp_at : (s : ℕ) → Carrier s → Carrier s
  opp_at s x = (u.opp s x.0, u.laws.has_opp s x.0 x.1)

  pub ring_at : (s : ℕ) → IsRing (zero_at s) (one_at s) (add_at s) (mul_at s) (opp_at s)
  ring_at s = record {
    sum = record {
      assoc =
          λ x y z. same s (add_at s (add_at s x y) z) (add_at s x (add_at s y z))
          (u.laws.add_assoc s x.0 y.0 z.0 x.1 y.1 z.1);
      comm = λ x y. same s (add_at s x y) (add_at s y x) (u.laws.add_comm s x.0 y.0 x.1 y.1);
      idl =
          λ x. same s (add_at s (zero_at s) x) x (u.laws.add_comm s (u.zero s) x.0 (u.laws.has_zero s) x.1
          ∙ u.laws.add_zero s x.0 x.1);
    };
    product = record {
      assoc =
          λ x y z. same s (mul_at s (mul_at s x y) z) (mul_at s x (mul_at s y z))
          (u.laws.mul_assoc s x.0 y.0 z.0 x.1 y.1 z.1);
      comm = λ x y. same s (mul_at s x y) (mul_at s y x) (u.laws.mul_comm s x.0 y.0 x.1 y.1);
      idl =
          λ x. same s (mul_at s (one_at s) x) x (u.laws.mul_comm s (u.one s) x.0 (u.laws.has_one s) x.1
          ∙ u.laws.mul_one s x.0 x.1);
    };
    dist =
        λ x y z. same s (mul_at s x (add_at s y z)) (add_at s (mul_at s x y) (mul_at s x z))
        (u.laws.mul_add s x.0 y.0 z.0 x.1 y.1 z.1);
    opposite = λ x. same s (add_at s x (opp_at s x)) (zero_at s) (u.laws.add_opp s x.0 x.1);
  }

  abbrev pub semi_at : (s : ℕ) → Semiring (Carrier s)
  semi_at s = record { none = zero_at s; one = one_at s; plus = add_at s; times = mul_at s; laws = semi (ring_at s) }

  abbrev pub int_at : (s : ℕ) → ℤ → Carrier s
  int_at s = int_value (zero_at s) (one_at s) (add_at s) (opp_at s)

  pub numbering_at : (s : ℕ) → IsNumbering integers (semi_at s) (int_at s)
  numbering_at s =
      record {
        at_none = refl;
        at_one = idr (ring_at s) (one_at s);
        at_plus = iv-plus (ring_at s);
        at_mul = iv-times (ring_at s);
      }

  -- numbers and powers on the carrier are those below
  pub ones_below : (s n : ℕ) → (ones (zero_at s) (one_at s) (add_at s) n).0 ≡ ones (u.zero s) (u.one s) (u.add s) n
  ones_below s zero = refl
  ones_below s (suc n) = ap (u.add s (u.one s)) (ones_below s n)

  pub int_below : (s : ℕ) (n : ℤ) → (int_at s n).0 ≡ number u s n
  int_below s (pos n) = ones_below s n
  int_below s (negsuc n) = ap (u.opp s) (ones_below s (suc n))

  pub power_below : (s : ℕ) (x : Carrier s) (n : ℕ) → (power (one_at s) (mul_at s) x n).0 ≡ power_in u s x.0 n
  power_below s x zero = refl
  power_below s x (suc n) = ap (u.mul s x.0) (power_below s x n)

  module _ (h s t : ℕ) (m : u.maps h s t) where
    abbrev pub map_at : Carrier s → Carrier t
    map_at x = (u.hom h x.0, u.laws.hom_has h s t x.0 m x.1)

    pub morphism_at : IsMorphism (semi_at s) (semi_at t) map_at
    morphism_at = record {
      at_none = same t (map_at (zero_at s)) (zero_at t) (u.laws.hom_zero h s t m);
      at_one = same t (map_at (one_at s)) (one_at t) (u.laws.hom_one h s t m);
      at_plus =
          λ x y. same t (map_at (add_at s x y)) (add_at t (map_at x) (map_at y))
          (u.laws.hom_add h s t x.0 y.0 m x.1 y.1);
      at_times =
          λ x y. same t (map_at (mul_at s x y)) (mul_at t (map_at x) (map_at y))
          (u.laws.hom_mul h s t x.0 y.0 m x.1 y.1);
    }

    map_ones : (n : ℕ) → map_at (ones (zero_at s) (one_at s) (add_at s) n) ≡ ones (zero_at t) (one_at t) (add_at t) n
    map_ones zero = morphism_at.at_none
    map_ones (suc n) =
        morphism_at.at_plus (one_at s) (ones (zero_at s) (one_at s) (add_at s) n)
        ∙ (λ i. add_at t (morphism_at.at_one i) (map_ones n i))

    pub map_int : (n : ℤ) → map_at (int_at s n) ≡ int_at t n
    map_int (pos n) = map_ones n
    map_int (negsuc n) =
        let x = ones (zero_at s) (one_at s) (add_at s) (suc n) in
        same t (map_at (opp_at s x)) (opp_at t (map_at x)) (u.laws.hom_opp h s t x.0 m x.1)
        ∙ ap (opp_at t) (map_ones (suc n))
