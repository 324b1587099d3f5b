-- The laws of a family of structures with morphisms: the textbook's laws of commutative rings, integral domains,
-- fields and ring morphisms. One may be zero in a ring.
use Rattle.std.specs.Prelude.{◌≡◌, ◌≢◌, ◌⊎◌, ◌≤◌, ℕ, Bool, true}
use Rattle.alg_terms.specs.declared.declarations.Kind.{Kind}
use Rattle.alg_terms.specs.Kinds.{IsDomain, IsField}
use Rattle.alg_universe.specs.Ones.{ones}

-- s, t are sorts, h is a morphism, and x, y, z are elements, each by a number or a value of the type of elements
pub record IsUniverse {E : Type 0} (has : ℕ → E → Type 0) (zero one : ℕ → E) (add : ℕ → E → E → E) (opp : ℕ → E → E)
    (mul : ℕ → E → E → E) (inv hom : ℕ → E → E) (kind : ℕ → Kind) (char0 : ℕ → Bool)
    (maps : ℕ → ℕ → ℕ → Type 0) : Type 0 where
  -- being in a carrier is a fact, and carries no data
  pub has_prop : (s : ℕ) (x : E) → IsProp (has s x)
  -- carriers hold zero and one, and are closed under the operations
  pub has_zero : (s : ℕ) → has s (zero s)
  pub has_one : (s : ℕ) → has s (one s)
  pub has_add : (s : ℕ) (x y : E) → has s x → has s y → has s (add s x y)
  pub has_opp : (s : ℕ) (x : E) → has s x → has s (opp s x)
  pub has_mul : (s : ℕ) (x y : E) → has s x → has s y → has s (mul s x y)
  pub has_inv : (s : ℕ) (x : E) → has s x → has s (inv s x)
  -- commutative rings
  pub add_assoc : (s : ℕ) (x y z : E) → has s x → has s y → has s z → add s (add s x y) z ≡ add s x (add s y z)
  pub add_comm : (s : ℕ) (x y : E) → has s x → has s y → add s x y ≡ add s y x
  pub add_zero : (s : ℕ) (x : E) → has s x → add s x (zero s) ≡ x
  pub add_opp : (s : ℕ) (x : E) → has s x → add s x (opp s x) ≡ zero s
  pub mul_assoc : (s : ℕ) (x y z : E) → has s x → has s y → has s z → mul s (mul s x y) z ≡ mul s x (mul s y z)
  pub mul_comm : (s : ℕ) (x y : E) → has s x → has s y → mul s x y ≡ mul s y x
  pub mul_one : (s : ℕ) (x : E) → has s x → mul s x (one s) ≡ x
  pub mul_add : (s : ℕ) (x y z : E) → has s x → has s y → has s z → mul s x (add s y z) ≡ add s (mul s x y) (mul s x z)
  -- domains and fields
  pub one_not_zero : (s : ℕ) → IsDomain (kind s) → one s ≢ zero s
  pub no_divisors : (s : ℕ) (x y : E) → IsDomain (kind s) → has s x → has s y → mul s x y ≡ zero s →
      (x ≡ zero s) ⊎ (y ≡ zero s)
  pub mul_inv : (s : ℕ) (x : E) → IsField (kind s) → has s x → x ≢ zero s → mul s x (inv s x) ≡ one s
  -- characteristic 0
  pub ones_not_zero : (s n : ℕ) → char0 s ≡ true → IsDomain (kind s) → 1 ≤ n → ones (zero s) (one s) (add s) n ≢ zero s
  -- morphisms
  pub hom_has : (h s t : ℕ) (x : E) → maps h s t → has s x → has t (hom h x)
  pub hom_zero : (h s t : ℕ) → maps h s t → hom h (zero s) ≡ zero t
  pub hom_one : (h s t : ℕ) → maps h s t → hom h (one s) ≡ one t
  pub hom_add : (h s t : ℕ) (x y : E) → maps h s t → has s x → has s y → hom h (add s x y) ≡ add t (hom h x) (hom h y)
  pub hom_opp : (h s t : ℕ) (x : E) → maps h s t → has s x → hom h (opp s x) ≡ opp t (hom h x)
  pub hom_mul : (h s t : ℕ) (x y : E) → maps h s t → has s x → has s y → hom h (mul s x y) ≡ mul t (hom h x) (hom h y)
