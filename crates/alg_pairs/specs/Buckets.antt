-- Leads by their least atoms. These words serve the index alone.
use Rattle.std.specs.Prelude.{◌≡◌, ℕ, ◌<◌, ◌==◌, Bool, true, false, nat_lt, cond, List, [], ◌∷◌, Option, Some, None, min, All}
use Rattle.std.specs.Ordering.{nat_cmp}
use Rattle.alg_mono.specs.FiniteMaps.{IsCanonical}
use Rattle.alg_mono.specs.Mono.{Monomial}
use Rattle.alg_mono.specs.Monomials.{exponent}
use Rattle.alg_mono.specs.Numbers.{exponents}
use Rattle.alg_pairs.specs.Leads.{divides, RisesFrom}
use Rattle.alg_pairs.specs.declared.bucket.Bucket.{Bucket}
use Rattle.alg_pairs.specs.declared.lead.Lead.{Lead}

-- the lesser of two lines, where they are there
abbrev pub lesser : Option ℕ → Option ℕ → Option ℕ
lesser None y = y
lesser (Some a) None = Some a
lesser (Some a) (Some b) = Some (min a b)

-- n is less than a line, where that is there
abbrev pub before : ℕ → Option ℕ → Bool
before n None = true
before n (Some k) = nat_lt n k

-- the line, where its lead divides m
abbrev pub line_if : Monomial → Lead → Option ℕ
line_if m x = cond (divides x.lead m) (Some x.line) None

-- the least line of those whose lead divides m
abbrev pub least_of : Monomial → List Lead → Option ℕ
least_of m [] = None
least_of m (x ∷ xs) = lesser (line_if m x) (least_of m xs)

abbrev pub least_in : Monomial → List Bucket → Option ℕ
least_in m [] = None
least_in m (b ∷ bs) = lesser (least_of m b.leads.items) (least_in m bs)

-- the least atom, and none of 1
abbrev pub least_atom : Monomial → Option ℕ
least_atom [] = None
least_atom (e ∷ m) = Some e.0

-- the atom, where there is one, occurs in m
abbrev pub Occurs : Option ℕ → Monomial → Type 0
Occurs None m = Unit {0}
Occurs (Some atom) m = 0 < exponent nat_cmp atom m

-- the lead is a monomial with this least atom
pub record BelongsTo (atom : Option ℕ) (x : Lead) : Type 0 where
  pub atom_is : least_atom x.lead ≡ atom
  pub sound : IsCanonical nat_cmp exponents x.lead

abbrev pub IsFiled : Bucket → Type 0
IsFiled b = All (BelongsTo b.atom) b.leads.items

-- the buckets have one lead more
abbrev pub Adds : Lead → List Bucket → List Bucket → Type 0
Adds x old new = (m : Monomial) → least_in m new ≡ lesser (line_if m x) (least_in m old)

-- the buckets have the same leads
abbrev pub AreSame : List Bucket → List Bucket → Type 0
AreSame old new = (m : Monomial) → least_in m new ≡ least_in m old

-- whether a line is there
abbrev pub is_there : ℕ → List Lead → Bool
is_there n [] = false
is_there n (x ∷ xs) = cond (x.line == n) true (is_there n xs)

-- the lines rise, and the buckets have the same leads
pub record IsIndexed (leads : List Lead) (buckets : List Bucket) : Type 0 where
  pub rises : RisesFrom 0 leads
  pub filed : All IsFiled buckets
  pub same : (m : Monomial) → least_in m buckets ≡ least_of m leads
