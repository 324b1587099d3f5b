-- Finite maps as lists of keys with amounts, and the one canonical list of each map.
use Rattle.std.specs.Prelude.{Bool, true, cond, not, ◌&&◌, List, [], ◌∷◌, ◌++◌}
use Rattle.std.proofs.Common.{T}
use Rattle.std.specs.declared.cmp.Ordering.{Ordering}
use Rattle.std.specs.Ordering.{eq_by_cmp}
use Rattle.std.specs.FinMap.Entries.{by_order, is_sorted}

-- amounts that add up, of which one can say whether they are none
pub record Amounts (A : Type 0) : Type 0 where
  pub none : A
  pub plus : A → A → A
  pub is_none : A → Bool

module _ {K A : Type 0} (cmp : K → K → Ordering) (M : Amounts A) where
  -- the amount of an entry where its key is q, and else none
  abbrev pub at_key : K → K → A → A
  at_key q k a = cond (eq_by_cmp cmp q k) a M.none

  -- what stands at the key q: the sum of the amounts of its entries
  abbrev pub amount : K → List (K × A) → A
  amount q [] = M.none
  amount q (e ∷ es) = M.plus (at_key q e.0 e.1) (amount q es)

  -- an entry in front, unless its amount is none
  abbrev pub keep : K → A → List (K × A) → List (K × A)
  keep k a es = cond (M.is_none a) es ((k, a) ∷ es)

  -- one more amount at a key, in its place in a list whose keys rise
  abbrev pub put_in : K → A → List (K × A) → List (K × A)
  put_in k a [] = keep k a []
  put_in k a (e ∷ es) =
      by_order (cmp k e.0) (keep k a (e ∷ es)) (keep e.0 (M.plus a e.1) es) (e ∷ put_in k a es)

  -- the canonical list: each key once with its sum, the keys rising, no sum that is none
  abbrev pub collect : List (K × A) → List (K × A)
  collect [] = []
  collect (e ∷ es) = put_in e.0 e.1 (collect es)

  -- no entry's amount is none
  abbrev pub all_some : List (K × A) → Bool
  all_some [] = true
  all_some (e ∷ es) = not (M.is_none e.1) && all_some es

  -- each map has one list: its keys rise, and no amount is none
  pub record IsCanonical (es : List (K × A)) : Type 0 where
    pub rises : T (is_sorted cmp es)
    pub no_none : T (all_some es)

-- the sum of g over all entries
module _ {K A B : Type 0} (none : B) (plus : B → B → B) (g : K → A → B) where
  abbrev pub total : List (K × A) → B
  total [] = none
  total (e ∷ es) = plus (g e.0 e.1) (total es)

module _ {K A L C J D : Type 0} (times : K → L → J) (mul : A → C → D) where
  -- one entry times each entry of a list
  abbrev pub row : K → A → List (L × C) → List (J × D)
  row k a [] = []
  row k a (f ∷ fs) = (times k f.0, mul a f.1) ∷ row k a fs

  -- each entry of the one list times each of the other
  abbrev pub products : List (K × A) → List (L × C) → List (J × D)
  products [] fs = []
  products (e ∷ es) fs = row e.0 e.1 fs ++ products es fs

-- the same amounts at the images of their keys
abbrev pub renamed : {K L A : Type 0} → (K → L) → List (K × A) → List (L × A)
renamed f [] = []
renamed f (e ∷ es) = (f e.0, e.1) ∷ renamed f es

-- the map with each key renamed; the amounts of keys with one image add up
abbrev pub rename :
    {K L A : Type 0} → (L → L → Ordering) → Amounts A → (K → L) → List (K × A) → List (L × A)
rename cmp M f es = collect cmp M (renamed f es)

-- each key of the list is of a kind
abbrev pub Each : {K A : Type 0} → (K → Type 0) → List (K × A) → Type 0
Each P [] = Unit {0}
Each P (e ∷ es) = P e.0 × Each P es
