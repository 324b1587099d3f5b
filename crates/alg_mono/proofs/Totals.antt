-- Sums over the entries of a finite map.
use Rattle.std.specs.Prelude.{◌≡◌, true, false, cond, List, [], ◌∷◌, ◌++◌}
use Rattle.std.proofs.Common.{refl, sym, ap, ◌∙◌}
use Rattle.std.specs.declared.cmp.Ordering.{Ordering}
use Rattle.std.specs.declared.cmp.Ordering.TheVariants.{Less, Equal, Greater}
use Rattle.std.specs.FinMap.{IsAntisymmetric}
use Rattle.std.specs.FinMap.Entries.{by_order}
use Rattle.alg_mono.specs.FiniteMaps.{Amounts, keep, put_in, collect, total, row, products, renamed}

-- a commutative monoid
pub record IsSum {B : Type 0} (none : B) (plus : B → B → B) : Type 0 where
  pub assoc : (x y z : B) → plus (plus x y) z ≡ plus x (plus y z)
  pub comm : (x y : B) → plus x y ≡ plus y x
  pub idl : (x : B) → plus none x ≡ x

pub record IsAmounts {A : Type 0} (M : Amounts A) : Type 0 where
  pub laws : IsSum M.none M.plus
  pub none_is : M.is_none M.none ≡ true
  pub is_none_only : (a : A) → M.is_none a ≡ true → a ≡ M.none

-- g adds up in its amount
pub record IsAdditive {K A B : Type 0} (M : Amounts A) (none : B) (plus : B → B → B) (g : K → A → B) : Type 0 where
  pub at_none : (k : K) → g k M.none ≡ none
  pub at_plus : (k : K) (a b : A) → g k (M.plus a b) ≡ plus (g k a) (g k b)

module _ {K A B : Type 0} {cmp : K → K → Ordering} {M : Amounts A} (L : IsAmounts M) {none : B} {plus : B → B →
    B} (anti : IsAntisymmetric cmp) (S : IsSum none plus) where
  total-keep : {g : K → A → B} → IsAdditive M none plus g → (k : K) (a : A) (es : List (K × A)) →
      total none plus g (keep cmp M k a es) ≡ plus (g k a) (total none plus g es)
  total-keep {g} G k a es =
      elim (M.is_none a) as (λ b. M.is_none a ≡ b →
      total none plus g (cond b es ((k, a) ∷ es)) ≡ plus (g k a) (total none plus g es)) [
        | true ↦ λ e. sym (ap (λ x. plus x (total none plus g es)) (ap (g k) (L.is_none_only a e) ∙ G.at_none k)
            ∙ S.idl (total none plus g es))
        | false ↦ λ e. refl
      ] refl

  pub total-put_in : {g : K → A → B} → IsAdditive M none plus g → (k : K) (a : A) (es : List (K × A)) →
      total none plus g (put_in cmp M k a es) ≡ plus (g k a) (total none plus g es)
  total-put_in G k a [] = total-keep G k a []
  total-put_in {g} G k a (e ∷ es) =
      let t = total none plus g es in
      elim (cmp k e.0) as (λ r. cmp k e.0 ≡ r →
      total none plus g (by_order r (keep cmp M k a (e ∷ es)) (keep cmp M e.0 (M.plus a e.1) es)
      (e ∷ put_in cmp M k a es)) ≡ plus (g k a) (plus (g e.0 e.1) t)) [
        | Less ↦ λ p. total-keep G k a (e ∷ es)
        | Equal ↦ λ p. total-keep G e.0 (M.plus a e.1) es ∙ ap (λ x. plus x t) (G.at_plus e.0 a e.1)
            ∙ S.assoc (g e.0 a) (g e.0 e.1) t ∙ ap (λ x. plus (g x a) (plus (g e.0 e.1) t)) (sym (anti k e.0 p))
        | Greater ↦ λ p. ap (plus (g e.0 e.1)) (total-put_in G k a es) ∙ sym (S.assoc (g e.0 e.1) (g k a) t)
            ∙ ap (λ x. plus x t) (S.comm (g e.0 e.1) (g k a)) ∙ S.assoc (g k a) (g e.0 e.1) t
      ] refl

  -- to collect changes no sum
  pub total-collect : {g : K → A → B} → IsAdditive M none plus g → (es : List (K × A)) →
      total none plus g (collect cmp M es) ≡ total none plus g es
  total-collect G [] = refl
  total-collect {g} G (e ∷ es) = total-put_in G e.0 e.1 (collect cmp M es) ∙ ap (plus (g e.0 e.1)) (total-collect G es)

pub total_cong : {K A B : Type 0} (none : B) (plus : B → B → B) {g h : K → A → B} →
    ((k : K) (a : A) → g k a ≡ h k a) → (es : List (K × A)) → total none plus g es ≡ total none plus h es
total_cong {K} {A} {B} none plus e es = ap (λ (f : K → A → B). total none plus f es) (λ i k a. e k a i)

module _ {B : Type 0} {none : B} {plus : B → B → B} (S : IsSum none plus) where
  pub middle : (a b c d : B) → plus (plus a b) (plus c d) ≡ plus (plus a c) (plus b d)
  middle a b c d =
      S.assoc a b (plus c d) ∙ ap (plus a) (sym (S.assoc b c d) ∙ ap (λ x. plus x d) (S.comm b c) ∙ S.assoc c b d)
      ∙ sym (S.assoc a c (plus b d))

  pub idr : (x : B) → plus x none ≡ x
  idr x = S.comm x none ∙ S.idl x

  pub left_comm : (x y z : B) → plus x (plus y z) ≡ plus y (plus x z)
  left_comm x y z = sym (S.assoc x y z) ∙ ap (λ w. plus w z) (S.comm x y) ∙ S.assoc y x z

module _ {K A B : Type 0} {none : B} {plus : B → B → B} (S : IsSum none plus) where
  pub total-append : (g : K → A → B) (es fs : List (K × A)) →
      total none plus g (es ++ fs) ≡ plus (total none plus g es) (total none plus g fs)
  total-append g [] fs = sym (S.idl (total none plus g fs))
  total-append g (e ∷ es) fs =
      ap (plus (g e.0 e.1)) (total-append g es fs)
      ∙ sym (S.assoc (g e.0 e.1) (total none plus g es) (total none plus g fs))

  -- the sum of sums, and of nothing
  pub total-plus : (g h : K → A → B) (es : List (K × A)) →
      total none plus (λ k a. plus (g k a) (h k a)) es ≡ plus (total none plus g es) (total none plus h es)
  total-plus g h [] = sym (S.idl none)
  total-plus g h (e ∷ es) =
      ap (plus (plus (g e.0 e.1) (h e.0 e.1))) (total-plus g h es)
      ∙ middle S (g e.0 e.1) (h e.0 e.1) (total none plus g es) (total none plus h es)

  pub total-none : (es : List (K × A)) → total none plus (λ (k : K) (a : A). none) es ≡ none
  total-none [] = refl
  total-none (e ∷ es) = S.idl (total none plus (λ (k : K) (a : A). none) es) ∙ total-none es

-- the order of two sums
module _ {K A L C B : Type 0} {none : B} {plus : B → B → B} (S : IsSum none plus) where
  pub total-swap : (g : K → A → L → C → B) (es : List (K × A)) (fs : List (L × C)) →
      total none plus (λ k a. total none plus (g k a) fs) es ≡
      total none plus (λ l c. total none plus (λ k a. g k a l c) es) fs
  total-swap g [] fs = sym (total-none S fs)
  total-swap g (e ∷ es) fs =
      ap (plus (total none plus (g e.0 e.1) fs)) (total-swap g es fs)
      ∙ sym (total-plus S (g e.0 e.1) (λ l c. total none plus (λ k a. g k a l c) es) fs)

module _ {K A L C J D : Type 0} (times : K → L → J) (mul : A → C → D) {B : Type 0} {none : B} {plus : B → B →
    B} (S : IsSum none plus) where
  pub total-row : (g : J → D → B) (k : K) (a : A) (fs : List (L × C)) →
      total none plus g (row times mul k a fs) ≡ total none plus (λ l c. g (times k l) (mul a c)) fs
  total-row g k a [] = refl
  total-row g k a (f ∷ fs) = ap (plus (g (times k f.0) (mul a f.1))) (total-row g k a fs)

  pub total-products : (g : J → D → B) (es : List (K × A)) (fs : List (L × C)) →
      total none plus g (products times mul es fs) ≡
      total none plus (λ k a. total none plus (λ l c. g (times k l) (mul a c)) fs) es
  total-products g [] fs = refl
  total-products g (e ∷ es) fs =
      total-append S g (row times mul e.0 e.1 fs) (products times mul es fs)
      ∙ (λ i. plus (total-row g e.0 e.1 fs i) (total-products g es fs i))

pub total-renamed : {K L A B : Type 0} (f : K → L) (none : B) (plus : B → B → B) (g : L → A → B) (es : List (K × A)) →
    total none plus g (renamed f es) ≡ total none plus (λ k a. g (f k) a) es
total-renamed f none plus g [] = refl
total-renamed f none plus g (e ∷ es) = ap (plus (g (f e.0) e.1)) (total-renamed f none plus g es)

-- the image of a sum
pub total-image : {K A B D : Type 0} (none : B) (plus : B → B → B) (nil : D) (add : D → D → D) (h : B → D) →
    h none ≡ nil → ((x y : B) → h (plus x y) ≡ add (h x) (h y)) →
    (g : K → A → B) (es : List (K × A)) → h (total none plus g es) ≡ total nil add (λ k a. h (g k a)) es
total-image none plus nil add h hn hp g [] = hn
total-image none plus nil add h hn hp g (e ∷ es) =
    hp (g e.0 e.1) (total none plus g es) ∙ ap (add (h (g e.0 e.1))) (total-image none plus nil add h hn hp g es)
