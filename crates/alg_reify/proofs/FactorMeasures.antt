-- What is added up over all factors of a product, and what numbering keeps of it.
use Rattle.std.specs.Prelude.{◌≡◌, ℕ, zero, suc, ◌+◌, ◌*◌, Bool, true, false, cond, ◌||◌, List, [], ◌∷◌, ◌++◌, sum_by, replicate}
use Rattle.std.proofs.Common.{refl, sym, ap, ◌∙◌, arith}
use Rattle.std.proofs.Math.Nat.{mul_assoc, mul_comm}
use Rattle.std.proofs.lemmas.List.Sums.{sum_by-cons}
use Rattle.std.specs.declared.cmp.Ordering.{Ordering}
use Rattle.std.specs.Cmp.{IsTotalOrder}
use Rattle.std.specs.FinMap.{IsAntisymmetric}
use Rattle.alg_mono.specs.FiniteMaps.{Each, rename, renamed, total}
use Rattle.alg_mono.specs.Numbers.{exponents}
use Rattle.alg_mono.specs.Outcomes.{Outcome, outcome, product_outcome, has_zero, norm_product, is_nothing}
use Rattle.alg_mono.specs.Polynomials.{PolyOver, norm, poly_degree}
use Rattle.alg_mono.proofs.Totals.{IsSum, IsAdditive, total-collect, total-renamed}
use Rattle.alg_mono.proofs.Numbers.{exponent_laws, natural_sum}
use Rattle.alg_reify.proofs.Undone.{IsLike}
use Rattle.alg_meaning.specs.FactorsOver.{FactorsOver, poly_cmp}
use Rattle.alg_meaning.specs.FractionRules.{all_factors, over_outcome, below_outcome}
use Rattle.alg_meaning.specs.Orders.{over_anti}

module _ {B : Type 0} {none : B} {plus : B → B → B} (S : IsSum none plus) where
  -- x so many times
  abbrev pub many : ℕ → B → B
  many zero x = none
  many (suc n) x = plus x (many n x)

  pub many-add : (x : B) (m n : ℕ) → many (m + n) x ≡ plus (many m x) (many n x)
  many-add x zero n = ap (λ k. many k x) (none_more n) ∙ sym (S.idl (many n x))
    where
      none_more : (n : ℕ) → zero + n ≡ n
      none_more n = omega arith
  many-add x (suc m) n =
      ap (λ k. many k x) (next m n) ∙ ap (plus x) (many-add x m n) ∙ sym (S.assoc x (many m x) (many n x))
    where
      next : (m n : ℕ) → suc m + n ≡ suc (m + n)
      next m n = omega arith

  module _ {K : Type 0} (h : PolyOver K → B) where
    -- h added up over a list of factors
    abbrev pub measure : List (PolyOver K) → B
    measure [] = none
    measure (p ∷ ps) = plus (h p) (measure ps)

    pub measure-append : (ps qs : List (PolyOver K)) → measure (ps ++ qs) ≡ plus (measure ps) (measure qs)
    measure-append [] qs = sym (S.idl (measure qs))
    measure-append (p ∷ ps) qs =
        ap (plus (h p)) (measure-append ps qs) ∙ sym (S.assoc (h p) (measure ps) (measure qs))

    measure-replicate : (n : ℕ) (q : PolyOver K) → measure (replicate n q) ≡ many n (h q)
    measure-replicate zero q = refl
    measure-replicate (suc n) q = ap (plus (h q)) (measure-replicate n q)

    -- it is a sum over the entries of the map
    pub measure-all : (m : FactorsOver K) → measure (all_factors m) ≡ total none plus (λ q e. many e (h q)) m
    measure-all [] = refl
    measure-all (e ∷ m) =
        measure-append (replicate e.1 e.0) (all_factors m)
        ∙ (λ i. plus (measure-replicate e.1 e.0 i) (measure-all m i))

    pub many_adds : IsAdditive exponents none plus (λ q e. many e (h q))
    many_adds = record { at_none = λ q. refl; at_plus = λ q a b. many-add (h q) a b }

  -- what each key keeps
  cong_each : {K L : Type 0} (f : K → L) (h : K → B) (g : L → B) (m : List (K × ℕ)) → Each (λ q. h q ≡ g (f q)) m →
      total none plus (λ q e. many e (g (f q))) m ≡ total none plus (λ q e. many e (h q)) m
  cong_each f h g [] is = refl
  cong_each f h g (e ∷ m) is = λ i. plus (many e.1 (sym is.0 i)) (cong_each f h g m is.1 i)

  -- renaming keeps what is added up
  pub measure-rename : {K L : Type 0} {cl : L → L → Ordering} (ol : IsTotalOrder cl) (al : IsAntisymmetric cl)
      (f : PolyOver K → PolyOver L) (h : PolyOver K → B) (g : PolyOver L → B) (m : FactorsOver K) →
      Each (λ q. h q ≡ g (f q)) m →
      measure h (all_factors m) ≡ measure g (all_factors (rename (poly_cmp cl) exponents f m))
  measure-rename {cl = cl} ol al f h g m is =
      measure-all h m
      ∙ sym (measure-all g (rename (poly_cmp cl) exponents f m)
      ∙ total-collect exponent_laws (over_anti ol al) S (many_adds g) (renamed f m)
      ∙ total-renamed f none plus (λ q e. many e (g q)) m ∙ cong_each f h g m is)

-- ---- norms, degrees and zeros
pub norm_sum : IsSum 1 ◌*◌
norm_sum = record { assoc = mul_assoc; comm = mul_comm; idl = λ n. one_times n }
  where
    one_times : (n : ℕ) → 1 * n ≡ n
    one_times n = omega arith

pub either_sum : IsSum false ◌||◌
either_sum = record { assoc = assoc; comm = comm; idl = λ b. refl }
  where
    assoc : (a b c : Bool) → (a || b) || c ≡ a || (b || c)
    assoc true b c = refl
    assoc false b c = refl

    comm : (a b : Bool) → a || b ≡ b || a
    comm true true = refl
    comm true false = refl
    comm false true = refl
    comm false false = refl

module _ {K : Type 0} where
  pub norm_measure : (ps : List (PolyOver K)) → norm_product ps ≡ measure norm_sum (λ p. norm p) ps
  norm_measure [] = refl
  norm_measure (p ∷ ps) = ap (λ n. norm p * n) (norm_measure ps)

  pub zero_measure : (ps : List (PolyOver K)) → has_zero ps ≡ measure either_sum (λ p. is_nothing p) ps
  zero_measure [] = refl
  zero_measure (p ∷ ps) = ap (λ b. is_nothing p || b) (zero_measure ps)

  pub degree_measure : (ps : List (PolyOver K)) → sum_by poly_degree ps ≡ measure natural_sum (λ p. poly_degree p) ps
  degree_measure [] = refl
  degree_measure (p ∷ ps) =
      sum_by-cons (λ (q : PolyOver K). poly_degree q) p ps ∙ ap (λ n. poly_degree p + n) (degree_measure ps)

-- the factors of both lists have the same norms, degrees and zeros in all
pub record AreLike {K L : Type 0} (ps : List (PolyOver K)) (qs : List (PolyOver L)) : Type 0 where
  pub norm : norm_product ps ≡ norm_product qs
  pub degree : sum_by poly_degree ps ≡ sum_by poly_degree qs
  pub nothing : has_zero ps ≡ has_zero qs

-- lists without factors, with one factor, and joined lists
pub nothing_like : {K L : Type 0} → AreLike {K = K} {L = L} [] []
nothing_like = record { norm = refl; degree = refl; nothing = refl }

pub one_like : {K L : Type 0} (p : PolyOver K) (q : PolyOver L) → IsLike p q → AreLike (p ∷ []) (q ∷ [])
one_like {K} {L} p q h = record {
  norm = ap (λ n. n * 1) h.norm;
  degree =
      sum_by-cons (λ (r : PolyOver K). poly_degree r) p [] ∙ ap (λ n. n + 0) h.degree
      ∙ sym (sum_by-cons (λ (r : PolyOver L). poly_degree r) q []);
  nothing = ap (λ b. b || false) h.nothing;
}

module _ {K L : Type 0} (ps qs : List (PolyOver K)) (ps' qs' : List (PolyOver L)) (h : AreLike ps ps')
    (g : AreLike qs qs') where
  pub both_like : AreLike (ps ++ qs) (ps' ++ qs')
  both_like = record {
    norm =
        norm_measure (ps ++ qs) ∙ measure-append norm_sum (λ p. norm p) ps qs
        ∙ (λ i. (sym (norm_measure ps) ∙ h.norm ∙ norm_measure ps') i
        * (sym (norm_measure qs) ∙ g.norm ∙ norm_measure qs') i)
        ∙ sym (norm_measure (ps' ++ qs') ∙ measure-append norm_sum (λ p. norm p) ps' qs');
    degree =
        degree_measure (ps ++ qs) ∙ measure-append natural_sum (λ p. poly_degree p) ps qs
        ∙ (λ i. (sym (degree_measure ps) ∙ h.degree ∙ degree_measure ps') i
        + (sym (degree_measure qs) ∙ g.degree ∙ degree_measure qs') i)
        ∙ sym (degree_measure (ps' ++ qs') ∙ measure-append natural_sum (λ p. poly_degree p) ps' qs');
    nothing =
        zero_measure (ps ++ qs) ∙ measure-append either_sum (λ p. is_nothing p) ps qs
        ∙ (λ i. (sym (zero_measure ps) ∙ h.nothing ∙ zero_measure ps') i
        || (sym (zero_measure qs) ∙ g.nothing ∙ zero_measure qs') i)
        ∙ sym (zero_measure (ps' ++ qs') ∙ measure-append either_sum (λ p. is_nothing p) ps' qs');
  }

-- products of such factors break the same rule
pub same_rule : {K L : Type 0} (ps : List (PolyOver K)) (qs : List (PolyOver L)) → AreLike ps qs →
    product_outcome ps ≡ product_outcome qs
same_rule ps qs l = λ i. cond (l.nothing i) Outcome.Fine (outcome (l.norm i) (l.degree i))

each_of : {X A : Type 0} {P Q : X → Type 0} (m : List (X × A)) → ((x : X) → P x → Q x) → Each P m → Each Q m
each_of [] to h = tt
each_of (e ∷ m) to h = (to e.0 h.0, each_of m to h.1)

module _ {K L : Type 0} {cl : L → L → Ordering} (ol : IsTotalOrder cl) (al : IsAntisymmetric cl)
    (f : PolyOver K → PolyOver L) where
  -- numbering keeps them
  pub factors_like : (m : FactorsOver K) → Each (λ q. IsLike q (f q)) m →
      AreLike (all_factors m) (all_factors (rename (poly_cmp cl) exponents f m))
  factors_like m h =
      let n = rename (poly_cmp cl) exponents f m in
      record {
        norm =
            norm_measure (all_factors m)
            ∙ measure-rename norm_sum ol al f (λ p. norm p) (λ p. norm p) m (each_of m (λ q l. l.norm) h)
            ∙ sym (norm_measure (all_factors n));
        degree =
            degree_measure (all_factors m)
            ∙ measure-rename natural_sum ol al f (λ p. poly_degree p) (λ p. poly_degree p) m
            (each_of m (λ q l. l.degree) h)
            ∙ sym (degree_measure (all_factors n));
        nothing =
            zero_measure (all_factors m)
            ∙ measure-rename either_sum ol al f (λ p. is_nothing p) (λ p. is_nothing p) m
            (each_of m (λ q l. l.nothing) h)
            ∙ sym (zero_measure (all_factors n));
      }

  -- the product of the factors breaks the same rule
  pub below_like : (m : FactorsOver K) → Each (λ q. IsLike q (f q)) m →
      below_outcome m ≡ below_outcome (rename (poly_cmp cl) exponents f m)
  below_like m h = same_rule (all_factors m) (all_factors (rename (poly_cmp cl) exponents f m)) (factors_like m h)

  -- and so a polynomial times the product
  pub over_like : (p : PolyOver K) (m : FactorsOver K) → IsLike p (f p) → Each (λ q. IsLike q (f q)) m →
      over_outcome p m ≡ over_outcome (f p) (rename (poly_cmp cl) exponents f m)
  over_like p m g h =
      let n = rename (poly_cmp cl) exponents f m in
      same_rule (p ∷ all_factors m) (f p ∷ all_factors n)
      (both_like (p ∷ []) (all_factors m) (f p ∷ []) (all_factors n) (one_like p (f p) g) (factors_like m h))
