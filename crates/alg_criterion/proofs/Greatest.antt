-- The greatest of some products.
use Rattle.std.specs.Prelude.{◌≡◌, List, [], ◌∷◌}
use Rattle.std.proofs.Common.{refl, sym, ap, subst, ◌∙◌, inl, inr}
use Rattle.std.specs.declared.cmp.Ordering.{Ordering}
use Rattle.std.specs.declared.cmp.Ordering.TheVariants.{Less, Equal, Greater}
use Rattle.std.specs.Ordering.{ordering_reverse}
use Rattle.std.specs.Cmp.{IsTotalOrder}
use Rattle.std.specs.FinMap.{IsAntisymmetric}
use Rattle.alg_criterion.proofs.Spans.{Every, Led, Summand, top, UpTo, IsGood}

module _ {M : Type 0} {cmp : M → M → Ordering} (o : IsTotalOrder cmp) (anti : IsAntisymmetric cmp)
    (times : M → M → M) (Ok : M → Type 0) (In : Led M → Type 0) where
  abbrev Good : (M → Type 0) → Summand M → Type 0
  Good Low t = IsGood cmp times Ok In Low t

  -- the greatest summand
  pub record Greatest (ts : List (Summand M)) (Low : M → Type 0) : Type 0 where
    pub summand : Summand M
    pub good : Good Low summand
    pub all : Every (Good (UpTo cmp (top times summand))) ts

  weaker : (Low High : M → Type 0) → ((v : M) → Low v → High v) → (ts : List (Summand M)) → Every (Good Low) ts →
      Every (Good High) ts
  weaker Low High f [] g = tt
  weaker Low High f (t ∷ ts) g = (
    record { ok = g.0.ok; member = g.0.member; low = f (top times t) g.0.low },
    weaker Low High f ts g.1,
  )

  upto_trans : (a b v : M) → cmp a b ≡ Less → UpTo cmp b v → UpTo cmp a v
  upto_trans a b v p (inl q) = inl (o.trans a b v p q)
  upto_trans a b v p (inr e) = inl (subst (λ x. cmp a x ≡ Less) e p)

  pub greatest : (Low : M → Type 0) (t : Summand M) (ts : List (Summand M)) → Good Low t → Every (Good Low) ts →
      Greatest (t ∷ ts) Low
  greatest Low t [] g h = record {
    summand = t;
    good = g;
    all =
        (record { ok = g.ok; member = g.member; low = inr refl }, tt);
  }
  greatest Low t (s ∷ ts) g h =
      let r = greatest Low s ts h.0 h.1 in
      let a = top times t in
      let b = top times r.summand in
      elim (cmp a b) as (λ x. cmp a b ≡ x → Greatest (t ∷ s ∷ ts) Low) [
        | Less ↦ λ p. record {
          summand = t;
          good = g;
          all = (
            record {
              ok = g.ok;
              member = g.member;
              low =
                  inr refl;
            },
            weaker (UpTo cmp b) (UpTo cmp a) (λ v u. upto_trans a b v p u) (s ∷ ts) r.all,
          );
        }
        | Equal ↦ λ p. record {
          summand = r.summand;
          good = r.good;
          all =
              (record { ok = g.ok; member = g.member; low = inr (sym (anti a b p)) }, r.all);
        }
        | Greater ↦ λ p. record {
          summand = r.summand;
          good = r.good;
          all =
              (record { ok = g.ok; member = g.member; low = inl (o.antisymm b a ∙ ap ordering_reverse p) }, r.all);
        }
      ] refl
