-- The search, as far as its laws need it: which moves may be made, whatever their order. Lines are named by
-- themselves, not by numbers.
use Rattle.std.specs.Prelude.{◌≡◌, ◌≢◌, List, [], ◌∷◌, ◌++◌, ℤ, pos, ◌*ℤ◌}
use Rattle.std.proofs.Common.{◌⊎◌}
use lib.IntN.{neg_ℤ}
use Rattle.std.specs.declared.cmp.Ordering.{Ordering}
use Rattle.std.specs.declared.option.Option.{Option}
use Rattle.std.specs.declared.option.Option.TheVariants.{None, Some}
use Rattle.alg_mono.specs.FiniteMaps.{IsCanonical, amount, row, products, Each}
use Rattle.alg_mono.specs.Numbers.{integers}
use Rattle.alg_criterion.proofs.Spans.{Every, Led, whole}

abbrev pub Has : {A : Type 0} → A → List A → Type 0
Has x [] = ⊥
Has x (y ∷ ys) = (x ≡ y) ⊎ Has x ys

abbrev pub Pairwise : {A B : Type 0} → (A → B → Type 0) → List A → List B → Type 0
Pairwise R [] [] = Unit {0}
Pairwise R [] (y ∷ ys) = ⊥
Pairwise R (x ∷ xs) [] = ⊥
Pairwise R (x ∷ xs) (y ∷ ys) = R x y × Pairwise R xs ys

-- each coefficient times c
abbrev pub scale : {M : Type 0} → ℤ → List (M × ℤ) → List (M × ℤ)
scale c [] = []
scale c (e ∷ p) = (e.0, c *ℤ e.1) ∷ scale c p

pub record Seen (M : Type 0) : Type 0 where
  pub basis : List (Led M)
  pub pairs : List (Led M × Led M)
  pub inputs : List (List (M × ℤ))
  pub remainders : List (List (M × ℤ))
  pub current : Option (List (M × ℤ))
  -- the lines that were made beyond the hypotheses
  pub made : List (List (M × ℤ))

module _ {M : Type 0} (cmp : M → M → Ordering) (times : M → M → M) (over : M → M → M) (Ok : M → Type 0) where
  pub record IsPoly (p : List (M × ℤ)) : Type 0 where
    pub canonical : IsCanonical cmp integers.amounts p
    pub ok : Each Ok p

  -- d*new is a*old - b*by*line, where by times the lead of the line is the lead of old
  pub record IsReduct (old : List (M × ℤ)) (line : Led M) (new : List (M × ℤ)) : Type 0 where
    pub a : ℤ
    pub b : ℤ
    pub d : ℤ
    pub a_some : a ≢ pos 0
    pub d_some : d ≢ pos 0
    pub by : M
    pub ok : Ok by
    pub led : Led M
    pub old_is : old ≡ whole led
    pub divides : times by line.lead ≡ led.lead
    pub poly : IsPoly new
    pub same : (q : M) → d *ℤ amount cmp integers.amounts q new ≡
        amount cmp integers.amounts q (scale a old ++ row times ◌*ℤ◌ by (neg_ℤ b) (whole line))

  -- d*new is the S-polynomial a*m*f - b*n*g
  pub record IsSPolynomial (f g : Led M) (new : List (M × ℤ)) : Type 0 where
    pub a : ℤ
    pub b : ℤ
    pub d : ℤ
    pub a_some : a ≢ pos 0
    pub d_some : d ≢ pos 0
    pub balance : a *ℤ f.leading ≡ b *ℤ g.leading
    pub poly : IsPoly new
    pub same : (q : M) → d *ℤ amount cmp integers.amounts q new ≡
        amount cmp integers.amounts q (row times ◌*ℤ◌ (over g.lead f.lead) a (whole f)
        ++ row times ◌*ℤ◌ (over f.lead g.lead) (neg_ℤ b) (whole g))

  -- neither has a part of the other
  abbrev pub AreCoprime : M → M → Type 0
  AreCoprime m n = (over m n ≡ m) × (over n m ≡ n)

  abbrev pub IsStep : List (Led M) → List (M × ℤ) → List (M × ℤ) → Type 0
  IsStep basis old new = (old ≡ new) ⊎ ((l : Led M) × Has l basis × IsReduct old l new)

  pub data Reached (hyps powers : List (List (M × ℤ))) : Seen M → Type 0 where
    start : Reached hyps powers (record {
      basis = [];
      pairs = [];
      inputs = hyps;
      remainders = powers;
      current =
          None;
      made = [];
    })
    -- GoalIsReduced
    steps : (s : Seen M) → Reached hyps powers s → (new : List (List (M × ℤ))) →
        Pairwise (IsStep s.basis) s.remainders new →
        Reached hyps powers (record s { remainders = new })
    -- LineIsZero
    drops : (s : Seen M) → Reached hyps powers s → s.current ≡ Some [] →
        Reached hyps powers (record s { current = None })
    -- LineIsReduced
    reduces : (s : Seen M) → Reached hyps powers s → (old new : List (M × ℤ)) → s.current ≡ Some old → (l : Led M) →
        Has l s.basis → IsReduct old l new →
        Reached hyps powers (record s { current = Some new; made = s.made ++ new ∷ [] })
    -- LineJoins
    joins : (s : Seen M) → Reached hyps powers s → (l : Led M) → s.current ≡ Some (whole l) →
        (wider : List (Led M)) → Has l wider → ((k : Led M) → Has k s.basis → Has k wider) →
        ((k : Led M) → Has k wider → (k ≡ l) ⊎ Has k s.basis) →
        (more : List (Led M × Led M)) → ((p : Led M × Led M) → Has p s.pairs → Has p more) →
        ((f : Led M) → Has f s.basis → Has (f, l) more ⊎ Has (l, f) more ⊎ AreCoprime f.lead l.lead) →
        Reached hyps powers (record s { basis = wider; pairs = more; current = None })
    -- InputIsTaken
    takes : (s : Seen M) → Reached hyps powers s → s.current ≡ None →
        (h : List (M × ℤ)) (rest : List (List (M × ℤ))) → s.inputs ≡ h ∷ rest →
        Reached hyps powers (record s { inputs = rest; current = Some h })
    -- PairIsTaken
    pairs_up : (s : Seen M) → Reached hyps powers s → s.current ≡ None → (f g : Led M) → Has f s.basis →
        Has g s.basis → (rest : List (Led M × Led M)) →
        ((p : Led M × Led M) → Has p s.pairs → (p ≡ (f, g)) ⊎ Has p rest) → (new : List (M × ℤ)) →
        IsSPolynomial f g new →
        Reached hyps powers (record s { pairs = rest; current = Some new; made = s.made ++ new ∷ [] })

  -- a polynomial that no basis line reduces
  pub record IsReduced (basis : List (Led M)) (p : List (M × ℤ)) : Type 0 where
    pub led : Led M
    pub is : p ≡ whole led
    pub none : (l : Led M) → Has l basis → (m : M) → times m l.lead ≢ led.lead

  -- NothingIsLeft
  pub record IsAtItsEnd (s : Seen M) : Type 0 where
    pub current : s.current ≡ None
    pub inputs : s.inputs ≡ []
    pub pairs : s.pairs ≡ []
    pub reduced : Every (IsReduced s.basis) s.remainders

  -- the entries of the sum of the products S_i * H_i
  abbrev pub combined : List (List (M × ℤ)) → List (List (M × ℤ)) → List (M × ℤ)
  combined [] hs = []
  combined (s ∷ ss) [] = []
  combined (s ∷ ss) (h ∷ hs) = products times ◌*ℤ◌ s h ++ combined ss hs

  -- c*p is a sum of products S_i * H_i, for some c other than 0
  pub record IsCombination (hyps : List (List (M × ℤ))) (p : List (M × ℤ)) : Type 0 where
    pub multiple : ℤ
    pub some : multiple ≢ pos 0
    pub factors : List (List (M × ℤ))
    pub ok : Every (Each Ok) factors
    pub same : (q : M) → multiple *ℤ amount cmp integers.amounts q p ≡
        amount cmp integers.amounts q (combined factors hyps)
