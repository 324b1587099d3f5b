-- One token ahead: how derivations begin, and where they could end.
use Rattle.std.proofs.Common.{◌≡◌, ℕ, ◌||◌, ◌&&◌, Bool, true, false, List, [], ◌∷◌, ◌++◌, ◌⊎◌, inl, inr, refl, sym, ap, subst, eq-eqb}
use Rattle.alg_tokens.specs.declared.token.Token.{Token}
use Rattle.alg_reader.specs.Kinds.{variant, code}
use Rattle.alg_reader.specs.Forms.{Rule, Form, a, seq, alt, opt, many, rule, Tree, token, pair, left, right, none, some, end, more, node, spelled}
use Rattle.alg_reader.specs.Grammar.{grammar, Fits}
use Rattle.alg_reader.specs.Ahead.{nullable, begins, goes_on, CannotGoOn, SameHead, Starts, Lacks}
use Rattle.alg_reader.proofs.RulesAhead.{rule_begins_right, rule_not_nullable, rule_goes_on_right}

pub or_first : (x y : Bool) → x ≡ true → (x || y) ≡ true
or_first true y h = refl
or_first false y h = cc

pub or_true : (x : Bool) → (x || true) ≡ true
or_true true = refl
or_true false = refl

pub not_true : (x : Bool) → (x ≡ true → ⊥) → x ≡ false
not_true true h = absurd (h refl)
not_true false h = refl

-- what a derivation spells is nothing, or begins as the form does
abbrev pub Head : Form → List Token → Type 0
Head f ts = ((ts ≡ []) × (nullable f ≡ true)) ⊎ ((t : Token) × (us : List Token) × (ts ≡ t ∷ us)
    × (begins f (code t) ≡ true))

head_seq : (f g : Form) (ts us : List Token) → Head f ts → Head g us → Head (seq f g) (ts ++ us)
head_seq f g ts us (inl h) (inl h') = inl (rw h.0 h'.0, rw (h.1, h'.1) refl)
head_seq f g ts us (inl h) (inr k) = inr (k.0, k.1, rw h.0 k.2, rw (h.1, k.3) (or_true (begins f (code k.0))))
head_seq f g ts us (inr k) h = inr (k.0, k.1 ++ us, rw k.2 refl, or_first _ _ k.3)

head_many : (f : Form) (ts us : List Token) → Head f ts → Head (many f) us → Head (many f) (ts ++ us)
head_many f ts us (inl h) (inl h') = inl (rw h.0 h'.0, refl)
head_many f ts us (inl h) (inr k) = inr (k.0, k.1, rw h.0 k.2, k.3)
head_many f ts us (inr k) h = inr (k.0, k.1 ++ us, rw k.2 refl, k.3)

head_opt : (f : Form) (ts : List Token) → Head f ts → Head (opt f) ts
head_opt f ts (inl h) = inl (h.0, refl)
head_opt f ts (inr k) = inr k

head_left : (f g : Form) (ts : List Token) → Head f ts → Head (alt f g) ts
head_left f g ts (inl h) = inl (h.0, or_first _ _ h.1)
head_left f g ts (inr k) = inr (k.0, k.1, k.2, or_first _ _ k.3)

head_right : (f g : Form) (ts : List Token) → Head g ts → Head (alt f g) ts
head_right f g ts (inl h) = inl (h.0, rw h.1 (or_true (nullable f)))
head_right f g ts (inr k) = inr (k.0, k.1, k.2, rw k.3 (or_true (begins f (code k.0))))

head_rule : (r : Rule) (ts : List Token) → Head (grammar r) ts → Head (rule r) ts
head_rule r ts (inl h) = let n = rule_not_nullable r in cc
head_rule r ts (inr k) = inr (k.0, k.1, k.2, rule_begins_right r _ k.3)

-- a derivation's tokens begin as its form does
pub head : (f : Form) (v : Tree) → Fits f v → Head f (spelled v)
head (a k) (token t) h = inr (t, [], refl, eq-eqb (variant k) (code t) h)
head (seq f g) (pair v w) h = head_seq f g _ _ (head f v h.0) (head g w h.1)
head (alt f g) (left v) h = head_left f g _ (head f v h)
head (alt f g) (right v) h = head_right f g _ (head g v h)
head (opt f) none h = inl (refl, refl)
head (opt f) (some v) h = head_opt f _ (head f v h)
head (many f) end h = inl (refl, refl)
head (many f) (more v w) h = head_many f _ _ (head f v h.0) (head (many f) w h.1)
head (rule r) (node q v) h = head_rule r _ (head (grammar r) v h.1)
head _ _ h = absurd h

-- ---- where a derivation could end

abbrev pub Disjoint : (ℕ → Bool) → (ℕ → Bool) → Type 0
Disjoint p q = (n : ℕ) → p n ≡ true → q n ≡ true → ⊥

pub or_false : (x y : Bool) → (x || y) ≡ false → (x ≡ false) × (y ≡ false)
or_false true y h = cc
or_false false y h = (refl, h)

-- what begins as g does ends f
pub ends_at : (f g : Form) (t : Token) (ts : List Token) → Disjoint (goes_on f) (begins g) → begins g (code t) ≡ true
    → CannotGoOn f (t ∷ ts)
ends_at f g t ts apart h = not_true _ (λ k. apart (code t) k h)

ends_null : (f g : Form) (r : List Token) → nullable g ≡ true → CannotGoOn (seq f g) r → CannotGoOn f r
ends_null f g [] null h = tt
ends_null f g (t ∷ ts) null h = let k = (or_false (goes_on g (code t)) (nullable g && goes_on f (code t)) h).1 in
    rw null at k

-- in a sequence the first part could end before the second
pub ends_first : (f g : Form) (w : Tree) (r : List Token) → Disjoint (goes_on f) (begins g) → Fits g w
    → CannotGoOn (seq f g) r → CannotGoOn f (spelled w ++ r)
ends_first f g w r apart fits h =
    elim (head g w fits) [
      | inl e ↦ let P : List Token → Type 0 = λ ts. CannotGoOn f (ts ++ r) in subst P (sym e.0) (ends_null f g r e.1 h)
      | inr k ↦ let P : List Token → Type 0 = λ ts. CannotGoOn f (ts ++ r) in
          subst P (sym k.2) (ends_at f g k.0 (k.1 ++ r) apart k.3)
    ]

pub ends_second : (f g : Form) (r : List Token) → CannotGoOn (seq f g) r → CannotGoOn g r
ends_second f g [] h = tt
ends_second f g (t ∷ ts) h = (or_false _ _ h).0

pub same_head_after : (us ts ts' : List Token) → SameHead ts ts' → SameHead (us ++ ts) (us ++ ts')
same_head_after [] ts ts' h = h
same_head_after (u ∷ us) ts ts' h = (u, us ++ ts, us ++ ts', refl, refl)

-- ---- what begins

pub starts_with : (f : Form) (v : Tree) (r : List Token) → nullable f ≡ false → Fits f v → Starts f (spelled v ++ r)
starts_with f v r full fits =
    elim (head f v fits) [
      | inl h ↦ cc
      | inr k ↦ (k.0, k.1 ++ r, ap (λ us. us ++ r) k.2, k.3)
    ]

pub clash : (f g : Form) (xs ys : List Token) → Disjoint (begins f) (begins g) → Starts f xs → Starts g ys → xs ≡ ys → ⊥
clash f g xs ys apart s t e = let same : s.0 ≡ t.0 = let h = s.2 in let k = t.2 in cc in
    apart (code s.0) s.3 (rw same t.3)

pub lacks_clash : (f : Form) (xs ys : List Token) → Lacks f xs → Starts f ys → xs ≡ ys → ⊥
lacks_clash f xs ys s t e = let same : s.0 ≡ t.0 = let h = s.2 in let k = t.2 in cc in
    let h : begins f (code s.0) ≡ true = rw same t.3 in let k = s.3 in cc

pub same_starts : (f : Form) (ts us : List Token) → SameHead ts us → Starts f ts → Starts f us
same_starts f ts us h s = let same : s.0 ≡ h.0 = let e = s.2 in let k = h.3 in cc in (h.0, h.2, h.4, rw (← same) s.3)

pub same_lacks : (f : Form) (ts us : List Token) → SameHead ts us → Lacks f ts → Lacks f us
same_lacks f ts us h s = let same : s.0 ≡ h.0 = let e = s.2 in let k = h.3 in cc in (h.0, h.2, h.4, rw (← same) s.3)

-- what could go on does not end
pub ends_clash : (f : Form) (r : List Token) → CannotGoOn (opt f) r → Starts f r → ⊥
ends_clash f [] h s = let e = s.2 in cc
ends_clash f (t ∷ ts) h s = let same : s.0 ≡ t = let e = s.2 in cc in
    let k : begins f (code t) ≡ true = rw (← same) s.3 in
    let h' = (or_false (begins f (code t)) (goes_on f (code t)) h).0 in cc

pub ends_opt : (f : Form) (r : List Token) → CannotGoOn (opt f) r → CannotGoOn f r
ends_opt f [] h = tt
ends_opt f (t ∷ ts) h = (or_false _ _ h).1

pub ends_left : (f g : Form) (r : List Token) → CannotGoOn (alt f g) r → CannotGoOn f r
ends_left f g [] h = tt
ends_left f g (t ∷ ts) h = (or_false _ _ h).0

pub ends_right : (f g : Form) (r : List Token) → CannotGoOn (alt f g) r → CannotGoOn g r
ends_right f g [] h = tt
ends_right f g (t ∷ ts) h = (or_false _ _ h).1

pub ends_rule : (q : Rule) (r : List Token) → CannotGoOn (rule q) r → CannotGoOn (grammar q) r
ends_rule q [] h = tt
ends_rule q (t ∷ ts) h = not_true _ (λ k. let up = rule_goes_on_right q (code t) k in cc)
