-- Tokens that were seen and taken.
use Rattle.std.proofs.Common.{◌≡◌, ◌==◌, true, false, List, [], ◌∷◌, ◌++◌, refl, sym, ap, ◌∙◌, subst, arith, eqb-true, eq-eqb, Bool, ◌||◌, ◌⊎◌, inl, inr, pos}
use Rattle.alg_tokens.specs.declared.token.Token.{Token}
use Rattle.alg_tokens.specs.declared.token.TokenKind.{TokenKind}
use Rattle.alg_tokens.specs.declared.token.TokenKind.TheVariants as kinds
use Rattle.alg_reader.specs.Kinds.{variant, code}
use Rattle.alg_reader.specs.Forms.{Form, a, seq, alt, Tree, token, left, right, spelled}
use Rattle.alg_reader.specs.Grammar.{Fits, number, zero, unit}
use Rattle.alg_reader.specs.Ahead.{nullable, begins, Starts, Lacks}
use Rattle.alg_reader.specs.Reading.{Takes, IsStuckAt}
use Rattle.alg_reader.specs.TermMeaning.{one}
use Rattle.alg_reader.specs.Meaning.{value}
use Rattle.alg_reader.proofs.Ahead.{Disjoint, or_first}
use Rattle.alg_reader.proofs.ReadSequences.{takes_token, stops_token}
use Rattle.alg_reader.proofs.ReadChoices.{stops_right, takes_left, takes_right}
use Rattle.alg_reader.proofs.Turns.{or_falses}
use Rattle.alg_reader.proofs.Variants.{IsOfNumerals}

-- a token that was seen and taken
pub taken : (k : TokenKind) (ts rest : List Token) (t : Token) → Starts (a k) ts → ts ≡ t ∷ rest
    → Takes (a k) ts rest (one t)
taken k ts rest t s e =
    let same : s.0 ≡ t = let e' = s.2 in cc in
    let P : List Token → Type 0 = λ us. Takes (a k) us rest (one t) in
    subst P (sym e) (takes_token k t rest (eqb-true (variant k) (code t) (let Q : Token
    → Type 0 = λ u. (variant k == code u) ≡ true in subst Q same s.3)))

pub token_kind : (k : TokenKind) (t : Token) (v : Tree) → Fits (a k) v → value v ≡ one t
    → (variant k ≡ code t) × (spelled v ≡ t ∷ [])
token_kind k t (token u) fits means = let same : u ≡ t = cc in let Q : Token
    → Type 0 = λ w. (variant k ≡ code w) × (u ∷ [] ≡ w ∷ []) in subst Q same (fits, refl)
token_kind k t _ fits means = absurd fits

pub kind_taken : (k : TokenKind) (ts rest : List Token) (t : Token) → Takes (a k) ts rest (one t) → variant k ≡ code t
kind_taken k ts rest t p = (token_kind k t p.tree p.fits p.means).0

pub numeral_kind : (t : Token) (v : Tree) → Fits number v → value v ≡ one t → IsOfNumerals (code t)
numeral_kind t (left v) fits means = inl (token_kind (kinds.Number (pos 0)) t v fits means).0
numeral_kind t (right (left v)) fits means = inr (inl (token_kind (kinds.Number (pos 1)) t v fits means).0)
numeral_kind t (right (right v)) fits means = inr (inr (token_kind (kinds.Number (pos 2)) t v fits means).0)
numeral_kind t _ fits means = absurd fits

pub numeral_taken : (ts rest : List Token) (t : Token) → Takes number ts rest (one t) → IsOfNumerals (code t)
numeral_taken ts rest t p = numeral_kind t p.tree p.fits p.means

pub cut_taken : (k : TokenKind) (ts rest : List Token) (t : Token) → Takes (a k) ts rest (one t) → ts ≡ t ∷ rest
cut_taken k ts rest t p = p.cut ∙ ap (λ us. us ++ rest) (token_kind k t p.tree p.fits p.means).1

pub starts_seq : (f g : Form) (ts : List Token) → Starts f ts → Starts (seq f g) ts
starts_seq f g ts s = (s.0, s.1, s.2, or_first _ _ s.3)

pub lacks_seq : (f g : Form) (ts : List Token) → nullable f ≡ false → Lacks f ts → Lacks (seq f g) ts
lacks_seq f g ts full s = (s.0, s.1, s.2, or_falses _ _ s.3 (rw full refl))

-- ---- one of several kinds of tokens, seen and taken

pub or_cases : (x y : Bool) → (x || y) ≡ true → (x ≡ true) ⊎ (y ≡ true)
or_cases true y h = inl refl
or_cases false y h = inr h

or_parts : (x y : Bool) → (x || y) ≡ false → (x ≡ false) × (y ≡ false)
or_parts true y h = cc
or_parts false y h = (refl, h)

pub token_here : (k : TokenKind) (t : Token) (rest : List Token) → begins (a k) (code t) ≡ true
    → Takes (a k) (t ∷ rest) rest (one t)
token_here k t rest h = takes_token k t rest (eqb-true (variant k) (code t) h)

no_token_here : (k : TokenKind) (t : Token) (rest : List Token) → begins (a k) (code t) ≡ false
    → IsStuckAt (a k) (t ∷ rest) (t ∷ rest)
no_token_here k t rest h = stops_token k t rest (λ e. let found = eq-eqb (variant k) (code t) e in cc)

module _ (k : TokenKind) (f : Form) (apart : Disjoint (begins (a k)) (begins f)) (full : nullable f ≡ false)
    (t : Token) (rest : List Token) where
  pub either_here : (begins f (code t) ≡ true → Takes f (t ∷ rest) rest (one t)) → begins (alt (a k) f) (code t) ≡ true
      → Takes (alt (a k) f) (t ∷ rest) rest (one t)
  either_here other h = elim (or_cases (variant k == code t) (begins f (code t)) h) [
    | inl here ↦ takes_left (a k) f apart refl full (t ∷ rest) rest (one t) (token_here k t rest here)
    | inr here ↦ takes_right (a k) f apart refl full (t ∷ rest) rest (one t) (other here)
  ]

  neither_here : (begins f (code t) ≡ false → IsStuckAt f (t ∷ rest) (t ∷ rest)) → begins (alt (a k) f) (code t) ≡ false
      → IsStuckAt (alt (a k) f) (t ∷ rest) (t ∷ rest)
  neither_here other h =
      let (first, second) = or_parts (variant k == code t) (begins f (code t)) h in
      stops_right (a k) f apart refl full (t ∷ rest) (t ∷ rest) (t, rest, refl, first) (other second)

-- ---- a numeral, seen and taken

pub zero_apart : Disjoint (begins zero) (begins (alt unit (a (kinds.Number (pos 2)))))
zero_apart n h h' = grind arith

pub unit_apart : Disjoint (begins unit) (begins (a (kinds.Number (pos 2))))
unit_apart n h h' = grind arith

numeral_here : (t : Token) (rest : List Token) → begins number (code t) ≡ true → Takes number (t ∷ rest) rest (one t)
numeral_here t rest h = either_here (kinds.Number (pos 0)) (alt unit (a (kinds.Number (pos 2)))) zero_apart refl t rest
    (either_here (kinds.Number (pos 1)) (a (kinds.Number (pos 2))) unit_apart refl t rest
    (token_here (kinds.Number (pos 2)) t rest)) h

no_numeral_here : (t : Token) (rest : List Token) → begins number (code t) ≡ false
    → IsStuckAt number (t ∷ rest) (t ∷ rest)
no_numeral_here t rest h =
    neither_here (kinds.Number (pos 0)) (alt unit (a (kinds.Number (pos 2)))) zero_apart refl t rest
    (neither_here (kinds.Number (pos 1)) (a (kinds.Number (pos 2))) unit_apart refl t rest
    (no_token_here (kinds.Number (pos 2)) t rest)) h

-- the next token, where it was seen and taken
pub seen_head : (f : Form) (b : Bool) (ts rest : List Token) (t : Token) → (s : Token) × (us : List Token)
    × (ts ≡ s ∷ us)
    × (begins f (code s) ≡ b) → ts ≡ t ∷ rest → begins f (code t) ≡ b
seen_head f b ts rest t s e =
    let same : s.0 ≡ t = let e' = s.2 in cc in
    let Q : Token → Type 0 = λ u. begins f (code u) ≡ b in
    subst Q same s.3

pub number_taken : (ts rest : List Token) (t : Token) → Starts number ts → ts ≡ t ∷ rest → Takes number ts rest (one t)
number_taken ts rest t s e =
    let P : List Token → Type 0 = λ us. Takes number us rest (one t) in
    subst P (sym e) (numeral_here t rest (seen_head number true ts rest t s e))

pub no_number : (ts rest : List Token) (t : Token) → Lacks number ts → ts ≡ t ∷ rest → IsStuckAt number ts (t ∷ rest)
no_number ts rest t s e =
    let P : List Token → Type 0 = λ us. IsStuckAt number us (t ∷ rest) in
    subst P (sym e) (no_numeral_here t rest (seen_head number false ts rest t s e))
