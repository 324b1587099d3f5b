-- A chain of operators, read in a loop.
use Rattle.std.proofs.Common.{◌≡◌, ◌||◌, ◌==◌, Bool, true, false, List, ◌∷◌, ◌⊎◌, inl, inr, refl, sym, ◌∙◌, subst, arith, eq-eqb, eqb-true}
use Rattle.alg_tokens.specs.declared.token.Token.{Token}
use Rattle.alg_tokens.specs.declared.token.TokenKind.{TokenKind}
use Rattle.alg_tokens.specs.declared.token.TokenKind.TheVariants as kinds
use Rattle.alg_tokens.specs.declared.token.Sign.TheVariants as signs
use Rattle.alg_reader.specs.declared.raw.RawTerm.{RawTerm}
use Rattle.alg_reader.specs.declared.cursor.Fault.{Fault}
use Rattle.alg_reader.specs.Kinds.{variant, code}
use Rattle.alg_reader.specs.Forms.{Rule, Sum, Product, Unary, Form, a, seq, alt, many, rule, end}
use Rattle.alg_reader.specs.Grammar.{grammar}
use Rattle.alg_reader.specs.Ahead.{begins, goes_on, rule_goes_on, Starts, Lacks, StartsEither, LacksBoth}
use Rattle.alg_reader.specs.Reading.{Takes, Fails, turn, Continues}
use Rattle.alg_reader.specs.TermMeaning.{Value, act_sum, chain}
use Rattle.alg_reader.specs.RawNodes.{binary}
use Rattle.alg_reader.specs.TermMeaning.{one, two, nothing, term}
use Rattle.alg_reader.specs.Meaning.{act}
use Rattle.alg_reader.proofs.Ahead.{Disjoint, or_first, or_true}
use Rattle.alg_reader.proofs.ReadSequences.{takes_token, takes_seq}
use Rattle.alg_reader.proofs.ReadChoices.{takes_left, takes_right}
use Rattle.alg_reader.proofs.ReadRows.{takes_end, takes_more, takes_rule}
use Rattle.alg_reader.proofs.Failing.{fails_first, fails_second, fails_turn, fails_later, fails_rule}

-- the token is one of these two kinds
abbrev pub IsEither : TokenKind → TokenKind → Token → Type 0
IsEither k l t = (variant k ≡ code t) ⊎ (variant l ≡ code t)

pub or_falses : (x y : Bool) → x ≡ false → y ≡ false → (x || y) ≡ false
or_falses x y h h' = rw (h, h') refl

or_drop : (x : Bool) → (x || false) ≡ true → x ≡ true
or_drop true h = refl
or_drop false h = h

module _ (k l : TokenKind) (q r : Rule) (differ : variant k ≡ variant l
    → ⊥) (apart : Disjoint (rule_goes_on q) (begins (turn k l q)))
    (whole : grammar r ≡ seq (rule q) (many (turn k l q))) (means : (v : Value) → act r v ≡ act_sum v) where
  kinds_apart : Disjoint (begins (a k)) (begins (a l))
  kinds_apart n h h' = differ (eqb-true (variant k) n h ∙ sym (eqb-true (variant l) n h'))

  ops_apart : Disjoint (goes_on (alt (a k) (a l))) (begins (rule q))
  ops_apart n h h' = cc

  takes_op : (op : Token) (rest : List Token) → IsEither k l op → Takes (alt (a k) (a l)) (op ∷ rest) rest (one op)
  takes_op op rest (inl h) = takes_left (a k) (a l) kinds_apart refl refl _ _ _ (takes_token k op rest h)
  takes_op op rest (inr h) = takes_right (a k) (a l) kinds_apart refl refl _ _ _ (takes_token l op rest h)

  takes_turn : (op : Token) (mid next : List Token) (u : RawTerm) → IsEither k l op
      → Takes (rule q) mid next (term u) → Takes (turn k l q) (op ∷ mid) next (two (one op) (term u))
  takes_turn op mid next u h p = takes_seq (alt (a k) (a l)) (rule q) ops_apart _ _ _ _ _ (takes_op op mid h) p

  starts_turn : (op : Token) (mid : List Token) → IsEither k l op → Starts (turn k l q) (op ∷ mid)
  starts_turn op mid (inl h) = (op, mid, refl, or_first _ _ (or_first _ _ (eq-eqb (variant k) (code op) h)))
  starts_turn op mid (inr h) = (
    op,
    mid,
    refl,
    or_first _ _ (let P : Bool
        → Type 0 = λ b. (variant k == code op || b) ≡ true in
        subst P (sym (eq-eqb (variant l) (code op) h)) (or_true (variant k == code op))),
  )

  turn_apart : Disjoint (goes_on (turn k l q)) (begins (turn k l q))
  turn_apart n h h' = apart n (or_drop _ h) h'

  whole_takes : (old rest : List Token) (t : RawTerm) (ops : Value)
      → Takes (seq (rule q) (many (turn k l q))) old rest (two (term t) ops)
      → Takes (rule r) old rest (term (chain t ops))
  whole_takes old rest t ops h =
      let P : Form → Type 0 = λ f. Takes f old rest (two (term t) ops) in
      let V : Value → Type 0 = λ x. Takes (rule r) old rest x in
      subst V (means (two (term t) ops)) (takes_rule r old rest _ (subst P (sym whole) h))

  whole_fails : (old : List Token) (e : Fault) → Fails (seq (rule q) (many (turn k l q))) old e → Fails (rule r) old e
  whole_fails old e h = let P : Form → Type 0 = λ f. Fails f old e in fails_rule r old e (subst P (sym whole) h)

  pub chain_begins : (old now : List Token) (t : RawTerm) → Takes (rule q) old now (term t)
      → Continues (turn k l q) r old now t
  chain_begins old now t p = record {
    takes = λ rest ops h. whole_takes old rest t ops (takes_seq (rule q) (many (turn k l q)) apart old now rest
        (term t) ops p h);
    fails = λ e h. whole_fails old e (fails_second (rule q) (many (turn k l q)) apart old now (term t) p e h);
  }

  pub chain_fails_first : (old : List Token) (e : Fault) → Fails (rule q) old e → Fails (rule r) old e
  chain_fails_first old e h = whole_fails old e (fails_first (rule q) (many (turn k l q)) apart (end, tt) old e h)

  pub chain_steps : (old mid next : List Token) (acc u : RawTerm) (op : Token) → IsEither k l op
      → Continues (turn k l q) r old (op ∷ mid) acc → Takes (rule q) mid next (term u)
      → Continues (turn k l q) r old next (binary op acc u)
  unfolding chain
  chain_steps old mid next acc u op is c p = record {
    takes = λ rest ops h. c.takes rest (two (two (one op) (term u)) ops) (takes_more (turn k l q) refl turn_apart
        (op ∷ mid) next rest _ ops (takes_turn op mid next u is p) h);
    fails = λ e h. c.fails e (fails_later (turn k l q) refl turn_apart (op ∷ mid) next _
        (takes_turn op mid next u is p) e h);
  }

  pub chain_fails : (old mid : List Token) (acc : RawTerm) (op : Token) (e : Fault) → IsEither k l op
      → Continues (turn k l q) r old (op ∷ mid) acc → Fails (rule q) mid e → Fails (rule r) old e
  chain_fails old mid acc op e is c h =
      c.fails e (fails_turn (turn k l q) refl turn_apart (op ∷ mid) e (starts_turn op mid is) (fails_second (alt
      (a k) (a l)) (rule q) ops_apart (op ∷ mid) mid (one op) (takes_op op mid is) e h))

  pub chain_ends : (old now : List Token) (acc : RawTerm) → Lacks (a k) now → Lacks (a l) now
      → Continues (turn k l q) r old now acc → Takes (rule r) old now (term acc)
  unfolding chain
  chain_ends old now acc h h' c =
      let same : h'.0 ≡ h.0 = let e = h.2 in let e' = h'.2 in cc in
      let l_not : (variant l == code h.0) ≡ false = rw (← same) h'.3 in
      c.takes now nothing (takes_end (turn k l q) refl turn_apart now (
        h.0,
        h.1,
        h.2,
        or_falses _ _ (or_falses _ _ h.3 l_not) refl,
      ))

-- ---- the two chains

pub sum_apart : Disjoint (rule_goes_on Product) (begins (turn (kinds.Sign signs.Plus) (kinds.Sign signs.Minus) Product))
unfolding rule_goes_on
sum_apart n h h' = grind arith

pub product_apart : Disjoint (rule_goes_on Unary) (begins (turn (kinds.Sign signs.Star) (kinds.Sign signs.Slash) Unary))
unfolding rule_goes_on
product_apart n h h' = grind arith

pub sum_turn_apart : Disjoint (goes_on (turn (kinds.Sign signs.Plus) (kinds.Sign signs.Minus) Product)) (begins (turn
    (kinds.Sign signs.Plus) (kinds.Sign signs.Minus) Product))
unfolding rule_goes_on
sum_turn_apart n h h' = grind arith

pub product_turn_apart : Disjoint (goes_on (turn (kinds.Sign signs.Star) (kinds.Sign signs.Slash) Unary)) (begins (turn
    (kinds.Sign signs.Star) (kinds.Sign signs.Slash) Unary))
unfolding rule_goes_on
product_turn_apart n h h' = grind arith

sum_whole : grammar Sum ≡ seq (rule Product) (many (turn (kinds.Sign signs.Plus) (kinds.Sign signs.Minus) Product))
unfolding grammar
sum_whole = refl

product_whole : grammar Product ≡ seq (rule Unary) (many (turn (kinds.Sign signs.Star) (kinds.Sign signs.Slash) Unary))
unfolding grammar
product_whole = refl

sum_means : (v : Value) → act Sum v ≡ act_sum v
unfolding act
sum_means v = refl

product_means : (v : Value) → act Product v ≡ act_sum v
unfolding act
product_means v = refl

-- the next token, where it was seen and taken
pub either_taken : (k l : TokenKind) (ts us : List Token) (op : Token) → StartsEither k l ts → ts ≡ op ∷ us
    → IsEither k l op
either_taken k l ts us op h e = let same : h.0 ≡ op = let e' = h.2 in cc in subst (IsEither k l) same h.3

pub sum_begins : (old now : List Token) (t : RawTerm) → Takes (rule Product) old now (term t)
    → Continues (turn (kinds.Sign signs.Plus) (kinds.Sign signs.Minus) Product) Sum old now t
sum_begins = chain_begins (kinds.Sign signs.Plus) (kinds.Sign signs.Minus) Product Sum
    (λ h. cc) sum_apart sum_whole sum_means

pub sum_fails_first : (old : List Token) (e : Fault) → Fails (rule Product) old e → Fails (rule Sum) old e
sum_fails_first = chain_fails_first (kinds.Sign signs.Plus) (kinds.Sign signs.Minus) Product Sum
    (λ h. cc) sum_apart sum_whole sum_means

pub sum_steps : (old now mid next : List Token) (acc u : RawTerm) (op : Token)
    → StartsEither (kinds.Sign signs.Plus) (kinds.Sign signs.Minus) now → now ≡ op ∷ mid
    → Continues (turn (kinds.Sign signs.Plus) (kinds.Sign signs.Minus) Product) Sum old now acc
    → Takes (rule Product) mid next (term u) → Continues (turn (kinds.Sign signs.Plus)
    (kinds.Sign signs.Minus) Product) Sum old next (binary op acc u)
sum_steps old now mid next acc u op h e c p =
    let P : List Token → Type 0 = λ ts. Continues (turn (kinds.Sign signs.Plus)
    (kinds.Sign signs.Minus) Product) Sum old ts acc in
    chain_steps (kinds.Sign signs.Plus) (kinds.Sign signs.Minus) Product Sum
    (λ h. cc) sum_apart sum_whole sum_means old mid next acc u op (either_taken (kinds.Sign signs.Plus)
    (kinds.Sign signs.Minus) now mid op h e) (subst P e c) p

pub sum_fails : (old now mid : List Token) (acc : RawTerm) (op : Token) (e : Fault)
    → StartsEither (kinds.Sign signs.Plus) (kinds.Sign signs.Minus) now → now ≡ op ∷ mid
    → Continues (turn (kinds.Sign signs.Plus) (kinds.Sign signs.Minus) Product) Sum old now acc
    → Fails (rule Product) mid e → Fails (rule Sum) old e
sum_fails old now mid acc op f h e c p =
    let P : List Token → Type 0 = λ ts. Continues (turn (kinds.Sign signs.Plus)
    (kinds.Sign signs.Minus) Product) Sum old ts acc in
    chain_fails (kinds.Sign signs.Plus) (kinds.Sign signs.Minus) Product Sum
    (λ h. cc) sum_apart sum_whole sum_means old mid acc op f (either_taken (kinds.Sign signs.Plus)
    (kinds.Sign signs.Minus) now mid op h e) (subst P e c) p

pub sum_ends : (old now : List Token) (acc : RawTerm)
    → LacksBoth (kinds.Sign signs.Plus) (kinds.Sign signs.Minus) now
    → Continues (turn (kinds.Sign signs.Plus) (kinds.Sign signs.Minus) Product) Sum old now acc
    → Takes (rule Sum) old now (term acc)
sum_ends old now acc h = chain_ends (kinds.Sign signs.Plus) (kinds.Sign signs.Minus) Product Sum
    (λ h. cc) sum_apart sum_whole sum_means old now acc h.0 h.1

pub product_begins : (old now : List Token) (t : RawTerm) → Takes (rule Unary) old now (term t)
    → Continues (turn (kinds.Sign signs.Star) (kinds.Sign signs.Slash) Unary) Product old now t
product_begins = chain_begins (kinds.Sign signs.Star) (kinds.Sign signs.Slash) Unary Product
    (λ h. cc) product_apart product_whole product_means

pub product_fails_first : (old : List Token) (e : Fault) → Fails (rule Unary) old e → Fails (rule Product) old e
product_fails_first = chain_fails_first (kinds.Sign signs.Star) (kinds.Sign signs.Slash) Unary Product
    (λ h. cc) product_apart product_whole product_means

pub product_steps : (old now mid next : List Token) (acc u : RawTerm) (op : Token)
    → StartsEither (kinds.Sign signs.Star) (kinds.Sign signs.Slash) now → now ≡ op ∷ mid
    → Continues (turn (kinds.Sign signs.Star) (kinds.Sign signs.Slash) Unary) Product old now acc
    → Takes (rule Unary) mid next (term u) → Continues (turn (kinds.Sign signs.Star)
    (kinds.Sign signs.Slash) Unary) Product old next (binary op acc u)
product_steps old now mid next acc u op h e c p =
    let P : List Token → Type 0 = λ ts. Continues (turn (kinds.Sign signs.Star)
    (kinds.Sign signs.Slash) Unary) Product old ts acc in
    chain_steps (kinds.Sign signs.Star) (kinds.Sign signs.Slash) Unary Product
    (λ h. cc) product_apart product_whole product_means old mid next acc u op (either_taken
    (kinds.Sign signs.Star) (kinds.Sign signs.Slash) now mid op h e) (subst P e c) p

pub product_fails : (old now mid : List Token) (acc : RawTerm) (op : Token) (e : Fault)
    → StartsEither (kinds.Sign signs.Star) (kinds.Sign signs.Slash) now → now ≡ op ∷ mid
    → Continues (turn (kinds.Sign signs.Star) (kinds.Sign signs.Slash) Unary) Product old now acc
    → Fails (rule Unary) mid e → Fails (rule Product) old e
product_fails old now mid acc op f h e c p =
    let P : List Token → Type 0 = λ ts. Continues (turn (kinds.Sign signs.Star)
    (kinds.Sign signs.Slash) Unary) Product old ts acc in
    chain_fails (kinds.Sign signs.Star) (kinds.Sign signs.Slash) Unary Product
    (λ h. cc) product_apart product_whole product_means old mid acc op f (either_taken (kinds.Sign signs.Star)
    (kinds.Sign signs.Slash) now mid op h e) (subst P e c) p

pub product_ends : (old now : List Token) (acc : RawTerm)
    → LacksBoth (kinds.Sign signs.Star) (kinds.Sign signs.Slash) now
    → Continues (turn (kinds.Sign signs.Star) (kinds.Sign signs.Slash) Unary) Product old now acc
    → Takes (rule Product) old now (term acc)
product_ends old now acc h = chain_ends (kinds.Sign signs.Star) (kinds.Sign signs.Slash) Unary Product
    (λ h. cc) product_apart product_whole product_means old now acc h.0 h.1
