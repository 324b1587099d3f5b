-- One token ahead: how derivations begin, and how they could go on.
use Rattle.std.specs.Prelude.{◌≡◌, ℕ, ◌||◌, ◌&&◌, ◌==◌, Bool, true, false, List, [], ◌∷◌, ◌⊎◌, ℤ, pos}
use Rattle.alg_tokens.specs.declared.token.Token.{Token}
use Rattle.alg_tokens.specs.declared.token.TokenKind.{TokenKind}
use Rattle.alg_tokens.specs.declared.token.TokenKind.TheVariants as kinds
use Rattle.alg_tokens.specs.declared.token.Sign.{Sign}
use Rattle.alg_tokens.specs.declared.token.Sign.TheVariants as signs
use Rattle.alg_tokens.specs.declared.token.Word.{Word}
use Rattle.alg_tokens.specs.declared.token.Word.TheVariants as words
use Rattle.alg_reader.specs.declared.place.Place.{Place}
use Rattle.alg_reader.specs.declared.place.Place.TheVariants as places
use Rattle.alg_reader.specs.Kinds.{variant, code}
use Rattle.alg_reader.specs.Forms.{Rule, Statement, Ring, Sort, Hom, Vars, Hyp, Goal, Method, Use, Sum, Product, Unary, Power, Leaf, Atom, Factor, Factors, Mono, Int, Condition, Constant, Conditional, Certified, Proved, No, ZeroDenominator, NoneUpTo, GaveUp, Stopped, Combined, Line, Step, Form, a, seq, alt, opt, many, rule}

-- the number is that of this word, of this sign, of names or of this numeral
abbrev pub is_word : Word → ℕ → Bool
is_word word n = n == variant (kinds.Word word)

abbrev pub is_sign : Sign → ℕ → Bool
is_sign sign n = n == variant (kinds.Sign sign)

abbrev pub is_name : ℕ → Bool
is_name n = n == variant kinds.Name

abbrev pub is_numeral : ℤ → ℕ → Bool
is_numeral value n = n == variant (kinds.Number value)

-- the kinds of token that begin a derivation from the rule, and those that could go on with one
abbrev pub begins_number : ℕ → Bool
begins_number n = is_numeral (pos 0) n || is_numeral (pos 1) n || is_numeral (pos 2) n

abbrev pub begins_leaf : ℕ → Bool
begins_leaf n = is_name n || begins_number n || is_sign signs.ParenLeft n

-- what begins a declaration or a goal
abbrev pub begins_body : ℕ → Bool
begins_body n = is_word words.Ring n || is_word words.Domain n || is_word words.Field n || is_word words.Hom n
    || is_word words.Var n || is_word words.Hyp n || is_word words.Goal n

-- what begins an answer
abbrev pub begins_answer : ℕ → Bool
begins_answer n = is_word words.Proved n || is_word words.No n || is_word words.Zero n || is_word words.None n
    || is_word words.Gave n || is_word words.Range n || is_word words.Degree n || is_word words.Atoms n

-- what begins a statement at a place
abbrev pub begins_at : Place → ℕ → Bool
begins_at places.Plain n = begins_body n
begins_at places.Start n = begins_body n
begins_at places.AfterGoal n = begins_answer n || begins_body n
begins_at places.Lines n = is_word words.Line n || is_word words.Step n || begins_body n
begins_at places.Steps n = is_word words.Step n || begins_body n
begins_at places.LinesTwo n = is_word words.Line n || is_word words.Step n || begins_body n
begins_at places.StepsTwo n = is_word words.Step n || begins_body n

unfoldable pub rule_begins : Rule → ℕ → Bool
rule_begins (Statement place) n = begins_at place n
rule_begins Ring n = is_word words.Ring n
rule_begins Sort n = is_word words.Domain n || is_word words.Field n
rule_begins Hom n = is_word words.Hom n
rule_begins Vars n = is_word words.Var n
rule_begins Hyp n = is_word words.Hyp n
rule_begins Goal n = is_word words.Goal n
rule_begins Method n = is_word words.Ring n || is_word words.Field n || is_word words.Nsatz n
rule_begins Use n = is_name n
rule_begins Sum n = begins_leaf n || is_sign signs.Minus n
rule_begins Product n = begins_leaf n || is_sign signs.Minus n
rule_begins Unary n = begins_leaf n || is_sign signs.Minus n
rule_begins Power n = begins_leaf n
rule_begins Leaf n = begins_leaf n
rule_begins Atom n = is_name n
rule_begins Factor n = is_name n
rule_begins Factors n = is_name n
rule_begins Mono n = is_numeral (pos 1) n || is_name n
rule_begins Int n = is_sign signs.Minus n || begins_number n
rule_begins Condition n = begins_leaf n || is_sign signs.Minus n
rule_begins Constant n = begins_number n
rule_begins Conditional n = is_word words.If n
rule_begins Certified n = is_word words.Version n || is_word words.Power n
rule_begins Proved n = is_word words.Proved n
rule_begins No n = is_word words.No n
rule_begins ZeroDenominator n = is_word words.Zero n
rule_begins NoneUpTo n = is_word words.None n
rule_begins GaveUp n = is_word words.Gave n
rule_begins Stopped n = is_word words.Range n || is_word words.Degree n || is_word words.Atoms n
rule_begins (Combined format) n = begins_number n
rule_begins (Line format) n = is_word words.Line n
rule_begins (Step format) n = is_word words.Step n

-- the kinds of token that could go on where a derivation from the rule could end
unfoldable pub rule_goes_on : Rule → ℕ → Bool
rule_goes_on (Statement place) n = false
rule_goes_on Ring n = false
rule_goes_on Sort n = is_word words.Char n
rule_goes_on Hom n = false
rule_goes_on Vars n = false
rule_goes_on Hyp n = is_sign signs.ParenLeft n || is_sign signs.Caret n || is_sign signs.Star n
    || is_sign signs.Slash n || is_sign signs.Plus n || is_sign signs.Minus n
rule_goes_on Goal n = is_sign signs.ParenLeft n || is_sign signs.Comma n || is_word words.Using n
    || is_word words.Power n || is_word words.Limit n
rule_goes_on Method n = is_sign signs.ParenLeft n || is_sign signs.Comma n || is_word words.Using n
    || is_word words.Power n || is_word words.Limit n
rule_goes_on Use n = is_sign signs.ParenLeft n
rule_goes_on Sum n = is_sign signs.ParenLeft n || is_sign signs.Caret n || is_sign signs.Star n
    || is_sign signs.Slash n || is_sign signs.Plus n || is_sign signs.Minus n
rule_goes_on Product n = is_sign signs.ParenLeft n || is_sign signs.Caret n || is_sign signs.Star n
    || is_sign signs.Slash n
rule_goes_on Unary n = is_sign signs.ParenLeft n || is_sign signs.Caret n
rule_goes_on Power n = is_sign signs.ParenLeft n || is_sign signs.Caret n
rule_goes_on Leaf n = is_sign signs.ParenLeft n
rule_goes_on Atom n = is_sign signs.ParenLeft n
rule_goes_on Factor n = is_sign signs.ParenLeft n || is_sign signs.Caret n
rule_goes_on Factors n = is_sign signs.ParenLeft n || is_sign signs.Caret n || is_sign signs.Star n
rule_goes_on Mono n = is_sign signs.ParenLeft n || is_sign signs.Caret n || is_sign signs.Star n
rule_goes_on Int n = false
rule_goes_on Condition n = false
rule_goes_on Constant n = false
rule_goes_on Conditional n = is_sign signs.Comma n
rule_goes_on Certified n = is_sign signs.Comma n || is_word words.If n
rule_goes_on Proved n = is_sign signs.Comma n || is_word words.If n || is_word words.Version n || is_word words.Power n
rule_goes_on No n = false
rule_goes_on ZeroDenominator n = is_sign signs.ParenLeft n || is_sign signs.Caret n || is_sign signs.Star n
    || is_sign signs.Slash n || is_sign signs.Plus n || is_sign signs.Minus n
rule_goes_on NoneUpTo n = false
rule_goes_on GaveUp n = false
rule_goes_on Stopped n = false
rule_goes_on (Combined format) n = is_word words.Over n
rule_goes_on (Line format) n = is_word words.Over n
rule_goes_on (Step format) n = is_word words.Over n

-- the form derives the empty list of tokens
abbrev pub nullable : Form → Bool
nullable (a k) = false
nullable (seq f g) = nullable f && nullable g
nullable (alt f g) = nullable f || nullable g
nullable (opt f) = true
nullable (many f) = true
nullable (rule r) = false

-- a token of this kind begins a derivation from the form
abbrev pub begins : Form → ℕ → Bool
begins (a k) n = variant k == n
begins (seq f g) n = begins f n || (nullable f && begins g n)
begins (alt f g) n = begins f n || begins g n
begins (opt f) n = begins f n
begins (many f) n = begins f n
begins (rule r) n = rule_begins r n

-- a token of this kind could go on where a derivation from the form could end
abbrev pub goes_on : Form → ℕ → Bool
goes_on (a k) n = false
goes_on (seq f g) n = goes_on g n || (nullable g && goes_on f n)
goes_on (alt f g) n = goes_on f n || goes_on g n
goes_on (opt f) n = begins f n || goes_on f n
goes_on (many f) n = begins f n || goes_on f n
goes_on (rule r) n = rule_goes_on r n

-- the tokens do not go on with a derivation from the form
abbrev pub CannotGoOn : Form → List Token → Type 0
CannotGoOn f [] = Unit {0}
CannotGoOn f (t ∷ ts) = goes_on f (code t) ≡ false

-- both begin with one token
abbrev pub SameHead : List Token → List Token → Type 0
SameHead ts us = (t : Token) × (ts' : List Token) × (us' : List Token) × (ts ≡ t ∷ ts') × (us ≡ t ∷ us')

-- the next token begins a derivation from the form, or begins none
abbrev pub Starts : Form → List Token → Type 0
Starts f ts = (t : Token) × (us : List Token) × (ts ≡ t ∷ us) × (begins f (code t) ≡ true)

-- the next token begins no derivation from the form
abbrev pub Lacks : Form → List Token → Type 0
Lacks f ts = (t : Token) × (us : List Token) × (ts ≡ t ∷ us) × (begins f (code t) ≡ false)

-- the next token is of one of these two kinds, or of neither
abbrev pub StartsEither : TokenKind → TokenKind → List Token → Type 0
StartsEither k l ts = (t : Token) × (us : List Token) × (ts ≡ t ∷ us) × ((variant k ≡ code t) ⊎ (variant l ≡ code t))

-- the next token is of neither kind
abbrev pub LacksBoth : TokenKind → TokenKind → List Token → Type 0
LacksBoth k l ts = Lacks (a k) ts × Lacks (a l) ts
