-- What the tokens of a text mean: names of the text, and numbers in range.
use Rattle.std.proofs.Common.{◌≡◌, ◌≤◌, ◌+◌, ℕ, zero, suc, ◌⊎◌, true, false, List, [], ◌∷◌, ◌++◌, length, IfSome, arith}
use Rattle.std.specs.List.{All, AllByRecursion}
use Rattle.alg_tokens.specs.declared.token.Token.{Token}
use Rattle.alg_terms.specs.Kinds.{IsDomain}
use Rattle.alg_reader.specs.declared.certificates.Combined.{Combined}
use Rattle.alg_reader.specs.declared.place.Place.{Place}
use Rattle.alg_reader.specs.declared.place.Place.TheVariants as places
use Rattle.alg_reader.specs.declared.raw.RawAnswer.{RawAnswer}
use Rattle.alg_reader.specs.declared.raw.RawAnswer.TheVariants as answers
use Rattle.alg_reader.specs.declared.raw.RawFactor.{RawFactor}
use Rattle.alg_reader.specs.declared.raw.RawMono.{RawMono}
use Rattle.alg_reader.specs.declared.raw.RawNumber.{RawNumber}
use Rattle.alg_reader.specs.declared.raw.RawTerm.{RawTerm}
use Rattle.alg_reader.specs.declared.raw.RawUse.{RawUse}
use Rattle.alg_reader.specs.declared.raw.RawMethod.{RawMethod}
use Rattle.alg_reader.specs.declared.raw.RawKind.{RawKind}
use Rattle.alg_reader.specs.declared.raw.RawKind.TheVariants as raws
use Rattle.alg_reader.specs.Kinds.{variant, code}
use Rattle.alg_reader.specs.Forms as rules
use Rattle.alg_reader.specs.Forms.{Rule, Form, a, seq, alt, opt, many, rule, left, right}
use Rattle.alg_reader.specs.TermMeaning.{Value}
use Rattle.alg_reader.specs.TermMeaning.{one, two, nothing, term, used, method, factor, mono, int, answer, combined}
use Rattle.alg_reader.specs.Meaning.{kind_value}
use Rattle.alg_reader.specs.RawTerms.{names_in, literals_in, exponents_in}
use Rattle.alg_reader.specs.WellRead.{IsNameAt, IsInRange, IsNumeral, IsInteger, IsWellMono, IsWellAnswer, IsWellUse, IsWellMethod, uses_in}
use Rattle.alg_reader.specs.Places.{MayStand}
use Rattle.alg_reader.specs.RawMonos.{names_in_factor, exponents_in_factor}
use Rattle.alg_reader.specs.RawNodes.{number_of}
use Rattle.alg_reader.proofs.Boundaries.{IsTokenAt}

pub all_append : {X : Type 0} (P : X → Type 0) (xs ys : List X) → AllByRecursion P xs → AllByRecursion P ys
    → AllByRecursion P (xs ++ ys)
all_append P [] ys h k = k
all_append P (x ∷ xs) ys h k = (h.0, all_append P xs ys h.1 k)

pub all_split : {X : Type 0} (P : X → Type 0) (xs ys : List X) → AllByRecursion P (xs ++ ys)
    → AllByRecursion P xs × AllByRecursion P ys
all_split P [] ys h = (tt, h)
all_split P (x ∷ xs) ys h = let (front, back) = all_split P xs ys h.1 in ((h.0, front), back)

-- of each element of a list, by its index
pub all_cons : {X : Type 0} (P : X → Type 0) (x : X) (xs : List X) → P x → All P xs → All P (x ∷ xs)
all_cons P x xs h all zero d below = h
all_cons P x xs h all (suc k) d below = all k d (omega arith)

pub all_of : {X : Type 0} (P : X → Type 0) (xs : List X) → AllByRecursion P xs → All P xs
all_of P [] h = λ k d below. absurd (omega arith)
all_of P (x ∷ xs) h = all_cons P x xs h.0 (all_of P xs h.1)

-- a row of values, and the tokens of each
unfoldable pub row : List Value → Value
row [] = nothing
row (x ∷ xs) = two x (row xs)

abbrev pub EachOf : (Value → List Token → Type 0) → List Value → List Token → Type 0
EachOf P [] ts = ts ≡ []
EachOf P (x ∷ xs) ts = (us : List Token) × (vs : List Token) × (ts ≡ us ++ vs) × P x us × EachOf P xs vs

-- a factor that was read
pub record IsWellFactor (text : List ℕ) (f : RawFactor) : Type 0 where
  pub names : AllByRecursion (IsNameAt text) (names_in_factor f)
  pub exponents : AllByRecursion IsNumeral (exponents_in_factor f)

-- the names, literals and exponents of a term that was read, before what is too deep is left out
pub record IsFoundTerm (text : List ℕ) (t : RawTerm) : Type 0 where
  pub names : AllByRecursion (IsNameAt text) (names_in t)
  pub literals : AllByRecursion IsInRange (literals_in t)
  pub exponents : AllByRecursion IsNumeral (exponents_in t)

-- an answer that was read, before what is too deep is left out
abbrev pub IsFoundAnswer : List ℕ → RawAnswer → Type 0
IsFoundAnswer text (answers.Proved conditions) = AllByRecursion (IsFoundTerm text) conditions
IsFoundAnswer text (answers.ZeroDenominator denominator) = IsFoundTerm text denominator
IsFoundAnswer text said = IsWellAnswer text said

abbrev pub IsFoundKind : List ℕ → RawKind → Type 0
IsFoundKind text raws.End = ⊥
IsFoundKind text (raws.Sort kind name char0) = IsNameAt text name × (char0 ≡ true → IsDomain kind)
IsFoundKind text (raws.Hom name from to) = IsNameAt text name × IsNameAt text from × IsNameAt text to
IsFoundKind text (raws.Vars names sort) = (1 ≤ length names) × AllByRecursion (IsNameAt text) names
    × IsNameAt text sort
IsFoundKind text (raws.Hyp name e) = IsNameAt text name × IsFoundTerm text e.left × IsFoundTerm text e.right
IsFoundKind text (raws.Goal e way place) = IsFoundTerm text e.left × IsFoundTerm text e.right × (e.nonzero ≡ false)
    × IsWellMethod text way
IsFoundKind text (raws.Answer said) = IsFoundAnswer text said
IsFoundKind text (raws.Line x m i b n j d) = IsNumeral x × IsWellMono text m × IsNumeral i × IsInteger b
    × IsWellMono text n × IsNumeral j × IsNumeral d
IsFoundKind text (raws.Step x b n j d) = IsNumeral x × IsInteger b × IsWellMono text n × IsNumeral j × IsNumeral d

-- each name is a token, and each use is one beside the method's word
abbrev pub IsSpelledKind : RawKind → List Token → Type 0
IsSpelledKind (raws.Vars names sort) ts = length names ≤ length ts
IsSpelledKind (raws.Goal e way place) ts = 1 + uses_in way ≤ length ts
IsSpelledKind _ ts = Unit {0}

-- what tokens mean by a rule
abbrev pub TermFound : List ℕ → Value → Type 0
TermFound text x = (t : RawTerm) × (x ≡ term t) × IsFoundTerm text t

-- a statement that may stand at a place
abbrev pub StandsFound : Place → List ℕ → Value → List Token → Type 0
StandsFound site text x ts = (k : RawKind) × (x ≡ kind_value k) × MayStand site k × IsFoundKind text k
    × IsSpelledKind k ts

abbrev pub KindFound : List ℕ → Value → List Token → Type 0
KindFound = StandsFound places.Plain

-- a monomial and its factors
abbrev pub MonoFound : List ℕ → Value → Type 0
MonoFound text x = (m : RawMono) × (x ≡ mono m) × IsWellMono text m

abbrev pub FactorFound : List ℕ → Value → Type 0
FactorFound text x = (f : RawFactor) × (x ≡ factor f) × IsWellFactor text f

-- an answer
abbrev pub AnswerFound : List ℕ → Value → Type 0
AnswerFound text x = (said : RawAnswer) × (x ≡ answer said) × IsFoundAnswer text said

-- what a line and a step end with
abbrev pub CombinedFound : List ℕ → Value → Type 0
CombinedFound text x = (c : Combined) × (x ≡ combined c) × IsNumeral c.first × IsInteger c.b
    × IfSome c.n (IsWellMono text) × IsNumeral c.j × IfSome c.d IsNumeral

abbrev pub RuleFound : List ℕ → Rule → Value → List Token → Type 0
RuleFound text rules.Sum x ts = TermFound text x
RuleFound text rules.Product x ts = TermFound text x
RuleFound text rules.Unary x ts = TermFound text x
RuleFound text rules.Power x ts = TermFound text x
RuleFound text rules.Leaf x ts = TermFound text x
RuleFound text rules.Use x ts = (u : RawUse) × (x ≡ used u) × IsWellUse text u × (1 ≤ length ts)
RuleFound text rules.Method x ts = (m : RawMethod) × (place : ℕ) × (x ≡ method m place) × IsWellMethod text m
    × (1 + uses_in m ≤ length ts)
RuleFound text rules.Atom x ts = FactorFound text x
RuleFound text rules.Factor x ts = FactorFound text x
RuleFound text rules.Factors x ts = MonoFound text x
RuleFound text rules.Mono x ts = MonoFound text x
RuleFound text rules.Int x ts = (n : RawNumber) × (x ≡ int n) × IsInteger n
RuleFound text rules.Condition x ts = TermFound text x
RuleFound text rules.Constant x ts = (n : Token) × (x ≡ one n) × IsInRange (number_of n.kind)
RuleFound text rules.Conditional x ts = AnswerFound text x
RuleFound text rules.Certified x ts = AnswerFound text x
RuleFound text rules.Proved x ts = AnswerFound text x
RuleFound text rules.No x ts = AnswerFound text x
RuleFound text rules.ZeroDenominator x ts = AnswerFound text x
RuleFound text rules.NoneUpTo x ts = AnswerFound text x
RuleFound text rules.GaveUp x ts = AnswerFound text x
RuleFound text rules.Stopped x ts = AnswerFound text x
RuleFound text (rules.Combined format) x ts = CombinedFound text x
RuleFound text (rules.Line format) x ts = StandsFound places.Lines text x ts
RuleFound text (rules.Step format) x ts = StandsFound places.Steps text x ts
RuleFound text (rules.Statement site) x ts = StandsFound site text x ts
RuleFound text _ x ts = KindFound text x ts

-- what tokens mean by a form
abbrev pub Found : List ℕ → Form → Value → List Token → Type 0
Found text (a k) x ts = (t : Token) × (x ≡ one t) × (ts ≡ t ∷ []) × (variant k ≡ code t) × IsTokenAt text t
Found text (seq f g) x ts = (y : Value) × (z : Value) × (us : List Token) × (vs : List Token) × (x ≡ two y z)
    × (ts ≡ us ++ vs) × Found text f y us × Found text g z vs
Found text (alt f g) x ts = Found text f x ts ⊎ Found text g x ts
Found text (opt f) x ts = ((x ≡ nothing) × (ts ≡ [])) ⊎ Found text f x ts
Found text (many f) x ts = (xs : List Value) × (x ≡ row xs) × EachOf (λ y us. Found text f y us) xs ts
Found text (rule r) x ts = RuleFound text r x ts
