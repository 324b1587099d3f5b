-- Places in the tokens of a statement: the end, a token at which reading is stuck, and the dot.
use Rattle.std.proofs.Common.{◌≡◌, ◌≢◌, ℕ, Bool, true, false, ◌&&◌, ◌==◌, not, List, [], ◌∷◌, ◌++◌, length, length-append, drop, refl, ap, sym, ◌∙◌, arith, Ok, eq-eqb}
use Rattle.alg_tokens.specs.declared.token.Token.{Token}
use Rattle.alg_tokens.specs.declared.token.TokenKind.{TokenKind}
use Rattle.alg_tokens.specs.declared.token.TokenKind.TheVariants as kinds
use Rattle.alg_tokens.specs.declared.token.Sign.TheVariants as signs
use Rattle.alg_tokens.specs.Next.{IsNext}
use Rattle.alg_reader.specs.Kinds.{variant, code}
use Rattle.alg_reader.specs.Forms as rules
use Rattle.alg_reader.specs.Forms.{Rule, Statement, Form, a, seq, alt, opt, many, rule, Tree, token, pair, left, right, none, some, end, more, node, spelled}
use Rattle.alg_reader.specs.declared.format.Format.{Format}
use Rattle.alg_reader.specs.declared.format.Format.TheVariants as formats
use Rattle.alg_reader.specs.declared.place.Place.{Place}
use Rattle.alg_reader.specs.declared.place.Place.TheVariants as places
use Rattle.alg_reader.specs.Grammar.{grammar, Fits, said_at}
use Rattle.alg_reader.specs.Tokens.{TokensTo, open_with, GoesPast, HasNoDot}
use Rattle.alg_reader.proofs.Variants.{is_dot}

-- ---- places in lists of tokens

-- the first token, or another one
abbrev pub head_or : List Token → Token → Token
head_or [] t = t
head_or (u ∷ us) t = u

-- the only end is the last token
pub split_end : (text : List ℕ) (at stop : ℕ) (ts seen rest : List Token) (e t : Token) → TokensTo text at ts stop
    → t.kind ≡ kinds.End → ts ++ e ∷ [] ≡ seen ++ t ∷ rest → (seen ≡ ts) × (rest ≡ [])
split_end text at stop [] [] rest e t to is same = (refl, sym (ap (drop 1) same))
split_end text at stop [] (s ∷ seen) rest e t to is same =
    let long = ap length (ap (drop 1) same) ∙ length-append seen (t ∷ rest) in absurd (omega arith)
split_end text at stop (x ∷ ts) [] rest e t (_, lexeme, _) is same =
    let first : x ≡ t = ap (λ us. head_or us t) same in absurd (lexeme (ap (λ u. u.kind) first ∙ is))
split_end text at stop (x ∷ ts) (s ∷ seen) rest e t (_, _, to) is same =
    let first : x ≡ s = ap (λ us. head_or us s) same in
    let (front, back) = split_end text x.stop stop ts seen rest e t to is (ap (drop 1) same) in
    (ap (λ u. u ∷ seen) (sym first) ∙ ap (λ us. x ∷ us) front, back)

pub split_token : (ts seen rest : List Token) (e t : Token) → e.kind ≡ kinds.End → t.kind ≢ kinds.End
    → ts ++ e ∷ [] ≡ seen ++ t ∷ rest → (after : List Token) × (ts ≡ seen ++ t ∷ after)
split_token [] [] rest e t is lexeme same = let first : e ≡ t = ap (λ us. head_or us t) same in
    absurd (lexeme (sym (ap (λ u. u.kind) first) ∙ is))
split_token [] (s ∷ seen) rest e t is lexeme same = let long = ap length (ap (drop 1) same)
    ∙ length-append seen (t ∷ rest) in absurd (omega arith)
split_token (x ∷ ts) [] rest e t is lexeme same = (ts, ap (λ u. u ∷ ts) (ap (λ us. head_or us t) same))
split_token (x ∷ ts) (s ∷ seen) rest e t is lexeme same =
    let first : x ≡ s = ap (λ us. head_or us s) same in
    let (after, front) = split_token ts seen rest e t is lexeme (ap (drop 1) same) in
    (after, ap (λ us. x ∷ us) front ∙ ap (λ u. u ∷ (seen ++ t ∷ after)) first)

pub tokens_split : (text : List ℕ) (at stop : ℕ) (seen after : List Token) (t : Token)
    → TokensTo text at (seen ++ t ∷ after) stop → (mid : ℕ) × TokensTo text at seen mid × IsNext text mid (Ok t)
    × (t.kind ≢ kinds.End)
tokens_split text at stop [] after t (next, lexeme, _) = (at, refl, next, lexeme)
tokens_split text at stop (s ∷ seen) after t (next, lexeme, to) =
    let (mid, front, here, is) = tokens_split text s.stop stop seen after t to in (mid, (next, lexeme, front), here, is)

pub past_split : (depth : ℕ) (seen after : List Token) → GoesPast depth (seen ++ after) → GoesPast depth seen
past_split depth [] after past = tt
past_split depth (s ∷ seen) after (free, past) = (free, past_split (open_with depth s.kind) seen after past)

pub dot_split : (seen after : List Token) → HasNoDot (seen ++ after) → HasNoDot seen
dot_split [] after clear = tt
dot_split (s ∷ seen) after (first, clear) = (first, dot_split seen after clear)

-- what stands before a token of a list without its last one stands before that last one
pub prefix_of : (before seen after : List Token) (last t : Token) → before ++ last ∷ [] ≡ seen ++ t ∷ after
    → (tail : List Token) × (before ≡ seen ++ tail)
prefix_of before [] after last t same = (before, refl)
prefix_of [] (s ∷ seen) after last t same = let long = ap length (ap (drop 1) same)
    ∙ length-append seen (t ∷ after) in absurd (omega arith)
prefix_of (x ∷ before) (s ∷ seen) after last t same =
    let first : x ≡ s = ap (λ us. head_or us s) same in
    let (tail, front) = prefix_of before seen after last t (ap (drop 1) same) in
    (tail, ap (λ us. x ∷ us) front ∙ ap (λ u. u ∷ (seen ++ tail)) first)

-- ---- the dot that ends a statement

pub avoids : Form → Bool
avoids (a k) = not (variant k == 5)
avoids (seq f g) = avoids f && avoids g
avoids (alt f g) = avoids f && avoids g
avoids (opt f) = avoids f
avoids (many f) = avoids f
avoids (rule (rules.Statement site)) = false
avoids (rule r) = true

combined_avoids : (format : Format) → avoids (grammar (rules.Combined format)) ≡ true
unfolding grammar avoids
combined_avoids formats.One = refl
combined_avoids formats.Two = refl

line_avoids : (format : Format) → avoids (grammar (rules.Line format)) ≡ true
unfolding grammar avoids
line_avoids formats.One = refl
line_avoids formats.Two = refl

said_avoids : (site : Place) → avoids (said_at site) ≡ true
unfolding avoids
said_avoids places.Plain = refl
said_avoids places.Start = refl
said_avoids places.AfterGoal = refl
said_avoids places.Lines = refl
said_avoids places.Steps = refl
said_avoids places.LinesTwo = refl
said_avoids places.StepsTwo = refl

pub rule_avoids : (r : Rule) → avoids (rule r) ≡ true → avoids (grammar r) ≡ true
unfolding grammar avoids
rule_avoids (rules.Statement site) h = cc
rule_avoids rules.Ring h = refl
rule_avoids rules.Sort h = refl
rule_avoids rules.Hom h = refl
rule_avoids rules.Vars h = refl
rule_avoids rules.Hyp h = refl
rule_avoids rules.Goal h = refl
rule_avoids rules.Method h = refl
rule_avoids rules.Use h = refl
rule_avoids rules.Sum h = refl
rule_avoids rules.Product h = refl
rule_avoids rules.Unary h = refl
rule_avoids rules.Power h = refl
rule_avoids rules.Leaf h = refl
rule_avoids rules.Atom h = refl
rule_avoids rules.Factor h = refl
rule_avoids rules.Factors h = refl
rule_avoids rules.Mono h = refl
rule_avoids rules.Int h = refl
rule_avoids rules.Condition h = refl
rule_avoids rules.Constant h = refl
rule_avoids rules.Conditional h = refl
rule_avoids rules.Certified h = refl
rule_avoids rules.Proved h = refl
rule_avoids rules.No h = refl
rule_avoids rules.ZeroDenominator h = refl
rule_avoids rules.NoneUpTo h = refl
rule_avoids rules.GaveUp h = refl
rule_avoids rules.Stopped h = refl
rule_avoids (rules.Combined format) h = combined_avoids format
rule_avoids (rules.Line format) h = line_avoids format
rule_avoids (rules.Step format) h = refl

pub both_avoid : (x y : Bool) → (x && y) ≡ true → (x ≡ true) × (y ≡ true)
both_avoid true y h = (refl, h)
both_avoid false y h = cc

pub no_dot_append : (xs ys : List Token) → HasNoDot xs → HasNoDot ys → HasNoDot (xs ++ ys)
no_dot_append [] ys clear others = others
no_dot_append (x ∷ xs) ys (first, clear) others = (first, no_dot_append xs ys clear others)

pub token_no_dot : (k : TokenKind) (t : Token) → not (variant k == 5) ≡ true → variant k ≡ code t
    → t.kind ≢ kinds.Sign signs.Dot
token_no_dot k t h fits is =
    let four : code t ≡ 5 = ap variant is in
    let same : (variant k == 5) ≡ true = eq-eqb (variant k) 5 (fits ∙ four) in
    let flip = ap not same in
    cc

pub no_dot : (f : Form) (v : Tree) → avoids f ≡ true → Fits f v → HasNoDot (spelled v)
unfolding avoids
no_dot (a k) (token t) h fits = (token_no_dot k t h fits, tt)
no_dot (seq f g) (pair v w) h fits = let (first, second) = both_avoid _ _ h in
    no_dot_append (spelled v) (spelled w) (no_dot f v first fits.0) (no_dot g w second fits.1)
no_dot (alt f g) (left v) h fits = no_dot f v (both_avoid _ _ h).0 fits
no_dot (alt f g) (right v) h fits = no_dot g v (both_avoid _ _ h).1 fits
no_dot (opt f) none h fits = tt
no_dot (opt f) (some v) h fits = no_dot f v h fits
no_dot (many f) end h fits = tt
no_dot (many f) (more v w) h fits = no_dot_append (spelled v) (spelled w) (no_dot f v h fits.0) (no_dot
    (many f) w h fits.1)
no_dot (rule r) (node q v) h fits = no_dot (grammar r) v (rule_avoids r h) fits.1
no_dot _ _ h fits = absurd fits

-- the tokens of a statement: none of them a dot but the last
abbrev pub EndsInDot : List Token → Type 0
EndsInDot ts = (front : List Token) × (d : Token) × (ts ≡ front ++ d ∷ []) × (d.kind ≡ kinds.Sign signs.Dot)
    × HasNoDot front

said_dot : (site : Place) (w : Tree) → Fits (seq (said_at site) (a (kinds.Sign signs.Dot))) w → EndsInDot (spelled w)
said_dot site (pair v (token d)) fits =
    (spelled v, d, refl, is_dot d.kind fits.1, no_dot (said_at site) v (said_avoids site) fits.0)
said_dot site (pair v _) fits = absurd fits.1
said_dot site _ fits = absurd fits

pub statement_dot : (site : Place) (v : Tree) → Fits (rule (Statement site)) v → EndsInDot (spelled v)
unfolding grammar
statement_dot site (node q w) fits = said_dot site w fits.1
statement_dot site _ fits = absurd fits
