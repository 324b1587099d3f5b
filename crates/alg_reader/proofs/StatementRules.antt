-- What the rule of statements makes of what its parts mean.
use Rattle.std.proofs.Common.{◌≡◌, ℕ, inl, inr, List, ◌++◌, length, length-append, ap, sym, ◌∙◌, subst, arith}
use Rattle.alg_tokens.specs.declared.token.Token.{Token}
use Rattle.alg_reader.specs.declared.format.Format.{Format}
use Rattle.alg_reader.specs.declared.format.Format.TheVariants as formats
use Rattle.alg_reader.specs.declared.place.Place.{Place}
use Rattle.alg_reader.specs.declared.place.Place.TheVariants as places
use Rattle.alg_reader.specs.declared.raw.RawKind.{RawKind}
use Rattle.alg_reader.specs.declared.raw.RawKind.TheVariants as raws
use Rattle.alg_reader.specs.Forms as rules
use Rattle.alg_reader.specs.Grammar.{grammar, body, line_or, said_at, step_or}
use Rattle.alg_reader.specs.Places.{MayStand}
use Rattle.alg_reader.specs.TermMeaning.{Value, two}
use Rattle.alg_reader.specs.Meaning.{act}
use Rattle.alg_reader.proofs.Found.{AnswerFound, IsSpelledKind, KindFound, StandsFound, Found}

-- a dot behind what a kind of statement spells
spelled_more : (k : RawKind) (us vs ts : List Token) → ts ≡ us ++ vs → IsSpelledKind k us → IsSpelledKind k ts
spelled_more raws.End us vs ts e h = tt
spelled_more (raws.Sort kind name char0) us vs ts e h = tt
spelled_more (raws.Hom name from to) us vs ts e h = tt
spelled_more (raws.Vars names sort) us vs ts e h = let long = ap length e ∙ length-append us vs in omega arith
spelled_more (raws.Hyp name sides) us vs ts e h = tt
spelled_more (raws.Goal sides way place) us vs ts e h =
    let long = ap length e ∙ length-append us vs in omega arith
spelled_more (raws.Answer said) us vs ts e h = tt
spelled_more (raws.Line a m i b n j d) us vs ts e h = tt
spelled_more (raws.Step a b n j d) us vs ts e h = tt

body_found : (text : List ℕ) (x : Value) (ts : List Token) → Found text body x ts → KindFound text x ts
body_found text x ts (inl h) = h
body_found text x ts (inr (inl h)) = h
body_found text x ts (inr (inr (inl h))) = h
body_found text x ts (inr (inr (inr (inl h)))) = h
body_found text x ts (inr (inr (inr (inr (inl h))))) = h
body_found text x ts (inr (inr (inr (inr (inr h))))) = h

-- what may stand at each place
plain_anywhere : (site : Place) (k : RawKind) → MayStand places.Plain k → MayStand site k
plain_anywhere site raws.End h = tt
plain_anywhere site (raws.Sort kind name char0) h = tt
plain_anywhere site (raws.Hom name from to) h = tt
plain_anywhere site (raws.Vars names sort) h = tt
plain_anywhere site (raws.Hyp name sides) h = tt
plain_anywhere site (raws.Goal sides way place) h = tt
plain_anywhere site (raws.Answer said) h = absurd h
plain_anywhere site (raws.Line a m i b n j d) h = absurd h
plain_anywhere site (raws.Step a b n j d) h = absurd h

plain_stands : (site : Place) (text : List ℕ) (x : Value) (ts : List Token) → KindFound text x ts
    → StandsFound site text x ts
plain_stands site text x ts (k, e, plain, found, spells) = (k, e, plain_anywhere site k plain, found, spells)

-- what may stand among steps may stand among lines
step_among_lines : (k : RawKind) → MayStand places.Steps k → MayStand places.Lines k
step_among_lines raws.End h = tt
step_among_lines (raws.Sort kind name char0) h = tt
step_among_lines (raws.Hom name from to) h = tt
step_among_lines (raws.Vars names sort) h = tt
step_among_lines (raws.Hyp name sides) h = tt
step_among_lines (raws.Goal sides way place) h = tt
step_among_lines (raws.Answer said) h = absurd h
step_among_lines (raws.Line a m i b n j d) h = absurd h
step_among_lines (raws.Step a b n j d) h = tt

steps_stand : (text : List ℕ) (format : Format) (x : Value) (ts : List Token) → Found text (step_or format) x ts
    → StandsFound places.Steps text x ts
steps_stand text format x ts (inl h) = h
steps_stand text format x ts (inr h) = plain_stands places.Steps text x ts (body_found text x ts h)

lines_stand : (text : List ℕ) (format : Format) (x : Value) (ts : List Token) → Found text (line_or format) x ts
    → StandsFound places.Lines text x ts
lines_stand text format x ts (inl h) = h
lines_stand text format x ts (inr h) =
    let (k, e, stands, found, spells) = steps_stand text format x ts h in
    (k, e, step_among_lines k stands, found, spells)

-- the two formats have their lines and steps at like places
line_two : (k : RawKind) → MayStand places.Lines k → MayStand places.LinesTwo k
line_two raws.End h = tt
line_two (raws.Sort kind name char0) h = tt
line_two (raws.Hom name from to) h = tt
line_two (raws.Vars names sort) h = tt
line_two (raws.Hyp name sides) h = tt
line_two (raws.Goal sides way place) h = tt
line_two (raws.Answer said) h = absurd h
line_two (raws.Line a m i b n j d) h = tt
line_two (raws.Step a b n j d) h = tt

step_two : (k : RawKind) → MayStand places.Steps k → MayStand places.StepsTwo k
step_two raws.End h = tt
step_two (raws.Sort kind name char0) h = tt
step_two (raws.Hom name from to) h = tt
step_two (raws.Vars names sort) h = tt
step_two (raws.Hyp name sides) h = tt
step_two (raws.Goal sides way place) h = tt
step_two (raws.Answer said) h = absurd h
step_two (raws.Line a m i b n j d) h = absurd h
step_two (raws.Step a b n j d) h = tt

answer_stands : (text : List ℕ) (x : Value) (ts : List Token) → AnswerFound text x
    → StandsFound places.AfterGoal text x ts
answer_stands text x ts (said, e, found) = (raws.Answer said, e, tt, found, tt)

said_found : (site : Place) (text : List ℕ) (x : Value) (ts : List Token) → Found text (said_at site) x ts
    → StandsFound site text x ts
said_found places.Plain text x ts h = body_found text x ts h
said_found places.Start text x ts h = plain_stands places.Start text x ts (body_found text x ts h)
said_found places.AfterGoal text x ts (inl h) = answer_stands text x ts h
said_found places.AfterGoal text x ts (inr (inl h)) = answer_stands text x ts h
said_found places.AfterGoal text x ts (inr (inr (inl h))) = answer_stands text x ts h
said_found places.AfterGoal text x ts (inr (inr (inr (inl h)))) = answer_stands text x ts h
said_found places.AfterGoal text x ts (inr (inr (inr (inr (inl h))))) = answer_stands text x ts h
said_found places.AfterGoal text x ts (inr (inr (inr (inr (inr (inl h)))))) = answer_stands text x ts h
said_found places.AfterGoal text x ts (inr (inr (inr (inr (inr (inr h)))))) =
    plain_stands places.AfterGoal text x ts (body_found text x ts h)
said_found places.Lines text x ts h = lines_stand text formats.One x ts h
said_found places.Steps text x ts h = steps_stand text formats.One x ts h
said_found places.LinesTwo text x ts h =
    let (k, e, stands, found, spells) = lines_stand text formats.Two x ts h in (k, e, line_two k stands, found, spells)
said_found places.StepsTwo text x ts h =
    let (k, e, stands, found, spells) = steps_stand text formats.Two x ts h in (k, e, step_two k stands, found, spells)

pub statement_found : (site : Place) (text : List ℕ) (x : Value) (ts : List Token)
    → Found text (grammar (rules.Statement site)) x ts → StandsFound site text (act (rules.Statement site) x) ts
unfolding grammar act
statement_found site text x ts (y, z, us, vs, e, s, h, (d, ed, _, _, _)) =
    let (k, ek, stands, found, spells) = said_found site text y us h in
    let P : Value → Type 0 = λ v. StandsFound site text (act (rules.Statement site) v) ts in
    subst P (sym (e ∙ ap (two y) ed)) (k, ek, stands, found, spelled_more k us vs ts s spells)
