-- One token ahead: what each rule begins with, and what it goes on with.
use Rattle.std.proofs.Common.{◌≡◌, ℕ, true, false, refl, arith}
use Rattle.alg_reader.specs.declared.format.Format.{Format}
use Rattle.alg_reader.specs.declared.format.Format.TheVariants as formats
use Rattle.alg_reader.specs.declared.place.Place.{Place}
use Rattle.alg_reader.specs.declared.place.Place.TheVariants as places
use Rattle.alg_reader.specs.Forms.{Rule, Statement, Ring, Sort, Hom, Vars, Hyp, Goal, Method, Use, Sum, Product, Unary, Power, Leaf, Atom, Factor, Factors, Mono, Int, Condition, Constant, Conditional, Certified, Proved, No, ZeroDenominator, NoneUpTo, GaveUp, Stopped, Combined, Line, Step}
use Rattle.alg_reader.specs.Grammar.{grammar}
use Rattle.alg_reader.specs.Ahead.{begins_at, rule_begins, rule_goes_on, nullable, begins, goes_on}

-- ---- what begins and goes on at a place, and in a format

statement_begins : (place : Place) (n : ℕ) → begins (grammar (Statement place)) n ≡ true → begins_at place n ≡ true
unfolding grammar rule_begins
statement_begins places.Plain n h = grind arith
statement_begins places.Start n h = grind arith
statement_begins places.AfterGoal n h = grind arith
statement_begins places.Lines n h = grind arith
statement_begins places.Steps n h = grind arith
statement_begins places.LinesTwo n h = grind arith
statement_begins places.StepsTwo n h = grind arith

statement_not_nullable : (place : Place) → nullable (grammar (Statement place)) ≡ false
unfolding grammar
statement_not_nullable places.Plain = refl
statement_not_nullable places.Start = refl
statement_not_nullable places.AfterGoal = refl
statement_not_nullable places.Lines = refl
statement_not_nullable places.Steps = refl
statement_not_nullable places.LinesTwo = refl
statement_not_nullable places.StepsTwo = refl

combined_goes_on : (format : Format) (n : ℕ) → goes_on (grammar (Combined format)) n ≡ true
    → rule_goes_on (Combined format) n ≡ true
unfolding grammar rule_goes_on rule_begins
combined_goes_on formats.One n h = grind arith
combined_goes_on formats.Two n h = grind arith

line_goes_on : (format : Format) (n : ℕ) → goes_on (grammar (Line format)) n ≡ true → rule_goes_on (Line format) n
    ≡ true
unfolding grammar rule_goes_on rule_begins
line_goes_on formats.One n h = grind arith
line_goes_on formats.Two n h = grind arith

step_goes_on : (format : Format) (n : ℕ) → goes_on (grammar (Step format)) n ≡ true → rule_goes_on (Step format) n
    ≡ true
unfolding grammar rule_goes_on rule_begins
step_goes_on format n h = grind arith

pub rule_begins_right : (r : Rule) (n : ℕ) → begins (grammar r) n ≡ true → rule_begins r n ≡ true
unfolding grammar rule_begins
rule_begins_right (Statement place) n h = statement_begins place n h
rule_begins_right Ring n h = grind arith
rule_begins_right Sort n h = grind arith
rule_begins_right Hom n h = grind arith
rule_begins_right Vars n h = grind arith
rule_begins_right Hyp n h = grind arith
rule_begins_right Goal n h = grind arith
rule_begins_right Method n h = grind arith
rule_begins_right Use n h = grind arith
rule_begins_right Sum n h = grind arith
rule_begins_right Product n h = grind arith
rule_begins_right Unary n h = grind arith
rule_begins_right Power n h = grind arith
rule_begins_right Leaf n h = grind arith
rule_begins_right Atom n h = grind arith
rule_begins_right Factor n h = grind arith
rule_begins_right Factors n h = grind arith
rule_begins_right Mono n h = grind arith
rule_begins_right Int n h = grind arith
rule_begins_right Condition n h = grind arith
rule_begins_right Constant n h = grind arith
rule_begins_right Conditional n h = grind arith
rule_begins_right Certified n h = grind arith
rule_begins_right Proved n h = grind arith
rule_begins_right No n h = grind arith
rule_begins_right ZeroDenominator n h = grind arith
rule_begins_right NoneUpTo n h = grind arith
rule_begins_right GaveUp n h = grind arith
rule_begins_right Stopped n h = grind arith
rule_begins_right (Combined format) n h = grind arith
rule_begins_right (Line format) n h = grind arith
rule_begins_right (Step format) n h = grind arith

pub rule_not_nullable : (r : Rule) → nullable (grammar r) ≡ false
unfolding grammar
rule_not_nullable (Statement place) = statement_not_nullable place
rule_not_nullable Ring = refl
rule_not_nullable Sort = refl
rule_not_nullable Hom = refl
rule_not_nullable Vars = refl
rule_not_nullable Hyp = refl
rule_not_nullable Goal = refl
rule_not_nullable Method = refl
rule_not_nullable Use = refl
rule_not_nullable Sum = refl
rule_not_nullable Product = refl
rule_not_nullable Unary = refl
rule_not_nullable Power = refl
rule_not_nullable Leaf = refl
rule_not_nullable Atom = refl
rule_not_nullable Factor = refl
rule_not_nullable Factors = refl
rule_not_nullable Mono = refl
rule_not_nullable Int = refl
rule_not_nullable Condition = refl
rule_not_nullable Constant = refl
rule_not_nullable Conditional = refl
rule_not_nullable Certified = refl
rule_not_nullable Proved = refl
rule_not_nullable No = refl
rule_not_nullable ZeroDenominator = refl
rule_not_nullable NoneUpTo = refl
rule_not_nullable GaveUp = refl
rule_not_nullable Stopped = refl
rule_not_nullable (Combined format) = refl
rule_not_nullable (Line format) = refl
rule_not_nullable (Step format) = refl

pub rule_goes_on_right : (r : Rule) (n : ℕ) → goes_on (grammar r) n ≡ true → rule_goes_on r n ≡ true
unfolding grammar rule_goes_on rule_begins
rule_goes_on_right (Statement place) n h = cc
rule_goes_on_right Ring n h = grind arith
rule_goes_on_right Sort n h = grind arith
rule_goes_on_right Hom n h = grind arith
rule_goes_on_right Vars n h = grind arith
rule_goes_on_right Hyp n h = grind arith
rule_goes_on_right Goal n h = grind arith
rule_goes_on_right Method n h = grind arith
rule_goes_on_right Use n h = grind arith
rule_goes_on_right Sum n h = grind arith
rule_goes_on_right Product n h = grind arith
rule_goes_on_right Unary n h = grind arith
rule_goes_on_right Power n h = grind arith
rule_goes_on_right Leaf n h = grind arith
rule_goes_on_right Atom n h = grind arith
rule_goes_on_right Factor n h = grind arith
rule_goes_on_right Factors n h = grind arith
rule_goes_on_right Mono n h = grind arith
rule_goes_on_right Int n h = grind arith
rule_goes_on_right Condition n h = grind arith
rule_goes_on_right Constant n h = grind arith
rule_goes_on_right Conditional n h = grind arith
rule_goes_on_right Certified n h = grind arith
rule_goes_on_right Proved n h = grind arith
rule_goes_on_right No n h = grind arith
rule_goes_on_right ZeroDenominator n h = grind arith
rule_goes_on_right NoneUpTo n h = grind arith
rule_goes_on_right GaveUp n h = grind arith
rule_goes_on_right Stopped n h = grind arith
rule_goes_on_right (Combined format) n h = combined_goes_on format n h
rule_goes_on_right (Line format) n h = line_goes_on format n h
rule_goes_on_right (Step format) n h = step_goes_on format n h
