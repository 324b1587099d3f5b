-- What a derivation of tokens of a text means.
use Rattle.std.proofs.Common.{ℕ, inl, inr, List, [], ◌∷◌, ◌++◌, refl, ap, subst}
use Rattle.std.specs.List.{AllByRecursion}
use Rattle.alg_tokens.specs.declared.token.Token.{Token}
use Rattle.alg_tokens.specs.declared.token.TokenKind.TheVariants as kinds
use Rattle.alg_tokens.specs.declared.token.Sign.TheVariants as signs
use Rattle.alg_reader.specs.Forms as rules
use Rattle.alg_reader.specs.Forms.{Rule, Form, a, seq, alt, opt, many, rule, Tree, token, pair, left, right, none, some, end, more, node, spelled}
use Rattle.alg_reader.specs.Grammar.{grammar, Fits}
use Rattle.alg_reader.specs.TermMeaning.{Value}
use Rattle.alg_reader.specs.TermMeaning.{two, nothing}
use Rattle.alg_reader.specs.Meaning.{value, act}
use Rattle.alg_reader.proofs.Boundaries.{IsTokenAt}
use Rattle.alg_reader.proofs.Found.{all_split, row, RuleFound, Found}
use Rattle.alg_reader.proofs.Nodes.{chain_found}
use Rattle.alg_reader.proofs.Rules.{unary_found, power_rule_found, leaf_found}
use Rattle.alg_reader.proofs.UseRules.{use_found}
use Rattle.alg_reader.proofs.Declarations.{ring_found, sort_found, hom_found, vars_found, hyp_found}
use Rattle.alg_reader.proofs.GoalRules.{method_found, goal_found}
use Rattle.alg_reader.proofs.MonoRules.{atom_found, factor_found, factors_found, mono_found, int_found}
use Rattle.alg_reader.proofs.ConditionRules.{condition_found, constant_found, conditional_found, certified_found}
use Rattle.alg_reader.proofs.AnswerRules.{proved_found, no_found, zero_denominator_found, none_up_to_found, gave_up_found, stopped_found}
use Rattle.alg_reader.proofs.CertificateRules.{combined_found, line_found, step_found}
use Rattle.alg_reader.proofs.StatementRules.{statement_found}

rule_found : (text : List ℕ) (r : Rule) (x : Value) (ts : List Token) → Found text (grammar r) x ts
    → RuleFound text r (act r x) ts
unfolding grammar act
rule_found text rules.Sum x ts h = chain_found text (kinds.Sign signs.Plus) (kinds.Sign signs.Minus) rules.Product x ts
    (λ y us k. k) h
rule_found text rules.Product x ts h = chain_found text (kinds.Sign signs.Star)
    (kinds.Sign signs.Slash) rules.Unary x ts
    (λ y us k. k) h
rule_found text rules.Unary x ts h = unary_found text x ts h
rule_found text rules.Power x ts h = power_rule_found text x ts h
rule_found text rules.Leaf x ts h = leaf_found text x ts (λ y us k. k) h
rule_found text rules.Use x ts h = use_found text x ts h
rule_found text rules.Method x ts h = method_found text x ts h
rule_found text rules.Goal x ts h = goal_found text x ts h
rule_found text rules.Hyp x ts h = hyp_found text x ts h
rule_found text rules.Vars x ts h = vars_found text x ts h
rule_found text rules.Hom x ts h = hom_found text x ts h
rule_found text rules.Sort x ts h = sort_found text x ts h
rule_found text rules.Ring x ts h = ring_found text x ts h
rule_found text rules.Atom x ts h = atom_found text x ts h
rule_found text rules.Factor x ts h = factor_found text x ts h
rule_found text rules.Factors x ts h = factors_found text x ts h
rule_found text rules.Mono x ts h = mono_found text x ts h
rule_found text rules.Int x ts h = int_found text x ts h
rule_found text rules.Condition x ts h = condition_found text x ts h
rule_found text rules.Constant x ts h = constant_found text x ts h
rule_found text rules.Conditional x ts h = conditional_found text x ts h
rule_found text rules.Certified x ts h = certified_found text x ts h
rule_found text rules.Proved x ts h = proved_found text x ts h
rule_found text rules.No x ts h = no_found text x ts h
rule_found text rules.ZeroDenominator x ts h = zero_denominator_found text x ts h
rule_found text rules.NoneUpTo x ts h = none_up_to_found text x ts h
rule_found text rules.GaveUp x ts h = gave_up_found text x ts h
rule_found text rules.Stopped x ts h = stopped_found text x ts h
rule_found text (rules.Combined format) x ts h = combined_found text format x ts h
rule_found text (rules.Line format) x ts h = line_found text format x ts h
rule_found text (rules.Step format) x ts h = step_found text format x ts h
rule_found text (rules.Statement site) x ts h = statement_found site text x ts h

nothing_found : (text : List ℕ) (f : Form) → Found text (many f) nothing []
unfolding row
nothing_found text f = ([], refl, refl)

more_found : (text : List ℕ) (f : Form) (v w : Tree) → Found text f (value v) (spelled v)
    → Found text (many f) (value w) (spelled w) → Found text (many f) (two (value v) (value w)) (spelled v ++ spelled w)
unfolding row
more_found text f v w h (xs, e, each) = (
  value v ∷ xs,
  ap (two (value v)) e,
  (spelled v, spelled w, refl, h, each),
)

pub found : (text : List ℕ) (f : Form) (v : Tree) → Fits f v → AllByRecursion (IsTokenAt text) (spelled v)
    → Found text f (value v) (spelled v)
found text (a k) (token t) h all = (t, refl, refl, h, all.0)
found text (seq f g) (pair v w) h all =
    let (front, back) = all_split (IsTokenAt text) (spelled v) (spelled w) all in
    (value v, value w, spelled v, spelled w, refl, refl, found text f v h.0 front, found text g w h.1 back)
found text (alt f g) (left v) h all = inl (found text f v h all)
found text (alt f g) (right v) h all = inr (found text g v h all)
found text (opt f) none h all = inl (refl, refl)
found text (opt f) (some v) h all = inr (found text f v h all)
found text (many f) end h all = nothing_found text f
found text (many f) (more v w) h all =
    let (front, back) = all_split (IsTokenAt text) (spelled v) (spelled w) all in
    more_found text f v w (found text f v h.0 front) (found text (many f) w h.1 back)
found text (rule r) (node q v) h all =
    let P : Rule → Type 0 = λ p. RuleFound text r (act p (value v)) (spelled v) in
    subst P h.0 (rule_found text r (value v) (spelled v) (found text (grammar r) v h.1 all))
found text _ _ h all = absurd h
