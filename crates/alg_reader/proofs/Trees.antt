-- Each form has a derivation.
use Rattle.alg_tokens.specs.declared.token.Sign.TheVariants as signs
use Rattle.alg_reader.specs.declared.format.Format.TheVariants as formats
use Rattle.alg_reader.specs.declared.place.Place.{Place}
use Rattle.alg_reader.specs.declared.place.Place.TheVariants as places
use Rattle.alg_reader.specs.Forms as rules
use Rattle.alg_reader.specs.Forms.{Rule, Form, a, seq, alt, opt, many, rule, left, none, end}
use Rattle.alg_reader.specs.Grammar.{grammar, said_at}
use Rattle.alg_tokens.specs.declared.token.TokenKind.TheVariants as kinds
use Rattle.alg_reader.proofs.BodyTrees.{Derived, word, both, by_rule, leaf_tree, sum_tree, power_tree, unary_tree, product_tree, method_tree, use_tree, ring_tree, sort_tree, hom_tree, vars_tree, hyp_tree, goal_tree}
use Rattle.alg_reader.proofs.AnswerTrees.{atom_tree, factor_tree, factors_tree, mono_tree, int_tree, condition_tree, constant_tree, conditional_tree, certified_tree, proved_tree, no_tree, zero_tree, none_up_to_tree, gave_up_tree, stopped_tree, combined_tree, line_tree, step_tree}

said_tree : (place : Place) → Derived (said_at place)
said_tree places.Plain = (left ring_tree.0, ring_tree.1)
said_tree places.Start = (left ring_tree.0, ring_tree.1)
said_tree places.AfterGoal = (left proved_tree.0, proved_tree.1)
said_tree places.Lines = let line = line_tree formats.One in (left line.0, line.1)
said_tree places.Steps = let step = step_tree formats.One in (left step.0, step.1)
said_tree places.LinesTwo = let line = line_tree formats.Two in (left line.0, line.1)
said_tree places.StepsTwo = let step = step_tree formats.Two in (left step.0, step.1)

statement_tree : (place : Place) → Derived (rule (rules.Statement place))
unfolding grammar
statement_tree place = by_rule (rules.Statement place) (both _ _ (said_tree place) (word (kinds.Sign signs.Dot)))

rule_tree : (r : Rule) → Derived (rule r)
rule_tree (rules.Statement place) = statement_tree place
rule_tree rules.Ring = ring_tree
rule_tree rules.Sort = sort_tree
rule_tree rules.Hom = hom_tree
rule_tree rules.Vars = vars_tree
rule_tree rules.Hyp = hyp_tree
rule_tree rules.Goal = goal_tree
rule_tree rules.Method = method_tree
rule_tree rules.Use = use_tree
rule_tree rules.Sum = sum_tree
rule_tree rules.Product = product_tree
rule_tree rules.Unary = unary_tree
rule_tree rules.Power = power_tree
rule_tree rules.Leaf = leaf_tree
rule_tree rules.Atom = atom_tree
rule_tree rules.Factor = factor_tree
rule_tree rules.Factors = factors_tree
rule_tree rules.Mono = mono_tree
rule_tree rules.Int = int_tree
rule_tree rules.Condition = condition_tree
rule_tree rules.Constant = constant_tree
rule_tree rules.Conditional = conditional_tree
rule_tree rules.Certified = certified_tree
rule_tree rules.Proved = proved_tree
rule_tree rules.No = no_tree
rule_tree rules.ZeroDenominator = zero_tree
rule_tree rules.NoneUpTo = none_up_to_tree
rule_tree rules.GaveUp = gave_up_tree
rule_tree rules.Stopped = stopped_tree
rule_tree (rules.Combined format) = combined_tree format
rule_tree (rules.Line format) = line_tree format
rule_tree (rules.Step format) = step_tree format

pub some_tree : (f : Form) → Derived f
some_tree (a k) = word k
some_tree (seq f g) = both f g (some_tree f) (some_tree g)
some_tree (alt f g) = let v = some_tree f in (left v.0, v.1)
some_tree (opt f) = (none, tt)
some_tree (many f) = (end, tt)
some_tree (rule r) = rule_tree r
