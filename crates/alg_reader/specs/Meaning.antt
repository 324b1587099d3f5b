-- What a derivation means, from the bottom up.
use Rattle.std.specs.Prelude.{ℕ}
use Rattle.alg_reader.specs.declared.raw.RawMethod.{RawMethod}
use Rattle.alg_reader.specs.declared.raw.RawKind.{RawKind}
use Rattle.alg_reader.specs.declared.raw.RawKind.TheVariants as raws
use Rattle.alg_reader.specs.Forms as rules
use Rattle.alg_reader.specs.Forms.{Rule, Tree, token, pair, left, right, none, some, end, more, node}
use Rattle.alg_reader.specs.TermMeaning.{Value, act_leaf, act_power, act_sum, act_unary, one, two, nothing, sort, hom, vars, hyp, method, goal, answer, line, step}
use Rattle.alg_reader.specs.AnswerMeaning.{act_atom, act_certified, act_combined, act_condition, act_conditional, act_constant, act_factor, act_factors, act_gave_up, act_int, act_line, act_mono, act_no, act_none_up_to, act_proved, act_step, act_stopped, act_zero_denominator}
use Rattle.alg_reader.specs.PartMeaning.{act_goal, act_hom, act_hyp, act_method, act_ring, act_sort, act_statement, act_use, act_vars, sides}

-- what a rule makes of what its right side means
unfoldable pub act : Rule → Value → Value
act rules.Sum v = act_sum v
act rules.Product v = act_sum v
act rules.Unary v = act_unary v
act rules.Power v = act_power v
act rules.Leaf v = act_leaf v
act rules.Ring v = act_ring v
act rules.Sort v = act_sort v
act rules.Hom v = act_hom v
act rules.Vars v = act_vars v
act rules.Hyp v = act_hyp v
act rules.Method v = act_method v
act rules.Goal v = act_goal v
act (rules.Statement place) v = act_statement v
act rules.Use v = act_use v
act rules.Atom v = act_atom v
act rules.Factor v = act_factor v
act rules.Factors v = act_factors v
act rules.Mono v = act_mono v
act rules.Int v = act_int v
act rules.Condition v = act_condition v
act rules.Constant v = act_constant v
act rules.Conditional v = act_conditional v
act rules.Certified v = act_certified v
act rules.Proved v = act_proved v
act rules.No v = act_no v
act rules.ZeroDenominator v = act_zero_denominator v
act rules.NoneUpTo v = act_none_up_to v
act rules.GaveUp v = act_gave_up v
act rules.Stopped v = act_stopped v
act (rules.Combined format) v = act_combined v
act (rules.Line format) v = act_line v
act (rules.Step format) v = act_step v

-- the parts' meanings, put together at each rule
abbrev pub value : Tree → Value
value (token t) = one t
value (pair v w) = two (value v) (value w)
value (left v) = value v
value (right v) = value v
value none = nothing
value (some v) = value v
value end = nothing
value (more v w) = two (value v) (value w)
value (node r v) = act r (value v)

-- what a method that was read means, with its place
abbrev pub method_value : RawMethod × ℕ → Value
method_value (way, place) = method way place

-- what a statement that was read means
abbrev pub kind_value : RawKind → Value
kind_value raws.End = nothing
kind_value (raws.Sort word name zero) = sort word name zero
kind_value (raws.Hom name from to) = hom name from to
kind_value (raws.Vars names of) = vars names of
kind_value (raws.Hyp name sides) = hyp name sides
kind_value (raws.Goal sides way place) = goal sides way place
kind_value (raws.Answer said) = answer said
kind_value (raws.Line a m i b n j d) = line a m i b n j d
kind_value (raws.Step a b n j d) = step a b n j d
