-- What the derivations of the parts of statements mean.
use Rattle.std.specs.Prelude.{true, false, List, [], ◌∷◌, Option, None, Some}
use Rattle.alg_tokens.specs.declared.token.Token.{Token}
use Rattle.alg_tokens.specs.declared.token.TokenKind.{TokenKind}
use Rattle.alg_tokens.specs.declared.token.TokenKind.TheVariants as kinds
use Rattle.alg_tokens.specs.declared.token.Word.TheVariants as words
use Rattle.alg_terms.specs.declared.declarations.Kind.{Kind}
use Rattle.alg_terms.specs.declared.declarations.Kind.TheVariants as sorts
use Rattle.alg_reader.specs.declared.raw.RawUse.{RawUse}
use Rattle.alg_reader.specs.declared.raw.RawMethod.{RawMethod}
use Rattle.alg_reader.specs.declared.raw.RawMethod.TheVariants as methods
use Rattle.alg_reader.specs.declared.raw.Span.{Span}
use Rattle.alg_reader.specs.declared.raw.RawNumber.{RawNumber}
use Rattle.alg_reader.specs.declared.raw.RawTerm.{RawTerm}
use Rattle.alg_reader.specs.declared.raw.RawEquation.{RawEquation}
use Rattle.alg_reader.specs.TermMeaning.{Value, one, two, nothing, term, sort, hom, vars, hyp, used, method, goal}
use Rattle.alg_reader.specs.RawNodes.{at, is_unequal, numeral_of, span_of}

-- the word of a declared sort
abbrev pub sort_word : TokenKind → Kind
sort_word (kinds.Word words.Ring) = sorts.Ring
sort_word (kinds.Word words.Domain) = sorts.Domain
sort_word _ = sorts.Field

-- `ring R`
abbrev pub act_ring : Value → Value
act_ring (two (one word) (one name)) = sort sorts.Ring (span_of name) false
act_ring _ = nothing

-- `domain D`, or `field F char 0`
abbrev pub act_sort : Value → Value
act_sort (two (one word) (two (one name) nothing)) = sort (sort_word word.kind) (span_of name) false
act_sort (two (one word) (two (one name) (two char zero))) = sort (sort_word word.kind) (span_of name) true
act_sort _ = nothing

-- `hom f : R -> S`
abbrev pub act_hom : Value → Value
act_hom (two (one word) (two (one name) (two (one colon) (two (one from) (two (one arrow) (one to)))))) = hom
    (span_of name) (span_of from) (span_of to)
act_hom _ = nothing

-- the names that follow one another
unfoldable pub spans : Value → List Span
spans (two (one name) names) = span_of name ∷ spans names
spans _ = []

-- `var x y : R`
abbrev pub act_vars : Value → Value
act_vars (two (one word) (two (one name) (two names (two (one colon) (one of))))) = vars
    (span_of name ∷ spans names) (span_of of)
act_vars _ = nothing

-- two sides with the sign between them
abbrev pub sides : RawTerm → Token → RawTerm → RawEquation
sides t relation u = record { left = t; relation = relation.start; nonzero = is_unequal relation.kind; right = u }

-- `hyp H : t = u`, or with `<>`
abbrev pub act_hyp : Value → Value
act_hyp (two (one word) (two (one name) (two (one colon) (two (term t) (two (one relation) (term u)))))) = hyp
    (span_of name) (sides t relation u)
act_hyp _ = nothing

-- the method of a word
abbrev pub method_word : TokenKind → RawMethod
method_word (kinds.Word words.Ring) = methods.Ring
method_word _ = methods.Field

-- a use under one more morphism
abbrev pub under : Span → RawUse → RawUse
under name u = record { path = name ∷ u.path; hyp = u.hyp }

-- `H`, or `f(H)`
abbrev pub act_use : Value → Value
act_use (two (one name) nothing) = used (record { path = []; hyp = span_of name })
act_use (two (one name) (two (one paren) (two (used u) (one close)))) = used (under (span_of name) u)
act_use _ = nothing

-- the uses that follow a first one
unfoldable pub uses_after : Value → List RawUse
uses_after (two (two (one comma) (used u)) rest) = u ∷ uses_after rest
uses_after _ = []

-- the uses of a goal
abbrev pub uses_of : Value → List RawUse
uses_of (two (one word) (two (used u) rest)) = u ∷ uses_after rest
uses_of _ = []

-- the number of an option
abbrev pub option_of : Value → Option RawNumber
option_of (two (one word) (one n)) = Some (numeral_of n)
option_of _ = None

-- nsatz with its options
abbrev pub nsatz_of : Value → RawMethod
nsatz_of (two using (two power limit)) = methods.Nsatz (uses_of using) (option_of power) (option_of limit)
nsatz_of _ = methods.Nsatz [] None None

-- a method with its place
abbrev pub act_method : Value → Value
act_method (one word) = method (method_word word.kind) word.start
act_method (two (one word) options) = method (nsatz_of options) word.start
act_method _ = nothing

-- `goal t = u by method`
abbrev pub act_goal : Value → Value
act_goal (two (one word) (two (term t) (two (one equal) (two (term u) (two (one by) (method m at)))))) = goal
    (sides t equal u) m at
act_goal _ = nothing

-- a statement with its `.`
abbrev pub act_statement : Value → Value
act_statement (two v (one dot)) = v
act_statement _ = nothing
