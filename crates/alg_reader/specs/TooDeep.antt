-- Nodes that are too deep, and what is kept of the terms that have them.
use Rattle.std.specs.Prelude.{ℕ, ◌+◌, max, nat_lt, if◌then◌else◌, List, [], ◌∷◌, map, Option, None, Some, pos}
use Rattle.std.specs.Option.{option_or}
use Rattle.alg_terms.specs.Limits.{MAX_DEPTH}
use Rattle.alg_reader.specs.declared.raw.RawTerm.{RawTerm, roll-RawTerm}
use Rattle.alg_reader.specs.declared.raw.RawNode.TheOpen.{RawNode-F}
use Rattle.alg_reader.specs.declared.raw.RawNode.TheVariants.{Int}
use Rattle.alg_reader.specs.declared.raw.RawAnswer.{RawAnswer}
use Rattle.alg_reader.specs.declared.raw.RawAnswer.TheVariants as answers
use Rattle.alg_reader.specs.declared.raw.RawEquation.{RawEquation}
use Rattle.alg_reader.specs.declared.raw.RawKind.{RawKind}
use Rattle.alg_reader.specs.declared.raw.RawKind.TheVariants as raws
use Rattle.alg_reader.specs.RawTerms.{Node, fold_raw, depth_of}

-- a depth, and the head of the first node that is too deep
pub record Depths : Type 0 where
  pub depth : ℕ
  pub too_deep : Option ℕ

-- a node of this depth, where `first` is the first too deep node among its parts
abbrev pub node_over : ℕ → ℕ → Option ℕ → Depths
node_over head depth first =
    record { depth = depth; too_deep = option_or first (if nat_lt MAX_DEPTH depth then Some head else None) }

-- a node with one part
abbrev pub over_one : ℕ → Depths → Depths
over_one head part = node_over head (1 + part.depth) part.too_deep

-- a node with two parts, the left one first
abbrev pub over_two : ℕ → Depths → Depths → Depths
over_two head left right =
    node_over head (1 + max left.depth right.depth) (option_or left.too_deep right.too_deep)

-- one node, by its parts
abbrev pub node_depths : ℕ → Node Depths → Depths
node_depths head (RawNode-F.Var name) = node_over head 1 None
node_depths head (RawNode-F.Int n) = node_over head 1 None
node_depths head (RawNode-F.Neg part) = over_one head part
node_depths head (RawNode-F.Add left right) = over_two head left right
node_depths head (RawNode-F.Sub left right) = over_two head left right
node_depths head (RawNode-F.Mul left right) = over_two head left right
node_depths head (RawNode-F.Div left right) = over_two head left right
node_depths head (RawNode-F.Pow part exponent) = over_one head part
node_depths head (RawNode-F.Hom name part) = over_one head part

-- the head of the first node in postorder whose depth is over the greatest
abbrev pub first_too_deep : RawTerm → Option ℕ
first_too_deep t = (fold_raw node_depths t).too_deep

-- what is kept of a term: the literal 0 where it is too deep
abbrev pub kept : RawTerm → RawTerm
kept t = if nat_lt MAX_DEPTH (depth_of t) then roll-RawTerm (record { head = t.head; node = Int (pos 0) }) else t

-- what is kept of an equation
abbrev pub kept_sides : RawEquation → RawEquation
kept_sides e = record e { left = kept e.left; right = kept e.right }

-- what is kept of an answer
abbrev pub kept_answer : RawAnswer → RawAnswer
kept_answer (answers.Proved conditions) = answers.Proved (map kept conditions)
kept_answer (answers.ZeroDenominator denominator) = answers.ZeroDenominator (kept denominator)
kept_answer said = said

-- what is kept of a statement
abbrev pub kept_kind : RawKind → RawKind
kept_kind (raws.Hyp name e) = raws.Hyp name (kept_sides e)
kept_kind (raws.Goal e method method_at) = raws.Goal (kept_sides e) method method_at
kept_kind (raws.Answer said) = raws.Answer (kept_answer said)
kept_kind kind = kind

-- the first too deep node of an equation: the left side comes first
abbrev pub first_of_sides : RawEquation → Option ℕ
first_of_sides e = option_or (first_too_deep e.left) (first_too_deep e.right)

-- the first too deep node of several terms, one after the other
abbrev pub first_of_terms : List RawTerm → Option ℕ
first_of_terms [] = None
first_of_terms (t ∷ ts) = option_or (first_too_deep t) (first_of_terms ts)

-- the first too deep node of an answer
abbrev pub first_of_answer : RawAnswer → Option ℕ
first_of_answer (answers.Proved conditions) = first_of_terms conditions
first_of_answer (answers.ZeroDenominator denominator) = first_too_deep denominator
first_of_answer said = None

-- the head of the first too deep node of a statement
abbrev pub first_of_statement : RawKind → Option ℕ
first_of_statement (raws.Hyp name e) = first_of_sides e
first_of_statement (raws.Goal e method method_at) = first_of_sides e
first_of_statement (raws.Answer said) = first_of_answer said
first_of_statement kind = None
