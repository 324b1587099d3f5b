-- What holds of every statement that was read from a text.
use Rattle.std.specs.Prelude.{◌≡◌, ◌≢◌, ◌≤◌, ◌-◌, ◌+◌, ℕ, true, false, List, length, take, drop, All, Option, IfSome, ℤ, pos, ◌≤ℤ◌}
use Rattle.std.specs.Str.{IsCharBoundary}
use Rattle.std.proofs.Math.IntN.{neg_ℤ}
use Rattle.alg_terms.specs.Limits.{MAX_LITERAL, MAX_DEPTH}
use Rattle.alg_terms.specs.Kinds.{IsDomain}
use Rattle.alg_terms.specs.Names.{IsName}
use Rattle.alg_reader.specs.declared.raw.RawAnswer.{RawAnswer}
use Rattle.alg_reader.specs.declared.raw.RawAnswer.TheVariants as answers
use Rattle.alg_reader.specs.declared.raw.RawMono.{RawMono}
use Rattle.alg_reader.specs.declared.raw.RawTerm.{RawTerm}
use Rattle.alg_reader.specs.declared.raw.RawEquation.{RawEquation}
use Rattle.alg_reader.specs.declared.raw.RawNumber.{RawNumber}
use Rattle.alg_reader.specs.declared.raw.RawUse.{RawUse}
use Rattle.alg_reader.specs.declared.raw.RawMethod.{RawMethod}
use Rattle.alg_reader.specs.declared.raw.RawMethod.TheVariants as methods
use Rattle.alg_reader.specs.declared.raw.RawKind.{RawKind}
use Rattle.alg_reader.specs.declared.raw.RawKind.TheVariants as raws
use Rattle.alg_reader.specs.declared.raw.Span.{Span}
use Rattle.alg_reader.specs.declared.reading.Raw.{Raw}
use Rattle.alg_reader.specs.RawMonos.{names_in_mono, exponents_in_mono}
use Rattle.alg_reader.specs.RawTerms.{depth_of, names_in, literals_in, exponents_in}

-- the bytes of a span
abbrev pub bytes_at : List ℕ → Span → List ℕ
bytes_at text span = take (span.stop - span.start) (drop span.start text)

-- the span is one of a name
pub record IsNameAt (text : List ℕ) (span : Span) : Type 0 where
  pub starts : IsCharBoundary text span.start
  pub stops : IsCharBoundary text span.stop
  pub ordered : span.start ≤ span.stop
  pub name : IsName (bytes_at text span)

-- from 0 to the greatest literal
abbrev pub IsInRange : ℤ → Type 0
IsInRange n = (pos 0 ≤ℤ n) × (n ≤ℤ MAX_LITERAL)

-- a number is from 0 to the greatest literal
pub record IsNumeral (n : RawNumber) : Type 0 where
  pub low : pos 0 ≤ℤ n.value
  pub high : n.value ≤ℤ MAX_LITERAL

-- a term that was read: its names are names, its numbers in range, and no node is too deep
pub record IsWellTerm (text : List ℕ) (t : RawTerm) : Type 0 where
  pub names : All (IsNameAt text) (names_in t)
  pub literals : All IsInRange (literals_in t)
  pub exponents : All IsNumeral (exponents_in t)
  pub depth : depth_of t ≤ MAX_DEPTH

-- both sides are terms that were read
pub record IsWellEquation (text : List ℕ) (e : RawEquation) : Type 0 where
  pub left : IsWellTerm text e.left
  pub right : IsWellTerm text e.right

-- a use that was read: its names are names
pub record IsWellUse (text : List ℕ) (used : RawUse) : Type 0 where
  pub path : All (IsNameAt text) used.path
  pub hyp : IsNameAt text used.hyp

-- a number that may be left out
abbrev pub IsOption : Option RawNumber → Type 0
IsOption number = IfSome number IsNumeral

-- a method that was read
abbrev pub IsWellMethod : List ℕ → RawMethod → Type 0
IsWellMethod text methods.Ring = Unit {0}
IsWellMethod text methods.Field = Unit {0}
IsWellMethod text (methods.Nsatz uses power limit) = All (IsWellUse text) uses × IsOption power × IsOption limit

-- an integer is at most as far from 0 as the greatest literal
pub record IsInteger (n : RawNumber) : Type 0 where
  pub low : neg_ℤ MAX_LITERAL ≤ℤ n.value
  pub high : n.value ≤ℤ MAX_LITERAL

-- a monomial that was read: its names are names, and its exponents in range
pub record IsWellMono (text : List ℕ) (m : RawMono) : Type 0 where
  pub names : All (IsNameAt text) (names_in_mono m)
  pub exponents : All IsNumeral (exponents_in_mono m)

-- an answer that was read
abbrev pub IsWellAnswer : List ℕ → RawAnswer → Type 0
IsWellAnswer text (answers.Proved conditions) = All (IsWellTerm text) conditions
IsWellAnswer text (answers.Certified version power constants) =
    IsOption version × IsNumeral power × All IsNumeral constants
IsWellAnswer text (answers.No m left right) = IsWellMono text m × IsInteger left × IsInteger right
IsWellAnswer text (answers.ZeroDenominator denominator) = IsWellTerm text denominator
IsWellAnswer text (answers.NoneUpTo power) = IsNumeral power
IsWellAnswer text (answers.GaveUp limit) = IsNumeral limit
IsWellAnswer text answers.Range = Unit {0}
IsWellAnswer text answers.Degree = Unit {0}
IsWellAnswer text answers.Atoms = Unit {0}

-- what was read
abbrev pub IsWellKind : List ℕ → RawKind → Type 0
IsWellKind text raws.End = Unit {0}
IsWellKind text (raws.Sort kind name char0) = IsNameAt text name × (char0 ≡ true → IsDomain kind)
IsWellKind text (raws.Hom name from to) = IsNameAt text name × IsNameAt text from × IsNameAt text to
IsWellKind text (raws.Vars names sort) = (1 ≤ length names) × All (IsNameAt text) names × IsNameAt text sort
IsWellKind text (raws.Hyp name e) = IsNameAt text name × IsWellEquation text e
IsWellKind text (raws.Goal e method method_at) = IsWellEquation text e × (e.nonzero ≡ false) × IsWellMethod text method
IsWellKind text (raws.Answer said) = IsWellAnswer text said
IsWellKind text (raws.Line a m i b n j d) = IsNumeral a × IsWellMono text m × IsNumeral i × IsInteger b
    × IsWellMono text n × IsNumeral j × IsNumeral d
IsWellKind text (raws.Step a b n j d) = IsNumeral a × IsInteger b × IsWellMono text n × IsNumeral j × IsNumeral d

-- how many uses a method has
abbrev pub uses_in : RawMethod → ℕ
uses_in methods.Ring = 0
uses_in methods.Field = 0
uses_in (methods.Nsatz uses power limit) = length uses

-- how many members a statement declares, with the uses of a goal
abbrev pub members_in : RawKind → ℕ
members_in (raws.Vars names sort) = length names
members_in (raws.Goal e method method_at) = 1 + uses_in method
members_in _ = 1

-- a statement that was read at a place of a text
pub record IsWellRead (text : List ℕ) (at : ℕ) (raw : Raw) : Type 0 where
  pub kind : IsWellKind text raw.kind
  -- it stands from its start to its stop, where the text may be cut
  pub starts : at ≤ raw.start
  pub stops : IsCharBoundary text raw.stop
  -- each member, and each use, takes a byte at least
  pub long : raw.kind ≢ raws.End → raw.start + members_in raw.kind ≤ raw.stop
