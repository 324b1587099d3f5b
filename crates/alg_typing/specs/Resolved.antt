-- Statements with their names resolved, and a file with one more statement.
use Rattle.std.specs.Prelude.{ℕ, List, [], ◌∷◌, ◌++◌, map, length, Option, unwrap_or}
use Rattle.std.specs.Int.RustNames.{unsigned_abs}
use Rattle.std.specs.Option.{option_map_or}
use Rattle.alg_terms.specs.declared.declarations.VarDecl.{VarDecl}
use Rattle.alg_terms.specs.declared.file.File.{File}
use Rattle.alg_terms.specs.declared.file.Statement.TheVariants as statement
use Rattle.alg_terms.specs.declared.goals.Equation.{Equation}
use Rattle.alg_terms.specs.declared.goals.Method.{Method}
use Rattle.alg_terms.specs.declared.goals.Method.TheVariants.{ByRing, ByField, ByNsatz}
use Rattle.alg_terms.specs.declared.goals.Use.{Use}
use Rattle.alg_terms.specs.declared.term.Term.{Term}
use Rattle.alg_terms.specs.declared.term.Term.TheVariants as term
use Rattle.alg_terms.specs.Limits.{DEFAULT_POWER, DEFAULT_LIMIT}
use Rattle.alg_terms.specs.Sorts.{equation_sort}
use Rattle.alg_reader.specs.declared.raw.RawEquation.{RawEquation}
use Rattle.alg_reader.specs.declared.raw.RawKind.{RawKind}
use Rattle.alg_reader.specs.declared.raw.RawKind.TheVariants as raws
use Rattle.alg_reader.specs.declared.raw.RawMethod.{RawMethod}
use Rattle.alg_reader.specs.declared.raw.RawMethod.TheVariants as methods
use Rattle.alg_reader.specs.declared.raw.RawNode.TheOpen.{RawNode-F}
use Rattle.alg_reader.specs.declared.raw.RawNumber.{RawNumber}
use Rattle.alg_reader.specs.declared.raw.RawTerm.{RawTerm}
use Rattle.alg_reader.specs.declared.raw.RawUse.{RawUse}
use Rattle.alg_reader.specs.declared.raw.Span.{Span}
use Rattle.alg_reader.specs.RawTerms.{Node, fold_raw}
use Rattle.alg_reader.specs.WellRead.{bytes_at}
use Rattle.alg_typing.specs.Names.{declared_as, number_of}

-- the numeral of an option, or what it is where it is not written
abbrev pub option_of : ℕ → Option RawNumber → ℕ
option_of default number = option_map_or (λ n. unsigned_abs n.value) number default

module _ (file : File) (text : List ℕ) where
  -- the number of what a name is declared as
  abbrev pub number_at : Span → ℕ
  number_at name = option_map_or number_of (declared_as file (bytes_at text name)) 0

  -- one node with the numbers of what it names
  abbrev pub node_term : ℕ → Node Term → Term
  node_term head (RawNode-F.Var name) = term.Var (number_at name)
  node_term head (RawNode-F.Int n) = term.Int n
  node_term head (RawNode-F.Neg part) = term.Neg part
  node_term head (RawNode-F.Add left right) = term.Add left right
  node_term head (RawNode-F.Sub left right) = term.Sub left right
  node_term head (RawNode-F.Mul left right) = term.Mul left right
  node_term head (RawNode-F.Div left right) = term.Div left right
  node_term head (RawNode-F.Pow part exponent) = term.Pow part (unsigned_abs exponent.value)
  node_term head (RawNode-F.Hom name part) = term.Hom (number_at name) part

  -- a term with the numbers of what it names
  abbrev pub term_of : RawTerm → Term
  term_of = fold_raw node_term

  -- an equation
  abbrev pub equation_of : RawEquation → Equation
  equation_of e =
      let left = term_of e.left in
      let right = term_of e.right in
      record { sort = unwrap_or (equation_sort file left right) 0; left = left; right = right }

  -- a use
  abbrev pub use_of : RawUse → Use
  use_of used = record { path = map number_at used.path; hyp = number_at used.hyp }

  -- a method
  abbrev pub method_of : RawMethod → Method
  method_of methods.Ring = ByRing
  method_of methods.Field = ByField
  method_of (methods.Nsatz uses power limit) =
      ByNsatz (map use_of uses) (option_of DEFAULT_POWER power) (option_of DEFAULT_LIMIT limit)

  -- variables of one sort, by their names
  abbrev pub vars_of : ℕ → List Span → List VarDecl
  vars_of sort names = map (λ name. record { name = bytes_at text name; sort = sort }) names

  -- the file with one more declaration or goal at its end
  abbrev pub extended : RawKind → File
  extended raws.End = file
  extended (raws.Sort kind name char0) = record file {
    sorts = file.sorts ++ record { name = bytes_at text name; kind = kind; char0 = char0 } ∷ [];
    order = file.order ++ statement.Sort (length file.sorts) ∷ [];
  }
  extended (raws.Hom name from to) = record file {
    homs = file.homs ++ record { name = bytes_at text name; from = number_at from; to = number_at to } ∷ [];
    order = file.order ++ statement.Hom (length file.homs) ∷ [];
  }
  extended (raws.Vars names sort) = record file {
    vars = file.vars ++ vars_of (number_at sort) names;
    order = file.order ++ statement.Vars (length file.vars) (length names) ∷ [];
  }
  extended (raws.Hyp name e) = record file {
    hyps = file.hyps ++ record { name = bytes_at text name; equation = equation_of e; nonzero = e.nonzero } ∷ [];
    order = file.order ++ statement.Hyp (length file.hyps) ∷ [];
  }
  extended (raws.Goal e method method_at) = record file {
    goals = file.goals ++ record { equation = equation_of e; method = method_of method } ∷ [];
    order = file.order ++ statement.Goal (length file.goals) ∷ [];
  }
  extended _ = file
