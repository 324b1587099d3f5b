-- The faults of the names of a statement: those of declarations and goals, and of answers, lines and steps.
use Rattle.std.specs.Prelude.{ℕ, List, [], ◌++◌, flat_map}
use Rattle.alg_terms.specs.declared.file.File.{File}
use Rattle.alg_tokens.specs.declared.token.Refusal.{Refusal}
use Rattle.alg_reader.specs.declared.raw.RawAnswer.{RawAnswer}
use Rattle.alg_reader.specs.declared.raw.RawAnswer.TheVariants as answers
use Rattle.alg_reader.specs.declared.raw.RawKind.{RawKind}
use Rattle.alg_reader.specs.declared.raw.RawKind.TheVariants as raws
use Rattle.alg_typing.specs.NameFaults.{name_faults, term_names}
use Rattle.alg_annotated.specs.Monomials.{mono_names}

module _ (file : File) (text : List ℕ) where
  -- the faults of the names of an answer
  abbrev pub answer_names : RawAnswer → List Refusal
  answer_names (answers.Proved conditions) = flat_map (term_names file text) conditions
  answer_names (answers.No m left right) = mono_names file text m
  answer_names (answers.ZeroDenominator denominator) = term_names file text denominator
  answer_names _ = []

  -- the faults of the names of a statement
  abbrev pub statement_names : RawKind → List Refusal
  statement_names (raws.Answer said) = answer_names said
  statement_names (raws.Line a m i b n j d) = mono_names file text m ++ mono_names file text n
  statement_names (raws.Step a b n j d) = mono_names file text n
  statement_names kind = name_faults file text kind
