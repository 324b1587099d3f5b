-- Faults of declarations and goals where there may be answers, and the rules of the terms of an answer.
use Rattle.std.proofs.Common.{◌≡◌, ℕ, List, refl}
use Rattle.std.specs.List.{AllByRecursion}
use Rattle.std.proofs.lemmas.List.Elements.{recursion_from_All}
use Rattle.alg_lines.specs.declared.answer.Answer.{Answer}
use Rattle.alg_lines.specs.declared.answer.Answer.TheVariants as answer
use Rattle.alg_lines.specs.AnswerTerms.{terms_of}
use Rattle.alg_terms.specs.AnswerRules.{IsAnswerTerm}
use Rattle.alg_terms.specs.declared.file.File.{File}
use Rattle.alg_terms.specs.declared.file.Statement.{Statement}
use Rattle.alg_terms.specs.declared.file.Statement.TheVariants as statement
use Rattle.alg_terms.specs.declared.goals.Goal.{Goal}
use Rattle.alg_typing.specs.NameFaults.{name_faults}
use Rattle.alg_typing.specs.SortFaults.{sort_faults}
use Rattle.alg_annotated.specs.Names.{statement_names}
use Rattle.alg_annotated.specs.Rules.{statement_faults}
use Rattle.alg_printer.specs.Printable.{HasParts}
use Rattle.alg_reading_back.proofs.WrittenStatements.{written_statement}

-- ---- faults of declarations and goals

-- they are those without answers
pub same_names : (file : File) (s : Statement) (g : File) (text : List ℕ) (at : ℕ) →
    statement_names g text ((written_statement file s).raw at) ≡ name_faults g text ((written_statement file s).raw at)
same_names file (statement.Sort k) g text at = refl
same_names file (statement.Hom f) g text at = refl
same_names file (statement.Vars first count) g text at = refl
same_names file (statement.Hyp h) g text at = refl
same_names file (statement.Goal i) g text at = refl

pub same_faults : (file : File) (s : Statement) (g : File) (text : List ℕ) (start at : ℕ) →
    statement_faults g text start ((written_statement file s).raw at)
    ≡ sort_faults g text ((written_statement file s).raw at)
same_faults file (statement.Sort k) g text start at = refl
same_faults file (statement.Hom f) g text start at = refl
same_faults file (statement.Vars first count) g text start at = refl
same_faults file (statement.Hyp h) g text start at = refl
same_faults file (statement.Goal i) g text start at = refl

-- ---- the terms of an answer

-- they keep the rules of terms in answers
pub terms_stand : (file : File) (goal : Goal) (said : Answer) → HasParts file goal said →
    AllByRecursion (IsAnswerTerm file goal) (terms_of said)
terms_stand file goal (answer.Proved conditions) parts =
    recursion_from_All (IsAnswerTerm file goal) conditions parts
terms_stand file goal (answer.ZeroDenominator denominator) parts = (parts, tt)
terms_stand file goal (answer.Certified constants cert) parts = tt
terms_stand file goal (answer.No m left right) parts = tt
terms_stand file goal (answer.NoneUpTo power) parts = tt
terms_stand file goal (answer.GaveUp limit) parts = tt
terms_stand file goal answer.Atoms parts = tt
terms_stand file goal answer.Range parts = tt
terms_stand file goal answer.Degree parts = tt
