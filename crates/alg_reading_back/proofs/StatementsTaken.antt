-- Each statement of a valid file, in its canonical text, is taken by the front of the file before it.
use Rattle.std.proofs.Common.{◌≡◌, ℕ, List, [], ◌∷◌, ◌++◌, arith}
use Rattle.alg_terms.specs.declared.file.File.{File}
use Rattle.alg_terms.specs.declared.file.Statement.{Statement}
use Rattle.alg_terms.specs.declared.file.Statement.TheVariants as statement
use Rattle.alg_terms.specs.Valid.{IsValid}
use Rattle.alg_printer.specs.Text.{IsStatementOf}
use Rattle.alg_reading_back.proofs.ClosedFronts.{IsClosedBy, front_closed}
use Rattle.alg_reading_back.proofs.DeclarationsBack.{sort_taken, hom_taken}
use Rattle.alg_reading_back.proofs.FrontNames.{front_distinct}
use Rattle.alg_reading_back.proofs.Fronts.{front, next}
use Rattle.alg_reading_back.proofs.GoalsBack.{goal_taken}
use Rattle.alg_reading_back.proofs.HypsBack.{hyp_taken}
use Rattle.alg_reading_back.proofs.PiecesAt.{PiecesAt}
use Rattle.alg_reading_back.proofs.Taken.{IsTaken}
use Rattle.alg_reading_back.proofs.VarsBack.{vars_taken}
use Rattle.alg_reading_back.proofs.WrittenStatements.{written_statement}

-- wherever its pieces stand
pub statement_taken : (file : File) (valid : IsValid file) (before after : List Statement) (s : Statement) →
    file.order ≡ before ++ (s ∷ after) → IsStatementOf file s → IsClosedBy file before → (text : List ℕ) (at : ℕ) →
    PiecesAt text at (written_statement file s).pieces →
    IsTaken (front file before) text ((written_statement file s).raw at) (front file (before ++ s ∷ []))
statement_taken file valid before after (statement.Sort k) split is closed text at placed =
    sort_taken file valid before after k split text at placed
statement_taken file valid before after (statement.Hom f) split is closed text at placed =
    hom_taken file valid before after f split (front_distinct file valid before) text at placed
statement_taken file valid before after (statement.Vars first count) split is closed text at placed =
    vars_taken file valid before after first count split (front_distinct file valid before) text at placed
statement_taken file valid before after (statement.Hyp h) split is closed text at placed =
    hyp_taken file valid before after h split is text at placed
statement_taken file valid before after (statement.Goal i) split is closed text at placed =
    let fits = (next file valid.ordered before after (statement.Goal i) split).sorts.1 in
    goal_taken file valid before after i split is (front_closed file before (omega (arith, fits)) closed) text at placed
