use Rattle.std.proofs.Common.{◌≡◌, [], ◌∷◌, Some}
use Rattle.alg_lines.specs.declared.answer.Answer.{Answer}
use Rattle.alg_printer.proofs.Examples.{is_valid, are_printable}
use Rattle.alg_printer.proofs.tests.files.a_file_is_printed_with_its_answers.Goals as goal

-- the file is the small one, and the answers are those of the trial
pub file_text-requires-clause-valid : goal.file_text-requires-clause-valid
file_text-requires-clause-valid g c = is_valid c.in_ok-file.file c.in_ok-file.ensures

two : (a b d e : Answer) → a ≡ d → b ≡ e → (Some a ∷ Some b ∷ []) ≡ (Some d ∷ Some e ∷ [])
two a b d e first second = λ i. Some (first i) ∷ Some (second i) ∷ []

pub file_text-requires-clause-printable : goal.file_text-requires-clause-printable
file_text-requires-clause-printable g c =
    are_printable c.in_ok-file.file _ c.in_ok-file.ensures
    (two _ _ _ _ c.in_ok-first_answer.ensures c.in_ok-second_answer.ensures)
