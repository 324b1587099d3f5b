use Rattle.std.proofs.Common.{refl}
use Rattle.alg_printer.proofs.Examples.{is_valid, zero_are_printable}
use Rattle.alg_printer.proofs.tests.files.a_denominator_that_is_zero_is_printed.Goals as goal

pub file_text-requires-clause-valid : goal.file_text-requires-clause-valid
file_text-requires-clause-valid g c = is_valid c.in_ok-file.file c.in_ok-file.ensures

pub file_text-requires-clause-printable : goal.file_text-requires-clause-printable
file_text-requires-clause-printable g c = zero_are_printable c.in_ok-file.file _ c.in_ok-file.ensures refl
