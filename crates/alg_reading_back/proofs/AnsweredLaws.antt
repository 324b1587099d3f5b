-- The laws that the canonical text of a file with its answers reads back, in both formats.
use Rattle.alg_tokens.specs.Laws.{CutFromAnywhere}
use Rattle.alg_reader.specs.declared.format.Format.TheVariants as formats
use Rattle.alg_reading_back.specs.ReadingAnswers.{ReadsBackWithAnswers, Migrates}
use Rattle.alg_reading_back.proofs.AnsweredLines.{lines_are}
use Rattle.alg_reading_back.proofs.AnsweredReadings.{answered_back}
use Rattle.alg_reading_back.proofs.FormatOneLines.{lines_are_one}

pub reads_back_with_answers : CutFromAnywhere → ReadsBackWithAnswers
reads_back_with_answers law file answers can =
    answered_back law file answers can formats.Two (lines_are file answers can)

pub migrates : CutFromAnywhere → Migrates
migrates law file answers can = answered_back law file answers can formats.One (lines_are_one file answers can)
