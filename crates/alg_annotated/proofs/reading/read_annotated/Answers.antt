use Rattle.std.proofs.Common.{◌<◌, ◌≤◌, List, ℕ, length, sym, subst, inr, ap, Ok, Err, IfOk}
use Rattle.std.specs.Str.{IsUtf8, IsValidUpTo}
use Rattle.alg_terms.specs.Limits.{MAX_TEXT}
use Rattle.alg_typing.proofs.ReadingSteps.{small_place, is_reading, told_all}
use Rattle.alg_annotated.specs.declared.annotated.Annotated.{Annotated}
use Rattle.alg_annotated.specs.Kept.{size_of}
use Rattle.alg_annotated.specs.Reading.{IsAnnotatedReadingOf, ReadsAnnotated, annotated_way, nothing_yet}
use Rattle.alg_annotated.proofs.Ends.{ok_maps}
use Rattle.alg_annotated.proofs.reading.read_annotated.Goals as goal

-- the bytes are a text
pub read_text-requires-text-text : goal.read_text-requires-text-text
read_text-requires-text-text c = λ _. subst IsUtf8 (sym c.in-Ok.ensures.cases.0) c.in-Ok.ensures.cases.1

pub read_text-requires : goal.read_text-requires
read_text-requires c = subst (λ (t : List ℕ). length t ≤ MAX_TEXT) (sym c.in-Ok.ensures.cases.0) c.requires

pub returns-in-Ok-clause-ok : goal.returns-in-Ok-clause-ok
returns-in-Ok-clause-ok c =
    let bytes = c.args.bytes.now in
    let text = c.in-Ok.text.now in
    ok_maps (λ (all : Annotated). ReadsAnnotated text 0 nothing_yet (Ok all))
    (λ (all : Annotated). IsAnnotatedReadingOf bytes (Ok all))
    (λ all reads. is_reading annotated_way nothing_yet bytes text c.in-Ok.ensures.cases.0 c.in-Ok.ensures.cases.1
    (Ok all) reads)
    c.read_text.result c.read_text.ensures.ok

pub returns-in-Ok-clause-valid : goal.returns-in-Ok-clause-valid
returns-in-Ok-clause-valid c = c.read_text.ensures.valid

pub returns-in-Ok-clause-answers : goal.returns-in-Ok-clause-answers
returns-in-Ok-clause-answers c = c.read_text.ensures.answers

pub returns-in-Ok-clause-few : goal.returns-in-Ok-clause-few
returns-in-Ok-clause-few c =
    subst (λ (t : List ℕ). IfOk c.read_text.result (λ (all : Annotated). size_of all.file all.answers ≤ length t))
    c.in-Ok.ensures.cases.0 c.read_text.ensures.few

pub returns-in-Ok-clause-refused : goal.returns-in-Ok-clause-refused
returns-in-Ok-clause-refused c =
    told_all annotated_way nothing_yet c.args.bytes.now c.in-Ok.text.now c.in-Ok.ensures.cases.0
    c.in-Ok.ensures.cases.1 c.read_text.result c.read_text.ensures.refused

-- they are none
pub overflow_cast-end : goal.overflow_cast-end
overflow_cast-end c =
    let short = subst (λ (n : ℕ). n < length c.args.bytes.now) (sym c.valid_up_to-end.ensures)
    c.in-Err.ensures.cases.1.short in
    small_place c.valid_up_to-end.result (length c.args.bytes.now) short c.requires

pub returns-in-Err-clause-refused : goal.returns-in-Err-clause-refused
returns-in-Err-clause-refused c =
    let longest = subst (IsValidUpTo c.args.bytes.now) (sym c.valid_up_to-end.ensures) c.in-Err.ensures.cases.1 in
    inr (c.in-Err.ensures.cases.0, (c.valid_up_to-end.result, longest, ap (λ f. Err f) c.at.ensures))
