use Rattle.std.proofs.Common.{◌<◌, ◌≤◌, List, ℕ, length, sym, subst, inr, ap, Err}
use Rattle.std.specs.Str.{IsUtf8, IsValidUpTo}
use Rattle.alg_terms.specs.Limits.{MAX_TEXT}
use Rattle.alg_terms.specs.Valid.{IsValid}
use Rattle.alg_typing.specs.Reading.{file_way, no_statements}
use Rattle.alg_typing.proofs.ReadingSteps.{small_place, read_all, told_all}
use Rattle.alg_typing.proofs.reading.read_file.Goals as goal

-- the bytes are a text
pub read_text-requires-text-text : goal.read_text-requires-text-text
read_text-requires-text-text c = λ _. subst IsUtf8 (sym c.in-Ok.ensures.cases.0) c.in-Ok.ensures.cases.1

pub read_text-requires : goal.read_text-requires
read_text-requires c = subst (λ (t : List ℕ). length t ≤ MAX_TEXT) (sym c.in-Ok.ensures.cases.0) c.requires

pub returns-in-Ok-clause-ok : goal.returns-in-Ok-clause-ok
returns-in-Ok-clause-ok c =
    read_all file_way no_statements c.args.bytes.now c.in-Ok.text.now c.in-Ok.ensures.cases.0 c.in-Ok.ensures.cases.1
    IsValid c.read_text.result c.read_text.ensures.ok

pub returns-in-Ok-clause-refused : goal.returns-in-Ok-clause-refused
returns-in-Ok-clause-refused c =
    told_all file_way no_statements c.args.bytes.now c.in-Ok.text.now c.in-Ok.ensures.cases.0
    c.in-Ok.ensures.cases.1 c.read_text.result
    c.read_text.ensures.refused

-- they are none
pub overflow_cast-end : goal.overflow_cast-end
overflow_cast-end c =
    let short = subst (λ (n : ℕ). n < length c.args.bytes.now) (sym c.valid_up_to-end.ensures)
    c.in-Err.ensures.cases.1.short in
    small_place c.valid_up_to-end.result (length c.args.bytes.now) short c.requires

pub returns-in-Err-clause-refused : goal.returns-in-Err-clause-refused
returns-in-Err-clause-refused c =
    let longest = subst (IsValidUpTo c.args.bytes.now) (sym c.valid_up_to-end.ensures) c.in-Err.ensures.cases.1 in
    inr (c.in-Err.ensures.cases.0, (c.valid_up_to-end.result, longest, ap (λ f. Err f) c.at.ensures))
