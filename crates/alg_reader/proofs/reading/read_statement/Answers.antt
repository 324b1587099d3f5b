use Rattle.std.proofs.Common.{◌≡◌, refl, sym, subst, ap, ◌∙◌, ◌++◌, ◌∷◌, [], ◌<◌, List, arith, length}
use Rattle.std.proofs.lemmas.Bool.Decides.{nat_tests}
use Rattle.alg_tokens.specs.declared.code.Code.TheVariants as code
use Rattle.alg_tokens.specs.declared.token.Token.{Token}
use Rattle.alg_tokens.specs.Codes.{code_number}
use Rattle.alg_reader.specs.Forms.{Statement, rule}
use Rattle.alg_reader.specs.Meaning.{kind_value}
use Rattle.alg_reader.specs.Reading.{Takes, IsStuckAt, Fails}
use Rattle.alg_reader.specs.declared.cursor.Fault.TheVariants.{Unexpected}
use Rattle.alg_tokens.specs.declared.token.TokenKind.TheVariants as kinds
use Rattle.alg_reader.proofs.Chains.{empty_below_one}
use Rattle.alg_reader.proofs.Outcomes.{no_memory, passed_no_memory, read_end, read_ok}
use Rattle.alg_reader.proofs.Refusals.{read_refused}
use Rattle.alg_reader.proofs.WellRead.{well_read, may_stand}
use Rattle.alg_reader.proofs.reading.read_statement.Goals as goal
use Rattle.alg_reader.proofs.reading.read_statement.Goals.{else-is_empty-via-then-is_empty+else-fault-number, else-is_empty-via-else-is_empty}

-- the tokens are a statement
pub returns-in-Ok-clause-read : goal.returns-in-Ok-clause-read
returns-in-Ok-clause-read c =
    let tokens = c.in_ok-cut.cut.tokens.items in
    let fault = c.in_ok-cut.cut.fault in
    let e : Token = record { kind = kinds.End; start = fault.at; stop = fault.at } in
    let whole : c.new-cursor.result ≡ tokens ++ e ∷ [] = c.new-cursor.ensures
    ∙ ap (λ us. us ++ e ∷ []) c.deref-2.ensures.value in
    let (kind, keeps, p) = c.in-Ok.ensures in
    let P : List Token → Type 0 = λ us. Takes (rule (Statement c.args.place)) us c.statement.new.self
    (kind_value kind) in
    read_ok c.args.place c.args.text.now c.args.at c.ends_of-start.result.0
    c.ends_of-start.result.1 tokens c.statement.new.self
    fault e _ kind keeps refl c.in_ok-cut.ensures (subst P whole p)
    (λ u us e. c.ends_of-start.ensures.start u us (c.deref.ensures.value ∙ e))
    (λ us u e. c.ends_of-start.ensures.stop us u (c.deref.ensures.value ∙ e))

pub returns-in-Ok-clause-well_read : goal.returns-in-Ok-clause-well_read
returns-in-Ok-clause-well_read c = well_read c.args.place c.args.text.now c.args.at _ c.utf8.text c.requires.boundary
    (returns-in-Ok-clause-read c)

pub returns-in-Ok-clause-may_stand : goal.returns-in-Ok-clause-may_stand
returns-in-Ok-clause-may_stand c = may_stand c.args.place c.args.text.now c.args.at _ c.utf8.text c.requires.boundary
    (returns-in-Ok-clause-read c)

-- the grammar is stuck
pub returns-clause-read : goal.returns-clause-read
returns-clause-read c =
    let tokens = c.in_ok-cut.cut.tokens.items in
    let fault = c.in_ok-cut.cut.fault in
    let e : Token = record { kind = kinds.End; start = fault.at; stop = fault.at } in
    let whole : c.new-cursor.result ≡ tokens ++ e ∷ [] = c.new-cursor.ensures
    ∙ ap (λ us. us ++ e ∷ []) c.deref-2.ensures.value in
    let t = c.in-Err-Unexpected.token in
    let fails : Fails (rule (Statement c.args.place)) c.new-cursor.result (Unexpected t) = subst (Fails
    (rule (Statement c.args.place)) c.new-cursor.result) c.in-Err-Unexpected.field-0-is c.in-Err-Unexpected.ensures in
    let (rest, stops) = fails in
    let P : List Token → Type 0 = λ us. IsStuckAt (rule (Statement c.args.place)) us (t ∷ rest) in
    let some : tokens ≡ [] → fault.code ≡ code_number code.End → ⊥ = λ nothing five.
    let empty = ap length (c.deref.ensures.value ∙ nothing) in
    elim c.else-is_empty.branch [
      | else-is_empty-via-then-is_empty+else-fault-number w ↦ w.if-fault-number.false (five ∙ sym w.number.ensures)
      | else-is_empty-via-else-is_empty w ↦ let full = w.if-is_empty.false in
          grind (arith, nat_tests, c.is_empty.ensures, c.deref.ensures.len)
    ] in
    rw c.refusal.ensures (read_refused c.args.place c.args.text.now c.args.at
    tokens rest e t fault refl c.in_ok-cut.ensures
    some (subst P whole stops))

-- there is no memory for the tokens, or for what they say
pub returns-in_err-cut-clause-read : goal.returns-in_err-cut-clause-read
returns-in_err-cut-clause-read c = passed_no_memory
    c.args.place c.args.text.now c.args.at c.from_residual.result
    c.from_residual.ensures.1

pub returns-in-Err-NoMemory-clause-read : goal.returns-in-Err-NoMemory-clause-read
returns-in-Err-NoMemory-clause-read c = no_memory c.args.place c.args.text.now c.args.at

-- the text ends
pub returns-then-fault-number-clause-read : goal.returns-then-fault-number-clause-read
returns-then-fault-number-clause-read c =
    let tokens = c.in_ok-cut.cut.tokens.items in
    let few : length tokens < 1 = let empty = c.if-is_empty.ensures in grind (arith, nat_tests) in
    read_end c.args.place c.args.text.now c.args.at tokens c.in_ok-cut.cut.fault
    (empty_below_one tokens few) c.in_ok-cut.ensures
    (c.if-fault-number.true ∙ c.number.ensures)
