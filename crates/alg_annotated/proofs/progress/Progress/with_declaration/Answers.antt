use Rattle.std.proofs.Common.{◌≡◌, ◌++◌, List, Option, Some, ◌∙◌, ap, refl, sym, subst}
use Rattle.alg_lines.specs.declared.answer.Answer.{Answer}
use Rattle.alg_tokens.specs.declared.token.Refusal.{Refusal}
use Rattle.alg_reader.specs.declared.reading.FileEnd.{FileEnd}
use Rattle.alg_reader.specs.declared.reading.FileEnd.TheVariants.{Refused, NoMemory}
use Rattle.alg_typing.specs.Ends.{RefusesWith}
use Rattle.alg_typing.proofs.FirstFaults.{error_tells_nothing, memory_tells_nothing}
use Rattle.alg_typing.proofs.ReadingSteps.{passed_on}
use Rattle.alg_annotated.specs.declared.open_answer.Open.{Open}
use Rattle.alg_annotated.specs.Progress.{answers_open, place_of, so_far, HasTable}
use Rattle.alg_annotated.specs.Places.{place_behind}
use Rattle.alg_annotated.specs.Resolved.{answers_with}
use Rattle.alg_annotated.proofs.Progressing.{declared_answers, declared_place, declared_table}
use Rattle.alg_annotated.proofs.Statements.{first_is_same}
use Rattle.alg_annotated.proofs.progress.Progress.with_declaration.Goals as goal

-- what is told of one fault is told of the same
told_same : (a b : Option Refusal) (e : FileEnd) → a ≡ b → RefusesWith e (λ fault. b ≡ Some fault) →
    RefusesWith e (λ fault. a ≡ Some fault)
told_same a b NoMemory is told = tt
told_same a b (Refused fault) is told = is ∙ told

-- what is open goes to the answers, and the statement to the file
pub returns-clause-ok : goal.returns-clause-ok
returns-clause-ok c =
    let file = c.args.self.declared in
    let text = c.args.text.now in
    let raw = c.args.raw in
    let given : List (Option Answer) = (so_far c.args.self).answers in
    let other = c.requires.declared in
    let answers : c.in_ok-answers.answers.items ++ answers_open c.opened-last.result
    ≡ answers_with file text raw.kind given =
    ap (λ (xs : List (Option Answer)). xs ++ answers_open c.opened-last.result) c.in_ok-answers.ensures
    ∙ ap (λ (o : Open). given ++ answers_open o) c.opened-last.ensures ∙ declared_answers file text given raw.kind other in
    let place : place_of c.opened-last.result ≡ place_behind (place_of c.args.self.last) raw.kind =
    ap place_of c.opened-last.ensures ∙ declared_place (place_of c.args.self.last) raw.kind other in (
      first_is_same file text raw other ∙ c.in_ok-add.ensures.ok.0,
      λ i. record { file = c.in_ok-add.ensures.ok.1 i; answers = answers i; place = place i },
    )

pub returns-clause-table : goal.returns-clause-table
returns-clause-table c =
    subst (λ (o : Open). HasTable c.add.new.self o) (sym c.opened-last.ensures)
    (declared_table c.add.new.self c.args.raw.kind)

pub same-declared : goal.same-declared
same-declared c = refl

pub same-declared-2 : goal.same-declared-2
same-declared-2 c = refl

pub add-requires : goal.add-requires
add-requires c = record { size = c.requires.size; well_read = c.requires.well_read; room = c.requires.room }

-- there is no memory
pub returns-in_err-answers : goal.returns-in_err-answers
returns-in_err-answers c = record {
  ok = error_tells_nothing _ _ c.from_residual.result c.from_residual.ensures.1;
  table = error_tells_nothing _ _ c.from_residual.result c.from_residual.ensures.1;
  refused = memory_tells_nothing _ c.from_residual.result c.from_residual.ensures.1;
}

-- the statement has a fault, or there is no memory
pub returns-in_err-add : goal.returns-in_err-add
returns-in_err-add c =
    let r = c.from_residual-in_err-add.result in
    let is = c.from_residual-in_err-add.ensures.1 in
    record {
      ok = error_tells_nothing _ _ r is;
      table = error_tells_nothing _ _ r is;
      refused = passed_on _ r _ is
          (told_same _ _ _ (first_is_same c.args.self.declared c.args.text.now c.args.raw c.requires.declared)
          c.in_err-add.ensures.refused);
    }
