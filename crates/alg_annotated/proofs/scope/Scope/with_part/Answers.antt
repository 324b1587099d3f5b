use Rattle.std.proofs.Common.{◌≡◌, ◌∙◌, Some, sym, ap, subst}
use Rattle.std.specs.Prelude.{unwrap_or, []}
use Rattle.alg_lines.specs.declared.answer.Answer.{Answer}
use Rattle.alg_lines.specs.declared.cert.GoalStep.{GoalStep}
use Rattle.alg_lines.specs.declared.cert.Line.{Line}
use Rattle.alg_reader.specs.declared.raw.RawKind.{RawKind}
use Rattle.alg_reader.specs.WellRead.{IsWellKind}
use Rattle.alg_annotated.specs.Resolved.{line_of, step_of, with_line, with_step, with_part}
use Rattle.alg_annotated.proofs.Ends.{ok_maps}
use Rattle.alg_annotated.proofs.LinesClear.{line_clear, step_clear}
use Rattle.alg_annotated.proofs.scope.Scope.with_part.Goals as goal

-- ---- a line

pub monomial_of-requires : goal.monomial_of-requires
monomial_of-requires c =
    let text = c.args.self.now.text.now in
    let l = c.in-Line in
    record {
      well_read = (subst (IsWellKind text) l.is c.requires.well_read).1;
      faultless = (line_clear c.args.self.now.declared.now text _ c.requires.atoms c.args.kind.now c.requires.faultless
          l.a l.m l.i l.b l.n l.j l.d l.is).0;
    }

pub monomial_of-requires-in-Line : goal.monomial_of-requires-in-Line
monomial_of-requires-in-Line c =
    let text = c.args.self.now.text.now in
    let l = c.in-Line in
    record {
      well_read = (subst (IsWellKind text) l.is c.requires.well_read).4;
      faultless = (line_clear c.args.self.now.declared.now text _ c.requires.atoms c.args.kind.now c.requires.faultless
          l.a l.m l.i l.b l.n l.j l.d l.is).2;
    }

pub count_of-i-requires : goal.count_of-i-requires
count_of-i-requires c =
    let l = c.in-Line in
    (line_clear c.args.self.now.declared.now c.args.self.now.text.now _ c.requires.atoms c.args.kind.now
    c.requires.faultless l.a l.m l.i l.b l.n l.j l.d l.is).1

pub count_of-j-requires : goal.count_of-j-requires
count_of-j-requires c =
    let l = c.in-Line in
    (line_clear c.args.self.now.declared.now c.args.self.now.text.now _ c.requires.atoms c.args.kind.now
    c.requires.faultless l.a l.m l.i l.b l.n l.j l.d l.is).3

pub returns-in_ok-n-in-Line : goal.returns-in_ok-n-in-Line
returns-in_ok-n-in-Line c =
    let file = c.args.self.now.declared.now in
    let text = c.args.self.now.text.now in
    let atoms = unwrap_or c.args.atoms.now [] in
    let old = c.args.answer in
    let l = c.in-Line in
    let new : Line = c.made_line-line.result in
    let is : new ≡ line_of file text atoms l.a l.m l.i l.b l.n l.j l.d = c.made_line-line.ensures ∙ (λ x. record {
      a = l.a.value;
      m = c.in_ok-m-in-Line.ensures x;
      i = c.count_of-i.ensures x;
      b = l.b.value;
      n = c.in_ok-n-in-Line.ensures x;
      j = c.count_of-j.ensures x;
      d = l.d.value;
    }) in
    ok_maps (λ (a : Answer). Some a ≡ with_line new (Some old))
    (λ (a : Answer). Some a ≡ with_part file text atoms c.args.kind.now (Some old))
    (λ a goes. goes ∙ ap (λ (x : Line). with_line x (Some old)) is
    ∙ ap (λ (k : RawKind). with_part file text atoms k (Some old)) (sym l.is))
    c.with_line.result c.with_line.ensures

-- ---- a step

pub monomial_of-requires-in-Step : goal.monomial_of-requires-in-Step
monomial_of-requires-in-Step c =
    let text = c.args.self.now.text.now in
    let s = c.in-Step in
    record {
      well_read = (subst (IsWellKind text) s.is c.requires.well_read).2;
      faultless = (step_clear c.args.self.now.declared.now text _ c.requires.atoms c.args.kind.now c.requires.faultless
          s.a s.b s.n s.j s.d s.is).0;
    }

pub count_of-j-requires-in-Step : goal.count_of-j-requires-in-Step
count_of-j-requires-in-Step c =
    let s = c.in-Step in
    (step_clear c.args.self.now.declared.now c.args.self.now.text.now _ c.requires.atoms c.args.kind.now
    c.requires.faultless s.a s.b s.n s.j s.d s.is).1

pub returns-in_ok-n-in-Step : goal.returns-in_ok-n-in-Step
returns-in_ok-n-in-Step c =
    let file = c.args.self.now.declared.now in
    let text = c.args.self.now.text.now in
    let atoms = unwrap_or c.args.atoms.now [] in
    let old = c.args.answer in
    let s = c.in-Step in
    let new : GoalStep = c.made_step-step.result in
    let is : new ≡ step_of file text atoms s.a s.b s.n s.j s.d = c.made_step-step.ensures ∙ (λ x. record {
      a = s.a.value;
      b = s.b.value;
      n = c.in_ok-n-in-Step.ensures x;
      j = c.count_of-j-in-Step.ensures x;
      d = s.d.value;
    }) in
    ok_maps (λ (a : Answer). Some a ≡ with_step new (Some old))
    (λ (a : Answer). Some a ≡ with_part file text atoms c.args.kind.now (Some old))
    (λ a goes. goes ∙ ap (λ (x : GoalStep). with_step x (Some old)) is
    ∙ ap (λ (k : RawKind). with_part file text atoms k (Some old)) (sym s.is))
    c.with_step.result c.with_step.ensures
