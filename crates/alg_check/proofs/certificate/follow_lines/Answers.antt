use Rattle.std.proofs.Common.{◌≡◌, ◌∷◌, ◌++◌, [], take, sym, subst, ◌∙◌, List, ℕ, ◌+◌}
use Rattle.std.proofs.lemmas.List.{take_more, append_assoc}
use Rattle.alg_mono.specs.NumberedPolynomials.{Polynomial}
use Rattle.alg_lines.specs.declared.cert.Line.{Line}
use Rattle.alg_lines.specs.Accepting.{AreLines}
use Rattle.alg_lines.proofs.Following.{lines_more}
use Rattle.alg_check.specs.Checking.{IsNextLine, BreaksAtLine}
use Rattle.alg_check.proofs.Following.{breaks_at_line}
use Rattle.alg_check.proofs.certificate.follow_lines.Goals as goal

pub returns-in-None : goal.returns-in-None
returns-in-None c =
    let made : c.deref.result.now ≡ c.loop-next.made.items = c.deref.ensures.value in
    let lines = c.args.hyps.now ++ c.loop-next.made.items in
    let at = subst (λ (xs : List Polynomial). IsNextLine (c.args.hyps.now ++ xs) c.next-item.result
    c.in_ok-new.field-0) made c.in_ok-new.ensures in
    let bad = subst (IsNextLine lines c.next-item.result) c.in-None.is at in
    subst (λ (n : ℕ). BreaksAtLine c.args.hyps.now c.args.lines.now (n + 1)) (sym c.loop-next.invariant.number)
    (breaks_at_line c.args.hyps.now c.args.lines.now lines c.loop-next.next-index c.next-item.result
    c.loop-next-test.true c.next-item.is c.loop-next.invariant.good bad)

pub loop-next-preserved : goal.loop-next-preserved
loop-next-preserved c =
    let made : c.deref.result.now ≡ c.loop-next.made.items = c.deref.ensures.value in
    let hyps = c.args.hyps.now in
    let next = c.next-item.result in
    let i = c.loop-next.next-index in
    let old = c.loop-next.made.items in
    let at = subst (λ (xs : List Polynomial). IsNextLine (hyps ++ xs) next c.in_ok-new.field-0) made
    c.in_ok-new.ensures in
    let good = subst (IsNextLine (hyps ++ old) next) c.in-Some.is at in
    let more = lines_more hyps (take i c.args.lines.now) (hyps ++ old) next c.in-Some.new c.loop-next.invariant.good
    good in
    let front : take (i + 1) c.args.lines.now ≡ take i c.args.lines.now ++ next ∷ [] =
    take_more c.args.lines.now i next c.loop-next-test.true
    ∙ (λ j. take i c.args.lines.now ++ sym c.next-item.is j ∷ []) in
    record {
      number = λ j. c.loop-next.invariant.number j + 1;
      good =
          subst (λ (xs : List Polynomial). AreLines hyps (take (i + 1) c.args.lines.now) (hyps ++ xs))
          (sym c.in_ok-push-in-Some.ensures.items)
          (subst (AreLines hyps (take (i + 1) c.args.lines.now)) (append_assoc hyps old (c.in-Some.new ∷ []))
          (subst (λ (ls : List Line). AreLines hyps ls ((hyps ++ old) ++ c.in-Some.new ∷ [])) (sym front) more));
    }
