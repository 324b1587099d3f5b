use Rattle.std.proofs.Common.{refl, ◌<◌, sym, ap, ◌∙◌, length, drop, arith}
use Rattle.std.proofs.lemmas.Str.{IsCharBoundary-start, IsCharBoundary-after_ascii}
use Rattle.std.proofs.lemmas.Grind.{common_steps}
use Rattle.alg_tokens.proofs.Blanks.{skip_turn, skip_inside_turn, skip, skip_blanks, skip_end, over_at}
use Rattle.alg_tokens.proofs.scan.blank_end.Goals as goal

pub bytes-init : goal.bytes-init
bytes-init c = (refl, λ _. IsCharBoundary-start c.args.text.now c.utf8.text)

pub bytes-preserved : goal.bytes-preserved
bytes-preserved c =
    let within : c.bytes.at < length c.args.text.now = omega (arith, c.as_bytes-byte-items.ensures.len) in
    let turn = skip_turn c.args.text.now c.bytes.at within in
    let inside = skip_inside_turn c.args.text.now c.bytes.at within in (
      grind (arith, common_steps),
      λ none. IsCharBoundary-after_ascii c.args.text.now c.bytes.at c.utf8.text within
          (grind (arith, common_steps)),
    )

-- a byte that is no blank
pub returns-then-not-is_blank-clause-blanks : goal.returns-then-not-is_blank-clause-blanks
returns-then-not-is_blank-clause-blanks c =
    let within : c.bytes.at < length c.args.text.now = omega (arith, c.as_bytes-byte-items.ensures.len) in
    let over = over_at c.args.text.now c.bytes.at within (grind (arith, common_steps)) (grind (arith, common_steps)) in
    skip_blanks c.args.text.now (drop c.bytes.at c.args.text.now)
    (sym over.0 ∙ ap (λ inside. skip inside (drop c.bytes.at c.args.text.now)) (sym c.if-inside.false)
    ∙ c.bytes.invariant.0)

-- the end of the text
pub returns-clause-blanks : goal.returns-clause-blanks
returns-clause-blanks c = skip_blanks c.args.text.now (drop (length c.args.text.now) c.args.text.now)
    (sym (skip_end c.bytes.inside c.args.text.now c.bytes.at (omega arith)) ∙ c.bytes.invariant.0)
