use Rattle.std.proofs.Common.{◌++◌, [], codes, refl, rules, unwrap_or, SFits, to_z-of_z}
use mir.Syntax.{w128}
use Rattle.std.specs.Fmt.{signed_decimal}
use Rattle.alg_printer.specs.Answers.{divisor_text, multiple_text, step_text}
use Rattle.alg_printer.proofs.Pieces.{more, grew}
use Rattle.alg_printer.proofs.certificates.put_step.Goals as goal

-- the text grew by each piece of the step
pub returns : goal.returns
returns c =
    let file = c.args.file.now in
    let atoms = unwrap_or c.args.atoms.now [] in
    let step = c.args.step.now in
    let old = c.args.text.now in
    let first = signed_decimal step.a in
    let second = multiple_text file atoms step.b step.n step.j in
    let front = codes "  step " in
    let middle = codes " minus " in
    let a : SFits w128 step.a = search rules in
    let b : SFits w128 step.b = search rules in
    let d : SFits w128 step.d = search rules in
    grew c.put_divisor.result old c.put_multiple.new.text c.put_divisor.new.text
    (front ++ first ++ middle ++ second) (divisor_text step.d) (step_text file atoms step) refl
    (more old c.put-2.new.self c.put_multiple.new.text (front ++ first ++ middle) second
    (more old c.integer.new.self c.put-2.new.self (front ++ first) middle
    (more old c.put.new.self c.integer.new.self front first c.in_ok-put.ensures
    (simp to_z-of_z at c.in_ok-integer.ensures))
    c.in_ok-put-2.ensures) (simp to_z-of_z at c.in_ok-put_multiple.ensures))
    (simp to_z-of_z at c.put_divisor.ensures)
