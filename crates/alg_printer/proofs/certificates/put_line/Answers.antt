use Rattle.std.proofs.Common.{◌++◌, [], codes, refl, rules, unwrap_or, SFits, to_z-of_z}
use mir.Syntax.{w128}
use Rattle.alg_printer.specs.Answers.{divisor_text, line_text, multiple_text}
use Rattle.alg_printer.proofs.Pieces.{more, grew}
use Rattle.alg_printer.proofs.certificates.put_line.Goals as goal

-- the text grew by each piece of the line
pub returns : goal.returns
returns c =
    let file = c.args.file.now in
    let atoms = unwrap_or c.args.atoms.now [] in
    let line = c.args.line.now in
    let old = c.args.text.now in
    let first = multiple_text file atoms line.a line.m line.i in
    let second = multiple_text file atoms line.b line.n line.j in
    let front = codes "  line " in
    let middle = codes " minus " in
    let a : SFits w128 line.a = search rules in
    let b : SFits w128 line.b = search rules in
    let d : SFits w128 line.d = search rules in
    grew c.put_divisor.result old c.put_multiple-2.new.text c.put_divisor.new.text
    (front ++ first ++ middle ++ second) (divisor_text line.d) (line_text file atoms line) refl
    (more old c.put-2.new.self c.put_multiple-2.new.text (front ++ first ++ middle) second
    (more old c.put_multiple.new.text c.put-2.new.self (front ++ first) middle
    (more old c.put.new.self c.put_multiple.new.text front first c.in_ok-put.ensures
    (simp to_z-of_z at c.in_ok-put_multiple.ensures))
    c.in_ok-put-2.ensures) (simp to_z-of_z at c.in_ok-put_multiple-2.ensures))
    (simp to_z-of_z at c.put_divisor.ensures)
