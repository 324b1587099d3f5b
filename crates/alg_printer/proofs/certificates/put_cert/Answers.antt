use Rattle.std.proofs.Common.{◌++◌, [], ap, flat_map, sym, unwrap_or, ◌∙◌}
use Rattle.alg_printer.specs.Answers.{cert_text, line_text, power_text, step_text}
use Rattle.alg_printer.proofs.Pieces.{more, grew}
use Rattle.alg_printer.proofs.certificates.put_cert.Goals as goal

-- the text grew by the power, the lines and the steps
pub returns : goal.returns
returns c =
    let file = c.args.file.now in
    let atoms = unwrap_or c.args.atoms.now [] in
    let cert = c.args.cert.now in
    let old = c.args.text.now in
    let power = power_text cert.power c.args.constants.now in
    let lines = flat_map (line_text file atoms) cert.lines in
    let after = c.put_power.new.text in
    grew c.put_steps.result old c.put_lines.new.text c.put_steps.new.text (power ++ lines)
    (flat_map (step_text file atoms) c.items-2.result.now) (cert_text file atoms c.args.constants.now cert)
    (ap (λ steps. power ++ lines ++ flat_map (step_text file atoms) steps) (sym c.items-2.ensures))
    (more old after c.put_lines.new.text power lines c.in_ok-put_power.ensures
    (c.in_ok-put_lines.ensures ∙ ap (λ ls. after ++ flat_map (line_text file atoms) ls) c.items.ensures))
    c.put_steps.ensures
