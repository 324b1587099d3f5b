use Rattle.std.proofs.Common.{◌≡◌, ◌++◌, [], drop, flat_map, unwrap_or}
use Rattle.alg_printer.specs.Answers.{line_text}
use Rattle.alg_printer.proofs.certificates.put_lines.Given as goal

-- what is there, with what is left, makes what is wanted
abbrev pub invariant-loop-line : goal.invariant-loop-line
invariant-loop-line l =
    l.text ++ flat_map (line_text l.file (unwrap_or l.atoms [])) (drop l.line-index l.lines)
    ≡ l.fn.text ++ flat_map (line_text l.file (unwrap_or l.atoms [])) l.lines
