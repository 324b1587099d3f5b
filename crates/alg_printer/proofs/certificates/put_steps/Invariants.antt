use Rattle.std.proofs.Common.{◌≡◌, ◌++◌, [], drop, flat_map, unwrap_or}
use Rattle.alg_printer.specs.Answers.{step_text}
use Rattle.alg_printer.proofs.certificates.put_steps.Given as goal

-- what is there, with what is left, makes what is wanted
abbrev pub invariant-loop-step : goal.invariant-loop-step
invariant-loop-step l =
    l.text ++ flat_map (step_text l.file (unwrap_or l.atoms [])) (drop l.step-index l.steps)
    ≡ l.fn.text ++ flat_map (step_text l.file (unwrap_or l.atoms [])) l.steps
