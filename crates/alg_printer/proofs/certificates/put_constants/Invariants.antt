use Rattle.std.proofs.Common.{◌≡◌, ◌++◌, drop, codes}
use Rattle.std.specs.Fmt.{signed_decimal}
use Rattle.alg_printer.specs.Answers.{constants_text}
use Rattle.alg_printer.specs.Names.{listed}
use Rattle.alg_printer.proofs.certificates.put_constants.Given as goal

-- what is there, with what is left, makes what is wanted
abbrev pub invariant-loop-constant : goal.invariant-loop-constant
invariant-loop-constant l =
    l.text
    ++ listed l.front (codes ", ") (λ c. signed_decimal c ++ codes " <> 0") (drop l.constant-index l.constants)
    ≡ l.fn.text ++ constants_text l.constants
