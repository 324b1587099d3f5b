use Rattle.std.proofs.Common.{◌≡◌, ◌++◌, drop}
use Rattle.alg_printer.specs.Names.{closing}
use Rattle.alg_printer.proofs.names.put_closing.Given as goal

-- what is there, with what is left, makes what is wanted
abbrev pub invariant-loop : goal.invariant-loop
invariant-loop l = l.text ++ closing (drop l.index l.path) ≡ l.fn.text ++ closing l.path
