use Rattle.std.proofs.Common.{◌≡◌, ◌++◌, drop}
use Rattle.alg_printer.specs.Names.{opening}
use Rattle.alg_printer.proofs.names.put_opening.Given as goal

-- what is there, with what is left, makes what is wanted
abbrev pub invariant-loop-morphism : goal.invariant-loop-morphism
invariant-loop-morphism l =
    l.text ++ opening l.file (drop l.morphism-index l.path) ≡ l.fn.text ++ opening l.file l.path
