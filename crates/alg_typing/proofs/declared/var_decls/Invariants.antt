use Rattle.std.proofs.Common.{◌≡◌, map, take}
use Rattle.alg_reader.specs.WellRead.{bytes_at}
use Rattle.alg_typing.proofs.declared.var_decls.Given as goal

abbrev pub invariant-loop-name : goal.invariant-loop-name
invariant-loop-name l =
    l.vars.items ≡ map (λ name. record { name = bytes_at l.text name; sort = l.sort }) (take l.name-index l.names)
