use Rattle.std.proofs.Common.{◌≡◌, ◌∷◌, ◌++◌, flat_map, take}
use Rattle.alg_reader.specs.declared.raw.RawFactor.{out-RawFactor}
use Rattle.alg_reader.specs.RawMonos.{names_in_factor}
use Rattle.alg_annotated.proofs.atoms.+add_names.Given as goal

-- the names of the factor and of those in its parentheses so far
abbrev pub invariant-loop-inner : goal.invariant-loop-inner
invariant-loop-inner l =
    l.names.items
    ≡ l.fn.names.items ++ (out-RawFactor l.factor).name ∷ flat_map names_in_factor (take l.inner-index l.inner-items)
