use Rattle.std.proofs.Common.{◌≡◌, ◌≤◌, length, flat_map, drop}
use Rattle.indexmap.specs.IndexSet.{insert_all}
use Rattle.alg_reify.specs.Table.{use_leaves, atom_eq, MAX_ATOMS}
use Rattle.alg_reify.proofs.atoms.add_uses.Given as goal

-- what is there, with what is left, makes what is wanted
abbrev pub invariant-loop-used : goal.invariant-loop-used
invariant-loop-used l = record {
  left : insert_all atom_eq l.set.keys (flat_map (use_leaves l.file) (drop l.used-index l.uses))
      ≡ insert_all atom_eq l.fn.set.keys (flat_map (use_leaves l.file) l.uses);
  small : length l.set.keys ≤ MAX_ATOMS;
}
