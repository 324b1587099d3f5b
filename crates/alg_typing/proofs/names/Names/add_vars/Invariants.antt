use Rattle.std.proofs.Common.{◌≡◌, ◌+◌, ◌≤◌, ◌++◌, length, take, drop}
use Rattle.alg_typing.specs.Table.{var_entries, AreNew}
use Rattle.alg_typing.proofs.names.Names.add_vars.Given as goal

-- the names that are left are new; with their entries the table is the one that is wanted
abbrev pub invariant-loop-name : goal.invariant-loop-name
invariant-loop-name l = record {
  number : l.number ≡ l.first + l.name-index;
  fresh : AreNew l.self l.text l.number (drop l.name-index l.names);
  whole : l.self ++ var_entries l.text l.number (drop l.name-index l.names)
      ≡ l.fn.self ++ var_entries l.text l.first l.names;
  known : l.known ≡ length l.fn.self;
  front : take l.known l.self ≡ l.fn.self;
  within : l.known ≤ length l.self;
}
