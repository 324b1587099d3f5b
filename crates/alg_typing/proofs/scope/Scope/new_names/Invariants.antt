use Rattle.std.proofs.Common.{◌≡◌, ℕ, List, [], drop, string_bytes}
use Rattle.std.specs.Prelude.{bytes_eq}
use Rattle.std.specs.List.{list_any}
use Rattle.alg_typing.specs.Faults.{first_of, earlier_of}
use Rattle.alg_typing.specs.NameFaults.{new_names}
use Rattle.alg_typing.proofs.scope.Scope.new_names.Given as goal

-- the set has the names so far, and the first fault so far with that of the rest is the first of all
abbrev pub invariant-loop-name : goal.invariant-loop-name
invariant-loop-name l =
    (before : List (List ℕ))
    × ((name : List ℕ) →
    list_any (λ key. bytes_eq name (string_bytes key)) l.before.keys ≡ list_any (bytes_eq name) before)
    × (earlier_of l.first (first_of (new_names l.self.declared.now l.self.text.now before (drop l.name-index l.names)))
    ≡ first_of (new_names l.self.declared.now l.self.text.now [] l.names))
