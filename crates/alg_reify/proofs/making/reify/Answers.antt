use Rattle.std.proofs.Common.{ℕ, List, All, Contains, sym, subst}
use Rattle.alg_reify.specs.Table.{leaves}
use Rattle.alg_reify.proofs.making.reify.Goals as goal

-- the copy of the path is the path
pub make-requires : goal.make-requires
make-requires g c =
    let P : List ℕ → Type 0 = λ path. All (Contains c.args.table.now) (leaves path c.args.term.now) in
    record {
      literals = c.requires.term.literals;
      plain = c.requires.plain;
      held = subst P (sym c.in_ok-path.ensures.items) c.requires.held;
    }
