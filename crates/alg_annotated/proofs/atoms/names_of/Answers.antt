use Rattle.std.proofs.Common.{◌≡◌, ℕ, List, [], ◌++◌, ◌-◌, ◌∙◌, ap, sym, take}
use Rattle.alg_reader.specs.RawMonos.{names_in_factor}
use Rattle.alg_annotated.proofs.Factors.{has_name}
use Rattle.alg_annotated.proofs.atoms.names_of.Goals as goal

-- a list of which nothing could be taken is empty
nothing_popped : {X : Type 0} (old rest : List X) (count : ℕ) → old ≡ rest ++ [] → rest ≡ take (count - 1) old →
    count ≡ 0 → old ≡ []
nothing_popped old rest count is left none =
    is ∙ ap (λ xs. xs ++ []) (left ∙ ap (λ n. take (n - 1) old) none)

pub returns : goal.returns
returns c =
    let factor = c.args.factor.now in
    let gathered = c.in_ok-add_names.ensures ∙ ap (λ ns. ns ++ names_in_factor factor) c.new-homs.ensures.items in
    sym gathered ∙ c.in-Some.ensures.items

-- a factor has a name
pub unreachable-requires : goal.unreachable-requires
unreachable-requires c =
    let factor = c.args.factor.now in
    let gathered = c.in_ok-add_names.ensures ∙ ap (λ ns. ns ++ names_in_factor factor) c.new-homs.ensures.items in
    has_name factor
    (sym gathered ∙ nothing_popped _ _ _ c.in-None.ensures.items c.in-None.ensures.rest c.in-None.ensures.cases.0)
