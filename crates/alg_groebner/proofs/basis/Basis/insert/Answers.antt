use Rattle.std.specs.Prelude.{map, All}
use Rattle.std.proofs.Common.{sym, ap, subst, ◌∙◌, ◌≡◌, List}
use Rattle.std.specs.BTreeSet.{insert_key}
use Rattle.std.proofs.lemmas.Map.Views.{All-insert_key}
use Rattle.alg_mono.specs.Mono.{Monomial}
use Rattle.alg_pairs.specs.Leads.{line_cmp}
use Rattle.alg_pairs.specs.declared.lead.Lead.{Lead}
use Rattle.alg_groebner.specs.Bases.{lead_of}
use Rattle.alg_groebner.specs.Work.{member_cmp}
use Rattle.alg_groebner.specs.Workable.{IsSomeMember}
use Rattle.alg_groebner.specs.declared.member.Member.{Member}
use Rattle.alg_groebner.proofs.Indexed.{leads-insert}
use Rattle.alg_groebner.proofs.basis.Basis.insert.Goals as goal

-- the index has the leads of the lines with the new one
pub invariant_of-self-2 : goal.invariant_of-self-2
invariant_of-self-2 c =
    let old = c.self.inside.members.items in
    let new : c.place.new.members.items ≡ insert_key member_cmp old c.args.member =
    c.place.ensures ∙ ap (λ (xs : List Member). insert_key member_cmp xs c.args.member) c.reserve.ensures.items in
    let is = c.in_ok-lead.ensures ∙ c.lead_of.ensures.value in
    record {
      same = c.in_ok-insert.ensures.added
          ∙ ap (λ (xs : List Lead). insert_key line_cmp xs
          (record { line = c.args.member.number; lead = c.in_ok-lead.lead }))
          c.self.invariant.same
          ∙ ap (λ (m : Monomial). insert_key line_cmp (map lead_of old)
          (record { line = c.args.member.number; lead = m })) is
          ∙ leads-insert old c.args.member ∙ ap (map lead_of) (sym new);
      some = subst (All IsSomeMember) (sym new)
          (All-insert_key member_cmp c.args.member IsSomeMember old c.self.invariant.some c.requires);
    }
