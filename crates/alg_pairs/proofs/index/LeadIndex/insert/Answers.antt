use Rattle.std.proofs.Common.{sym, ap, subst, ◌∙◌, ◌≡◌, true, false, List, arith}
use Rattle.std.specs.BTreeSet.{insert_key}
use Rattle.alg_mono.specs.Mono.{Monomial}
use Rattle.alg_pairs.specs.Buckets.{lesser, line_if, least_in, least_of, is_there}
use Rattle.alg_pairs.specs.Leads.{line_cmp, RisesFrom}
use Rattle.alg_pairs.specs.declared.lead.Lead.{Lead}
use Rattle.alg_pairs.proofs.Lesser.{least_of-insert, rises-insert, unchanged}
use Rattle.alg_pairs.proofs.index.LeadIndex.insert.Goals as goal

pub invariant_of-self-2 : goal.invariant_of-self-2
invariant_of-self-2 c =
    let old = c.self.inside.leads.items in
    let x : Lead = record { line = c.args.line; lead = c.args.lead } in
    let new : c.place.new.leads.items ≡ insert_key line_cmp old x =
    c.place.ensures ∙ ap (λ (xs : List Lead). insert_key line_cmp xs x) c.reserve.ensures.items in
    let fresh : is_there c.args.line old ≡ false =
    ap (is_there c.args.line) (sym c.deref.ensures.value) ∙ sym c.has_line.ensures ∙ c.if-has_line.false in
    record {
      rises = subst (RisesFrom 0) (sym new) (rises-insert 0 old x (omega arith) c.self.invariant.rises);
      filed = c.in_ok-file.ensures.filed;
      same = λ m.
          c.in_ok-file.ensures.added m
          ∙ ap (λ (n : Monomial). lesser (line_if m (record { line = c.args.line; lead = n }))
          (least_in m c.self.inside.buckets.items)) c.in_ok-copy.ensures
          ∙ ap (lesser (line_if m x)) (c.self.invariant.same m)
          ∙ sym (ap (least_of m) new ∙ least_of-insert m old x fresh);
    }

pub returns-then-has_line-clause-added : goal.returns-then-has_line-clause-added
returns-then-has_line-clause-added c =
    let old = c.self.inside.leads.items in
    let x : Lead = record { line = c.args.line; lead = c.args.lead } in
    let there : is_there c.args.line old ≡ true =
    ap (is_there c.args.line) (sym c.deref.ensures.value) ∙ sym c.has_line.ensures ∙ c.if-has_line.true in
    let same = unchanged 0 old x c.self.invariant.rises there in
    subst (λ (xs : List Lead). xs ≡ insert_key line_cmp xs x) c.self.view_is same
