use Rattle.std.specs.Prelude.{None, slice_get, slice_set, option_map, Some}
use Rattle.std.proofs.Common.{rules, sym, ap, subst, ◌∙◌, ◌≡◌, List, [], ◌∷◌, ◌++◌}
use Rattle.std.proofs.lemmas.List.Elements.{All-set}
use Rattle.alg_pairs.specs.Buckets.{line_if, BelongsTo, IsFiled, least_of, least_in, AreSame}
use Rattle.alg_pairs.specs.declared.bucket.Bucket.{Bucket}
use Rattle.alg_pairs.specs.declared.lead.Lead.{Lead}
use Rattle.alg_pairs.proofs.Lesser.{least_of-append, lesser_none}
use Rattle.alg_pairs.proofs.Filed.{changed, appended, place_there, atom_there, filed_at, filed_more}
use Rattle.alg_pairs.proofs.bucket.file.Goals as goal

-- no memory for a lead more
pub returns-in_err-push-clause-kept : goal.returns-in_err-push-clause-kept
returns-in_err-push-clause-kept c =
    let bs = c.args.buckets.now.items in
    let b = c.index_mut.result.now in
    let is = subst (λ (xs : List Bucket). option_map (λ (b : Bucket). b.atom) (slice_get xs c.in-Some.at)
    ≡ Some c.least_atom_of-atom.result) c.deref.ensures.value c.in-Some.ensures in
    let there = place_there bs c.in-Some.at c.least_atom_of-atom.result is in
    let new : Bucket = record { atom = b.atom; leads = c.push.new.self } in
    let same : AreSame bs (slice_set bs c.in-Some.at new) = λ m. changed m None bs c.in-Some.at b new
    there c.index_mut.ensures.value (ap (least_of m) c.in_err-push.ensures.items) in
    search (rules, same)

-- the bucket is there
pub returns-in-Some-clause-added : goal.returns-in-Some-clause-added
returns-in-Some-clause-added c = λ m.
    let bs = c.args.buckets.now.items in
    let b = c.index_mut.result.now in
    let is = subst (λ (xs : List Bucket). option_map (λ (b : Bucket). b.atom) (slice_get xs c.in-Some.at)
    ≡ Some c.least_atom_of-atom.result) c.deref.ensures.value c.in-Some.ensures in
    let there = place_there bs c.in-Some.at c.least_atom_of-atom.result is in
    changed m (line_if m c.args.lead) bs c.in-Some.at b (record { atom = b.atom; leads = c.push.new.self }) there
    c.index_mut.ensures.value
    (ap (least_of m) c.in_ok-push.ensures.items ∙ least_of-append m b.leads.items c.args.lead)

pub returns-in-Some-clause-filed : goal.returns-in-Some-clause-filed
returns-in-Some-clause-filed c =
    let bs = c.args.buckets.now.items in
    let b = c.index_mut.result.now in
    let is = subst (λ (xs : List Bucket). option_map (λ (b : Bucket). b.atom) (slice_get xs c.in-Some.at)
    ≡ Some c.least_atom_of-atom.result) c.deref.ensures.value c.in-Some.ensures in
    let there = place_there bs c.in-Some.at c.least_atom_of-atom.result is in
    let old = filed_at bs c.in-Some.at b c.requires there c.index_mut.ensures.value in
    let x : BelongsTo b.atom c.args.lead = record {
      atom_is = sym c.least_atom_of-atom.ensures.value
          ∙ atom_there bs c.in-Some.at c.least_atom_of-atom.result b is c.index_mut.ensures.value;
      sound = c.least_atom_of-atom.ensures.sound;
    } in
    All-set IsFiled bs c.in-Some.at (record { atom = b.atom; leads = c.push.new.self })
    (filed_more b.atom b.leads.items c.push.new.self.items c.args.lead old x c.in_ok-push.ensures.items) c.requires

-- a new bucket
pub returns-clause-added : goal.returns-clause-added
returns-clause-added c = λ m.
    let bs = c.args.buckets.now.items in
    let b : Bucket = record { atom = c.least_atom_of-atom.result; leads = c.push-2.new.self } in
    let one = c.in_ok-push-2.ensures.items
    ∙ ap (λ (xs : List Lead). xs ++ c.args.lead ∷ []) c.new-leads.ensures.items in
    ap (least_in m) c.in_ok-push-3.ensures.items ∙ appended m (line_if m c.args.lead) bs b
    (ap (least_of m) one ∙ lesser_none (line_if m c.args.lead))
