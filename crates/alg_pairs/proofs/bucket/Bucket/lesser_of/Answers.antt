use Rattle.std.proofs.Common.{sym, ap, ◌∙◌, ◌≡◌, true, false, arith}
use Rattle.alg_pairs.specs.Buckets.{lesser, Occurs}
use Rattle.alg_pairs.proofs.Lesser.{lesser_none}
use Rattle.alg_pairs.proofs.Filed.{skipped}
use Rattle.alg_pairs.proofs.bucket.Bucket.lesser_of.Goals as goal

different : true ≡ false → ⊥
different e = grind arith

-- no lead of the bucket divides
pub returns-then-not-occurs_in : goal.returns-then-not-occurs_in
returns-then-not-occurs_in c =
    let b = c.args.self.now in
    let no : Occurs b.atom c.args.m.now → ⊥ =
    λ h. different (sym (c.occurs_in.ensures.1 h) ∙ c.if-not-occurs_in.true) in
    sym (ap (lesser c.args.least) (skipped b.atom b.leads.items c.args.m.now c.requires no) ∙ lesser_none c.args.least)
