use Rattle.std.proofs.Common.{ℕ, ◌+◌, ◌*◌, max}
use Rattle.alg_horner.specs.Form.{Form}
use Rattle.alg_horner.specs.Trees.{form_of}
use Rattle.alg_horner.proofs.Sizes.{size}
use Rattle.alg_horner.proofs.times.+add_product.Given as goal

-- the nodes of both factors, and then the atoms that are skipped
abbrev left : ℕ → Form → ℕ → Form → ℕ
left j p k q = (size p + size q) * 17179869184 + 2 * max j k

abbrev pub decreases-add_product : goal.decreases-add_product
decreases-add_product l = left l.j (form_of l.p.now) l.k (form_of l.q.now) + 1

abbrev pub decreases-add_product_later : goal.decreases-add_product_later
decreases-add_product_later l = left l.j (form_of l.p.now) l.k (form_of l.q.now)

abbrev pub decreases-add_product_raised : goal.decreases-add_product_raised
decreases-add_product_raised l = left l.j (form_of l.p.now) l.k (form_of l.q.now) + 2 + l.h

abbrev pub decreases-product_before : goal.decreases-product_before
decreases-product_before l = left l.j (form_of l.p.now) l.k (form_of l.q.now) + 2
