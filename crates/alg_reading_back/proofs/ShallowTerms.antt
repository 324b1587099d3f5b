-- The raw term of a canonical text is as deep as the term, and no node of it is too deep.
use Rattle.std.proofs.Common.{◌≡◌, ◌≤◌, ℕ, ◌+◌, max, true, false, nat_lt, cond, length, None, Some, sym, ap, ◌∙◌, arith}
use Rattle.std.specs.Option.{option_or}
use Rattle.std.proofs.lemmas.Bool.Decides.{nat_tests}
use Rattle.alg_terms.specs.declared.file.File.{File}
use Rattle.alg_terms.specs.declared.term.Term.{Term, more_of-Term, Var, Int, Neg', Add', Sub', Mul', Div', Pow', Hom'}
use Rattle.alg_terms.specs.Nodes.{fold_term}
use Rattle.alg_terms.specs.Term as terms
use Rattle.alg_reader.specs.RawTerms.{fold_raw, depth_of}
use Rattle.alg_reader.specs.TooDeep.{Depths, node_depths, over_one, over_two, node_over, first_too_deep, kept}
use Rattle.alg_reader.proofs.Built.{fold_under-Var, fold_under-Int, fold_under-Neg, fold_under-Add, fold_under-Sub, fold_under-Mul, fold_under-Div, fold_under-Pow, fold_under-Hom}
use Rattle.alg_reader.proofs.Depths.{depth_agrees}
use Rattle.alg_reader.proofs.Held.{kept_whole}
use Rattle.alg_printer.specs.Names.{var_name, hom_name}
use Rattle.alg_reading_back.proofs.WrittenTerms.{WrittenTerm, written, part_raw, span}

-- so deep, and nothing too deep
abbrev pub shallow : ℕ → Depths
shallow depth = record { depth = depth; too_deep = None }

-- wherever it begins, the raw term is so deep and has nothing too deep
abbrev pub IsShallow : WrittenTerm → ℕ → Type 0
IsShallow part depth = (at : ℕ) → fold_raw node_depths (part.raw at) ≡ shallow depth

-- a node that is not too deep
not_over : (head depth : ℕ) → depth ≤ 1000 → node_over head depth None ≡ shallow depth
not_over head depth low =
    let few : nat_lt 1000 depth ≡ false = grind (arith, nat_tests) in
    ap (λ b. record { depth = depth; too_deep = option_or None (cond b (Some head) None) }) few

-- a part, in parentheses or not
part_shallow : (wanted : ℕ) (part : WrittenTerm) (depth : ℕ) → IsShallow part depth → (at : ℕ) →
    fold_raw node_depths (part_raw wanted part at) ≡ shallow depth
part_shallow wanted part depth h at =
    elim (nat_lt part.level wanted) as (λ b. fold_raw node_depths (cond b (part.raw (at + 1)) (part.raw at))
    ≡ shallow depth) [ true ↦ h (at + 1) | false ↦ h at ]

-- a node over one part, and one over two
one_shallow : (head depth : ℕ) (d : Depths) → 1 + depth ≤ 1000 → d ≡ shallow depth →
    over_one head d ≡ shallow (1 + depth)
one_shallow head depth d low e = ap (over_one head) e ∙ not_over head (1 + depth) low

two_shallow : (head depth other : ℕ) (d e : Depths) → 1 + max depth other ≤ 1000 → d ≡ shallow depth →
    e ≡ shallow other → over_two head d e ≡ shallow (1 + max depth other)
two_shallow head depth other d e low f g =
    ap (λ x. over_two head x e) f ∙ ap (over_two head (shallow depth)) g ∙ not_over head (1 + max depth other) low

-- two parts, each where its level is wanted
both_shallow : (file : File) (t u : Term) (head wanted at wanted' at' : ℕ) →
    1 + max (terms.depth_of t) (terms.depth_of u) ≤ 1000 → IsShallow (written file t) (terms.depth_of t) →
    IsShallow (written file u) (terms.depth_of u) →
    over_two head (fold_raw node_depths (part_raw wanted (written file t) at))
    (fold_raw node_depths (part_raw wanted' (written file u) at'))
    ≡ shallow (1 + max (terms.depth_of t) (terms.depth_of u))
both_shallow file t u head wanted at wanted' at' low left right =
    two_shallow head (terms.depth_of t) (terms.depth_of u) _ _ low
    (part_shallow wanted (written file t) (terms.depth_of t) left at)
    (part_shallow wanted' (written file u) (terms.depth_of u) right at')

-- of each term that is not too deep
pub term_shallow : (file : File) (t : Term) → terms.depth_of t ≤ 1000 → IsShallow (written file t) (terms.depth_of t)
unfolding fold_term
term_shallow file (Var k) low at =
    fold_under-Var node_depths at (span at (var_name file k)) ∙ not_over at 1 (omega arith)
term_shallow file (Int n) low at = fold_under-Int node_depths at n ∙ not_over at 1 (omega arith)
term_shallow file (Neg' p (more_of-Term t r)) low at =
    fold_under-Neg node_depths at (part_raw 3 (written file t) (at + 1))
    ∙ one_shallow at (terms.depth_of t) _ low
    (part_shallow 3 (written file t) (terms.depth_of t) (term_shallow file t (omega arith)) (at + 1))
term_shallow file (Add' p (more_of-Term t r) q (more_of-Term u s)) low at =
    fold_under-Add node_depths _ _ _
    ∙ both_shallow file t u _ 1 _ 2 _ low (term_shallow file t (omega arith)) (term_shallow file u (omega arith))
term_shallow file (Sub' p (more_of-Term t r) q (more_of-Term u s)) low at =
    fold_under-Sub node_depths _ _ _
    ∙ both_shallow file t u _ 1 _ 2 _ low (term_shallow file t (omega arith)) (term_shallow file u (omega arith))
term_shallow file (Mul' p (more_of-Term t r) q (more_of-Term u s)) low at =
    fold_under-Mul node_depths _ _ _
    ∙ both_shallow file t u _ 2 _ 3 _ low (term_shallow file t (omega arith)) (term_shallow file u (omega arith))
term_shallow file (Div' p (more_of-Term t r) q (more_of-Term u s)) low at =
    fold_under-Div node_depths _ _ _
    ∙ both_shallow file t u _ 2 _ 3 _ low (term_shallow file t (omega arith)) (term_shallow file u (omega arith))
term_shallow file (Pow' p (more_of-Term t r) n) low at =
    fold_under-Pow node_depths _ _ _
    ∙ one_shallow _ (terms.depth_of t) _ low
    (part_shallow 5 (written file t) (terms.depth_of t) (term_shallow file t (omega arith)) at)
term_shallow file (Hom' f p (more_of-Term t r)) low at =
    fold_under-Hom node_depths _ _ _
    ∙ one_shallow at (terms.depth_of t) _ low (term_shallow file t (omega arith) (at + length (hom_name file f) + 1))

-- all of such a term is kept, and nothing in it is too deep
pub term_kept : (file : File) (t : Term) → terms.depth_of t ≤ 1000 → (at : ℕ) →
    kept ((written file t).raw at) ≡ (written file t).raw at
term_kept file t low at =
    let u = (written file t).raw at in
    let deep : depth_of u ≡ terms.depth_of t =
    sym (depth_agrees u) ∙ ap (λ d. d.depth) (term_shallow file t low at) in
    kept_whole u (omega arith)

pub term_not_deep : (file : File) (t : Term) → terms.depth_of t ≤ 1000 → (at : ℕ) →
    first_too_deep ((written file t).raw at) ≡ None
term_not_deep file t low at = ap (λ d. d.too_deep) (term_shallow file t low at)
