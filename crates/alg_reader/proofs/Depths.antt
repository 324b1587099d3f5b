-- The depth that a node's parts tell is its depth.
use Rattle.std.proofs.Common.{◌≡◌, ℕ, ◌+◌, max, refl, ap, ◌∙◌}
use Rattle.alg_reader.specs.declared.raw.RawTerm.{RawTerm}
use Rattle.alg_reader.specs.declared.raw.RawNode.{RawNode, more_of-RawTerm, Var, Int, Neg', Add', Sub', Mul', Div', Pow', Hom'}
use Rattle.alg_reader.specs.RawTerms.{fold_under, fold_raw, depth_of}
use Rattle.alg_reader.specs.TooDeep.{node_depths}
use Rattle.alg_reader.specs.RawNodes.{at}

pub depths_agree : (head : ℕ) (node : RawNode) → (fold_raw node_depths (at head node)).depth ≡ depth_of (at head node)
unfolding fold_under
depths_agree head (Var name) = refl
depths_agree head (Int n) = refl
depths_agree head (Neg' p (more_of-RawTerm h t rest)) = ap (λ n. 1 + n) (depths_agree h t)
depths_agree head (Add' p (more_of-RawTerm h t rest) q (more_of-RawTerm h' u rest')) =
    ap (λ n. 1 + max n (fold_raw node_depths (at h' u)).depth) (depths_agree h t)
    ∙ ap (λ n. 1 + max (depth_of (at h t)) n) (depths_agree h' u)
depths_agree head (Sub' p (more_of-RawTerm h t rest) q (more_of-RawTerm h' u rest')) =
    ap (λ n. 1 + max n (fold_raw node_depths (at h' u)).depth) (depths_agree h t)
    ∙ ap (λ n. 1 + max (depth_of (at h t)) n) (depths_agree h' u)
depths_agree head (Mul' p (more_of-RawTerm h t rest) q (more_of-RawTerm h' u rest')) =
    ap (λ n. 1 + max n (fold_raw node_depths (at h' u)).depth) (depths_agree h t)
    ∙ ap (λ n. 1 + max (depth_of (at h t)) n) (depths_agree h' u)
depths_agree head (Div' p (more_of-RawTerm h t rest) q (more_of-RawTerm h' u rest')) =
    ap (λ n. 1 + max n (fold_raw node_depths (at h' u)).depth) (depths_agree h t)
    ∙ ap (λ n. 1 + max (depth_of (at h t)) n) (depths_agree h' u)
depths_agree head (Pow' p (more_of-RawTerm h t rest) n) = ap (λ n. 1 + n) (depths_agree h t)
depths_agree head (Hom' name p (more_of-RawTerm h t rest)) = ap (λ n. 1 + n) (depths_agree h t)

-- of a whole term
pub depth_agrees : (t : RawTerm) → (fold_raw node_depths t).depth ≡ depth_of t
unfolding fold_under
depth_agrees t = depths_agree t.head t.node
