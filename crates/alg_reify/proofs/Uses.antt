-- The atoms of used hypotheses.
use Rattle.std.proofs.Common.{◌≡◌, ◌<◌, [], get_or, length, refl, ap}
use Rattle.std.specs.Option.{option_map_or}
use Rattle.std.proofs.lemmas.Option.{slice_get_read}
use Rattle.alg_terms.specs.declared.file.File.{File}
use Rattle.alg_terms.specs.declared.goals.Hyp.{Hyp}
use Rattle.alg_terms.specs.declared.goals.Use.{Use}
use Rattle.alg_reify.specs.Table.{equation_leaves, use_leaves}

-- the atoms of a use are those of its hypothesis under its path
pub use_leaves-at : (file : File) (u : Use) (h : Hyp) → u.hyp < length file.hyps → h ≡ get_or file.hyps u.hyp h
    → use_leaves file u ≡ equation_leaves u.path h.equation
use_leaves-at file u h within is =
    ap (λ o. option_map_or (λ g. equation_leaves u.path g.equation) o [])
    (slice_get_read file.hyps (length file.hyps) u.hyp h refl within is)
