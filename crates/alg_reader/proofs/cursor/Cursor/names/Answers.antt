use Rattle.std.proofs.Common.{◌∷◌, ◌++◌, [], refl, ap, sym, ◌∙◌, append_assoc, append-nil}
use Rattle.alg_tokens.specs.declared.token.TokenKind.TheVariants as kinds
use Rattle.alg_reader.specs.Forms.{a}
use Rattle.alg_reader.specs.TermMeaning.{one, two, nothing}
use Rattle.alg_reader.specs.PartMeaning.{spans}
use Rattle.alg_reader.proofs.ReadRows.{takes_more, takes_end}
use Rattle.alg_reader.proofs.OneToken.{taken}
use Rattle.alg_reader.proofs.cursor.Cursor.names.Goals as goal

pub names-init : goal.names-init
names-init c = λ rest y p. (
  y,
  p,
  ap (λ xs. xs ++ spans y) (c.in_ok-push.ensures.items
      ∙ ap (λ xs. xs ++ c.args.first ∷ []) c.new-names.ensures.items),
)

pub names-preserved : goal.names-preserved
unfolding spans
names-preserved c = λ rest y p.
    let name = taken kinds.Name _ _ c.take-name.result c.names-test.ensures c.take-name.ensures in
    let (x, q, e) = c.names.invariant rest (two (one c.take-name.result) y) (takes_more (a kinds.Name) refl
    (λ n h h'. cc) _ _ _ _ _ name p) in
    let old = c.names.names.items in (
      x,
      q,
      ap (λ xs. xs ++ spans y) c.in_ok-push-2.ensures.items ∙ append_assoc old (c.span_of.result ∷ []) (spans y)
          ∙ ap (λ s. old ++ s ∷ spans y) c.span_of.ensures ∙ e,
    )

pub returns : goal.returns
unfolding spans
returns c =
    let (x, q, e) = c.names.invariant _ nothing (takes_end (a kinds.Name) refl (λ n h h'. cc) _ c.names-test.ensures) in
    (x, c.from_vec.ensures ∙ sym (append-nil c.names.names.items) ∙ e, q)
