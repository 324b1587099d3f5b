use Rattle.std.proofs.Common.{◌≡◌, ◌∷◌, ◌++◌, [], sym, ap, ◌∙◌, refl, append_assoc, append-nil}
use Rattle.alg_tokens.specs.declared.token.TokenKind.TheVariants as kinds
use Rattle.alg_tokens.specs.declared.token.Sign.TheVariants as signs
use Rattle.alg_reader.specs.Forms.{a, many, rule, Use}
use Rattle.alg_reader.specs.TermMeaning.{one, two, nothing, used}
use Rattle.alg_reader.specs.PartMeaning.{uses_after}
use Rattle.alg_reader.specs.Reading.{behind}
use Rattle.alg_reader.proofs.ReadSequences.{takes_seq}
use Rattle.alg_reader.proofs.ReadRows.{takes_more, takes_end}
use Rattle.alg_reader.proofs.Failing.{passed_kept, fails_second, fails_turn, fails_later}
use Rattle.alg_reader.proofs.OneToken.{taken, starts_seq, lacks_seq}
use Rattle.alg_reader.proofs.Sequences.{token_apart}
use Rattle.alg_reader.proofs.Options.{next_use, comma_apart}
use Rattle.alg_reader.proofs.cursor.Cursor.more_uses.Goals as goal

pub returns-in_err-used : goal.returns-in_err-used
returns-in_err-used c =
    let comma = taken (kinds.Sign signs.Comma) _ _ c.take-comma.result c.uses-test.ensures c.take-comma.ensures in
    passed_kept (many next_use) (λ v. c.args.first ∷ uses_after v) (λ v. v) _ _ c.from_residual-in_err-used.result
    c.in_err-used.field-0.0 c.from_residual-in_err-used.ensures.1
    (c.uses.invariant.1 _ (fails_turn next_use refl comma_apart _ _
    (starts_seq (a (kinds.Sign signs.Comma)) (rule Use) _ c.uses-test.ensures)
    (fails_second (a (kinds.Sign signs.Comma)) (rule Use) (token_apart (kinds.Sign signs.Comma) (rule Use)) _ _ _
    comma _ c.in_err-used.ensures)))

pub uses-preserved : goal.uses-preserved
unfolding uses_after
uses-preserved c =
    let comma = taken (kinds.Sign signs.Comma) _ _ c.take-comma.result c.uses-test.ensures c.take-comma.ensures in
    let (u, e, p) = c.in_ok-used.ensures in
    let old = c.uses.uses.items in
    let whole : c.in_ok-used.used ≡ u = e ∙ ap (λ names. behind names u) c.new.ensures.items in
    let turn = takes_seq (a (kinds.Sign signs.Comma)) (rule Use)
    (token_apart (kinds.Sign signs.Comma) (rule Use)) _ _ _ _ _ comma p in (
      λ rest y q.
          let (x, r, k) = c.uses.invariant.0 rest (two (two (one c.take-comma.result) (used u)) y) (takes_more
          next_use refl comma_apart _ _ _ _ _ turn q) in (
            x,
            r,
            ap (λ xs. xs ++ uses_after y) c.in_ok-push-2.ensures.items
                ∙ append_assoc old (c.in_ok-used.used ∷ []) (uses_after y)
                ∙ ap (λ v. old ++ v ∷ uses_after y) whole ∙ k,
          ),
      λ f h. c.uses.invariant.1 f (fails_later next_use refl comma_apart _ _ _ turn f h),
    )

pub returns : goal.returns
unfolding uses_after
returns c =
    let (x, q, e) = c.uses.invariant.0 _ nothing (takes_end next_use refl comma_apart _
    (lacks_seq (a (kinds.Sign signs.Comma)) (rule Use) _ refl c.uses-test.ensures)) in
    (x, c.from_vec.ensures ∙ sym (append-nil c.uses.uses.items) ∙ e, q)
