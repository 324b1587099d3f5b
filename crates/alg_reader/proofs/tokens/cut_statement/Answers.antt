use Rattle.std.proofs.Common.{◌≡◌, ◌≢◌, ◌++◌, ◌∷◌, [], ℕ, sym, ap, ◌∙◌, subst}
use Rattle.alg_tokens.specs.declared.token.TokenKind.TheVariants as kinds
use Rattle.alg_tokens.specs.declared.token.Sign.TheVariants as signs
use Rattle.alg_reader.specs.Tokens.{open_with, open_after, IsOneTooMany}
use Rattle.alg_reader.proofs.Cutting.{reaches_more, open_more, still_few}
use Rattle.alg_reader.proofs.tokens.cut_statement.Goals as goal

pub tokens-preserved : goal.tokens-preserved
tokens-preserved c =
    let here = c.tokens.tokens.items in
    let t = c.in-Ok.token in
    let lexeme : t.kind ≢ kinds.End = λ e. let h = c.if-is_end.ensures.1 e in cc in
    let other : t.kind ≢ kinds.Sign signs.Dot = λ e. let h = c.if-is_dot.ensures.1 e in cc in
    let going : ¬ (IsOneTooMany c.tokens.depth t.kind) = λ stops.
    (let h = c.if-is_one_too_many.ensures.1 stops in cc) in
    let free = subst (λ (d : ℕ). ¬ (IsOneTooMany d t.kind)) c.tokens.invariant.opened going in
    let items : c.push.new.self.items ≡ here ++ t ∷ [] = c.in_ok-push.ensures.items in
    record {
      reaches = rw items (reaches_more c.args.text.now c.args.at c.tokens.stop here t c.tokens.invariant.reaches
          c.in-Ok.ensures.next lexeme other free);
      opened = c.open_with-depth.ensures ∙ ap (λ d. open_with d t.kind) c.tokens.invariant.opened
          ∙ sym (open_more 0 here t) ∙ ap (open_after 0) (sym items);
      few = rw c.open_with-depth.ensures (still_few c.tokens.depth t.kind going c.tokens.invariant.few);
      boundary = c.in-Ok.ensures.boundaries.1;
    }
