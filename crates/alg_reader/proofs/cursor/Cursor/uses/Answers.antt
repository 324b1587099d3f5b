use Rattle.std.proofs.Common.{◌≡◌, ◌∙◌, ap, subst, refl}
use Rattle.alg_tokens.specs.declared.token.TokenKind.TheVariants as kinds
use Rattle.alg_tokens.specs.declared.token.Word.TheVariants as words
use Rattle.alg_reader.specs.declared.raw.RawUse.{RawUse}
use Rattle.alg_reader.specs.Grammar.{word, using}
use Rattle.alg_reader.specs.TermMeaning.{nothing}
use Rattle.alg_reader.specs.PartMeaning.{uses_of}
use Rattle.alg_reader.specs.Reading.{behind, ReadsUses}
use Rattle.alg_reader.proofs.ReadChoices.{takes_none}
use Rattle.alg_reader.proofs.Failing.{passed_kept}
use Rattle.alg_reader.proofs.OneToken.{taken, lacks_seq}
use Rattle.alg_reader.proofs.Options.{all_uses, some_uses, fails_first_use, uses_read}
use Rattle.alg_reader.proofs.cursor.Cursor.uses.Goals as goal

pub returns-then-not-sees : goal.returns-then-not-sees
returns-then-not-sees c = (
  nothing,
  c.from_vec.ensures ∙ c.new.ensures.items,
  takes_none some_uses refl _ (lacks_seq (word words.Using) all_uses _ refl c.if-not-sees.ensures),
)

pub returns-in_err-first : goal.returns-in_err-first
returns-in_err-first c =
    let here = taken (kinds.Word words.Using) _ _ c.take-using.result c.if-not-sees.ensures c.take-using.ensures in
    passed_kept using uses_of (λ v. v) _ _ c.from_residual.result c.in_err-first.field-0.0 c.from_residual.ensures.1
    (fails_first_use _ _ _ _ c.if-not-sees.ensures here c.in_err-first.ensures)

pub returns : goal.returns
returns c =
    let here = taken (kinds.Word words.Using) _ _ c.take-using.result c.if-not-sees.ensures c.take-using.ensures in
    let (u, e, p) = c.in_ok-first.ensures in
    let whole : c.in_ok-first.first ≡ u = e ∙ ap (λ names. behind names u) c.new-2.ensures.items in
    let P : RawUse → Type 0 = λ v. ReadsUses v c.used.new.self c.more_uses.result c.more_uses.new.self in
    uses_read _ _ _ _ _ u c.more_uses.result c.if-not-sees.ensures here p (subst P whole c.more_uses.ensures)
