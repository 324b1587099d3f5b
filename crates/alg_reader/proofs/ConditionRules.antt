-- What the rules of conditions, of constants and of certificates' heads make of what their parts mean.
use Rattle.std.proofs.Common.{ℕ, List, ◌∷◌, inl, inr, refl, ap, sym, ◌∙◌, subst}
use Rattle.std.specs.List.{AllByRecursion}
use Rattle.alg_tokens.specs.declared.token.Token.{Token}
use Rattle.alg_tokens.specs.declared.token.TokenKind.TheVariants as kinds
use Rattle.alg_tokens.specs.declared.token.Sign.TheVariants as signs
use Rattle.alg_tokens.specs.declared.token.Word.TheVariants as words
use Rattle.alg_reader.specs.declared.raw.RawAnswer.TheVariants as answers
use Rattle.alg_reader.specs.Forms as rules
use Rattle.alg_reader.specs.Forms.{seq, rule}
use Rattle.alg_reader.specs.Grammar.{grammar, constants, separated, word}
use Rattle.alg_reader.specs.TermMeaning.{Value, one, two, term}
use Rattle.alg_reader.specs.AnswerMeaning.{after, term_in, numeral_in, act_condition, act_constant, act_conditional, constants_of, act_certified}
use Rattle.alg_reader.specs.PartMeaning.{option_of}
use Rattle.alg_reader.specs.RawNodes.{numeral_of}
use Rattle.alg_reader.specs.WellRead.{IsNumeral}
use Rattle.alg_reader.proofs.Found.{all_of, row, IsFoundTerm, TermFound, AnswerFound, RuleFound, Found}
use Rattle.alg_reader.proofs.FoundParts.{after_token, after_number}
use Rattle.alg_reader.proofs.MonoRules.{items_found, numeral_well}
use Rattle.alg_reader.proofs.UseRules.{option_found}

pub condition_found : (text : List ℕ) (x : Value) (ts : List Token) → Found text (grammar rules.Condition) x ts
    → TermFound text (act_condition x)
unfolding grammar
condition_found text x ts (y, z, us, vs, e, _, (t, et, f), _) =
    let P : Value → Type 0 = λ v. TermFound text (act_condition v) in
    subst P (sym (e ∙ ap (λ v. two v z) et)) (t, refl, f)

pub constant_found : (text : List ℕ) (x : Value) (ts : List Token) → Found text (grammar rules.Constant) x ts
    → RuleFound text rules.Constant (act_constant x) ts
unfolding grammar
constant_found text x ts h =
    let (n, _, _, e, range, _) = after_number h in
    let P : Value → Type 0 = λ v. RuleFound text rules.Constant (act_constant v) ts in
    subst P (sym e) (n, refl, range)

term_in_found : (text : List ℕ) (v : Value) (us : List Token) → Found text (rule rules.Condition) v us
    → AllByRecursion (IsFoundTerm text) (term_in v)
term_in_found text v us (t, et, f) =
    let P : Value → Type 0 = λ v. AllByRecursion (IsFoundTerm text) (term_in v) in subst P (sym et) (f, tt)

numeral_in_found : (text : List ℕ) (v : Value) (us : List Token) → Found text (rule rules.Constant) v us
    → AllByRecursion IsNumeral (numeral_in v)
numeral_in_found text v us (n, en, range) =
    let P : Value → Type 0 = λ v. AllByRecursion IsNumeral (numeral_in v) in subst P (sym en) (numeral_well n range, tt)

pub conditional_found : (text : List ℕ) (x : Value) (ts : List Token) → Found text (grammar rules.Conditional) x ts
    → AnswerFound text (act_conditional x)
unfolding grammar
conditional_found text x ts h =
    let (w, _, _, e, (y, z, us, vs, e', _, (t, et, f), (xs, ez, each))) = after_token h in
    let P : Value → Type 0 = λ v. AnswerFound text (act_conditional v) in
    let more = items_found text signs.Comma rules.Condition term_in (IsFoundTerm text) (term_in_found text) xs vs
    each in
    subst P (sym (e ∙ ap (two (one w)) (e' ∙ ap (λ v. two v z) et ∙ ap (two (term t)) ez)))
    (answers.Proved (t ∷ after term_in (row xs)), refl, (f, more))

some_constants_found : (text : List ℕ) (x : Value) (ts : List Token) → Found text (seq (word words.If) (separated
    signs.Comma rules.Constant)) x ts → AllByRecursion IsNumeral (constants_of x)
some_constants_found text x ts h =
    let (w, _, _, e, (y, z, us, vs, e', _, (n, en, range), (xs, ez, each))) = after_token h in
    let P : Value → Type 0 = λ v. AllByRecursion IsNumeral (constants_of v) in
    let more = items_found text signs.Comma rules.Constant numeral_in IsNumeral (numeral_in_found text) xs vs each in
    subst P (sym (e ∙ ap (two (one w)) (e' ∙ ap (λ v. two v z) en ∙ ap (two (one n)) ez))) (numeral_well n range, more)

constants_found : (text : List ℕ) (x : Value) (ts : List Token) → Found text constants x ts
    → AllByRecursion IsNumeral (constants_of x)
constants_found text x ts (inl (e, _)) =
    let P : Value → Type 0 = λ v. AllByRecursion IsNumeral (constants_of v) in subst P (sym e) tt
constants_found text x ts (inr h) = some_constants_found text x ts h

pub certified_found : (text : List ℕ) (x : Value) (ts : List Token) → Found text (grammar rules.Certified) x ts
    → AnswerFound text (act_certified x)
unfolding grammar
certified_found text x ts (y, z, us, vs, e, _, v, h) =
    let (p, _, _, e1, h1) = after_token h in
    let (n, z2, vs2, e2, range, k) = after_number h1 in
    let P : Value → Type 0 = λ v. AnswerFound text (act_certified v) in
    subst P (sym (e ∙ ap (two y) (e1 ∙ ap (two (one p)) e2))) (
      answers.Certified (option_of y) (numeral_of n) (constants_of z2),
      refl,
      (
        option_found text (kinds.Word words.Version) y us v,
        numeral_well n range,
        all_of IsNumeral (constants_of z2) (constants_found text z2 vs2 k),
      ),
    )
