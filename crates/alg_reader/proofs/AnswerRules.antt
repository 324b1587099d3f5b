-- What the rules of answers make of what their parts mean.
use Rattle.std.proofs.Common.{◌≡◌, ℕ, List, [], inl, inr, refl, ap, sym, ◌∙◌, subst}
use Rattle.alg_tokens.specs.declared.token.Token.{Token}
use Rattle.alg_tokens.specs.declared.token.TokenKind.{TokenKind}
use Rattle.alg_tokens.specs.declared.token.TokenKind.TheVariants as kinds
use Rattle.alg_tokens.specs.declared.token.Word.TheVariants as words
use Rattle.alg_reader.specs.declared.raw.RawAnswer.TheVariants as answers
use Rattle.alg_reader.specs.Forms as rules
use Rattle.alg_reader.specs.Grammar.{grammar}
use Rattle.alg_reader.specs.TermMeaning.{Value, one, two, mono, int}
use Rattle.alg_reader.specs.AnswerMeaning.{act_proved, act_no, act_zero_denominator, act_none_up_to, act_gave_up, stopped_word, act_stopped}
use Rattle.alg_reader.specs.RawNodes.{numeral_of}
use Rattle.alg_reader.proofs.Found.{IsFoundAnswer, AnswerFound, Found}
use Rattle.alg_reader.proofs.FoundParts.{after_token, after_mono, after_int}
use Rattle.alg_reader.proofs.MonoRules.{numeral_well}
use Rattle.alg_reader.proofs.Nodes.{number_at}

pub proved_found : (text : List ℕ) (x : Value) (ts : List Token) → Found text (grammar rules.Proved) x ts
    → AnswerFound text (act_proved x)
unfolding grammar
proved_found text x ts h =
    let (w, _, _, e, more) = after_token h in
    let P : Value → Type 0 = λ v. AnswerFound text (act_proved v) in
    elim more [
      | inl (ez, _) ↦ subst P (sym (e ∙ ap (two (one w)) ez)) (answers.Proved [], refl, tt)
      | inr (inl (said, es, f)) ↦ subst P (sym (e ∙ ap (two (one w)) es)) (said, refl, f)
      | inr (inr (said, es, f)) ↦ subst P (sym (e ∙ ap (two (one w)) es)) (said, refl, f)
    ]

pub no_found : (text : List ℕ) (x : Value) (ts : List Token) → Found text (grammar rules.No) x ts
    → AnswerFound text (act_no x)
unfolding grammar
no_found text x ts h =
    let (w, _, _, e, h1) = after_token h in
    let (a, _, _, e1, h2) = after_token h1 in
    let (m, _, _, e2, well, h3) = after_mono h2 in
    let (c, _, _, e3, h4) = after_token h3 in
    let (b, _, _, e4, hb, h5) = after_int h4 in
    let (d, _, _, e5, (n, en, hn)) = after_token h5 in
    let P : Value → Type 0 = λ v. AnswerFound text (act_no v) in
    subst P (sym (e ∙ ap (two (one w)) (e1 ∙ ap (two (one a)) (e2 ∙ ap (two (mono m)) (e3 ∙ ap (two (one c))
    (e4 ∙ ap (two (int b)) (e5 ∙ ap (two (one d)) en))))))) (answers.No m b n, refl, (well, hb, hn))

pub zero_denominator_found : (text : List ℕ) (x : Value) (ts : List Token)
    → Found text (grammar rules.ZeroDenominator) x ts → AnswerFound text (act_zero_denominator x)
unfolding grammar
zero_denominator_found text x ts h =
    let (w, _, _, e, h1) = after_token h in
    let (d, _, _, e1, (t, et, f)) = after_token h1 in
    let P : Value → Type 0 = λ v. AnswerFound text (act_zero_denominator v) in
    subst P (sym (e ∙ ap (two (one w)) (e1 ∙ ap (two (one d)) et))) (answers.ZeroDenominator t, refl, f)

pub none_up_to_found : (text : List ℕ) (x : Value) (ts : List Token) → Found text (grammar rules.NoneUpTo) x ts
    → AnswerFound text (act_none_up_to x)
unfolding grammar
none_up_to_found text x ts h =
    let (w, _, _, e, h1) = after_token h in
    let (u, _, _, e1, h2) = after_token h1 in
    let (o, _, _, e2, h3) = after_token h2 in
    let (p, z, vs, e3, h4) = after_token h3 in
    let (n, en, range, _, _) = number_at text z vs h4 in
    let P : Value → Type 0 = λ v. AnswerFound text (act_none_up_to v) in
    subst P (sym (e ∙ ap (two (one w)) (e1 ∙ ap (two (one u)) (e2 ∙ ap (two (one o)) (e3 ∙ ap (two (one p)) en)))))
    (answers.NoneUpTo (numeral_of n), refl, numeral_well n range)

pub gave_up_found : (text : List ℕ) (x : Value) (ts : List Token) → Found text (grammar rules.GaveUp) x ts
    → AnswerFound text (act_gave_up x)
unfolding grammar
gave_up_found text x ts h =
    let (w, _, _, e, h1) = after_token h in
    let (u, _, _, e1, h2) = after_token h1 in
    let (a, z, vs, e2, h3) = after_token h2 in
    let (n, en, range, _, _) = number_at text z vs h3 in
    let P : Value → Type 0 = λ v. AnswerFound text (act_gave_up v) in
    subst P (sym (e ∙ ap (two (one w)) (e1 ∙ ap (two (one u)) (e2 ∙ ap (two (one a)) en))))
    (answers.GaveUp (numeral_of n), refl, numeral_well n range)

stopped_well : (text : List ℕ) (kind : TokenKind) → IsFoundAnswer text (stopped_word kind)
stopped_well text kinds.Name = tt
stopped_well text (kinds.Number value) = tt
stopped_well text kinds.End = tt
stopped_well text (kinds.Sign sign) = tt
stopped_well text (kinds.Word w) = elim w as (λ w. IsFoundAnswer text (stopped_word (kinds.Word w))) [
  | words.Range ↦ tt
  | words.Degree ↦ tt
  | words.Additive ↦ tt
  | _ ↦ tt
]

stopped_one : (text : List ℕ) (x : Value) (w : Token) → x ≡ one w → AnswerFound text (act_stopped x)
stopped_one text x w e = let P : Value → Type 0 = λ v. AnswerFound text (act_stopped v) in
    subst P (sym e) (stopped_word w.kind, refl, stopped_well text w.kind)

pub stopped_found : (text : List ℕ) (x : Value) (ts : List Token) → Found text (grammar rules.Stopped) x ts
    → AnswerFound text (act_stopped x)
unfolding grammar
stopped_found text x ts (inl (w, e, _, _, _)) = stopped_one text x w e
stopped_found text x ts (inr (inl (w, e, _, _, _))) = stopped_one text x w e
stopped_found text x ts (inr (inr (w, e, _, _, _))) = stopped_one text x w e
