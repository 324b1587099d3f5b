-- What the rules of lines and steps make of what their parts mean.
use Rattle.std.proofs.Common.{ℕ, List, [], inl, inr, Option, Some, None, IfSome, unwrap_or, refl, ap, sym, ◌∙◌, subst, arith}
use Rattle.std.proofs.lemmas.Int.{ints}
use Rattle.alg_tokens.specs.declared.token.Token.{Token}
use Rattle.alg_tokens.specs.declared.token.TokenKind.TheVariants as kinds
use Rattle.alg_tokens.specs.declared.token.Word.TheVariants as words
use Rattle.alg_reader.specs.declared.format.Format.{Format}
use Rattle.alg_reader.specs.declared.format.Format.TheVariants as formats
use Rattle.alg_reader.specs.declared.place.Place.TheVariants as places
use Rattle.alg_reader.specs.declared.raw.RawKind.TheVariants as raws
use Rattle.alg_reader.specs.declared.raw.RawMono.{RawMono}
use Rattle.alg_reader.specs.declared.raw.RawNumber.{RawNumber}
use Rattle.alg_reader.specs.Forms as rules
use Rattle.alg_reader.specs.Grammar.{grammar, cofactor, divisor}
use Rattle.alg_reader.specs.TermMeaning.{Value, one, two, mono, int}
use Rattle.alg_reader.specs.AnswerMeaning.{cofactor_of, act_combined, act_line, act_step}
use Rattle.alg_reader.specs.PartMeaning.{option_of}
use Rattle.alg_reader.specs.RawMonos.{mono_one, number_one}
use Rattle.alg_reader.specs.RawNodes.{numeral_of}
use Rattle.alg_reader.specs.WellRead.{IsNumeral, IsWellMono}
use Rattle.alg_reader.proofs.Found.{CombinedFound, StandsFound, Found}
use Rattle.alg_reader.proofs.FoundParts.{after_token, after_number, after_int}
use Rattle.alg_reader.proofs.MonoRules.{numeral_well}
use Rattle.alg_reader.proofs.Monos.{factors_well}
use Rattle.alg_reader.proofs.UseRules.{option_found}

cofactor_found : (text : List ℕ) (format : Format) (x : Value) (ts : List Token) → Found text (cofactor format) x ts
    → IfSome (cofactor_of x) (IsWellMono text)
cofactor_found text formats.One x ts (y, z, _, _, e, _, (m, em, well), (c, ec, _, _, _)) =
    let P : Value → Type 0 = λ v. IfSome (cofactor_of v) (IsWellMono text) in
    subst P (sym (e ∙ ap (λ v. two v z) em ∙ ap (two (mono m)) ec)) well
cofactor_found text formats.Two x ts (inl (e, _)) =
    let P : Value → Type 0 = λ v. IfSome (cofactor_of v) (IsWellMono text) in subst P (sym e) tt
cofactor_found text formats.Two x ts (inr (y, z, _, _, e, _, (m, em, well), (c, ec, _, _, _))) =
    let P : Value → Type 0 = λ v. IfSome (cofactor_of v) (IsWellMono text) in
    subst P (sym (e ∙ ap (λ v. two v z) em ∙ ap (two (mono m)) ec)) well

divisor_found : (text : List ℕ) (format : Format) (x : Value) (ts : List Token) → Found text (divisor format) x ts
    → IfSome (option_of x) IsNumeral
divisor_found text formats.One x ts h = option_found text (kinds.Word words.Over) x ts (inr h)
divisor_found text formats.Two x ts h = option_found text (kinds.Word words.Over) x ts h

pub combined_found : (text : List ℕ) (format : Format) (x : Value) (ts : List Token)
    → Found text (grammar (rules.Combined format)) x ts → CombinedFound text (act_combined x)
unfolding grammar
combined_found text format x ts h =
    let (f, _, _, e, hf, h1) = after_number h in
    let (w, _, _, e1, h2) = after_token h1 in
    let (b, _, _, e2, hb, h3) = after_int h2 in
    let (c, _, _, e3, (y, z, us, vs, e4, _, n, h4)) = after_token h3 in
    let (i, y', us', e5, hi, d) = after_number h4 in
    let P : Value → Type 0 = λ v. CombinedFound text (act_combined v) in
    subst P (sym (e ∙ ap (two (one f)) (e1 ∙ ap (two (one w)) (e2 ∙ ap (two (int b)) (e3 ∙ ap (two (one c))
    (e4 ∙ ap (two y) e5)))))) (
      record { first = numeral_of f; b = b; n = cofactor_of y; j = numeral_of i; d = option_of y' },
      refl,
      numeral_well f hf,
      hb,
      cofactor_found text format y us n,
      numeral_well i hi,
      divisor_found text format y' us' d,
    )

-- what is left out is 1
or_one : (text : List ℕ) (m : Option RawMono) (start : ℕ) → IfSome m (IsWellMono text)
    → IsWellMono text (unwrap_or m (mono_one start))
or_one text None start h = factors_well text start [] tt
or_one text (Some m) start h = h

or_number_one : (n : Option RawNumber) (start : ℕ) → IfSome n IsNumeral → IsNumeral (unwrap_or n (number_one start))
or_number_one None start h = record { low = omega (arith, ints); high = omega (arith, ints) }
or_number_one (Some n) start h = h

pub line_found : (text : List ℕ) (format : Format) (x : Value) (ts : List Token)
    → Found text (grammar (rules.Line format)) x ts → StandsFound places.Lines text (act_line x) ts
unfolding grammar
line_found text format x ts h =
    let (w, _, _, e, h1) = after_token h in
    let (a, _, _, e1, ha, h2) = after_number h1 in
    let (c, _, _, e2, (y, z, us, vs, e3, _, m, (k, ek, hf, hb, hn, hj, hd))) = after_token h2 in
    let P : Value → Type 0 = λ v. StandsFound places.Lines text (act_line v) ts in
    subst P (sym (e ∙ ap (two (one w)) (e1 ∙ ap (two (one a)) (e2 ∙ ap (two (one c)) (e3 ∙ ap (two y) ek))))) (
      raws.Line (numeral_of a) (unwrap_or (cofactor_of y) (mono_one w.start)) k.first k.b
          (unwrap_or k.n (mono_one w.start)) k.j (unwrap_or k.d (number_one w.start)),
      refl,
      tt,
      (
        numeral_well a ha,
        or_one text (cofactor_of y) w.start (cofactor_found text format y us m),
        hf,
        hb,
        or_one text k.n w.start hn,
        hj,
        or_number_one k.d w.start hd,
      ),
      tt,
    )

pub step_found : (text : List ℕ) (format : Format) (x : Value) (ts : List Token)
    → Found text (grammar (rules.Step format)) x ts → StandsFound places.Steps text (act_step x) ts
unfolding grammar
step_found text format x ts h =
    let (w, _, _, e, (k, ek, hf, hb, hn, hj, hd)) = after_token h in
    let P : Value → Type 0 = λ v. StandsFound places.Steps text (act_step v) ts in
    subst P (sym (e ∙ ap (two (one w)) ek)) (
      raws.Step k.first k.b (unwrap_or k.n (mono_one w.start)) k.j (unwrap_or k.d (number_one w.start)),
      refl,
      tt,
      (hf, hb, or_one text k.n w.start hn, hj, or_number_one k.d w.start hd),
      tt,
    )
