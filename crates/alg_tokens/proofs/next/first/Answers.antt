use Rattle.std.proofs.Common.{◌<◌, ◌≡◌, ◌<ℤ◌, ℕ, ℤ, pos, refl, sym, inl, inr, subst, arith, get_or, take, drop, None, rules, to_z-of_z, SFits, Some, ◌+◌, ◌-◌}
use Rattle.std.specs.Int.{w128}
use Rattle.std.proofs.lemmas.Int.{ints}
use Rattle.std.proofs.lemmas.Grind.{common_steps}
use Rattle.std.specs.Char.{IsAsciiDigit, is_ascii_digit}
use Rattle.std.specs.List.{AllByRecursion, prefix_len}
use Rattle.std.specs.Str.{IsCharBoundary}
use Rattle.std.proofs.lemmas.Str.{IsCharBoundary-after_ascii}
use Rattle.std.proofs.lemmas.List.Sums.{prefix_len_passes}
use Rattle.std.proofs.lemmas.Bool.Decides.{nat_tests}
use Rattle.alg_terms.specs.Names.{IsSpelledAsName}
use Rattle.alg_tokens.specs.declared.token.Sign.{Sign}
use Rattle.alg_terms.specs.Limits.{MAX_LITERAL}
use Rattle.alg_tokens.specs.Pieces.{value_of, Spells}
use Rattle.alg_tokens.specs.Runs.{sign_of}
use Rattle.alg_tokens.proofs.Longest.{run_of_digits, number_first, run_spelled}
use Rattle.alg_tokens.proofs.Firsts.{name_first, name_some, none_first}
use Rattle.alg_tokens.proofs.Signs.{sign_first, sign_ascii}
use Rattle.alg_tokens.proofs.next.first.Goals as goal

pub value-requires : goal.value-requires
value-requires c =
    let bytes = c.as_bytes-bytes.result.now in
    let P : ℕ → Type 0 = λ n. AllByRecursion IsAsciiDigit (take n bytes) in
    subst P (sym c.digit_len-digits.ensures.value) (run_of_digits bytes)

pub name_kind-requires : goal.name_kind-requires
name_kind-requires c =
    let spelled = run_spelled c.args.text.now c.name_len-len.result c.if-starts_with_name.ensures
    c.name_len-len.ensures in
    let same : c.range.result.now ≡ take c.name_len-len.result c.args.text.now = grind (
      arith,
      common_steps,
      c.range.ensures.value,
    ) in
    subst IsSpelledAsName (sym same) spelled

-- a numeral
pub returns-in-Some-clause-token : goal.returns-in-Some-clause-token
returns-in-Some-clause-token c =
    let fits : SFits w128 c.in-Some.number = search rules in
    let value : c.in-Some.number ≡ pos (value_of (take c.digit_len-digits.result c.args.text.now)) = grind
    (arith, common_steps) in
    let run : c.digit_len-digits.result ≡ prefix_len is_ascii_digit c.args.text.now = grind (arith, common_steps) in
    let first = number_first c.args.text.now c.digit_len-digits.result c.in-Some.number run c.if-digits-gt0.true
    (omega arith) value in
    rw (to_z-of_z fits) (omega (arith, ints), inr (c.if-digits-gt0.true, omega arith, first))

-- a numeral over MAX_LITERAL
pub returns-in-None-clause-token : goal.returns-in-None-clause-token
returns-in-None-clause-token c =
    let value : ℤ = pos (value_of (take c.digit_len-digits.result c.args.text.now)) in
    let run : c.digit_len-digits.result ≡ prefix_len is_ascii_digit c.args.text.now = grind (arith, common_steps) in
    let first = number_first c.args.text.now c.digit_len-digits.result value run c.if-digits-gt0.true
    (omega arith) refl in
    let over : MAX_LITERAL <ℤ value = grind (arith, common_steps) in
    inr (
      refl,
      (
        value,
        take c.digit_len-digits.result c.args.text.now,
        drop c.digit_len-digits.result c.args.text.now,
        first,
        over,
      ),
    )

-- a name
pub returns-then-starts_with_name-clause-token : goal.returns-then-starts_with_name-clause-token
returns-then-starts_with_name-clause-token c =
    let text = c.args.text.now in
    let starts = c.if-starts_with_name.ensures in
    let run = c.name_len-len.ensures in
    let same : c.range.result.now ≡ take c.name_len-len.result text = grind (
      arith,
      common_steps,
      c.range.ensures.value,
    ) in
    let spelled = subst (Spells c.name_kind.result) same c.name_kind.ensures.spelled in (
      c.name_kind.ensures.no_numeral,
      inr (
        name_some text c.name_len-len.result starts run,
        run.within,
        name_first text c.name_len-len.result c.name_kind.result starts run spelled,
      ),
    )

-- a sign
pub returns-in-Some-sign_of-clause-token : goal.returns-in-Some-sign_of-clause-token
returns-in-Some-sign_of-clause-token c =
    let text = c.args.text.now in
    let found : Sign × ℕ = (c.in-Some-sign_of.sign, c.in-Some-sign_of.len) in
    let told : sign_of (get_or text 0 0) (get_or text 1 0) ≡ Some found = grind (arith, common_steps) in
    (tt, inr (sign_first text found told))

-- nothing
pub returns-in-None-sign_of-clause-token : goal.returns-in-None-sign_of-clause-token
returns-in-None-sign_of-clause-token c =
    let text = c.args.text.now in
    let digits : prefix_len is_ascii_digit text ≡ 0 = grind (arith, common_steps) in
    let none : sign_of (get_or text 0 0) (get_or text 1 0) ≡ None = grind (arith, common_steps) in
    inl (refl, none_first text (grind (arith, common_steps)) c.requires digits c.if-starts_with_name.ensures none)

-- a digit is ASCII, and so the text may be cut behind it
pub returns-in-Some-clause-boundary : goal.returns-in-Some-clause-boundary
returns-in-Some-clause-boundary c =
    let text = c.args.text.now in
    let n = c.digit_len-digits.result in
    let run : n ≡ prefix_len is_ascii_digit text = grind (arith, common_steps) in
    let digit = prefix_len_passes is_ascii_digit text (n - 1) 0 (omega (arith, run, c.if-digits-gt0.true)) in
    let low : get_or text (n - 1) 0 < 128 = grind (arith, nat_tests) in
    let next : n - 1 + 1 ≡ n = omega (arith, c.if-digits-gt0.true) in
    subst (IsCharBoundary text) next (IsCharBoundary-after_ascii text (n - 1) c.utf8.text (omega arith) low)

-- and behind a sign
pub returns-in-Some-sign_of-clause-boundary : goal.returns-in-Some-sign_of-clause-boundary
returns-in-Some-sign_of-clause-boundary c =
    let text = c.args.text.now in
    let n = c.in-Some-sign_of.len in
    let found : Sign × ℕ = (c.in-Some-sign_of.sign, n) in
    let told : sign_of (get_or text 0 0) (get_or text 1 0) ≡ Some found = grind (arith, common_steps) in
    let stands = sign_first text found told in
    let low = sign_ascii text found told in
    let next : n - 1 + 1 ≡ n = omega (arith, stands.0) in
    subst (IsCharBoundary text) next (IsCharBoundary-after_ascii text (n - 1) c.utf8.text (omega (
      arith,
      stands.0,
      stands.1,
    )) low)
