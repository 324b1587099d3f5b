use Rattle.std.proofs.Common.{rules, ◌≡◌, ◌<◌, ℕ, true, Result, Ok, Err, arith}
use Rattle.std.specs.declared.num.ParseIntError.{ParseIntError}
use Rattle.std.proofs.lemmas.Str.Parse.{parse_digits}
use Rattle.alg_tokens.specs.Pieces.{value_of}
use Rattle.alg_cli.specs.Commands.{is_number}
use Rattle.alg_cli.proofs.Numbers.{numerals, digits_of, some_of, asks_for, asks_for_none}
use Rattle.alg_cli.proofs.command.goals_of.Goals as goal

-- the number is not too great
pub returns-in-Ok-clause-goals : goal.returns-in-Ok-clause-goals
returns-in-Ok-clause-goals c =
    let word = c.args.word.now in
    let number : is_number word ≡ true = search rules in
    let read : Result ℕ ParseIntError = Ok c.in-Ok.goals in
    let parsed = parse_digits numerals 32 word read c.in-Ok.ensures.value.0 (digits_of word number) in
    let value : c.in-Ok.goals ≡ value_of word = parsed.1 in
    asks_for word number c.in-Ok.goals value (omega arith)

-- the number is too great
pub returns-in_default-clause-goals : goal.returns-in_default-clause-goals
returns-in_default-clause-goals c =
    let word = c.args.word.now in
    let number : is_number word ≡ true = search rules in
    let read : Result ℕ ParseIntError = Ok c.in-Ok.goals in
    let parsed = parse_digits numerals 32 word read c.in-Ok.ensures.value.0 (digits_of word number) in
    let value : c.in-Ok.goals ≡ value_of word = parsed.1 in
    asks_for_none word number (omega (arith, value))

-- and greater than any that is read
pub returns-in_default-2-clause-goals : goal.returns-in_default-2-clause-goals
returns-in_default-2-clause-goals c =
    let word = c.args.word.now in
    let number : is_number word ≡ true = search rules in
    let parsed =
    parse_digits numerals 32 word (Err c.in_default.field-0) c.in_default.ensures.value.0 (digits_of word number) in
    let great : ¬ (value_of word < 4294967296) = λ low. parsed (some_of word number, low) in
    asks_for_none word number (omega (arith, great))
