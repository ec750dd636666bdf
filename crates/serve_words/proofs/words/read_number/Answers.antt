use Rattle.std.proofs.Common.{rules, ◌≡◌, ℕ, true, false, Ok, Err}
use Rattle.std.specs.Str.Parse.{ParsesUnsigned}
use Rattle.serve_words.specs.Digits.{are_digits_in}
use Rattle.serve_words.proofs.Numbers.{no_digits, no_number, number_fits, number_read}
use Rattle.serve_words.proofs.words.read_number.Goals as goal

pub returns-then-not-are_digits : goal.returns-then-not-are_digits
returns-then-not-are_digits c =
    let other : are_digits_in c.args.word.now ≡ false = search rules in
    no_digits c.args.word.now other

pub returns-in-Ok : goal.returns-in-Ok
returns-in-Ok c =
    let digits : are_digits_in c.args.word.now ≡ true = search rules in
    let parsed : ParsesUnsigned {E = ℕ} 64 10 c.args.word.now (Ok c.in-Ok.number) = c.in-Ok.ensures.value.0 in
    (number_fits ℕ c.args.word.now c.in-Ok.number parsed, number_read ℕ c.args.word.now c.in-Ok.number digits parsed)

pub returns-in-Err : goal.returns-in-Err
returns-in-Err c =
    let parsed : ParsesUnsigned {E = ℕ} 64 10 c.args.word.now (Err 0) = c.in-Err.ensures.value.0 in
    no_number {E = ℕ} c.args.word.now 0 parsed
