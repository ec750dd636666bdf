use Rattle.std.proofs.Common.{ℕ, sym, Ok, Err}
use Rattle.std.specs.Str.Parse.{ParsesUnsigned}
use Rattle.script_lines.proofs.WordFacts.{number_read, number_fits, no_number, no_text, no_digits}
use Rattle.script_lines.proofs.words.read_number.Goals as goal

pub returns-then-not-are_digits : goal.returns-then-not-are_digits
returns-then-not-are_digits c = no_digits c.args.word.now (sym c.if-not-are_digits.ensures)

pub returns-in_default : goal.returns-in_default
returns-in_default c = no_text c.args.word.now c.in_default.ensures.cases.0

pub returns-in-Ok-parse : goal.returns-in-Ok-parse
returns-in-Ok-parse c =
    let parsed : ParsesUnsigned {E = ℕ} 64 10 c.in-Ok.text.now (Ok c.in-Ok-parse.number) = c.in-Ok-parse.ensures.value.0 in
    let of_word : ParsesUnsigned {E = ℕ} 64 10 c.args.word.now (Ok c.in-Ok-parse.number) = rw (← c.in-Ok.ensures.cases.0) parsed in
    (number_fits ℕ c.args.word.now c.in-Ok-parse.number of_word, number_read ℕ c.args.word.now c.in-Ok-parse.number (sym c.if-not-are_digits.ensures) of_word)

pub returns-in-Err : goal.returns-in-Err
returns-in-Err c =
    let parsed : ParsesUnsigned {E = ℕ} 64 10 c.in-Ok.text.now (Err 0) = c.in-Err.ensures.value.0 in
    let of_word : ParsesUnsigned {E = ℕ} 64 10 c.args.word.now (Err 0) = rw (← c.in-Ok.ensures.cases.0) parsed in
    no_number {E = ℕ} c.args.word.now 0 of_word
