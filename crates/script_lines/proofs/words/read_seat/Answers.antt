use Rattle.std.proofs.Common.{inl, inr, arith}
use Rattle.script_lines.proofs.WordFacts.{no_seat_of, no_seat_text}
use Rattle.script_lines.proofs.words.read_seat.Goals as goal

pub returns-in_default : goal.returns-in_default
returns-in_default c = no_seat_text c.args.word.now c.in_default.ensures

pub returns-then-number-eq0 : goal.returns-then-number-eq0
returns-then-number-eq0 c = no_seat_of c.args.word.now c.in-Some.number c.in-Some.ensures.0 c.in-Some.ensures.1 (inl c.if-number-eq0.true)

pub returns-then-number-gt-LAST_SEAT : goal.returns-then-number-gt-LAST_SEAT
returns-then-number-gt-LAST_SEAT c = no_seat_of c.args.word.now c.in-Some.number c.in-Some.ensures.0 c.in-Some.ensures.1 (inr c.if-number-gt-LAST_SEAT.true)

pub returns : goal.returns
returns c =
    let some = c.if-number-eq0.false in
    let few = c.if-number-gt-LAST_SEAT.false in
    record { low = omega arith; high = omega arith; same = c.in-Some.ensures.1 }
