use Rattle.std.proofs.Common.{refl}
use Rattle.script_lines.proofs.RowFacts.{no_row, row_halves}
use Rattle.script_lines.proofs.rows.read_row.Goals as goal

pub returns-in_default : goal.returns-in_default
returns-in_default c = λ row is same. no_row c.args.word.now c.in_default.ensures row same

pub returns-in_default-2 : goal.returns-in_default-2
returns-in_default-2 c = λ row is same.
    let halves = row_halves c.args.word.now c.in-Some.key.now c.in-Some.names.now row c.in-Some.ensures is same in
    let none = rw c.in_default-2.is at c.in_ok-app.ensures in
    absurd (cc (rw halves.0 at none, is.key))

pub returns-in_default-3 : goal.returns-in_default-3
returns-in_default-3 c = λ row is same.
    let halves = row_halves c.args.word.now c.in-Some.key.now c.in-Some.names.now row c.in-Some.ensures is same in
    (rw c.in_default-3.is at c.in_ok-names.ensures) row.names (record { some = is.some; each = is.names; same = halves.1 })

pub returns : goal.returns
returns c =
    let key = rw c.in-Some-2.is at c.in_ok-app.ensures in
    let names = rw c.in-Some-3.is at c.in_ok-names.ensures in
    (record { key = rw key.0 key.1; some = names.some; names = names.each }, rw (c.in-Some.ensures.whole, key.0, ← names.same) refl)
