use Rattle.std.proofs.Common.{sym, ◌∙◌}
use Rattle.script_lines.proofs.LineFacts.{entry_line, entry_cut, entry_cut_id, entry_cut_datum, no_table, no_entry_id, no_datum, entry_made, entry_read}
use Rattle.script_lines.proofs.RowFacts.{rows_same}
use Rattle.script_lines.proofs.SameFacts.{hex_same}
use Rattle.script_lines.proofs.line.read_entry.Goals as goal

pub returns-in_default : goal.returns-in_default
returns-in_default c = λ line rules same. no_table c.args.rest.now c.in_default.ensures (entry_line c.args.rest.now line rules same)

pub returns-in_default-cut : goal.returns-in_default-cut
returns-in_default-cut c = λ line rules same.
    no_entry_id c.args.rest.now _ _ (entry_line c.args.rest.now line rules same) c.in-Some.ensures c.in_default-cut.ensures

pub returns-in_default-cut-2 : goal.returns-in_default-cut-2
returns-in_default-cut-2 c = λ line rules same.
    no_datum c.args.rest.now _ _ _ _ (entry_line c.args.rest.now line rules same) c.in-Some.ensures c.in-Some-cut.ensures c.in_default-cut-2.ensures

pub returns-in_default-2 : goal.returns-in_default-2
returns-in_default-2 c = λ line rules same.
    let t = entry_line c.args.rest.now line rules same in
    let halves = entry_cut c.args.rest.now _ _ t c.in-Some.ensures in
    let none = rw c.in_default-2.is at c.in_ok-table.ensures in
    absurd (cc (rw halves.0 at none, t.rules.0.table))

pub returns-in_default-3 : goal.returns-in_default-3
returns-in_default-3 c = λ line rules same.
    let t = entry_line c.args.rest.now line rules same in
    let halves = entry_cut_id c.args.rest.now _ _ _ _ t c.in-Some.ensures c.in-Some-cut.ensures in
    let none = rw c.in_default-3.is at c.in_ok-id.ensures in
    absurd (cc (rw halves.0 at none, t.rules.0.id))

pub returns-in_default-4 : goal.returns-in_default-4
returns-in_default-4 c = λ line rules same.
    let t = entry_line c.args.rest.now line rules same in
    let halves = entry_cut_datum c.args.rest.now _ _ _ _ _ _ t c.in-Some.ensures c.in-Some-cut.ensures c.in-Some-cut-2.ensures in
    (rw c.in_default-4.is at c.in_ok-datum.ensures) t.entry.datum t.rules.0.bytes halves.0

pub returns-in_default-5 : goal.returns-in_default-5
returns-in_default-5 c = λ line rules same.
    let t = entry_line c.args.rest.now line rules same in
    let halves = entry_cut_datum c.args.rest.now _ _ _ _ _ _ t c.in-Some.ensures c.in-Some-cut.ensures c.in-Some-cut-2.ensures in
    (rw c.in_default-5.is at c.in_ok-rows.ensures) t.entry.rows (record { each = t.rules.0.rows; same = halves.1 })

pub returns : goal.returns
returns c =
    let table = rw c.in-Some-2.is at c.in_ok-table.ensures in
    let id = rw c.in-Some-3.is at c.in_ok-id.ensures in
    let bytes = rw c.in-Some-4.is at c.in_ok-datum.ensures in
    let rows = rw c.in-Some-5.is at c.in_ok-rows.ensures in
    entry_read _ c.sound_entry.result c.args.rest.now
    (record { table = c.in-Some-2.table; id = c.in-Some-3.id; datum = c.in-Some-4.datum; rows = c.in-Some-5.rows })
    c.sound_entry.ensures
    (record { table = rw table.0 table.1; id = rw id.0 id.1; bytes = bytes.0; rows = rows.each })
    (λ t.
    let one = entry_cut c.args.rest.now _ _ t c.in-Some.ensures in
    let two = entry_cut_id c.args.rest.now _ _ _ _ t c.in-Some.ensures c.in-Some-cut.ensures in
    let three = entry_cut_datum c.args.rest.now _ _ _ _ _ _ t c.in-Some.ensures c.in-Some-cut.ensures c.in-Some-cut-2.ensures in
    let tables = sym one.0 ∙ sym table.0 in
    let ids = sym two.0 ∙ sym id.0 in
    let same = hex_same t.entry.datum c.in-Some-4.datum t.rules.0.bytes bytes.0 (sym three.0 ∙ bytes.1) in
    let all = rows_same t.entry.rows c.in-Some-5.rows t.rules.0.rows rows.each (sym three.1 ∙ rows.same) in
    λ i. record { table = tables i; id = ids i; datum = same i; rows = all i })
    (entry_made c.args.rest.now _ _ _ _ _ _ _ c.in-Some.ensures c.in-Some-cut.ensures c.in-Some-cut-2.ensures table.0 id.0 bytes.1 rows.same)
