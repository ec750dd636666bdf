use Rattle.std.proofs.Common.{◌+◌, arith}
use Rattle.dbus_values.specs.Spells.{gap}
use Rattle.store_data.proofs.WalkedLeaves.{assoc, stands-at}
use Rattle.store_data.proofs.WalkedParts.{long-body, short-body}
use Rattle.store_data.proofs.values.bytes_end.Goals as goal

pub returns-then-count-gt-LONGEST_ARRAY : goal.returns-then-count-gt-LONGEST_ARRAY
returns-then-count-gt-LONGEST_ARRAY c passed at h = long-body c.args.count (omega arith)

pub returns : goal.returns
returns c passed at h =
    let ahead = gap 4 at in
    let n = 4 + c.args.count in
    (short-body c.args.count (omega arith), stands-at ((passed + ahead) + n) (passed + (ahead + n)) ((at + ahead) + n) (at + (ahead + n)) c.passing.result (assoc passed ahead n) (assoc at ahead n) (c.passing.ensures (passed + ahead) (at + ahead) (c.padded.ensures passed at h)))
