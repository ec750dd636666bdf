use Rattle.std.proofs.Common.{◌+◌}
use Rattle.dbus_values.specs.Spells.{gap}
use Rattle.store_data.proofs.WalkedLeaves.{assoc, stands-at}
use Rattle.store_data.proofs.values.number_end.Goals as goal

pub returns : goal.returns
returns c passed at h =
    let width = c.args.width in
    let ahead = gap width at in
    stands-at ((passed + ahead) + width) (passed + (ahead + width)) ((at + ahead) + width) (at + (ahead + width)) c.passing.result (assoc passed ahead width) (assoc at ahead width) (c.passing.ensures (passed + ahead) (at + ahead) (c.padded.ensures passed at h))
