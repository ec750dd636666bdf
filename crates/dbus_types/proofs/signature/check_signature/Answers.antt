use Rattle.std.proofs.Common.{arith, sym}
use Rattle.dbus_types.proofs.WholeSignatures.{short_checked, long_stopped, long_passed, cut_len}
use Rattle.dbus_types.proofs.signature.check_signature.Goals as goal

pub returns-then-text-le-LONGEST : goal.returns-then-text-le-LONGEST
returns-then-text-le-LONGEST c = record { checked = short_checked c.args.text.now c.check_list.result (omega arith) c.check_list.ensures }

pub slice_bounds-check_list-end : goal.slice_bounds-check_list-end
slice_bounds-check_list-end c = sym (cut_len c.args.text.now (omega arith))

pub check_list-requires-2 : goal.check_list-requires-2
check_list-requires-2 c = record { short = omega (arith, cut_len c.args.text.now (omega arith)) }

pub returns-in-Err : goal.returns-in-Err
returns-in-Err c = record { checked = long_stopped c.args.text.now c.in-Err.error (omega arith) c.in-Err.ensures }

pub returns-in-Ok : goal.returns-in-Ok
returns-in-Ok c = record { checked = long_passed c.args.text.now (omega arith) c.in-Ok.ensures }
