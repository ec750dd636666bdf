use Rattle.std.proofs.Common.{Ok, Err, arith}
use Rattle.dbus_types.specs.declared.errors.SignatureError.TheVariants.{BadSignature}
use Rattle.dbus_types.proofs.OneTypeRead.{read_alone, read_second, read_stops, reads_single, single_only}
use Rattle.dbus_types.proofs.signature.read_single.Goals as goal

pub returns-then-end-text : goal.returns-then-end-text
returns-then-end-text c =
    let g = read_second c.in-Ok.kind c.args.text.now c.in-Ok.end (omega arith) c.in-Ok.ensures.read in
    let r = Err (BadSignature c.in-Ok.end) in
    record { reading = reads_single c.args.text.now r g; only = single_only c.args.text.now r g }

pub returns-else-end-text : goal.returns-else-end-text
returns-else-end-text c =
    let g = read_alone c.in-Ok.kind c.args.text.now c.in-Ok.end (omega arith) c.in-Ok.ensures.read in
    let r = Ok c.in-Ok.kind in
    record { reading = reads_single c.args.text.now r g; only = single_only c.args.text.now r g }

pub returns-in-Err : goal.returns-in-Err
returns-in-Err c =
    let g = read_stops c.args.text.now c.in-Err.error c.in-Err.ensures.read in
    let r = Err c.in-Err.error in
    record { reading = reads_single c.args.text.now r g; only = single_only c.args.text.now r g }
