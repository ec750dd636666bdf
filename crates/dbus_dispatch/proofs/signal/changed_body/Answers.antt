use Rattle.std.proofs.Common.{subst}
use Rattle.std.specs.Prelude.{All}
use Rattle.dbus_dispatch.specs.Writable.{IsChangeInUtf8, IsRowInUtf8}
use Rattle.dbus_dispatch.proofs.Walked.{any_ok}
use Rattle.dbus_dispatch.proofs.signal.changed_body.Goals as goal

pub returns-clause-utf8 : goal.returns-clause-utf8
returns-clause-utf8 c =
    let front = c.in_ok-front.ensures in
    let told : IsChangeInUtf8 c.args.change.now = record {
      table = front.table;
      id = front.id;
      rows = subst (All IsRowInUtf8) c.as_slice.ensures c.in_ok-rows.ensures.utf8;
    } in
    any_ok (IsChangeInUtf8 c.args.change.now) c.with_content.result told
