use Rattle.std.proofs.Common.{◌≡◌, map, take}
use Rattle.std.specs.Prelude.{All}
use Rattle.portal_model.specs.Changed.{row_value}
use Rattle.dbus_dispatch.specs.Writable.{IsRowInUtf8}
use Rattle.dbus_dispatch.proofs.body.rows_value.Given as goal

-- each row so far is a value, and in UTF-8
abbrev pub invariant-loop-row : goal.invariant-loop-row
invariant-loop-row l = record {
  told : l.items ≡ map row_value (take l.row-index l.rows);
  utf8 : All IsRowInUtf8 (take l.row-index l.rows);
}
