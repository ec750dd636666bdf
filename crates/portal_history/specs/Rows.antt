-- The bytes of rows that a call of the permission store carries.
use Rattle.std.specs.Prelude.{ℕ, ◌+◌, length}
use Rattle.portal_model.specs.declared.records.Row.{Row}
use Rattle.portal_model.specs.History.{texts_bytes}

-- those of the application's key and of its permissions
abbrev pub row_bytes : Row → ℕ
row_bytes row = length row.app + texts_bytes row.names
