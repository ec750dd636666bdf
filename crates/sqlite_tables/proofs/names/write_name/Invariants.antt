use Rattle.std.proofs.Common.{◌≡◌, ◌++◌, take}
use Rattle.sqlite_tables.specs.Names.{written}
use Rattle.sqlite_tables.proofs.names.write_name.Given as goal

-- the bytes so far are written
abbrev pub invariant-loop-byte : goal.invariant-loop-byte
invariant-loop-byte l = l.text.items ≡ l.initial.text.items ++ written (take l.byte-index l.name)
