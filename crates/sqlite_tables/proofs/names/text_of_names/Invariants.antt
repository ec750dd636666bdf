use Rattle.std.proofs.Common.{◌≡◌, take}
use Rattle.sqlite_tables.specs.Names.{names_text}
use Rattle.sqlite_tables.proofs.names.text_of_names.Given as goal

-- the names so far are written
abbrev pub invariant-loop-name : goal.invariant-loop-name
invariant-loop-name l = l.text.items ≡ names_text (take l.name-index l.names)
