use Rattle.std.proofs.Common.{◌≡◌, ◌++◌, length}
use Rattle.sqlite_tables.specs.Names.{names_text}
use Rattle.sqlite_tables.proofs.names.names_of_text.Given as goal

-- the text is that of the names so far, with the rest behind it
abbrev pub invariant-loop-name : goal.invariant-loop-name
invariant-loop-name l = names_text l.names.items ++ l.rest ≡ l.text

abbrev pub decreases-loop-name : goal.decreases-loop-name
decreases-loop-name l = length l.rest
