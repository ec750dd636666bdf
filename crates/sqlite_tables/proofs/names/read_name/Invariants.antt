use Rattle.std.proofs.Common.{◌≡◌, [], ◌∷◌, ◌++◌, cond, take}
use Rattle.sqlite_tables.specs.Names.{written}
use Rattle.sqlite_tables.proofs.names.read_name.Given as goal

-- what was read is written of the name so far, but for a backslash that begins a pair
abbrev pub invariant-loop-byte : goal.invariant-loop-byte
invariant-loop-byte l =
    written l.name.items ++ cond l.escaped (92 ∷ []) [] ≡ take l.byte-index l.written
