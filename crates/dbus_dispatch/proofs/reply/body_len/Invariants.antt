use Rattle.std.proofs.Common.{◌≡◌, ◌++◌, drop, length}
use Rattle.dbus_types.specs.declared.types.Endian.TheVariants.{Little}
use Rattle.dbus_values.specs.Spelling.{spellings}
use Rattle.dbus_dispatch.proofs.reply.body_len.Given as goal

-- what is written so far, and the rest behind it
abbrev pub invariant-loop-value : goal.invariant-loop-value
invariant-loop-value l = l.bytes ++ spellings Little (length l.bytes) (drop l.value-index l.body) ≡ spellings Little 0 l.body
