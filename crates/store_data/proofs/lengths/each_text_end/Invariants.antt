use Rattle.std.proofs.Common.{◌≡◌, ◌+◌, drop, map}
use Rattle.dbus_values.specs.Spelling.{spelled_lengths}
use Rattle.dbus_types.specs.declared.types.Value.TheVariants as V
use Rattle.store_data.proofs.lengths.each_text_end.Given as goal

-- what is passed and what is left come to the whole
abbrev pub invariant-loop-text : goal.invariant-loop-text
invariant-loop-text l = l.end + spelled_lengths l.end (map (λ t. V.Str t) (drop l.text-index l.texts)) ≡ l.at + spelled_lengths l.at (map (λ t. V.Str t) l.texts)
