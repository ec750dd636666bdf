use Rattle.std.proofs.Common.{◌≡◌, map, take}
use Rattle.std.specs.Prelude.{All, IsUtf8}
use Rattle.dbus_types.specs.declared.types.Value.TheVariants as V
use Rattle.dbus_dispatch.proofs.body.each_text.Given as goal

-- each text so far is a value, and in UTF-8
abbrev pub invariant-loop-text : goal.invariant-loop-text
invariant-loop-text l = record {
  told : l.values ≡ map (λ t. V.Str t) (take l.text-index l.texts);
  utf8 : All IsUtf8 (take l.text-index l.texts);
}
