use Rattle.std.proofs.Common.{◌∙◌, Ok, ap, length, map, refl, sym, arith}
use Rattle.dbus_types.specs.declared.types.Value.TheVariants as V
use Rattle.dbus_types.specs.declared.types.WireType.TheVariants as W
use Rattle.std.proofs.lemmas.Bool.{true≢false}
use Rattle.dbus_values.proofs.PackedBytes.{none_there}
use Rattle.dbus_marshal.specs.Reads.{elements, reads}
use Rattle.dbus_marshal.proofs.Bytes.{bytes_read, no_bytes, some_deep}
use Rattle.dbus_marshal.proofs.read.read_bytes.Goals as goal

pub returns-then-depth-gt0 : goal.returns-then-depth-gt0
returns-then-depth-gt0 c endian =
    bytes_read (length c.args.bytes.now) c.args.depth endian W.Byte c.args.at c.args.bytes.now (λ z. omega (arith, z, c.if-depth-gt0.true)) refl (omega arith)
    ∙ ap (λ bytes. Ok (map (λ n. V.Byte n) bytes)) (sym c.in_ok-copied.ensures)

pub returns-then-is_empty : goal.returns-then-is_empty
returns-then-is_empty c endian =
    ap (λ bytes. elements (length bytes) (reads c.args.depth endian W.Byte) c.args.at bytes) ((none_there c.is_empty.result c.args.bytes.now c.is_empty.ensures).0 (cc))
    ∙ (no_bytes 0 (reads c.args.depth endian W.Byte) c.args.at ∙ ap (λ bytes. Ok (map (λ n. V.Byte n) bytes)) (sym c.new.ensures))

pub returns : goal.returns
returns c endian = some_deep c.args.depth endian W.Byte c.args.at c.args.bytes.now (omega (arith, c.if-depth-gt0.false)) (λ e. true≢false (sym ((none_there c.is_empty.result c.args.bytes.now c.is_empty.ensures).1 e) ∙ c.if-is_empty.false))
