use Rattle.std.proofs.lemmas.Result.{on_ok_weaker}
use Rattle.dbus_types.specs.declared.types.Endian.TheVariants.{Little}
use Rattle.dbus_values.proofs.SpelledType.{spelled_kind}
use Rattle.dbus_marshal.proofs.PiecesJoined.{variant_whole, struct_whole, entry_whole}
use Rattle.dbus_marshal.proofs.write.+write.Goals as goal

pub write-returns-in_ok-put_signature-in-Variant-clause-ok : goal.write-returns-in_ok-put_signature-in-Variant-clause-ok
write-returns-in_ok-put_signature-in-Variant-clause-ok t c = on_ok_weaker c.write.result (λ h. variant_whole Little c.args.out.now c.put_signature.new.out c.write.new.out c.args.value.now c.in-Variant.inner c.in-Variant.is (rw (spelled_kind Little c.in-Variant.inner, ← c.get.ensures) c.in_ok-put_signature-in-Variant.ensures.ok) (rw (← c.get-in-Variant.ensures) h)) c.write.ensures.ok

pub write-returns-in_ok-pad-in-Struct-clause-ok : goal.write-returns-in_ok-pad-in-Struct-clause-ok
write-returns-in_ok-pad-in-Struct-clause-ok t c = on_ok_weaker c.write_all.result (λ h. struct_whole Little c.args.out.now c.pad.new.out c.write_all.new.out c.args.value.now c.in-Struct.members c.in-Struct.is c.in_ok-pad-in-Struct.ensures.ok (rw (← c.as_slice-in-Struct.ensures) h)) c.write_all.ensures.ok

pub write-returns-in_ok-write-in-DictEntry-clause-ok : goal.write-returns-in_ok-write-in-DictEntry-clause-ok
write-returns-in_ok-write-in-DictEntry-clause-ok t c = on_ok_weaker c.write-in-DictEntry-2.result (λ h. entry_whole Little c.args.out.now c.pad-in-DictEntry.new.out c.write-in-DictEntry.new.out c.write-in-DictEntry-2.new.out c.args.value.now c.in-DictEntry.key c.in-DictEntry.value c.in-DictEntry.is
    c.in_ok-pad-in-DictEntry.ensures.ok (rw (← c.get-in-DictEntry.ensures) c.in_ok-write-in-DictEntry.ensures.ok) (rw (← c.get-in-DictEntry-2.ensures) h)) c.write-in-DictEntry-2.ensures.ok
