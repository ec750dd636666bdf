use Rattle.dbus_marshal.proofs.Signatures.{checked_bad, checked_deep}
use Rattle.dbus_marshal.proofs.signature.check_at.Goals as goal

pub returns-in-Err-BadSignature : goal.returns-in-Err-BadSignature
returns-in-Err-BadSignature c = checked_bad c.args.at c.in-Err-BadSignature.stop c.args.text.now c.requires.short c.in-Err-BadSignature.field-0 c.in-Err-BadSignature.field-0-is c.in-Err-BadSignature.ensures.checked

pub returns-in-Err-TooDeep : goal.returns-in-Err-TooDeep
returns-in-Err-TooDeep c = checked_deep c.args.at c.in-Err-TooDeep.stop c.args.text.now c.requires.short c.in-Err-TooDeep.field-0 c.in-Err-TooDeep.field-0-is c.in-Err-TooDeep.ensures.checked
