use Rattle.dbus_marshal.proofs.Signatures.{single_bad, single_deep}
use Rattle.dbus_marshal.proofs.signature.type_at.Goals as goal

pub returns-in-Err-BadSignature : goal.returns-in-Err-BadSignature
returns-in-Err-BadSignature c = single_bad c.args.at c.in-Err-BadSignature.stop c.args.text.now c.in-Err-BadSignature.field-0 c.in-Err-BadSignature.field-0-is c.in-Err-BadSignature.ensures.reading

pub returns-in-Err-TooDeep : goal.returns-in-Err-TooDeep
returns-in-Err-TooDeep c = single_deep c.args.at c.in-Err-TooDeep.stop c.args.text.now c.in-Err-TooDeep.field-0 c.in-Err-TooDeep.field-0-is c.in-Err-TooDeep.ensures.reading
