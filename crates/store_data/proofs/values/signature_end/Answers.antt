use Rattle.std.proofs.Common.{◌≡◌, ◌+◌, ◌-◌, length, arith}
use Rattle.dbus_types.specs.Types.{type_text}
use Rattle.dbus_values.specs.Values.{type_of}
use Rattle.portal_model.specs.Data.{is_variant_type}
use Rattle.store_data.proofs.WalkedLeaves.{stands-at, stops}
use Rattle.store_data.proofs.WalkedParts.{kind-passes, too-long-kind}
use Rattle.store_data.proofs.values.signature_end.Goals as goal

pub returns-in_err-left : goal.returns-in_err-left
returns-in_err-left c passed at k h =
    let inner = c.args.inner.now in
    let count = 1 + length (type_text (type_of inner)) + 1 in
    stops (is_variant_type (type_of inner)) (passed + count) (at + count) c.from_residual.result c.from_residual.ensures (too-long-kind inner c.in_err-left.ensures)

pub returns : goal.returns
returns c passed at k h =
    let inner = c.args.inner.now in
    let count = length (type_text (type_of inner)) in
    let left = c.in_ok-left.left in
    let whole : left + count ≡ 255 = c.in_ok-left.ensures in
    let far = 2 + (255 - left) in
    let p : passed + far ≡ passed + (1 + count + 1) = omega arith in
    let a : at + far ≡ at + (1 + count + 1) = omega arith in
    (kind-passes inner k (omega arith), stands-at (passed + far) (passed + (1 + count + 1)) (at + far) (at + (1 + count + 1)) c.passing.result p a (c.passing.ensures passed at h))
