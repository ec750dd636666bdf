use Rattle.std.proofs.Common.{◌+◌}
use Rattle.store_data.proofs.WalkedLeaves.{bool-passes, byte-passes, double-passes, handle-passes, i16-passes, i32-passes, i64-passes, path-passes, signature-is, str-passes, text-so, u16-passes, u32-passes, u64-passes}
use Rattle.store_data.proofs.values.leaf_end.Goals as goal

pub returns-in-Byte : goal.returns-in-Byte
returns-in-Byte c passed at k h = byte-passes passed at c.in-Byte.field-0 c.args.value.now c.passing.result c.in-Byte.is k (c.passing.ensures passed at h)

pub returns-in-Bool : goal.returns-in-Bool
returns-in-Bool c passed at k h = bool-passes passed at c.in-Bool.field-0 c.args.value.now c.number_end.result c.in-Bool.is (c.number_end.ensures passed at h)

pub returns-in-I16 : goal.returns-in-I16
returns-in-I16 c passed at k h = i16-passes passed at c.in-I16.field-0 c.args.value.now c.number_end-in-I16.result c.in-I16.is k (c.number_end-in-I16.ensures passed at h)

pub returns-in-U16 : goal.returns-in-U16
returns-in-U16 c passed at k h = u16-passes passed at c.in-U16.field-0 c.args.value.now c.number_end-in-U16.result c.in-U16.is k (c.number_end-in-U16.ensures passed at h)

pub returns-in-I32 : goal.returns-in-I32
returns-in-I32 c passed at k h = i32-passes passed at c.in-I32.field-0 c.args.value.now c.number_end-in-I32.result c.in-I32.is k (c.number_end-in-I32.ensures passed at h)

pub returns-in-U32 : goal.returns-in-U32
returns-in-U32 c passed at k h = u32-passes passed at c.in-U32.field-0 c.args.value.now c.number_end-in-U32.result c.in-U32.is k (c.number_end-in-U32.ensures passed at h)

pub returns-in-I64 : goal.returns-in-I64
returns-in-I64 c passed at k h = i64-passes passed at c.in-I64.field-0 c.args.value.now c.number_end-in-I64.result c.in-I64.is k (c.number_end-in-I64.ensures passed at h)

pub returns-in-U64 : goal.returns-in-U64
returns-in-U64 c passed at k h = u64-passes passed at c.in-U64.field-0 c.args.value.now c.number_end-in-U64.result c.in-U64.is k (c.number_end-in-U64.ensures passed at h)

pub returns-in-Double : goal.returns-in-Double
returns-in-Double c passed at k h = double-passes passed at c.in-Double.field-0 c.args.value.now c.number_end-in-Double.result c.in-Double.is k (c.number_end-in-Double.ensures passed at h)

pub returns-in-Handle : goal.returns-in-Handle
returns-in-Handle c passed at k h = handle-passes passed at c.in-Handle.field-0 c.args.value.now c.number_end-in-Handle.result c.in-Handle.is k (c.number_end-in-Handle.ensures passed at h)

pub returns-in-Str : goal.returns-in-Str
returns-in-Str c passed at k h =
    str-passes passed at c.in-Str.text c.args.value.now c.text_end.result c.in-Str.is k
    (text-so passed at c.len.result c.in-Str.text c.text_end.result c.len.ensures (c.text_end.ensures passed at h))

pub returns-in-ObjectPath : goal.returns-in-ObjectPath
returns-in-ObjectPath c passed at k h =
    path-passes passed at c.in-ObjectPath.path c.args.value.now c.text_end-in-ObjectPath.result c.in-ObjectPath.is k
    (text-so passed at c.len-in-ObjectPath.result c.in-ObjectPath.path c.text_end-in-ObjectPath.result c.len-in-ObjectPath.ensures (c.text_end-in-ObjectPath.ensures passed at h))

pub returns-in-Signature : goal.returns-in-Signature
returns-in-Signature c passed at k h =
    signature-is passed at c.in-Signature.text c.len-count.result c.args.value.now c.passing-in-Signature-2.result c.in-Signature.is c.len-count.ensures k
    (c.passing-in-Signature-2.ensures (passed + c.len-count.result) (at + c.len-count.result) (c.passing-in-Signature.ensures passed at h))
