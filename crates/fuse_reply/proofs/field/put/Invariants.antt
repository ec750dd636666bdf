use Rattle.std.proofs.Common.{◌≡◌, ◌+◌, ◌≤◌, ◌++◌, drop, length, vec_capacity, vec_len}
use Rattle.fuse_reply.specs.Fields.{spelled}
use Rattle.fuse_reply.proofs.field.put.Given as goal

-- what stands there and what is to come, and no more of the room than that of both is gone
abbrev pub invariant-loop-field : goal.invariant-loop-field
invariant-loop-field l = record {
  items : l.bytes.items ++ spelled (drop l.field-index l.fields) ≡ l.fn.bytes.items ++ spelled l.fields;
  takes : vec_len l.bytes + length (spelled (drop l.field-index l.fields)) + vec_capacity l.fn.bytes ≤ vec_capacity l.bytes + (vec_len l.fn.bytes + length (spelled l.fields));
}
