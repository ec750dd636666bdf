use Rattle.std.proofs.Common.{◌≡◌, ◌+◌, ◌≤◌, ◌++◌, drop, length, vec_capacity, vec_len}
use Rattle.fuse_reply.specs.Dirents.{dirents, fitting}
use Rattle.fuse_reply.proofs.dirent.put_dirents.Given as goal

-- what stands there and what is to come, and no more of the room than that of both is gone
abbrev pub invariant-loop-place : goal.invariant-loop-place
invariant-loop-place l = record {
  items : l.bytes.items ++ fitting (drop l.place l.names) l.place l.left ≡ l.fn.bytes.items ++ dirents l.names l.offset l.size;
  takes : vec_len l.bytes + length (fitting (drop l.place l.names) l.place l.left) + vec_capacity l.fn.bytes ≤ vec_capacity l.bytes + (vec_len l.fn.bytes + length (dirents l.names l.offset l.size));
}
