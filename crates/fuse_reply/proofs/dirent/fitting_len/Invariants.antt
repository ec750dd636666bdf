use Rattle.std.proofs.Common.{◌≡◌, ◌+◌, ◌-◌, ◌≤◌, drop, length}
use Rattle.fuse_reply.specs.Dirents.{dirents, fitting}
use Rattle.fuse_reply.proofs.dirent.fitting_len.Given as goal

-- the length so far and that of the entries that still fit are the whole length
abbrev pub invariant-loop-place : goal.invariant-loop-place
invariant-loop-place l = (l.left ≤ l.size)
    × ((l.size - l.left) + length (fitting (drop l.place l.names) l.place l.left) ≡ length (dirents l.names l.offset l.size))
