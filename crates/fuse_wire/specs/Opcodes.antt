-- The opcodes of requests: enum fuse_opcode of include/uapi/linux/fuse.h.
use Rattle.std.specs.Prelude.{ℕ, ◌==◌, if◌then◌else◌}
use Rattle.fuse_wire.specs.declared.opcode.Opcode.{Opcode}
use Rattle.fuse_wire.specs.declared.opcode.Opcode.TheVariants.{Lookup, Forget, GetAttr, SetAttr, MkNod, MkDir, Unlink, RmDir, Rename, Open, Read, Write, Statfs, Release, Fsync, Flush, Init, OpenDir, ReadDir, ReleaseDir, Access, Create, Interrupt, Destroy, BatchForget, Rename2, Other}

-- the opcode of a number
abbrev pub opcode_of : ℕ → Opcode
opcode_of number =
    if number == 1 then Lookup
    else if number == 2 then Forget
    else if number == 3 then GetAttr
    else if number == 4 then SetAttr
    else if number == 8 then MkNod
    else if number == 9 then MkDir
    else if number == 10 then Unlink
    else if number == 11 then RmDir
    else if number == 12 then Rename
    else if number == 14 then Open
    else if number == 15 then Read
    else if number == 16 then Write
    else if number == 17 then Statfs
    else if number == 18 then Release
    else if number == 20 then Fsync
    else if number == 25 then Flush
    else if number == 26 then Init
    else if number == 27 then OpenDir
    else if number == 28 then ReadDir
    else if number == 29 then ReleaseDir
    else if number == 34 then Access
    else if number == 35 then Create
    else if number == 36 then Interrupt
    else if number == 38 then Destroy
    else if number == 42 then BatchForget
    else if number == 45 then Rename2
    else Other
