-- The frames of the load, by include/uapi/linux/fuse.h. What no field is said to hold is 0.
use Rattle.std.specs.Prelude.{ℕ, ◌+◌, ◌*◌, List, [], ◌∷◌, ◌++◌, length, replicate}
use Rattle.fuse_reply.specs.declared.field.Field.{Field}
use Rattle.fuse_reply.specs.declared.field.Field.TheVariants.{Four, Eight}
use Rattle.fuse_reply.specs.Fields.{spelled}
use Rattle.fuse_wire.specs.Frames.{header_len}
use Rattle.portal_base.specs.Names.{doc_text}
use Rattle.portal_model.specs.Place.{file_node, root_node}
use Rattle.portal_load.specs.declared.draw.Asked.{Asked}
use Rattle.portal_load.specs.declared.draw.Asked.TheVariants.{Lookup, GetAttr, Open, Read, Write, Release, Rights}
use Rattle.portal_load.specs.declared.draw.Draw.{Draw}

-- the user and the group that ask, and the process
abbrev pub uid : ℕ
uid = 1000

abbrev pub gid : ℕ
gid = 1000

abbrev pub pid : ℕ
pid = 1

-- struct fuse_in_header: len, opcode, unique, nodeid, uid, gid, pid, padding
abbrev pub fuse_in_header : ℕ → ℕ → ℕ → ℕ → List Field
fuse_in_header len opcode unique nodeid = Four len ∷ Four opcode ∷ Eight unique ∷ Eight nodeid
    ∷ Four uid ∷ Four gid ∷ Four pid ∷ Four 0 ∷ []

-- the header and the body; len counts both
abbrev pub frame_of : ℕ → ℕ → ℕ → List ℕ → List ℕ
frame_of opcode unique nodeid body =
    spelled (fuse_in_header (header_len + length body) opcode unique nodeid) ++ body

-- ---- enum fuse_opcode

abbrev pub opcode_of : Asked → ℕ
opcode_of Lookup = 1
opcode_of GetAttr = 3
opcode_of Open = 14
opcode_of Read = 15
opcode_of Write = 16
opcode_of Release = 18
opcode_of Rights = 0

-- ---- what is asked of

-- a document is looked up in the root; its file is asked for attributes and opened; what goes by a
-- handle names no node
abbrev pub node_of : Asked → ℕ → ℕ
node_of Lookup document = root_node 0
node_of GetAttr document = file_node 0 document
node_of Open document = file_node 0 document
node_of asked document = 0

-- ---- bodies

-- O_RDWR of fcntl.h
abbrev pub read_write : ℕ
read_write = 2

-- struct fuse_getattr_in: getattr_flags, dummy, fh
abbrev pub getattr_in : List Field
getattr_in = Four 0 ∷ Four 0 ∷ Eight 0 ∷ []

-- struct fuse_open_in: flags, open_flags
abbrev pub open_in : List Field
open_in = Four read_write ∷ Four 0 ∷ []

-- struct fuse_read_in: fh, offset, size, read_flags, lock_owner, flags, padding; struct
-- fuse_write_in has the same fields
abbrev pub read_in : ℕ → ℕ → ℕ → List Field
read_in fh offset size = Eight fh ∷ Eight offset ∷ Four size ∷ Four 0 ∷ Eight 0 ∷ Four 0 ∷ Four 0
    ∷ []

-- struct fuse_release_in: fh, flags, release_flags, lock_owner
abbrev pub release_in : ℕ → List Field
release_in fh = Eight fh ∷ Four 0 ∷ Four 0 ∷ Eight 0 ∷ []

-- how much is read at once, and how much written, in bytes
abbrev pub read_size : ℕ
read_size = 4096

abbrev pub write_size : ℕ
write_size = 16

-- A handle has the number of its place, counted from 1. It is read at its start; at four times the
-- place zero bytes are written.
abbrev pub body_of : Asked → Draw → List ℕ
body_of Lookup draw = doc_text draw.document ++ 0 ∷ []
body_of GetAttr draw = spelled getattr_in
body_of Open draw = spelled open_in
body_of Read draw = spelled (read_in (draw.place + 1) 0 read_size)
body_of Write draw = spelled (read_in (draw.place + 1) (4 * draw.place) write_size)
    ++ replicate write_size 0
body_of Release draw = spelled (release_in (draw.place + 1))
body_of Rights draw = []

-- the frame of a request, whose number is its unique
abbrev pub frame_asked : ℕ → Draw → List ℕ
frame_asked request draw = frame_of (opcode_of draw.asked) request
    (node_of draw.asked draw.document) (body_of draw.asked draw)
