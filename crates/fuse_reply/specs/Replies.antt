-- The frames of FUSE replies, by include/uapi/linux/fuse.h. What no field is said to hold is 0.
use Rattle.std.specs.Prelude.{ℕ, ◌+◌, ◌-◌, ◌%◌, ◌^◌, List, [], ◌∷◌, ◌++◌, length, Bool, true, false, Option, Some, None, if◌then◌else◌}
use Rattle.fuse_reply.specs.declared.field.Field.{Field}
use Rattle.fuse_reply.specs.declared.field.Field.TheVariants.{Two, Four, Eight}
use Rattle.fuse_reply.specs.Dirents.{dirents}
use Rattle.fuse_reply.specs.Fields.{spelled}
use Rattle.portal_model.specs.declared.reply.Attr.{Attr}
use Rattle.portal_model.specs.declared.reply.NodeAnswer.{NodeAnswer}

-- struct fuse_out_header: len, error, unique
abbrev pub fuse_out_header : ℕ → ℕ → ℕ → List Field
fuse_out_header len error unique = Four len ∷ Four error ∷ Eight unique ∷ []

-- the length of struct fuse_out_header, in bytes
abbrev pub header_len : ℕ
header_len = 16

-- the header and the body; len counts both, as a number of 32 bits
abbrev pub frame_of : ℕ → ℕ → List ℕ → List ℕ
frame_of error unique body = spelled (fuse_out_header
    ((header_len + length body) % 2 ^ 32) error unique) ++ body

-- an error is a signed number below 0, in two's complement
abbrev pub negated : ℕ → ℕ
negated errno = (2 ^ 32 - errno) % 2 ^ 32

-- struct fuse_attr: ino, size, blocks, atime, mtime, ctime, then the three parts below a second,
-- mode, nlink, uid, gid, rdev, blksize, flags
abbrev pub fuse_attr : Attr → List Field
fuse_attr a =
    Eight a.node ∷ Eight a.size ∷ Eight a.blocks ∷ Eight a.moment ∷ Eight a.moment ∷ Eight a.moment
    ∷ Four 0 ∷ Four 0 ∷ Four 0
    ∷ Four a.mode ∷ Four a.links ∷ Four a.uid ∷ Four a.gid ∷ Four 0 ∷ Four a.block_size ∷ Four 0
    ∷ []

-- struct fuse_entry_out: nodeid, generation, entry_valid, attr_valid, the two parts below a second,
-- attr
abbrev pub fuse_entry_out : Attr → List Field
fuse_entry_out a = Eight a.node ∷ Eight 0 ∷ Eight 0 ∷ Eight 0 ∷ Four 0 ∷ Four 0 ∷ fuse_attr a

-- struct fuse_attr_out: attr_valid, attr_valid_nsec, dummy, attr
abbrev pub fuse_attr_out : Attr → List Field
fuse_attr_out a = Eight 0 ∷ Four 0 ∷ Four 0 ∷ fuse_attr a

-- struct fuse_open_out: fh, open_flags, padding
abbrev pub fuse_open_out : ℕ → List Field
fuse_open_out fh = Eight fh ∷ Four 0 ∷ Four 0 ∷ []

-- struct fuse_write_out: size, padding
abbrev pub fuse_write_out : ℕ → List Field
fuse_write_out size = Four size ∷ Four 0 ∷ []

-- what there is room for: blocks of this size, this many of them, nodes, and bytes of a name
abbrev pub block_size : ℕ
block_size = 4096

abbrev pub blocks : ℕ
blocks = 1073741824

abbrev pub nodes : ℕ
nodes = 1048576

abbrev pub name_length : ℕ
name_length = 255

-- struct fuse_kstatfs: blocks, bfree, bavail, files, ffree, bsize, namelen, frsize, padding,
-- spare[6]
abbrev pub fuse_kstatfs : List Field
fuse_kstatfs =
    Eight blocks ∷ Eight blocks ∷ Eight blocks ∷ Eight nodes ∷ Eight nodes
    ∷ Four block_size ∷ Four name_length ∷ Four block_size ∷ Four 0
    ∷ Four 0 ∷ Four 0 ∷ Four 0 ∷ Four 0 ∷ Four 0 ∷ Four 0 ∷ []

-- max_pages, map_alignment, unused[8]
abbrev pub init_rest : List Field
init_rest = Two 0 ∷ Two 0 ∷ Four 0 ∷ Four 0 ∷ Four 0 ∷ Four 0 ∷ Four 0 ∷ Four 0 ∷ Four 0 ∷ Four 0
    ∷ []

-- struct fuse_init_out: major, minor, max_readahead, flags, max_background, congestion_threshold,
-- max_write, time_gran, and the rest
abbrev pub fuse_init_out : ℕ → ℕ → ℕ → ℕ → ℕ → ℕ → ℕ → ℕ → List Field
fuse_init_out major minor readahead flags background congestion max_write time_gran =
    Four major ∷ Four minor ∷ Four readahead ∷ Four flags ∷ Two background ∷ Two congestion
    ∷ Four max_write
    ∷ Four time_gran ∷ init_rest

-- the error that a header tells; 0 is none
abbrev pub error_of : NodeAnswer → ℕ
error_of (NodeAnswer.Error errno) = negated errno
error_of told = 0

-- what stands behind the header
abbrev pub body_of : NodeAnswer → List ℕ
body_of (NodeAnswer.Entry a) = spelled (fuse_entry_out a)
body_of (NodeAnswer.Attr a) = spelled (fuse_attr_out a)
body_of (NodeAnswer.Opened fh) = spelled (fuse_open_out fh)
body_of (NodeAnswer.Created a fh) = spelled (fuse_entry_out a) ++ spelled (fuse_open_out fh)
body_of (NodeAnswer.Content content) = content
body_of (NodeAnswer.Written size) = spelled (fuse_write_out size)
body_of (NodeAnswer.Names names offset size) = dirents names offset size
body_of NodeAnswer.Empty = []
body_of NodeAnswer.Quiet = []
body_of (NodeAnswer.Error errno) = []
body_of (NodeAnswer.Init major minor readahead flags background congestion max_write time_gran) =
    spelled (fuse_init_out major minor readahead flags background congestion max_write time_gran)
body_of NodeAnswer.Statfs = spelled fuse_kstatfs

abbrev pub is_quiet : NodeAnswer → Bool
is_quiet NodeAnswer.Quiet = true
is_quiet told = false

-- the frame that carries an answer; a quiet one has none
abbrev pub reply_of : ℕ → NodeAnswer → Option (List ℕ)
reply_of unique told = if is_quiet told then None
    else Some (frame_of (error_of told) unique (body_of told))
