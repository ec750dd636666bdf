-- The frames of FUSE requests, by include/uapi/linux/fuse.h. A frame is a list of bytes, and each
-- number in it is little-endian.
use Rattle.std.specs.Prelude.{ℕ, Bool, List, length, drop, nat_lt, ◌||◌, if◌then◌else◌}
use Rattle.byteorder.specs.Endian.{little_number}
use Rattle.fuse_wire.specs.declared.frame.InHeader.{InHeader}
use Rattle.portal_base.specs.declared.split.Split.{Split}
use Rattle.portal_base.specs.declared.split.Split.TheVariants.{More, Whole, Bad}

-- the number of so many bytes that stands at an offset of a frame
abbrev pub number_at : ℕ → ℕ → List ℕ → ℕ
number_at at width frame = little_number width (drop at frame)

-- the length of struct fuse_in_header, in bytes
abbrev pub header_len : ℕ
header_len = 40

-- the longest frame that is taken, in bytes
abbrev pub longest : ℕ
longest = 135168

-- the rule that a frame breaks which states another length
abbrev pub length_rule : ℕ
length_rule = 14

-- struct fuse_in_header: its fields at their offsets; two numbers of 16 bits follow, which are not
-- looked at
abbrev pub header_of : List ℕ → InHeader
header_of frame = record {
  len = number_at 0 4 frame;
  opcode = number_at 4 4 frame;
  unique = number_at 8 8 frame;
  nodeid = number_at 16 8 frame;
  uid = number_at 24 4 frame;
  gid = number_at 28 4 frame;
  pid = number_at 32 4 frame;
}

-- a length that no frame has: below that of a header, or above the longest
abbrev pub is_bad_len : ℕ → Bool
is_bad_len len = nat_lt len header_len || nat_lt longest len

-- what stands at the front of a stream: too few bytes for a header or for the length that it
-- states, a frame of that length, or a length that no frame has
abbrev pub split_of : List ℕ → Split
split_of bytes =
    if nat_lt (length bytes) header_len then More
    else if is_bad_len (header_of bytes).len then Bad length_rule
    else if nat_lt (length bytes) (header_of bytes).len then More
    else Whole (header_of bytes).len
