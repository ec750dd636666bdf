-- The bodies of requests: the structs of include/uapi/linux/fuse.h, field by field in their order,
-- each field at its offset from the end of the header.
use Rattle.std.specs.Prelude.{ℕ, zero, suc, ◌+◌, ◌*◌, ◌-◌, ◌==◌, ◌&&◌, nat_lt, List, [], ◌∷◌, length, take, drop, slice_index, Bool, not, Option, Some, None, if◌then◌else◌}
use Rattle.std.specs.List.{list_all, position}
use Rattle.std.specs.Option.{option_map}
use Rattle.fuse_wire.specs.declared.body.TwoNames.{TwoNames}
use Rattle.fuse_wire.specs.Frames.{number_at}
use Rattle.portal_model.specs.declared.request.ForgetItem.{ForgetItem}

-- struct fuse_forget_in
pub record ForgetIn : Type 0 where
  pub nlookup : ℕ

abbrev pub forget_in_len : ℕ
forget_in_len = 8

abbrev pub forget_in : List ℕ → ForgetIn
forget_in body = record { nlookup = number_at 0 8 body }

-- struct fuse_getattr_in
pub record GetAttrIn : Type 0 where
  pub getattr_flags : ℕ
  pub dummy : ℕ
  pub fh : ℕ

abbrev pub getattr_in_len : ℕ
getattr_in_len = 16

abbrev pub getattr_in : List ℕ → GetAttrIn
getattr_in body = record {
  getattr_flags = number_at 0 4 body;
  dummy = number_at 4 4 body;
  fh = number_at 8 8 body;
}

-- struct fuse_setattr_in
pub record SetAttrIn : Type 0 where
  pub valid : ℕ
  pub padding : ℕ
  pub fh : ℕ
  pub size : ℕ
  pub lock_owner : ℕ
  pub atime : ℕ
  pub mtime : ℕ
  pub ctime : ℕ
  pub atimensec : ℕ
  pub mtimensec : ℕ
  pub ctimensec : ℕ
  pub mode : ℕ
  pub unused4 : ℕ
  pub uid : ℕ
  pub gid : ℕ
  pub unused5 : ℕ

abbrev pub setattr_in_len : ℕ
setattr_in_len = 88

abbrev pub setattr_in : List ℕ → SetAttrIn
setattr_in body = record {
  valid = number_at 0 4 body;
  padding = number_at 4 4 body;
  fh = number_at 8 8 body;
  size = number_at 16 8 body;
  lock_owner = number_at 24 8 body;
  atime = number_at 32 8 body;
  mtime = number_at 40 8 body;
  ctime = number_at 48 8 body;
  atimensec = number_at 56 4 body;
  mtimensec = number_at 60 4 body;
  ctimensec = number_at 64 4 body;
  mode = number_at 68 4 body;
  unused4 = number_at 72 4 body;
  uid = number_at 76 4 body;
  gid = number_at 80 4 body;
  unused5 = number_at 84 4 body;
}

-- struct fuse_open_in
pub record OpenIn : Type 0 where
  pub flags : ℕ
  pub unused : ℕ

abbrev pub open_in_len : ℕ
open_in_len = 8

abbrev pub open_in : List ℕ → OpenIn
open_in body = record { flags = number_at 0 4 body; unused = number_at 4 4 body }

-- struct fuse_create_in; the name follows
pub record CreateIn : Type 0 where
  pub flags : ℕ
  pub mode : ℕ
  pub umask : ℕ
  pub padding : ℕ

abbrev pub create_in_len : ℕ
create_in_len = 16

abbrev pub create_in : List ℕ → CreateIn
create_in body = record {
  flags = number_at 0 4 body;
  mode = number_at 4 4 body;
  umask = number_at 8 4 body;
  padding = number_at 12 4 body;
}

-- struct fuse_rename_in; the old name follows, and then the new one
pub record RenameIn : Type 0 where
  pub newdir : ℕ

abbrev pub rename_in_len : ℕ
rename_in_len = 8

abbrev pub rename_in : List ℕ → RenameIn
rename_in body = record { newdir = number_at 0 8 body }

-- struct fuse_rename2_in; the names follow likewise
pub record Rename2In : Type 0 where
  pub newdir : ℕ
  pub flags : ℕ
  pub padding : ℕ

abbrev pub rename2_in_len : ℕ
rename2_in_len = 16

abbrev pub rename2_in : List ℕ → Rename2In
rename2_in body = record {
  newdir = number_at 0 8 body;
  flags = number_at 8 4 body;
  padding = number_at 12 4 body;
}

-- struct fuse_release_in
pub record ReleaseIn : Type 0 where
  pub fh : ℕ
  pub flags : ℕ
  pub release_flags : ℕ
  pub lock_owner : ℕ

abbrev pub release_in_len : ℕ
release_in_len = 24

abbrev pub release_in : List ℕ → ReleaseIn
release_in body = record {
  fh = number_at 0 8 body;
  flags = number_at 8 4 body;
  release_flags = number_at 12 4 body;
  lock_owner = number_at 16 8 body;
}

-- struct fuse_flush_in
pub record FlushIn : Type 0 where
  pub fh : ℕ
  pub unused : ℕ
  pub padding : ℕ
  pub lock_owner : ℕ

abbrev pub flush_in_len : ℕ
flush_in_len = 24

abbrev pub flush_in : List ℕ → FlushIn
flush_in body = record {
  fh = number_at 0 8 body;
  unused = number_at 8 4 body;
  padding = number_at 12 4 body;
  lock_owner = number_at 16 8 body;
}

-- struct fuse_read_in
pub record ReadIn : Type 0 where
  pub fh : ℕ
  pub offset : ℕ
  pub size : ℕ
  pub read_flags : ℕ
  pub lock_owner : ℕ
  pub flags : ℕ
  pub padding : ℕ

abbrev pub read_in_len : ℕ
read_in_len = 40

abbrev pub read_in : List ℕ → ReadIn
read_in body = record {
  fh = number_at 0 8 body;
  offset = number_at 8 8 body;
  size = number_at 16 4 body;
  read_flags = number_at 20 4 body;
  lock_owner = number_at 24 8 body;
  flags = number_at 32 4 body;
  padding = number_at 36 4 body;
}

-- struct fuse_write_in; the content follows
pub record WriteIn : Type 0 where
  pub fh : ℕ
  pub offset : ℕ
  pub size : ℕ
  pub write_flags : ℕ
  pub lock_owner : ℕ
  pub flags : ℕ
  pub padding : ℕ

abbrev pub write_in_len : ℕ
write_in_len = 40

abbrev pub write_in : List ℕ → WriteIn
write_in body = record {
  fh = number_at 0 8 body;
  offset = number_at 8 8 body;
  size = number_at 16 4 body;
  write_flags = number_at 20 4 body;
  lock_owner = number_at 24 8 body;
  flags = number_at 32 4 body;
  padding = number_at 36 4 body;
}

-- struct fuse_fsync_in
pub record FsyncIn : Type 0 where
  pub fh : ℕ
  pub fsync_flags : ℕ
  pub padding : ℕ

abbrev pub fsync_in_len : ℕ
fsync_in_len = 16

abbrev pub fsync_in : List ℕ → FsyncIn
fsync_in body = record {
  fh = number_at 0 8 body;
  fsync_flags = number_at 8 4 body;
  padding = number_at 12 4 body;
}

-- struct fuse_access_in
pub record AccessIn : Type 0 where
  pub mask : ℕ
  pub padding : ℕ

abbrev pub access_in_len : ℕ
access_in_len = 8

abbrev pub access_in : List ℕ → AccessIn
access_in body = record { mask = number_at 0 4 body; padding = number_at 4 4 body }

-- struct fuse_batch_forget_in; the nodes follow
pub record BatchForgetIn : Type 0 where
  pub count : ℕ
  pub dummy : ℕ

abbrev pub batch_forget_in_len : ℕ
batch_forget_in_len = 8

abbrev pub batch_forget_in : List ℕ → BatchForgetIn
batch_forget_in body = record { count = number_at 0 4 body; dummy = number_at 4 4 body }

-- struct fuse_forget_one
abbrev pub forget_one_len : ℕ
forget_one_len = 16

abbrev pub forget_one : List ℕ → ForgetItem
forget_one bytes = record { node = number_at 0 8 bytes; count = number_at 8 8 bytes }

-- so many of them, one after another
abbrev pub forget_ones : ℕ → List ℕ → List ForgetItem
forget_ones zero bytes = []
forget_ones (suc count) bytes = forget_one bytes ∷ forget_ones count (drop forget_one_len bytes)

-- ---- names

-- a name ends with one zero byte, which is no part of it
abbrev pub name_in : List ℕ → List ℕ
name_in bytes = take (length bytes - 1) bytes

-- it is not empty, and has no other zero byte
abbrev pub is_name : List ℕ → Bool
is_name bytes = nat_lt 1 (length bytes)
    && (slice_index bytes (length bytes - 1) == 0 && list_all (λ b. not (b == 0)) (name_in bytes))

abbrev pub name_of : List ℕ → Option (List ℕ)
name_of bytes = if is_name bytes then Some (name_in bytes) else None

-- two names: the first ends with the first zero byte, and is not empty either
abbrev pub two_names : List ℕ → List ℕ → TwoNames
two_names old new = record { old = old; new = new }

abbrev pub names_at : List ℕ → Option ℕ → Option TwoNames
names_at bytes None = None
names_at bytes (Some end) =
    if end == 0 then None
    else option_map (two_names (take end bytes)) (name_of (drop (end + 1) bytes))

abbrev pub names_of : List ℕ → Option TwoNames
names_of bytes = names_at bytes (position (λ b. b == 0) bytes)
