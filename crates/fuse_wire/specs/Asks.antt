-- What a frame asks, by its opcode.
use Rattle.std.specs.Prelude.{ℕ, ◌+◌, ◌*◌, ◌==◌, nat_le, List, length, drop, Option, Some, None, if◌then◌else◌}
use Rattle.std.specs.Option.{option_map}
use Rattle.fuse_wire.specs.Bodies.{access_in, batch_forget_in, create_in, flush_in, forget_in, forget_ones, fsync_in, getattr_in, name_of, names_of, open_in, read_in, release_in, rename_in, rename2_in, setattr_in, write_in}
use Rattle.fuse_wire.specs.Bodies.{access_in_len, batch_forget_in_len, create_in_len, flush_in_len, forget_in_len, forget_one_len, fsync_in_len, getattr_in_len, open_in_len, read_in_len, release_in_len, rename_in_len, rename2_in_len, setattr_in_len, write_in_len}
use Rattle.fuse_wire.specs.Frames.{header_len, header_of}
use Rattle.fuse_wire.specs.Init.{init_ask}
use Rattle.fuse_wire.specs.Opcodes.{opcode_of}
use Rattle.fuse_wire.specs.declared.body.TwoNames.{TwoNames}
use Rattle.fuse_wire.specs.declared.frame.InHeader.{InHeader}
use Rattle.fuse_wire.specs.declared.opcode.Opcode.{Opcode}
use Rattle.fuse_wire.specs.declared.request.FuseAsk.{FuseAsk}
use Rattle.fuse_wire.specs.declared.request.FuseAsk.TheVariants.{Portal, Local, Ignore}
use Rattle.portal_model.specs.Errno.{einval, enosys, eperm}
use Rattle.portal_model.specs.declared.reply.NodeAnswer.{NodeAnswer}
use Rattle.portal_model.specs.declared.reply.NodeAnswer.TheVariants.{Empty, Error}
use Rattle.portal_model.specs.declared.reply.NodeAnswer.TheVariants as answer
use Rattle.portal_model.specs.declared.request.NodeOp.{NodeOp}
use Rattle.portal_model.specs.declared.request.NodeOp.TheVariants as op

-- ---- bodies

-- the body has this length
abbrev pub sized : {X : Type 0} → ℕ → List ℕ → X → Option X
sized len body asked = if length body == len then Some asked else None

-- FUSE_WRITE: the struct and as many bytes as it says
abbrev pub write_op : List ℕ → Option NodeOp
write_op body =
    if nat_le write_in_len (length body)
    then sized (write_in_len + (write_in body).size) body
    (op.Write (write_in body).fh (write_in body).offset (drop write_in_len body))
    else None

-- FUSE_BATCH_FORGET: the struct and as many nodes as it says
abbrev pub batch_forget_op : List ℕ → Option NodeOp
batch_forget_op body =
    if nat_le batch_forget_in_len (length body)
    then sized (batch_forget_in_len + forget_one_len * (batch_forget_in body).count) body
    (op.BatchForget (forget_ones (batch_forget_in body).count (drop batch_forget_in_len body)))
    else None

-- FUSE_CREATE: the struct and the name
abbrev pub create_op : List ℕ → Option NodeOp
create_op body = option_map (λ name. op.Create name (create_in body).flags)
    (name_of (drop create_in_len body))

-- FUSE_LOOKUP: the name
abbrev pub lookup_op : List ℕ → Option NodeOp
lookup_op body = option_map op.Lookup (name_of body)

-- FUSE_UNLINK: the name
abbrev pub unlink_op : List ℕ → Option NodeOp
unlink_op body = option_map op.Unlink (name_of body)

-- FUSE_RENAME and FUSE_RENAME2: the struct and two names
abbrev pub renames : ℕ → ℕ → TwoNames → NodeOp
renames newdir flags names = op.Rename newdir flags names.old names.new

abbrev pub rename_op : List ℕ → Option NodeOp
rename_op body =
    option_map (renames (rename_in body).newdir 0) (names_of (drop rename_in_len body))

abbrev pub rename2_op : List ℕ → Option NodeOp
rename2_op body = option_map (renames (rename2_in body).newdir (rename2_in body).flags)
    (names_of (drop rename2_in_len body))

-- ---- who answers

-- the portal, of the header's node and for its user
abbrev pub asked_of : InHeader → NodeOp → FuseAsk
asked_of header asked = Portal (record {
  node = header.nodeid;
  uid = header.uid;
  gid = header.gid;
  op = asked;
})

-- where the body is of another form, an error says so
abbrev pub portal : InHeader → Option NodeOp → FuseAsk
portal header None = Local (Error einval)
portal header (Some asked) = asked_of header asked

-- where the body is of another form, nothing is asked
abbrev pub quiet : InHeader → Option NodeOp → FuseAsk
quiet header None = Ignore
quiet header (Some asked) = asked_of header asked

abbrev pub local : Option NodeAnswer → FuseAsk
local None = Local (Error einval)
local (Some told) = Local told

-- The table: what is asked with an opcode and a body. A body has the length of its struct.
abbrev pub IsFuse : Opcode → InHeader → List ℕ → FuseAsk
IsFuse Opcode.Lookup header body = portal header (lookup_op body)
IsFuse Opcode.Forget header body =
    quiet header (sized forget_in_len body (op.Forget (forget_in body).nlookup))
IsFuse Opcode.GetAttr header body =
    portal header (sized getattr_in_len body
    (op.GetAttr (getattr_in body).getattr_flags (getattr_in body).fh))
IsFuse Opcode.SetAttr header body =
    portal header (sized setattr_in_len body
    (op.SetAttr (setattr_in body).valid (setattr_in body).fh (setattr_in body).size))
IsFuse Opcode.MkNod header body = Local (Error eperm)
IsFuse Opcode.MkDir header body = Local (Error eperm)
IsFuse Opcode.Unlink header body = portal header (unlink_op body)
IsFuse Opcode.RmDir header body = Local (Error eperm)
IsFuse Opcode.Rename header body = portal header (rename_op body)
IsFuse Opcode.Open header body =
    portal header (sized open_in_len body (op.Open (open_in body).flags))
IsFuse Opcode.Read header body =
    portal header (sized read_in_len body
    (op.Read (read_in body).fh (read_in body).offset (read_in body).size))
IsFuse Opcode.Write header body = portal header (write_op body)
IsFuse Opcode.Statfs header body = local (sized 0 body answer.Statfs)
IsFuse Opcode.Release header body =
    portal header (sized release_in_len body (op.Release (release_in body).fh))
IsFuse Opcode.Fsync header body =
    portal header (sized fsync_in_len body (op.Fsync (fsync_in body).fh))
IsFuse Opcode.Flush header body =
    portal header (sized flush_in_len body (op.Flush (flush_in body).fh))
IsFuse Opcode.Init header body = local (init_ask body)
IsFuse Opcode.OpenDir header body = portal header (sized open_in_len body op.OpenDir)
IsFuse Opcode.ReadDir header body =
    portal header (sized read_in_len body
    (op.ReadDir (read_in body).fh (read_in body).offset (read_in body).size))
IsFuse Opcode.ReleaseDir header body =
    portal header (sized release_in_len body (op.ReleaseDir (release_in body).fh))
IsFuse Opcode.Access header body =
    portal header (sized access_in_len body (op.Access (access_in body).mask))
IsFuse Opcode.Create header body = portal header (create_op body)
IsFuse Opcode.Interrupt header body = Ignore
IsFuse Opcode.Destroy header body = Local Empty
IsFuse Opcode.BatchForget header body = quiet header (batch_forget_op body)
IsFuse Opcode.Rename2 header body = portal header (rename2_op body)
IsFuse Opcode.Other header body = Local (Error enosys)

-- what a whole frame asks
abbrev pub ask_of : List ℕ → FuseAsk
ask_of frame = IsFuse (opcode_of (header_of frame).opcode) (header_of frame) (drop header_len frame)
