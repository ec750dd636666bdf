-- How long the frames are that answer requests on nodes (include/uapi/linux/fuse.h).
use Rattle.std.specs.Prelude.{◌≡◌, ℕ, ◌+◌, ◌≤◌, List, length, take, Bool}
use Rattle.std.specs.List.{All}
use Rattle.fuse_reply.specs.declared.field.Field.TheVariants.{Four}
use Rattle.fuse_reply.specs.Fields.{spelled_field}
use Rattle.fuse_reply.specs.Replies.{header_len}
use Rattle.portal_model.specs.declared.entry.Entry.{Entry}
use Rattle.portal_model.specs.declared.reply.Reply.{Reply}
use Rattle.portal_model.specs.declared.request.NodeOp.{NodeOp}
use Rattle.portal_model.specs.declared.request.NodeRequest.{NodeRequest}
use Rattle.portal_model.specs.declared.request.Request.{Request}
use Rattle.portal_model.specs.Alike.{Alike}
use Rattle.portal_model.specs.State.{State}
use Rattle.portal_model.specs.Step.{reply_at}
use Rattle.session.specs.Frames.{answer_frames}

-- struct fuse_entry_out and struct fuse_open_out, which answer a CREATE, in bytes
abbrev pub longest_struct : ℕ
longest_struct = 144

-- how much may stand behind the header of an answer: a READ and a READDIR say it themselves
abbrev pub room_for : NodeOp → ℕ
room_for (NodeOp.Read fh offset size) = size
room_for (NodeOp.ReadDir fh offset size) = size
room_for op = longest_struct

-- behind its header a frame has no more bytes than that, and the first number of the header, of
-- four bytes, is the length of the frame
abbrev pub FrameFits : ℕ → List ℕ → Type 0
FrameFits room frame = (length frame ≤ header_len + room)
    × (take 4 frame ≡ spelled_field (Four (length frame)))

-- So it is with the frame that answers a request on a node, by the reply of any step, or by one
-- that is given in its place.
abbrev pub FramesFit : Type 0
FramesFit = (told : Bool) (s : State) (e : Entry) (r : NodeRequest) (unique : ℕ) (given : Reply)
    → e.request ≡ Request.Node r → Alike told e.request (reply_at s e) given
    → All (FrameFits (room_for r.op)) (answer_frames unique given.answer)
