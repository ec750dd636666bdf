-- Room for an answer, which is taken before the request is asked that it answers.
use Rattle.std.specs.Prelude.{◌≡◌, ℕ, ◌+◌, ◌<◌, ◌≤◌, List, [], length, vec_capacity}
use Rattle.std.specs.List.{All}
use Rattle.bus_answers.specs.Begun.{IsBegunIf}
use Rattle.bus_answers.specs.Little.{IsLittleTo}
use Rattle.dbus_types.specs.declared.message.Message.{Message}
use Rattle.fuse_reply.specs.Replies.{header_len}
use Rattle.session.specs.declared.act.Act.{Act}
use Rattle.session.specs.declared.act.Act.TheVariants.{Node, Portal}
use Rattle.session.specs.declared.act.Client.{Client}
use Rattle.session.specs.declared.answer.Due.{Due}
use Rattle.session.specs.declared.answer.Due.TheVariants as due
use Rattle.session.specs.declared.answer.Told.{Told}
use Rattle.session.specs.declared.answer.Told.TheVariants as told
use Rattle.session.specs.declared.room.Room.{Room}
use Rattle.session.specs.Answers.{serial_after}
use Rattle.session.specs.Dues.{node_frames}
use Rattle.session.specs.FrameLengths.{longest_struct, room_for}
use Rattle.session.specs.Frames.{has_no_reply}

-- the length of the longest frame but for those of bytes and of names
abbrev pub frame_room : ℕ
frame_room = header_len + longest_struct

-- there is room for a piece in the list, and for such a frame in the buffer
abbrev pub IsTaken : Room → Type 0
IsTaken room = (0 < vec_capacity room.pieces) × (frame_room ≤ vec_capacity room.frame)

-- there is room for a piece in the list, and the return of this call with the next serial is begun
abbrev pub HasReturn : Client → ℕ → Message → Room → Type 0
HasReturn c serial call room = (0 < vec_capacity room.pieces)
    × IsBegunIf c.settings.mountpoint call (serial_after serial) room.begun

-- the room is taken for the answer to what an item asks, behind this serial
abbrev pub IsTakenFor : Client → ℕ → Act → Room → Type 0
IsTakenFor c serial (Node unique request) room = IsTaken room
IsTakenFor c serial (Portal call request) room = HasReturn c serial call room
IsTakenFor c serial act room = Unit {0}

-- the same, by how the item is answered
abbrev pub HasRoomFor : Client → ℕ → Due → Room → Type 0
HasRoomFor c serial (due.Node unique quiet) room = IsTaken room
HasRoomFor c serial (due.Portal call) room = HasReturn c serial call room
HasRoomFor c serial d room = Unit {0}

-- no frame is longer
abbrev pub AreShort : List (List ℕ) → Type 0
AreShort frames = All (λ frame. length frame ≤ frame_room) frames

-- what a call is told has signals ahead of it, or isn't little
abbrev pub IsMore : Message → Told → Type 0
IsMore call told.Nothing = Unit {0}
IsMore call (told.Reply reply) = reply.signals ≡ [] → IsLittleTo call reply.answer → ⊥
IsMore call (told.Refused why) = Unit {0}

-- an answer has more bytes than there is room for
abbrev pub IsLonger : Due → Told → Type 0
IsLonger (due.Node unique quiet) t = AreShort (node_frames unique quiet t) → ⊥
IsLonger (due.Portal call) t = IsMore call t
IsLonger d t = Unit {0}

-- the frame that tells what became of a request on a node has no more bytes behind its header than
-- the request may be answered
abbrev pub FitsItsOp : Act → Told → Type 0
FitsItsOp (Node unique request) t = All (λ frame. length frame ≤ header_len + room_for request.op)
    (node_frames unique (has_no_reply request.op) t)
FitsItsOp act t = Unit {0}
