-- What may be left without an answer, for want of memory.
use Rattle.std.specs.Prelude.{◌≡◌, ◌<◌, List, [], ◌∷◌, None}
use Rattle.bus_answers.specs.Little.{MayChange}
use Rattle.dbus_dispatch.specs.Replies.{error_in}
use Rattle.dbus_types.specs.declared.message.Message.{Message}
use Rattle.session.specs.declared.act.Act.{Act}
use Rattle.session.specs.declared.act.Act.TheVariants.{Node, Portal}
use Rattle.session.specs.Answers.{Outcome, Made, Denied}
use Rattle.session.specs.FrameLengths.{longest_struct, room_for}

-- Behind what a call asked so it is where signals ride ahead of the answer; and else where the call
-- changes nothing, as those that are told data of any length, or where it is answered an error, or its
-- request was refused. For any other answer memory is taken before the request is asked.
abbrev pub LacksReply : Message → List Outcome → Type 0
LacksReply call [] = Unit {0}
LacksReply call (Made x ∷ os) =
    x.reply.signals ≡ [] → MayChange call → error_in x.reply.answer ≡ None → ⊥
LacksReply call (Denied request why ∷ os) = Unit {0}

-- Behind what an item asked, with these outcomes, there may be no memory for its answer. Of the
-- requests on nodes so it is with a READ and a READDIR of more bytes than the longest struct has: the
-- room for any other frame is taken before its request is asked.
abbrev pub MayLack : Act → List Outcome → Type 0
MayLack (Node unique request) os = longest_struct < room_for request.op
MayLack (Portal call request) os = LacksReply call os
MayLack act os = Unit {0}
