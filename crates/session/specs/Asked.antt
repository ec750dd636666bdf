-- What an item asks: a line by the table of the handshake, a message as it is dispatched, a frame
-- by its opcode.
use Rattle.std.specs.Prelude.{◌≡◌, ℕ, List, [], ◌∷◌, ◌++◌, Bool, true, false}
use Rattle.std.specs.Prelude.{if◌then◌else◌, Option, Some, None, IfSome, Result, Ok, Err}
use Rattle.std.specs.List.{flat_map}
use Rattle.portal_base.specs.declared.who.Who.{Who}
use Rattle.portal_model.specs.declared.request.Request.{Request}
use Rattle.dbus_auth.specs.declared.handshake.AuthAnswer.{AuthAnswer}
use Rattle.dbus_auth.specs.declared.handshake.AuthAnswer.TheVariants.{Say, Begin, Early}
use Rattle.dbus_auth.specs.Handshake.{step}
use Rattle.dbus_types.specs.declared.message.Message.{Message}
use Rattle.dbus_types.specs.declared.message.OutMessage.{OutMessage}
use Rattle.dbus_message.specs.Messages.{IsMessage}
use Rattle.dbus_message.specs.Rules.{IsFirstBroken}
use Rattle.dbus_dispatch.specs.declared.ask.Ask.{Ask}
use Rattle.dbus_dispatch.specs.declared.ask.Ask.TheVariants as ask
use Rattle.dbus_dispatch.specs.Asks.{ask_of, expects_reply}
use Rattle.dbus_dispatch.specs.Writable.{IsWritable}
use Rattle.fuse_wire.specs.declared.request.FuseAsk.{FuseAsk}
use Rattle.fuse_wire.specs.declared.request.FuseAsk.TheVariants as fuse
use Rattle.fuse_wire.specs.Asks.{ask_of as frame_ask_of}
use Rattle.fuse_wire.specs.Frames.{header_of}
use Rattle.session.specs.declared.act.Act.{Act}
use Rattle.session.specs.declared.act.Act.TheVariants.{Nothing, Line, Call, Portal, Node, Local}
use Rattle.session.specs.declared.act.Client.{Client}
use Rattle.session.specs.declared.act.ItemError.{ItemError}
use Rattle.session.specs.declared.act.ItemError.TheVariants.{Breaks, Memory}
use Rattle.session.specs.declared.phase.Phase.{Phase}
use Rattle.session.specs.declared.phase.Phase.TheVariants as due
use Rattle.session.specs.Cuts.{line_of}

-- ---- what is asked, by the sort of item

-- the rule that BEGIN breaks before OK was said
abbrev pub begin_rule : ℕ
begin_rule = 13

-- a line is replied to; BEGIN isn't
abbrev pub line_act : AuthAnswer → Result Act ItemError
line_act (Say reply) = Ok (Line reply)
line_act Begin = Ok Nothing
line_act Early = Err (Breaks begin_rule)

abbrev pub is_host : Who → Bool
is_host Who.Host = true
is_host (Who.App name) = false

-- the answer, where the call expects one
abbrev pub reply_to : Message → OutMessage → Option OutMessage
reply_to call answer = if expects_reply call then Some answer else None

-- A call that dispatch answers itself asks nothing of the portal; a host's asks for what it was not
-- told yet, also where no reply is expected. What is no call is passed over.
abbrev pub act_of_ask : Client → Message → Ask → Result Act ItemError
act_of_ask c message (ask.Local answer) = Ok (Call (reply_to message answer) (is_host c.who))
act_of_ask c message ask.Ignore = Ok Nothing
act_of_ask c message (ask.Portal request) = Ok (Portal message request)

abbrev pub act_of_message : Client → Message → Result Act ItemError
act_of_message c message = act_of_ask c message (ask_of c.settings message)

-- What the portal has no part in is answered without it, and what is ignored is passed over.
abbrev pub act_of_frame : ℕ → FuseAsk → Act
act_of_frame unique (fuse.Portal request) = Node unique request
act_of_frame unique (fuse.Local told) = Local unique told
act_of_frame unique fuse.Ignore = Nothing

abbrev pub frame_act : List ℕ → Act
frame_act frame = act_of_frame (header_of frame).unique (frame_ask_of frame)

-- ---- what an item means

-- this is read, or there is no memory
abbrev pub OrMemory : Result Act ItemError → Result Act ItemError → Type 0
OrMemory (Err Memory) expected = Unit {0}
OrMemory found expected = found ≡ expected

-- What is read of a message: what it asks, or the first rule that it breaks.
abbrev pub MessageMeans : Client → List ℕ → Result Act ItemError → Type 0
MessageMeans c item (Ok act) =
    (message : Message) × IsMessage item message × (Ok act ≡ act_of_message c message)
MessageMeans c item (Err (Breaks rule)) = IsFirstBroken item rule
MessageMeans c item (Err Memory) = Unit {0}

-- What is read of a whole item, where this is due.
abbrev pub Means : Client → Phase → List ℕ → Result Act ItemError → Type 0
Means c due.ZeroByte item found = found ≡ Ok Nothing
Means c (due.Handshake h) item found = OrMemory found (line_act (step h (line_of item)).0)
Means c due.Messages item found = MessageMeans c item found
Means c due.Frames item found = OrMemory found (Ok (frame_act item))

-- ---- what is asked of the portal

abbrev pub collect_requests : Bool → List Request
collect_requests collects = if collects then Request.Collect ∷ [] else []

abbrev pub asked_by : Act → List Request
asked_by Nothing = []
asked_by (Line reply) = []
asked_by (Call reply collects) = collect_requests collects
asked_by (Portal call request) = request ∷ []
asked_by (Node unique request) = Request.Node request ∷ []
asked_by (Local unique told) = []

-- the requests of items that ask this
abbrev pub requests_of : List Act → List Request
requests_of acts = flat_map asked_by acts

-- the requests of a connection whose items ask this: Enter, those of its items, Leave
abbrev pub asked : Client → List Act → List Request
asked c acts = Request.Enter c.who c.kind ∷ (requests_of acts ++ Request.Leave ∷ [])

-- what an item asks the portal is what its call asks, and a local answer can be written
abbrev pub MayAnswer : Client → Act → Type 0
MayAnswer c Nothing = Unit {0}
MayAnswer c (Line reply) = Unit {0}
MayAnswer c (Call reply collects) = IfSome reply IsWritable
MayAnswer c (Portal call request) = ask_of c.settings call ≡ ask.Portal request
MayAnswer c (Node unique request) = Unit {0}
MayAnswer c (Local unique told) = Unit {0}
