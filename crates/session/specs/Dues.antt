-- What an item asks, apart from how it is answered, and how it is answered by what became of that.
use Rattle.std.specs.Prelude.{◌≡◌, ◌≢◌, ℕ, List, [], ◌∷◌, ◌++◌, map, Bool, true, cond, None, IfSome, Ok, option_to_list}
use Rattle.std.specs.List.{list_all}
use Rattle.bus_answers.specs.Little.{is_little, kind_of}
use Rattle.bus_answers.specs.declared.kind.ReturnKind.TheVariants.{Data}
use Rattle.dbus_calls.specs.Calls.{found}
use Rattle.dbus_calls.specs.Errors.{error_to}
use Rattle.dbus_calls.specs.declared.method.Method.{Method}
use Rattle.dbus_dispatch.specs.Replies.{error_in, refusal_of, reply_of}
use Rattle.dbus_dispatch.specs.Signals.{signal_of}
use Rattle.dbus_dispatch.specs.Writable.{IsToldTo, IsWritable}
use Rattle.dbus_types.specs.declared.message.Message.{Message}
use Rattle.dbus_types.specs.declared.message.OutMessage.{OutMessage}
use Rattle.portal_model.specs.declared.reply.Answer.{Answer}
use Rattle.portal_model.specs.declared.reply.Change.{Change}
use Rattle.portal_model.specs.declared.reply.NodeAnswer.TheVariants.{Error}
use Rattle.portal_model.specs.declared.request.Request.{Request}
use Rattle.portal_model.specs.Seated.{Seated}
use Rattle.portal_model.specs.Valid.{is_sound_change}
use Rattle.session.specs.declared.act.Act.{Act}
use Rattle.session.specs.declared.act.Act.TheVariants as act
use Rattle.session.specs.declared.act.Client.{Client}
use Rattle.session.specs.declared.answer.Due.{Due}
use Rattle.session.specs.declared.answer.Due.TheVariants as due
use Rattle.session.specs.declared.answer.Told.{Told}
use Rattle.session.specs.declared.answer.Told.TheVariants as told
use Rattle.session.specs.Answers.{AreOf, Outcome, Made, Denied}
use Rattle.session.specs.Asked.{reply_to}
use Rattle.session.specs.Frames.{answer_frames, frames_of, has_no_reply, refusal_errno}
use Rattle.session.specs.Ledger.{Grew}

abbrev pub due_of : Act → Due
due_of act.Nothing = due.Nothing
due_of (act.Line reply) = due.Line reply
due_of (act.Call reply collects) = due.Call reply
due_of (act.Portal call request) = due.Portal call
due_of (act.Node unique request) = due.Node unique (has_no_reply request.op)
due_of (act.Local unique answer) = due.Local unique answer

-- what became of the one request of an item, or of none
abbrev pub told_by : List Outcome → Told
told_by [] = told.Nothing
told_by (Made x ∷ os) = told.Reply x.reply
told_by (Denied request why ∷ os) = told.Refused why

-- what the host wasn't told yet, which rides in the reply
abbrev pub signals_told : Told → List Change
signals_told told.Nothing = []
signals_told (told.Reply reply) = reply.signals
signals_told (told.Refused why) = []

-- what a call that asked the portal is told, where it expects a reply
abbrev pub said_of : Client → Due → Told → List OutMessage
said_of c (due.Call reply) t = map signal_of (signals_told t) ++ option_to_list reply
said_of c (due.Portal call) told.Nothing = []
said_of c (due.Portal call) (told.Reply reply) = map signal_of reply.signals
    ++ option_to_list (reply_to call (reply_of c.settings.mountpoint call reply.answer))
said_of c (due.Portal call) (told.Refused why) =
    option_to_list (reply_to call (error_to call (refusal_of why)))
said_of c due.Nothing t = []
said_of c (due.Line reply) t = []
said_of c (due.Node unique quiet) t = []
said_of c (due.Local unique answer) t = []

-- the frame of the reply or of the refusal of a request on a node
abbrev pub node_frames : ℕ → Bool → Told → List (List ℕ)
node_frames unique quiet told.Nothing = []
node_frames unique quiet (told.Reply reply) = answer_frames unique reply.answer
node_frames unique quiet (told.Refused why) =
    cond quiet [] (frames_of unique (Error (refusal_errno why)))

-- what is written that is no message
abbrev pub frames_due : Due → Told → List (List ℕ)
frames_due due.Nothing t = []
frames_due (due.Line reply) t = reply ∷ []
frames_due (due.Call reply) t = []
frames_due (due.Portal call) t = []
frames_due (due.Node unique quiet) t = node_frames unique quiet t
frames_due (due.Local unique answer) t = frames_of unique answer

-- a reply can be told to its call
abbrev pub CanTellTo : Due → Told → Type 0
CanTellTo (due.Call reply) t = IfSome reply IsWritable
CanTellTo (due.Portal call) (told.Reply reply) = IsToldTo call reply.answer
CanTellTo (due.Portal call) told.Nothing = Unit {0}
CanTellTo (due.Portal call) (told.Refused why) = Unit {0}
CanTellTo due.Nothing t = Unit {0}
CanTellTo (due.Line reply) t = Unit {0}
CanTellTo (due.Node unique quiet) t = Unit {0}
CanTellTo (due.Local unique answer) t = Unit {0}

-- a call that may change something is told little, or an error
abbrev pub IsToldLittle : Message → Answer → Type 0
IsToldLittle call answer = (method : Method) → found call ≡ Ok method →
    kind_of method ≢ Data → error_in answer ≡ None → is_little method answer ≡ true

abbrev pub TellsLittle : Due → Told → Type 0
TellsLittle (due.Portal call) (told.Reply reply) = IsToldLittle call reply.answer
TellsLittle d t = Unit {0}

-- what became of an item's request can be told to the client
pub record CanTell (d : Due) (t : Told) : Type 0 where
  pub sound : list_all is_sound_change (signals_told t) ≡ true
  pub to_call : CanTellTo d t
  pub little : TellsLittle d t

-- these requests, and no others, were asked at a desk, and this is what became of them
pub record Became (requests : List Request) (t : Told) (v w : Seated) : Type 0 where
  pub outcomes : List Outcome
  pub each : AreOf requests outcomes
  pub told_is : t ≡ told_by outcomes
  pub grew : Grew v outcomes w
