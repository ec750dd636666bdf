-- What the portal answers to calls (XDG Desktop Portal documentation,
-- "org.freedesktop.portal.Documents" and "org.freedesktop.impl.portal.PermissionStore").
use Rattle.std.specs.Prelude.{◌≡◌, ◌≢◌, ℕ, ◌*◌, ◌≤◌, List, length, true, None, Ok}
use Rattle.std.specs.List.{list_all}
use Rattle.bus_answers.specs.Little.{is_little, kind_of}
use Rattle.bus_answers.specs.declared.kind.ReturnKind.TheVariants.{Data}
use Rattle.dbus_calls.specs.Calls.{found}
use Rattle.dbus_calls.specs.declared.method.Method.{Method}
use Rattle.dbus_dispatch.specs.Replies.{error_in}
use Rattle.portal_base.specs.declared.limits.Settings.{Settings}
use Rattle.dbus_types.specs.declared.message.Message.{Message}
use Rattle.dbus_message.specs.Messages.{IsMessage}
use Rattle.portal_model.specs.declared.entry.Entry.{Entry}
use Rattle.portal_model.specs.declared.request.Request.{Request}
use Rattle.portal_model.specs.History.{cost_of}
use Rattle.portal_model.specs.State.{State}
use Rattle.portal_model.specs.Step.{reply_at}
use Rattle.portal_model.specs.Valid.{Valid, is_sound_change}
use Rattle.dbus_dispatch.specs.declared.ask.Ask.TheVariants.{Portal}
use Rattle.dbus_dispatch.specs.Asks.{ask_of}
use Rattle.dbus_dispatch.specs.Writable.{IsToldTo}

-- Whatever the outside gave, and whether or not the seat has an open bus: the answer to an entry
-- whose request is what a call asks can be told to that call.
abbrev pub AnswersAreTold : Type 0
AnswersAreTold = (settings : Settings) (call : Message) (s : State) (e : Entry) → Valid s →
    ask_of settings call ≡ Portal e.request → IsToldTo call (reply_at s e).answer

-- Whatever the outside gave: the answer to a call that may change something tells little, where it
-- is no error.
abbrev pub AnswersAreLittle : Type 0
AnswersAreLittle = (settings : Settings) (call : Message) (method : Method) (s : State)
    (e : Entry) → ask_of settings call ≡ Portal e.request → found call ≡ Ok method →
    kind_of method ≢ Data → error_in (reply_at s e).answer ≡ None →
    is_little method (reply_at s e).answer ≡ true

-- The changes that ride in the reply to an entry tell of entries that are valid, or were.
abbrev pub SignalsAreTold : Type 0
SignalsAreTold = (s : State) (e : Entry) → Valid s →
    list_all is_sound_change (reply_at s e).signals ≡ true

-- a request of a bus on documents or on entries of the permission store
abbrev pub IsOnRecords : Request → Type 0
IsOnRecords (Request.Enter who kind) = ⊥
IsOnRecords Request.Leave = ⊥
IsOnRecords Request.Collect = ⊥
IsOnRecords (Request.Node r) = ⊥
IsOnRecords request = Unit {0}

-- what a call asks is such a request
abbrev pub CallsAskOnRecords : Type 0
CallsAskOnRecords = (settings : Settings) (call : Message) (request : Request) →
    ask_of settings call ≡ Portal request → IsOnRecords request

-- what a call asks costs the history at most eight times the bytes of its message
abbrev pub CallsCostLittle : Type 0
CallsCostLittle = (settings : Settings) (bytes : List ℕ) (call : Message) (request : Request) →
    IsMessage bytes call → ask_of settings call ≡ Portal request →
    cost_of request ≤ 8 * length bytes
