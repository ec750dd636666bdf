-- What the portal's answers are on a bus (XDG Desktop Portal documentation,
-- "org.freedesktop.portal.Documents" and "org.freedesktop.impl.portal.PermissionStore": what each
-- call returns; D-Bus Specification, "Message Protocol").
use Rattle.std.specs.Prelude.{ℕ, nat_le, List, [], ◌∷◌, ◌++◌, length, map, codes, if◌then◌else◌, Option, Some, None, Result, Ok, Err}
use Rattle.portal_base.specs.Names.{doc_text}
use Rattle.dbus_types.specs.declared.types.WireType.TheVariants as W
use Rattle.dbus_types.specs.declared.types.Value.{Value}
use Rattle.dbus_types.specs.declared.types.Value.TheVariants as V
use Rattle.dbus_types.specs.declared.message.Message.{Message}
use Rattle.dbus_types.specs.declared.message.OutMessage.{OutMessage}
use Rattle.dbus_message.specs.Written.{message_bytes}
use Rattle.portal_model.specs.declared.reply.Answer.{Answer}
use Rattle.portal_model.specs.declared.reply.Answer.TheVariants as A
use Rattle.portal_model.specs.declared.reply.Code.{Code}
use Rattle.portal_model.specs.declared.reply.Code.TheVariants as C
use Rattle.portal_model.specs.declared.reply.ListedDocument.{ListedDocument}
use Rattle.portal_model.specs.declared.reply.Refused.{Refused}
use Rattle.portal_model.specs.declared.reply.Refused.TheVariants.{Memory, Full}
use Rattle.portal_model.specs.Changed.{message_limit, rows_value, texts_value}
use Rattle.dbus_calls.specs.declared.method.Method.{Method}
use Rattle.dbus_calls.specs.declared.method.Method.TheVariants as M
use Rattle.dbus_calls.specs.declared.error_name.ErrorName.{ErrorName}
use Rattle.dbus_calls.specs.declared.error_name.ErrorName.TheVariants as E
use Rattle.dbus_calls.specs.Errors.{error_to}
use Rattle.dbus_calls.specs.Calls.{found}
use Rattle.dbus_dispatch.specs.Asks.{closed_bytes, returned}

-- ---- errors

-- the error of a refusal; the last two are no refusals of a call
abbrev pub error_of : Code → ErrorName
error_of C.InvalidArgs = E.InvalidArgs
error_of C.AccessDenied = E.AccessDenied
error_of C.LimitsExceeded = E.LimitsExceeded
error_of C.NotFound = E.NotFound
error_of C.NotAllowed = E.NotAllowed
error_of C.InvalidArgument = E.InvalidArgument
error_of C.Failed = E.Failed
error_of (C.Errno errno) = E.Failed
error_of C.NotHere = E.Failed

-- the error of a request that is no entry of the history
abbrev pub refusal_of : Refused → ErrorName
refusal_of Memory = E.NoMemory
refusal_of (Full cost limit) = E.LimitsExceeded

-- the error that an answer is; one to a request on a node is none to a call
abbrev pub error_in : Answer → Option ErrorName
error_in (A.Refused code) = Some (error_of code)
error_in (A.Node answer) = Some E.Failed
error_in _ = None

-- ---- what is returned

-- extra_out (a{sv}): the mount point under the one key
abbrev pub extra : List ℕ → Value
extra mountpoint = V.Array (W.DictEntry W.Str W.Variant)
    (V.DictEntry (V.Str (codes "mountpoint")) (V.Variant (closed_bytes mountpoint)) ∷ [])

-- an identifier, and a path with the zero byte that ends it
abbrev pub listed_value : ListedDocument → Value
listed_value document =
    V.DictEntry (V.Str (doc_text document.id.number)) (closed_bytes document.path)

-- docs (a{say})
abbrev pub documents_value : List ListedDocument → Value
documents_value documents =
    V.Array (W.DictEntry W.Str (W.Array W.Byte)) (map listed_value documents)

abbrev pub each_text : List (List ℕ) → List Value
each_text ids = map (λ id. V.Str id) ids

-- AddFull returns its identifiers as one array, and AddNamedFull its one as a text, both with the
-- mount point; Add, AddNamed and Lookup return the one text alone.
abbrev pub identifiers : Method → List ℕ → List (List ℕ) → List Value
identifiers M.AddFull mountpoint ids = texts_value ids ∷ extra mountpoint ∷ []
identifiers M.AddNamedFull mountpoint ids = each_text ids ++ extra mountpoint ∷ []
identifiers _ mountpoint ids = each_text ids

-- the values that are returned
abbrev pub body_of : Method → List ℕ → Answer → List Value
body_of method mountpoint (A.Place place) = V.U32 place ∷ []
body_of method mountpoint (A.Ids ids) = identifiers method mountpoint ids
body_of method mountpoint (A.Info path rights) = closed_bytes path ∷ rows_value rights ∷ []
body_of method mountpoint (A.Listed documents) = documents_value documents ∷ []
body_of method mountpoint (A.Entry rows datum) = rows_value rows ∷ V.Variant datum ∷ []
body_of method mountpoint (A.Names names) = texts_value names ∷ []
body_of method mountpoint _ = []

-- ---- replies

-- how long the return of a call is, whatever its serial
abbrev pub return_length : Message → List Value → ℕ
return_length call body = length (message_bytes (returned call body) 1)

-- A message is at most 16,777,216 bytes long here: the Specification allows 134,217,728.
abbrev pub return_or_limit : Message → List Value → OutMessage
return_or_limit call body = if nat_le (return_length call body) message_limit
    then returned call body else error_to call E.LimitsExceeded

abbrev pub told : Message → List Value → Option ErrorName → OutMessage
told call body (Some error) = error_to call error
told call body None = return_or_limit call body

abbrev pub reply_by : List ℕ → Message → Answer → Result Method ErrorName → OutMessage
reply_by mountpoint call answer (Ok method) =
    told call (body_of method mountpoint answer) (error_in answer)
reply_by mountpoint call answer (Err error) = error_to call error

-- the reply to a call whose request has this answer, by the mount point
abbrev pub reply_of : List ℕ → Message → Answer → OutMessage
reply_of mountpoint call answer = reply_by mountpoint call answer (found call)
