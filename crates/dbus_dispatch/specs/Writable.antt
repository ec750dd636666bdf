-- Answers that can be written (D-Bus Specification, "Message Format").
use Rattle.std.specs.Prelude.{◌≡◌, ◌≢◌, ℕ, ◌<◌, ◌^◌, List, length, All, Ok, true, IsUtf8}
use Rattle.std.specs.List.{list_all}
use Rattle.dbus_values.specs.Values.{IsText}
use Rattle.dbus_types.specs.declared.message.Message.{Message}
use Rattle.dbus_types.specs.declared.message.OutMessage.{OutMessage}
use Rattle.portal_model.specs.declared.records.Row.{Row}
use Rattle.portal_model.specs.declared.reply.Answer.{Answer}
use Rattle.portal_model.specs.declared.reply.Answer.TheVariants as A
use Rattle.portal_model.specs.declared.reply.Change.{Change}
use Rattle.portal_model.specs.Data.{is_data}
use Rattle.portal_model.specs.Valid.{has_texts, is_text}
use Rattle.dbus_calls.specs.declared.method.Method.{Method}
use Rattle.dbus_calls.specs.declared.method.Method.TheVariants as M
use Rattle.dbus_message.specs.Written.{CanWrite}
use Rattle.dbus_calls.specs.Calls.{found}
use Rattle.dbus_dispatch.specs.declared.ask.Ask.{Ask}
use Rattle.dbus_dispatch.specs.declared.ask.Ask.TheVariants.{Local, Ignore, Portal}

-- What is answered can be written with each serial.
abbrev pub CanBeAnswered : Ask → Type 0
CanBeAnswered (Local answer) = (serial : ℕ) → serial ≢ 0 → serial < 2 ^ 32 → CanWrite answer serial
CanBeAnswered Ignore = Unit {0}
CanBeAnswered (Portal request) = Unit {0}

-- ---- answers that can be told

-- a row whose texts are texts of D-Bus: UTF-8 without zero bytes
pub record HasTexts (row : Row) : Type 0 where
  pub app : IsText row.app
  pub names : All IsText row.names

-- AddFull has an identifier for each file; another call has one
abbrev pub HasItsIdentifiers : Method → List (List ℕ) → Type 0
HasItsIdentifiers M.AddFull ids = Unit {0}
HasItsIdentifiers method ids = length ids ≡ 1

-- An answer as the portal gives it to a call of the method: what is a text is one, and bytes are
-- bytes. Of the texts of the permission store it says that they have no zero byte; that they are
-- UTF-8 is seen as they are written.
abbrev pub IsTold : Method → Answer → Type 0
IsTold method (A.Place place) = place < 2 ^ 32
IsTold method (A.Ids ids) = All IsText ids × HasItsIdentifiers method ids
IsTold method (A.Info path rights) = All (λ b. b < 256) path × All HasTexts rights
IsTold method (A.Listed documents) = All (λ d. All (λ b. b < 256) d.path) documents
IsTold method (A.Entry rows datum) =
    (list_all has_texts rows ≡ true) × (is_data datum ≡ true)
IsTold method (A.Names names) = list_all is_text names ≡ true
IsTold method A.Done = Unit {0}
IsTold method (A.Refused code) = Unit {0}
IsTold method (A.Node answer) = Unit {0}

-- the same of the method that a call asks for
abbrev pub IsToldTo : Message → Answer → Type 0
IsToldTo call answer = (method : Method) → found call ≡ Ok method → IsTold method answer

-- a message that can be written with each serial
abbrev pub IsWritable : OutMessage → Type 0
IsWritable message = (serial : ℕ) → serial ≢ 0 → serial < 2 ^ 32 → CanWrite message serial

-- ---- texts in UTF-8

-- a row whose texts are UTF-8
pub record IsRowInUtf8 (row : Row) : Type 0 where
  pub app : IsUtf8 row.app
  pub names : All IsUtf8 row.names

-- the texts of an answer of the permission store are UTF-8
abbrev pub IsInUtf8 : Answer → Type 0
IsInUtf8 (A.Entry rows datum) = All IsRowInUtf8 rows
IsInUtf8 (A.Names names) = All IsUtf8 names
IsInUtf8 answer = Unit {0}

-- the texts that a change names are UTF-8
pub record IsChangeInUtf8 (change : Change) : Type 0 where
  pub table : IsUtf8 change.table
  pub id : IsUtf8 change.id
  pub rows : All IsRowInUtf8 change.rows
