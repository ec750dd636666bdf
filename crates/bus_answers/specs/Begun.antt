-- The return of a call, begun before its request is asked, and its body put behind it.
use Rattle.std.specs.Prelude.{◌≡◌, ℕ, ◌+◌, ◌≤◌, List, [], ◌∷◌, ◌++◌, drop, length, replicate, take, Bool, true, false, Option, Some, None, Ok}
use Rattle.std.specs.Int.{w32}
use Rattle.dbus_calls.specs.Calls.{found}
use Rattle.dbus_calls.specs.declared.method.Method.{Method}
use Rattle.dbus_calls.specs.declared.method.Method.TheVariants as M
use Rattle.dbus_dispatch.specs.Asks.{returned}
use Rattle.dbus_dispatch.specs.Replies.{body_of, each_text, extra}
use Rattle.dbus_message.specs.Written.{front_bytes}
use Rattle.dbus_types.specs.declared.message.Message.{Message}
use Rattle.dbus_types.specs.declared.types.Endian.TheVariants.{Little}
use Rattle.dbus_values.specs.Spells.{gap, number}
use Rattle.dbus_values.specs.Spelling.{spelling, spellings}
use Rattle.portal_model.specs.declared.reply.Answer.{Answer}
use Rattle.portal_model.specs.declared.reply.Answer.TheVariants as A
use Rattle.bus_answers.specs.declared.begun.Begun.{Begun}
use Rattle.bus_answers.specs.declared.kind.ReturnKind.{ReturnKind}
use Rattle.bus_answers.specs.declared.kind.ReturnKind.TheVariants.{Nothing, Place, Ids, Data}
use Rattle.bus_answers.specs.Little.{kind_of}
use Rattle.bus_answers.specs.Rooms.{HasRoom}

-- ---- what is begun

-- an answer whose values have the types of those that the call returns: by them the return is begun
abbrev pub sample_of : ReturnKind → Answer
sample_of Nothing = A.Done
sample_of Place = A.Place 0
sample_of Ids = A.Ids ([] ∷ [])
sample_of Data = A.Done

abbrev pub sample : Method → Answer
sample method = sample_of (kind_of method)

-- the method returns the mount point behind identifiers
abbrev pub has_extra : Method → Bool
has_extra M.AddFull = true
has_extra M.AddNamedFull = true
has_extra method = false

-- as it is kept: behind four bytes, from byte 4 on
abbrev pub extra_bytes : List ℕ → List ℕ
extra_bytes mountpoint = 0 ∷ 0 ∷ 0 ∷ 0 ∷ spelling Little 4 (extra mountpoint)

-- how long what stands ahead of a body may be, and what stands behind identifiers
abbrev pub longest_front : ℕ
longest_front = 16384

-- the room for 16 identifiers, their number, and so many bytes behind them
abbrev pub body_room : ℕ → ℕ
body_room behind = behind + 400

-- The return of this call with this serial is begun: its header stands there, the mount point is
-- spelled where it is returned, and there is room for the body.
pub record IsBegun (mountpoint : List ℕ) (call : Message) (serial : ℕ) (b : Begun) : Type 0 where
  pub method_is : found call ≡ Ok b.method
  pub front_is : b.front.items
      ≡ front_bytes (returned call (body_of b.method mountpoint (sample b.method))) serial
  pub extra_is : has_extra b.method ≡ true → b.extra ≡ extra_bytes mountpoint
  pub wide : 8 ≤ length b.extra
  pub short : length b.front.items + length b.extra ≤ longest_front
  pub room : HasRoom b.front (body_room (length b.extra))

-- the call returns data of any length, or none
abbrev pub TellsData : Message → Type 0
TellsData call = (method : Method) → found call ≡ Ok method → kind_of method ≡ Data

-- it is begun, unless the call tells data
abbrev pub IsBegunIf : List ℕ → Message → ℕ → Option Begun → Type 0
IsBegunIf mountpoint call serial None = TellsData call
IsBegunIf mountpoint call serial (Some begun) = IsBegun mountpoint call serial begun

-- ---- bodies

-- the message with this body behind its front, and the body's length put in
abbrev pub with_body : List ℕ → List ℕ → List ℕ
with_body front body =
    take 4 front ++ (number Little w32 (length body) ++ (drop 8 front ++ body))

-- The mount point under its key at an offset, of these bytes, which spell it from byte 4 on: the
-- number of the bytes of its entry, which stands on a multiple of 8.
abbrev pub extra_at : ℕ → List ℕ → List ℕ
extra_at at bytes = replicate (gap 4 at) 0
    ++ (drop 4 (take 8 bytes)
    ++ (replicate (gap 8 (at + gap 4 at + 4)) 0 ++ drop 8 bytes))

-- identifiers one after another, from an offset on
abbrev pub texts_at : ℕ → List (List ℕ) → List ℕ
texts_at at ids = spellings Little at (each_text ids)

-- with the mount point behind them
abbrev pub named_at : ℕ → List ℕ → List (List ℕ) → List ℕ
named_at at bytes ids = texts_at at ids ++ extra_at (at + length (texts_at at ids)) bytes

-- as one array, whose length stands on the offset, a multiple of 8, and with the mount point
abbrev pub full_at : ℕ → List ℕ → List (List ℕ) → List ℕ
full_at at bytes ids = number Little w32 (length (texts_at (at + 4) ids))
    ++ (texts_at (at + 4) ids ++ extra_at (at + 4 + length (texts_at (at + 4) ids)) bytes)

abbrev pub ids_at : Method → ℕ → List ℕ → List (List ℕ) → List ℕ
ids_at M.AddFull at bytes ids = full_at at bytes ids
ids_at M.AddNamedFull at bytes ids = named_at at bytes ids
ids_at method at bytes ids = texts_at at ids
