-- Signals that aren't sent yet. Each open connection of a host to the bus has its own, in the
-- order in which they came: a change of the permission store is told to all of them (the signal
-- Changed of org.freedesktop.impl.portal.PermissionStore, XDG Desktop Portal documentation).
use Rattle.std.specs.Prelude.{◌≡◌, ◌≢◌, ℕ, ◌==◌, ◌-◌, List, [], ◌∷◌, ◌++◌, Option, Some, None, cond, map, take, drop, length, option_map, unwrap_or}
use Rattle.std.specs.Map.{lookup}
use Rattle.portal_model.specs.declared.reply.Change.{Change}

-- what each connection waits for, by its seat
abbrev pub Boxes : Type 0
Boxes = List (ℕ × List Change)

-- the unsent signals of a connection, or none where it wasn't entered or was left
abbrev pub unsent_on : Boxes → ℕ → Option (List Change)
unsent_on boxes seat = lookup (λ s. seat == s) boxes

-- some signals of a connection are unsent
abbrev pub IsWaiting : Boxes → ℕ → Type 0
IsWaiting boxes seat = unwrap_or (unsent_on boxes seat) [] ≢ []

-- ---- what becomes of one connection's signals

abbrev pub entered : Option (List Change) → Option (List Change)
entered box = Some []

abbrev pub left : Option (List Change) → Option (List Change)
left box = None

abbrev pub with_last : Change → List Change → List Change
with_last change signals = signals ++ change ∷ []

abbrev pub without_last : List Change → List Change
without_last signals = take (length signals - 1) signals

abbrev pub told : Change → Option (List Change) → Option (List Change)
told change box = option_map (with_last change) box

abbrev pub untold : Option (List Change) → Option (List Change)
untold box = option_map without_last box

-- the box of a connection that has one holds these
abbrev pub holding : List Change → Option (List Change) → Option (List Change)
holding signals box = option_map (λ _. signals) box

-- ---- what becomes of all

-- the signals on one seat become so, and those on every other stay
abbrev pub AtSeat : (Option (List Change) → Option (List Change)) → Boxes → Boxes → ℕ → Type 0
AtSeat becomes old new seat = (s : ℕ) →
    unsent_on new s ≡ cond (seat == s) (becomes (unsent_on old s)) (unsent_on old s)

-- the signals on every seat become so
abbrev pub AtEach : (Option (List Change) → Option (List Change)) → Boxes → Boxes → Type 0
AtEach becomes old new = (s : ℕ) → unsent_on new s ≡ becomes (unsent_on old s)

abbrev pub IsSame : Boxes → Boxes → Type 0
IsSame old new = (s : ℕ) → unsent_on new s ≡ unsent_on old s

-- ---- the boxes by their places

abbrev pub on_box : (List Change → List Change) → ℕ × List Change → ℕ × List Change
on_box becomes box = (box.0, becomes box.1)

-- the signals in so many first boxes become so, and those in the others stay
abbrev pub first_become : (List Change → List Change) → ℕ → Boxes → Boxes
first_become becomes count boxes = map (on_box becomes) (take count boxes) ++ drop count boxes
