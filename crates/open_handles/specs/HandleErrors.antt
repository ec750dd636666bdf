-- Why a handle gets no number: the connection has its limit open, or there is no memory or no
-- further number.
use Rattle.std.specs.Prelude.{ℕ, ◌<◌, ◌≤◌, length}
use Rattle.open_handles.specs.Opened.{Opened}
use Rattle.open_handles.specs.declared.opened.HandleError.{HandleError}
use Rattle.open_handles.specs.declared.opened.HandleError.TheVariants.{Full, Memory}

abbrev pub Refuses : ℕ → Opened → HandleError → Type 0
Refuses most o Full = most ≤ length o.handles
Refuses most o Memory = length o.handles < most
