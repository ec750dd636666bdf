-- Memory that a portal takes ahead of requests.
use Rattle.std.specs.Prelude.{ℕ, ◌-◌, ◌^◌, min}
use Rattle.portal_steps.specs.Story.{PortalIs}

-- For how many requests there is memory. Each takes an entry of the history, beyond those that are
-- kept for a Leave of each open connection, one more count of a node, and the room for a look.
abbrev pub room_in : ℕ → ℕ → ℕ → ℕ → ℕ
room_in connections entries counts looks = min (entries - connections) (min counts looks)

-- How many bytes their requests may have together: any that can be counted, since a request is kept
-- in the memory in which it came.
abbrev pub bytes_left : {T K C W : Type 0} → PortalIs T K C W → ℕ
bytes_left portal = 2 ^ 64 - 1
