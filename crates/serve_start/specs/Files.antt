-- The descriptors that a service needs. POSIX, getrlimit: RLIMIT_NOFILE is one greater than the
-- greatest number that a newly created descriptor may have. POSIX, "File Descriptor Allocation":
-- each gets the least number that isn't open in the process.
use Rattle.std.specs.Prelude.{ℕ, ◌+◌, ◌≤◌}

-- which descriptors a process has open at a moment, by what they are for
pub record Moment : Type 0 where
  -- what was open before the service
  pub held : ℕ
  -- the sockets at which it listens, a connection of each post that has a client, and a second
  -- descriptor of its socket that a post keeps in spare
  pub listeners : ℕ
  pub connections : ℕ
  pub spares : ℕ
  -- what its tree and its store have open, and the folders of its sockets
  pub tree : ℕ
  pub store : ℕ
  pub folders : ℕ
  -- what is open for a moment
  pub passing : ℕ

-- how many are open then
abbrev pub open_at : Moment → ℕ
open_at m = m.held + m.listeners + m.connections + m.spares + m.tree + m.store + m.folders
    + m.passing

-- A moment of a service with so many sockets and posts, where so many descriptors were open before
-- it. A post has one connection at a time. What the other parts open at most is counted by hand:
-- their crates tell nothing of it.
pub record MayCome (before sockets posts : ℕ) (m : Moment) : Type 0 where
  pub held : m.held ≤ before
  pub listeners : m.listeners ≤ sockets
  pub connections : m.connections ≤ posts
  pub spares : m.spares ≤ posts
  pub tree : m.tree ≤ 16
  pub store : m.store ≤ 6
  pub folders : m.folders ≤ 2
  pub passing : m.passing ≤ 4

-- Under this limit every descriptor of every such moment can be open: no more are open than there
-- are numbers below the limit, so while one is still to be opened the least free number is below
-- it.
abbrev pub Suffices : ℕ → ℕ → ℕ → ℕ → Type 0
Suffices before sockets posts limit =
    (m : Moment) → MayCome before sockets posts m → open_at m ≤ limit

-- and no lower limit does that
pub record IsLeastLimit (before sockets posts limit : ℕ) : Type 0 where
  pub suffices : Suffices before sockets posts limit
  pub least : (lower : ℕ) → Suffices before sockets posts lower → limit ≤ lower
