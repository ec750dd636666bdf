-- The least limit under which a service's descriptors can all be open.
use Rattle.std.proofs.Common.{ℕ, ◌+◌, ◌*◌, ◌≤◌, arith}
use Rattle.serve_start.specs.Files.{IsLeastLimit, MayCome, Moment, Suffices, open_at}

-- the moment at which the most are open
abbrev fullest : ℕ → ℕ → ℕ → Moment
fullest held sockets posts = record {
  held = held;
  listeners = sockets;
  connections = posts;
  spares = posts;
  tree = 16;
  store = 6;
  folders = 2;
  passing = 4;
}

comes : (held sockets posts : ℕ) → MayCome held sockets posts (fullest held sockets posts)
comes held sockets posts = record {
  held = omega arith;
  listeners = omega arith;
  connections = omega arith;
  spares = omega arith;
  tree = omega arith;
  store = omega arith;
  folders = omega arith;
  passing = omega arith;
}

pub least_limit : (held sockets posts : ℕ) → IsLeastLimit held sockets posts (held + sockets + 2 * posts + 16 + 6 + 2 + 4)
least_limit held sockets posts = record {
  suffices = λ m c. omega (arith, c.held, c.listeners, c.connections, c.spares, c.tree, c.store, c.folders, c.passing);
  least = λ lower enough. let most = enough (fullest held sockets posts) (comes held sockets posts) in omega (arith, most);
}
