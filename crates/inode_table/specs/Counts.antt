-- Counts of look-ups. The kernel holds a node as often as it was told of it, and gives look-ups
-- back by FUSE_FORGET and its `nlookup` (include/uapi/linux/fuse.h).
use Rattle.std.specs.Prelude.{◌≡◌, ℕ, ◌==◌, ◌-◌, ◌^◌, ◌≢◌, ◌&&◌, List, Bool, cond, not, Some}
use Rattle.std.specs.List.{IsDistinct}
use Rattle.std.specs.Map.{lookup, keys_of}
use Rattle.std.specs.Option.{unwrap_or}
use Rattle.inode_table.specs.declared.inodes.SeatNode.{SeatNode}

-- the nodes that have a count, and for how many more there is room
pub record NodeCounts : Type 0 where
  pub counts : List (SeatNode × ℕ)
  pub room : ℕ

abbrev pub is_same_node : SeatNode → SeatNode → Bool
is_same_node a b = a.seat == b.seat && a.node == b.node

-- the count of a node on a seat, which is 0 where it has none
abbrev pub count_of : List (SeatNode × ℕ) → ℕ → ℕ → ℕ
count_of counts seat node =
    unwrap_or (lookup (is_same_node (record { seat = seat; node = node })) counts) 0

-- the greatest count
abbrev pub most : ℕ
most = 2 ^ 64 - 1

-- one node on one seat has this count, and every other keeps its own
abbrev pub IsCountedAs : List (SeatNode × ℕ) → List (SeatNode × ℕ) → ℕ → ℕ → ℕ → Type 0
IsCountedAs old new seat node count = (s n : ℕ) →
    count_of new s n ≡ cond (seat == s && node == n) count (count_of old s n)

-- no node has a count on this seat, and on every other seat each keeps its own
abbrev pub IsEmptied : List (SeatNode × ℕ) → List (SeatNode × ℕ) → ℕ → Type 0
IsEmptied old new seat = (s n : ℕ) → count_of new s n ≡ cond (seat == s) 0 (count_of old s n)

-- no node on a seat stands twice, and none stands with 0
pub record AreCounts (counts : List (SeatNode × ℕ)) : Type 0 where
  pub differ : IsDistinct is_same_node (keys_of counts)
  pub counted : (s n : ℕ) → lookup (is_same_node (record { seat = s; node = n })) counts ≢ Some 0

-- a count on another seat
abbrev pub is_elsewhere : ℕ → SeatNode × ℕ → Bool
is_elsewhere seat e = not (e.0.seat == seat)
