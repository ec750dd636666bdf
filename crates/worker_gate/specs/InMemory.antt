-- What a listener in memory tells.
use Rattle.std.specs.Prelude.{◌-◌, ℕ, vec_len, vec_capacity}
use Rattle.std.specs.Vec.Iter.{into_iter_items}
use Rattle.worker_gate.specs.declared.in_memory.MemoryListener.{MemoryListener}
use Rattle.worker_gate.specs.Listening.{Links, links}

abbrev pub links_of : {S K : Type 0} → MemoryListener S K → Links S K
links_of l = links (into_iter_items l.coming) l.back.items

-- for how many links there is room to be taken back
abbrev pub room_of : {S K : Type 0} → MemoryListener S K → ℕ
room_of l = vec_capacity l.back - vec_len l.back

abbrev pub ends_of : {S K : Type 0} → MemoryListener S K → ℕ
ends_of l = l.ends
