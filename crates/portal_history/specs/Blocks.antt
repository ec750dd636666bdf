-- Entries in blocks, each of which has room for 1024.
use Rattle.std.specs.Prelude.{◌≡◌, ℕ, ◌+◌, ◌-◌, ◌*◌, ◌^◌, ◌<◌, ◌≤◌, ◌⊎◌, List, [], ◌∷◌, ◌++◌, length, Vec, vec_len, vec_capacity}
use Rattle.std.specs.List.{All, flat_map}
use Rattle.portal_model.specs.declared.entry.Entry.{Entry}

-- what they are to contracts: the entries, and the room for entries that was taken ahead
pub record InBlocks : Type 0 where
  pub entries : List Entry
  pub spare : ℕ

-- the full blocks, one behind the other
abbrev pub joined : {X : Type 0} → List (List X) → List X
joined blocks = flat_map (λ b. b) blocks

-- a block that is closed stands behind the full ones, but for one that never had room
abbrev pub closed_behind : {X : Type 0} → List (List X) → List X → List (List X)
closed_behind full [] = full
closed_behind full (x ∷ xs) = full ++ (x ∷ xs) ∷ []

abbrev pub AreFull : {X : Type 0} → List (List X) → Type 0
AreFull blocks = All (λ b. length b ≡ 1024) blocks

abbrev pub AreFree : {X Z : Type 0} → List (Vec X Z) → Type 0
AreFree blocks = All (λ b. (vec_len b ≡ 0) × (vec_capacity b ≡ 1024)) blocks

module _ {X Z : Type 0} where
  -- the items of the full blocks, and behind them of the one that is filled
  abbrev pub items_in : Vec (List X) Z → Vec X Z → List X
  items_in full last = joined full.items ++ last.items

  -- the room in the block that is filled, and in those that were taken ahead
  abbrev pub room_in : Vec X Z → Vec (Vec X Z) Z → ℕ
  room_in last ahead = (vec_capacity last - vec_len last) + 1024 * vec_len ahead

  -- The blocks that are full, the one that is filled, and those that were taken ahead. There is a
  -- place among the full ones for each that was taken.
  pub record AreBlocks (full : Vec (List X) Z) (last : Vec X Z)
      (ahead : Vec (Vec X Z) Z) : Type 0 where
    pub whole : AreFull full.items
    pub one : (vec_capacity last ≡ 0) ⊎ (vec_capacity last ≡ 1024)
    pub free : AreFree ahead.items
    pub places : vec_len full + vec_len ahead ≤ vec_capacity full
    pub few : vec_len full + vec_len ahead ≤ 2 ^ 32

  -- the same items and the same room, some of it in the block that is filled
  pub record IsOpened (old_full : Vec (List X) Z) (old_last : Vec X Z) (old_ahead : Vec (Vec X Z) Z)
      (full : Vec (List X) Z) (last : Vec X Z) (ahead : Vec (Vec X Z) Z) : Type 0 where
    pub stand : AreBlocks full last ahead
    pub has_room : vec_len last < vec_capacity last
    pub items : items_in full last ≡ items_in old_full old_last
    pub room : room_in last ahead ≡ room_in old_last old_ahead
