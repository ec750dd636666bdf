-- What a stored history is to contracts.
use Rattle.std.specs.Prelude.{ℕ, List}
use Rattle.portal_model.specs.declared.entry.Entry.{Entry}

-- the entries, the room for entries that was taken ahead, and the limit of the cost
pub record Stored : Type 0 where
  pub entries : List Entry
  pub spare : ℕ
  pub limit : ℕ
