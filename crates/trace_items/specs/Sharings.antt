-- What was told so far of the files of another's Add.
use Rattle.std.specs.Prelude.{◌≡◌, map}
use Rattle.app_world.specs.TraceItem.{item_of}
use Rattle.trace_items.specs.OwnAdds.{Shared}
use Rattle.trace_items.specs.declared.adds.Sharing.{Sharing}
use Rattle.app_trace.specs.Told.{item_told}

-- the code's lists are these
pub record Tells (x : Sharing) (u : Shared) : Type 0 where
  pub made : x.made ≡ u.made
  pub given : x.given ≡ u.given
  pub items : map item_told x.items ≡ map item_of u.effects
