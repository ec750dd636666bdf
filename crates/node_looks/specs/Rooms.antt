-- Room for looks that was taken ahead of requests.
use Rattle.std.specs.Prelude.{◌≡◌, List, length}
use Rattle.std.specs.List.{All}
use Rattle.portal_base.specs.declared.files.Look.{Look}

-- each has room for one look: one stands in it already, over which another is written
abbrev pub AreRooms : List (List Look) → Type 0
AreRooms lists = All (λ room. length room ≡ 1) lists
