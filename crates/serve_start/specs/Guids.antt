-- The guid of a service (D-Bus Specification, "Authentication Protocol": a server's GUID).
use Rattle.std.specs.Prelude.{◌≡◌, ℕ, List, [], ◌∷◌, Option, length}
use Rattle.std.specs.List.{flat_map}
use Rattle.std.specs.Int.{to_be_bytes, w32}
use Rattle.portal_base.specs.Outside.{Draws}

-- these words are drawn, one after another
abbrev pub DrawsAll : Option (List ℕ) → List ℕ → Option (List ℕ) → Type 0
DrawsAll old [] new = new ≡ old
DrawsAll old (word ∷ words) new =
    (next : Option (List ℕ)) × Draws old word next × DrawsAll next words new

-- four words are drawn, and the guid is their bytes, the highest of each first
abbrev pub DrawsGuid : Option (List ℕ) → List ℕ → Option (List ℕ) → Type 0
DrawsGuid old guid new = (words : List ℕ) × (length words ≡ 4) × DrawsAll old words new
    × (guid ≡ flat_map (λ word. to_be_bytes w32 word) words)
