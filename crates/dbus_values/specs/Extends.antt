-- Lists that begin with others.
use Rattle.std.specs.Prelude.{◌≡◌, ℕ, List, length, take}

-- the new list begins with the old one
abbrev pub Extends : List ℕ → List ℕ → Type 0
Extends old new = take (length old) new ≡ old
