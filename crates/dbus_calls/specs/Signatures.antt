-- What is left of a text behind what it begins with.
use Rattle.std.specs.Prelude.{◌≡◌, ℕ, List, ◌++◌, Option, Some, None}

-- what follows the front, or nothing where the text doesn't begin with it
abbrev pub IsBehind : List ℕ → List ℕ → Option (List ℕ) → Type 0
IsBehind front text (Some rest) = text ≡ front ++ rest
IsBehind front text None = (rest : List ℕ) → text ≡ front ++ rest → ⊥
