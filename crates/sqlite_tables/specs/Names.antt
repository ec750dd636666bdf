-- The names of a row, as the one text that is kept of them: each ends in a line feed. A line feed
-- in a name is written as a backslash and an n, and a backslash as two.
use Rattle.std.specs.Prelude.{ℕ, ◌==◌, List, [], ◌∷◌, ◌++◌, cond}
use Rattle.std.specs.List.{flat_map}

abbrev pub byte_text : ℕ → List ℕ
byte_text byte =
    cond (byte == 10) (92 ∷ 110 ∷ []) (cond (byte == 92) (92 ∷ 92 ∷ []) (byte ∷ []))

-- the name without the line feed behind it
abbrev pub written : List ℕ → List ℕ
written name = flat_map byte_text name

abbrev pub name_text : List ℕ → List ℕ
name_text name = written name ++ 10 ∷ []

abbrev pub names_text : List (List ℕ) → List ℕ
names_text names = flat_map name_text names
