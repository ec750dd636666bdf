-- A text whose first line "====" parts it.
use Rattle.std.specs.Prelude.{◌≡◌, ◌≢◌, ℕ, List, [], ◌∷◌, ◌++◌, codes, All}
use Rattle.std.specs.List.{flat_map}
use Rattle.script_lines.specs.Reading.{IsFree}
use Rattle.script_replay.specs.Texts.{line_feed}

-- the line that parts, without its line feed
abbrev pub parting : List ℕ
parting = codes "===="

-- a line, without its line feed, that doesn't part
pub record IsOther (line : List ℕ) : Type 0 where
  pub one : IsFree line_feed line
  pub other : line ≢ parting

-- lines, each with its line feed
abbrev pub with_feeds : List (List ℕ) → List ℕ
with_feeds lines = flat_map (λ line. line ++ line_feed ∷ []) lines

-- the first stands ahead of the first line "====", and the second behind it
pub record IsParted (text first second : List ℕ) : Type 0 where
  pub lines : List (List ℕ)
  pub others : All IsOther lines
  pub ahead : first ≡ with_feeds lines
  pub whole : text ≡ first ++ (parting ++ line_feed ∷ second)

-- no line is "====": none ahead of the last line feed, and behind it is no line
pub record IsUnparted (text : List ℕ) : Type 0 where
  pub lines : List (List ℕ)
  pub others : All IsOther lines
  pub rest : List ℕ
  pub unended : IsFree line_feed rest
  pub whole : text ≡ with_feeds lines ++ rest
