-- What is read of the next line.
use Rattle.std.specs.Prelude.{◌≡◌, ℕ, List, [], ◌∷◌, ◌++◌}
use Rattle.script_lines.specs.Lines.{line_text}
use Rattle.script_form.specs.Order.{MayStand}
use Rattle.script_lines.specs.declared.script.ScriptLine.{ScriptLine}

-- the line at the front of the text may stand behind these, and is now one of them
pub record TakesLine (lines : List ScriptLine) (text : List ℕ) (new : List ScriptLine)
    (after : List ℕ) : Type 0 where
  pub line : ScriptLine
  pub ahead : text ≡ line_text line ++ (10 ∷ after)
  pub stands : MayStand lines line
  pub more : new ≡ lines ++ line ∷ []
