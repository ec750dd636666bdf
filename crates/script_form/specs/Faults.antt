-- Why no script was read.
use Rattle.std.specs.Prelude.{ℕ, List}
use Rattle.script_form.specs.Order.{IsFault}
use Rattle.script_form.specs.declared.error.ScriptError.{ScriptError}
use Rattle.script_form.specs.declared.error.ScriptError.TheVariants.{AtLine, Memory}

-- the text has such a first line that is no line of a script, or there was no memory
abbrev pub IsRefused : List ℕ → ScriptError → Type 0
IsRefused text (AtLine number) = IsFault text number
IsRefused text Memory = Unit {0}
