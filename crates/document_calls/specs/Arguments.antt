-- Arguments of the calls, read.
use Rattle.std.specs.Prelude.{ℕ, List, Option, Some, None, cond}
use Rattle.portal_model.specs.Arguments.{ahead_of_end, is_ended_path}

-- the path of bytes that a zero byte ends, where they are such
abbrev pub path_if_ended : List ℕ → Option (List ℕ)
path_if_ended bytes = cond (is_ended_path bytes) (Some (ahead_of_end bytes)) None
