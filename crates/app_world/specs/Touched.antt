-- When an entry of another changes a view.
use Rattle.std.specs.Prelude.{Bool, true, false}
use Rattle.portal_model.specs.declared.reply.Answer.{Answer}

-- it was done, and not refused
abbrev pub is_done : Answer → Bool
is_done (Answer.Refused code) = false
is_done answer = true
