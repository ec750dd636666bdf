use Rattle.std.proofs.Common.{◌≡◌, true}
use Rattle.std.specs.List.{list_all}
use Rattle.portal_model.specs.Valid.{is_text}
use Rattle.device_vectors.proofs.readings.names.Given as goal

-- no permission so far has a zero byte
abbrev pub invariant-loop-name : goal.invariant-loop-name
invariant-loop-name l = list_all is_text l.names ≡ true
