use Rattle.std.proofs.Common.{◌≡◌, ◌-◌, ◌^◌, min, take}
use Rattle.portal_model.specs.History.{texts_bytes}
use Rattle.portal_history.proofs.cost.texts_bytes.Given as goal

abbrev pub invariant-loop-text : goal.invariant-loop-text
invariant-loop-text l = l.bytes ≡ min (texts_bytes (take l.text-index l.text-items)) (2 ^ 64 - 1)
