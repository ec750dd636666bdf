use Rattle.std.proofs.Common.{◌≡◌, ◌++◌, map, take}
use Rattle.dbus_dispatch.specs.Signals.{signal_of}
use Rattle.session.specs.Answers.{last_spoken, spoken}
use Rattle.session.proofs.speech.speak_signals.Given as goal

-- the changes so far are told
abbrev pub invariant-loop-change : goal.invariant-loop-change
invariant-loop-change l = record {
  pieces : l.speech.pieces ≡ l.fn.speech.pieces ++ spoken l.fn.speech.serial (map signal_of (take l.change-index l.changes));
  serial : l.speech.serial ≡ last_spoken l.fn.speech.serial (map signal_of (take l.change-index l.changes));
}
