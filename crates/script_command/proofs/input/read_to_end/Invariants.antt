use Rattle.std.proofs.Common.{◌≡◌, ◌-◌, ◌≤◌, length}
use Rattle.portal_base.specs.Outside.{behind}
use Rattle.script_command.proofs.input.read_to_end.Given as goal

abbrev pub invariant-pieces : goal.invariant-pieces
invariant-pieces g l = record {
  room : length l.buffer ≡ 4096;
  within : length l.text ≤ 67108864;
  read : g.S.Source.left l.fn.source ≡ behind l.text (g.S.Source.left l.source);
  counts : g.S.Source.faults l.source ≡ g.S.Source.faults l.fn.source;
}

abbrev pub decreases-pieces : goal.decreases-pieces
decreases-pieces g l = 67108865 - length l.text
