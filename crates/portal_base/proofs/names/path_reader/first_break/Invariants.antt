use Rattle.std.proofs.Common.{◌≡◌, ◌≤◌, true, take}
use Rattle.portal_base.specs.Names.{path_limit}
use Rattle.portal_base.proofs.PathBreaks.{HasRead, is_live}
use Rattle.portal_base.proofs.names.path_reader.first_break.Given as goal

-- the bytes so far are read, and no character is begun ahead of the first
abbrev pub invariant-loop-at : goal.invariant-loop-at
invariant-loop-at l = record {
  within : l.at ≤ path_limit;
  live : is_live l.next l.part ≡ true;
  read : HasRead l.next l.part (take l.at l.text);
}
