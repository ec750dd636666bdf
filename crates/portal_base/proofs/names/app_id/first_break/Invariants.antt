use Rattle.std.proofs.Common.{◌≡◌, ◌≤◌, true, take}
use Rattle.std.specs.List.{list_all}
use Rattle.portal_base.specs.Names.{app_limit, is_name_byte}
use Rattle.portal_base.proofs.names.app_id.first_break.Given as goal

-- the bytes so far may stand in a name
abbrev pub invariant-loop-at : goal.invariant-loop-at
invariant-loop-at l = record {
  within : l.at ≤ app_limit;
  all : list_all is_name_byte (take l.at l.text) ≡ true;
}
