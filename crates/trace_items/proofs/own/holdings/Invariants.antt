use Rattle.std.proofs.Common.{◌≡◌, map, take}
use Rattle.app_world.specs.Add.{shown_at_path}
use Rattle.app_trace.specs.Told.{holding_told}
use Rattle.trace_items.proofs.own.holdings.Given as goal

abbrev pub invariant-loop-path : goal.invariant-loop-path
invariant-loop-path l = map holding_told l.shown ≡ map (shown_at_path l.files.present l.exported) (take l.path-index l.paths)
