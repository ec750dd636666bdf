use Rattle.script_command.proofs.LoadRun.{all_said, load_tells, nothing_for_memory, part_said}
use Rattle.script_command.proofs.generate.tell.Goals as goal

pub load_lines-requires : goal.load_lines-requires
load_lines-requires g c = load_tells _ _ c.requires

pub returns-in_default-clause-generates : goal.returns-in_default-clause-generates
returns-in_default-clause-generates g c = nothing_for_memory c.args.count _

pub returns-then-write_lines-clause-generates : goal.returns-then-write_lines-clause-generates
returns-then-write_lines-clause-generates g c = all_said _ _ c.requires _ _ _ _ _ _ c.in-Ok.ensures c.as_slice.ensures c.if-write_lines.ensures

pub returns-clause-generates : goal.returns-clause-generates
returns-clause-generates g c = part_said _ _ c.requires _ _ _ _ _ _ c.in-Ok.ensures c.as_slice.ensures c.if-write_lines.ensures
