use Rattle.script_form.proofs.FirstFiles.{first_alone, none_beside}
use Rattle.serve_runs.proofs.devices.devices.Goals as goal

pub returns-clause-first : goal.returns-clause-first
returns-clause-first c =
    let tree = c.in_ok-devices.devices.tree in
    let is = c.in_ok-devices.ensures.tree in
    let lines = c.in_ok-read.read.lines in
    record { none_hidden = none_beside lines tree is; first = first_alone lines tree is }
