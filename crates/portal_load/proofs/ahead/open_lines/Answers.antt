use Rattle.std.proofs.Common.{◌≡◌, List, [], ◌∷◌, ◌++◌, map, ap, ◌∙◌}
use Rattle.std.specs.List.{range_with_len}
use Rattle.script_lines.specs.declared.script.ScriptLine.{ScriptLine}
use Rattle.portal_load.specs.Lines.{bus_line, mount_line, open_lines}
use Rattle.portal_load.proofs.Ranges.{made_all}
use Rattle.portal_load.proofs.ahead.open_lines.Goals as goal

pub returns : goal.returns
unfolding open_lines
returns c =
    let mounts : c.loop-app.lines ≡ map mount_line (range_with_len 0 4) = made_all mount_line c.loop-app.app 4 c.loop-app.lines c.loop-app.invariant c.loop-app-test.false c.loop-app.auto.app-end in
    c.in_ok-push-2.ensures.ok ∙ ap (λ (ls : List ScriptLine). ls ++ (bus_line ∷ [])) mounts
