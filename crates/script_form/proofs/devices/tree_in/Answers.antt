use Rattle.std.proofs.Common.{◌+◌, ◌<◌, ◌∙◌, ℕ, List, ap, arith, length, take}
use Rattle.host_tree.specs.Devices.{TreeState}
use Rattle.portal_base.specs.declared.files.File.{File}
use Rattle.script_form.specs.Devices.{tree_files, tree_with}
use Rattle.script_form.proofs.FilesPlaced.{next_files, next_placed, next_time}
use Rattle.script_form.proofs.devices.tree_in.Goals as goal

pub add_file-requires-clause-placed : goal.add_file-requires-clause-placed
add_file-requires-clause-placed c =
    let inside : c.loop-line.line-index < length c.args.lines.now = omega arith in
    next_placed c.args.lines.now c.loop-line.line-index c.line-item.result c.loop-line.time c.loop-line.tree.files.present inside c.line-item.is (ap (λ (t : TreeState). t.files.present) c.loop-line.invariant.tree) c.loop-line.invariant.time c.requires

pub loop-line-preserved : goal.loop-line-preserved
loop-line-preserved c =
    let inside : c.loop-line.line-index < length c.args.lines.now = omega arith in
    let files = ap (λ (t : TreeState). t.files.present) c.loop-line.invariant.tree in
    let fails = ap (λ (t : TreeState). t.count.calls.failing) c.loop-line.invariant.tree in
    let args = c.args.lines.now in
    let index = c.loop-line.line-index in
    let line = c.line-item.result in
    record {
      tree = c.in-Ok.ensures ∙ (ap (λ (z : List File). tree_with z c.loop-line.tree.count.calls.failing) (next_files args index line c.loop-line.time c.loop-line.tree.files.present inside c.line-item.is files c.loop-line.invariant.time)
          ∙ ap (λ (z : List ℕ). tree_with (tree_files (take (index + 1) args)) z) fails);
      time = c.time_behind-time.ensures ∙ next_time args index line c.loop-line.time c.loop-line.tree.files.present inside c.line-item.is files c.loop-line.invariant.time;
    }
