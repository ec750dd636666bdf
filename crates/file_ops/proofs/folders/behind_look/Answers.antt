use Rattle.std.proofs.Common.{List, None, ap, ◌∙◌}
use Rattle.portal_base.specs.declared.files.Look.{Look}
use Rattle.node_looks.specs.declared.served.NodeDone.{NodeDone}
use Rattle.file_ops.proofs.Tries.{set-one}
use Rattle.file_ops.proofs.folders.behind_look.Goals as goal

pub returns : goal.returns
returns c =
    let as_done : List Look → NodeDone = λ xs. record { answer = c.args.answer; looks = xs; listed = c.args.listed; now = None; generation = None; fault = c.args.fault } in
    ap as_done (c.set.ensures ∙ set-one c.args.room Look.Folder c.requires)
