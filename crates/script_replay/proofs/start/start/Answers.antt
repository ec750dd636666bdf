use Rattle.std.proofs.Common.{subst, sym}
use Rattle.script_replay.specs.Started.{StartsScript}
use Rattle.script_replay.proofs.StartedScript.{began_first, only_memory, starts_script, told_began}
use Rattle.script_replay.proofs.start.start.Goals as goal

pub unreachable-requires : goal.unreachable-requires
unreachable-requires c =
    let d = c.in_ok-tree.field-0 in
    let e = c.in_ok-tree.ensures in
    let memory = only_memory c.args.script.now.lines d.tree d.keeper d.words c.new-clock.result c.limits.result c.requires e.tree e.keeper e.words c.new-clock.ensures c.limits.ensures c.in-Err.refusal.error _ c.in-Err.ensures.err.cause in
    let other = c.in-KeeperFault.is in
    cc (memory, other)

pub unreachable-requires-in-BadVersion : goal.unreachable-requires-in-BadVersion
unreachable-requires-in-BadVersion c =
    let d = c.in_ok-tree.field-0 in
    let e = c.in_ok-tree.ensures in
    let memory = only_memory c.args.script.now.lines d.tree d.keeper d.words c.new-clock.result c.limits.result c.requires e.tree e.keeper e.words c.new-clock.ensures c.limits.ensures c.in-Err.refusal.error _ c.in-Err.ensures.err.cause in
    let other = c.in-BadVersion.is in
    cc (memory, other)

pub unreachable-requires-in-BadRecord : goal.unreachable-requires-in-BadRecord
unreachable-requires-in-BadRecord c =
    let d = c.in_ok-tree.field-0 in
    let e = c.in_ok-tree.ensures in
    let memory = only_memory c.args.script.now.lines d.tree d.keeper d.words c.new-clock.result c.limits.result c.requires e.tree e.keeper e.words c.new-clock.ensures c.limits.ensures c.in-Err.refusal.error _ c.in-Err.ensures.err.cause in
    let other = c.in-BadRecord.is in
    cc (memory, other)

pub returns-in-Ok : goal.returns-in-Ok
returns-in-Ok c =
    let d = c.in_ok-tree.field-0 in
    let e = c.in_ok-tree.ensures in
    subst (StartsScript c.args.script.now.lines) (sym c.new-counted.ensures)
    (starts_script c.args.script.now.lines d.tree d.keeper d.words c.new-clock.result c.limits.result c.requires e.tree e.keeper e.words c.new-clock.ensures c.limits.ensures c.in-Ok.portal c.in-Ok.ensures.ok c.known.ensures.valid)

pub start-requires-clause-told : goal.start-requires-clause-told
start-requires-clause-told c =
    let d = c.in_ok-tree.field-0 in
    let e = c.in_ok-tree.ensures in
    told_began c.args.script.now.lines d.tree d.keeper d.words c.new-clock.result c.limits.result c.requires e.tree e.keeper e.words c.new-clock.ensures c.limits.ensures

pub start-requires-clause-first : goal.start-requires-clause-first
start-requires-clause-first c =
    let d = c.in_ok-tree.field-0 in
    let e = c.in_ok-tree.ensures in
    began_first c.args.script.now.lines d.tree d.keeper d.words c.new-clock.result c.limits.result c.requires e.tree e.keeper e.words c.new-clock.ensures c.limits.ensures
