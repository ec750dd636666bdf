use Rattle.std.proofs.Common.{ℕ, sym, subst}
use Rattle.script_replay.specs.declared.status.Status.TheVariants.{ScriptFault}
use Rattle.script_command.specs.Worlds.{Compares}
use Rattle.script_command.proofs.WorldsCompared.{Writes, text_refused}
use Rattle.script_command.proofs.worlds.worlds.Goals as goal

pub returns-in-Err-AtLine-clause-compares : goal.returns-in-Err-AtLine-clause-compares
returns-in-Err-AtLine-clause-compares g c =
    let app = c.args.app.now in
    let text = c.args.text.now in
    let told = g.K.Sink.told c.args.sink.now in
    subst (λ (line : ℕ). Writes (Compares app text) told told (ScriptFault line)) (sym c.in-Err-AtLine.line-is)
    (text_refused app text c.in-Err-AtLine.line told (rw c.in-Err-AtLine.field-0-is at c.in-Err-AtLine.ensures.err))
