use Rattle.std.specs.Prelude.{None, refl}
use Rattle.given_laws.proofs.FaultLaws.{faults-change-nothing}
use Rattle.history_trace.specs.declared.idle.IdleKeeper.{IdleKeeper}
use Rattle.history_trace.proofs.Quiet.{replies}
use Rattle.history_trace.proofs.replay.ask.Goals as goal

pub returns-in-Ok : goal.returns-in-Ok
returns-in-Ok c =
    replies (λ (k : IdleKeeper). record { began = None; told = None; faults = 0; calls = None }) (λ k. refl) faults-change-nothing c.args.portal.now c.ask.new.self c.args.request c.in-Ok.reply c.in-Ok.ensures.fault c.in-Ok.ensures.failure
    c.args.seat c.in-Ok.ensures.ok c.requires.told
