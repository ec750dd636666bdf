-- What a desk and a sink that tell a gate pass their calls on to.
use Rattle.std.specs.Prelude.{ℕ}
use Rattle.worker_gate.specs.declared.gate.GateDesk.{GateDesk}
use Rattle.worker_gate.specs.declared.gate.GateSink.{GateSink}

-- the desk that is borrowed, and which one that is
abbrev pub desk_of : {D G : Type 0} → GateDesk D G → D
desk_of d = d.desk.now

abbrev pub name_of_desk : {D G : Type 0} → GateDesk D G → ℕ
name_of_desk d = d.desk.ghost_name

-- the sink that is owned
abbrev pub sink_of : {K G : Type 0} → GateSink K G → K
sink_of s = s.sink
