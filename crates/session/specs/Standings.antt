-- What contracts see in a session.
use Rattle.std.specs.Prelude.{◌≡◌, ℕ, ◌+◌, ◌^◌, ◌≤◌, List, [], length}
use Rattle.portal_base.specs.declared.limits.Settings.{Settings}
use Rattle.portal_base.specs.declared.who.Kind.{Kind}
use Rattle.portal_base.specs.declared.who.Who.{Who}
use Rattle.session.specs.declared.act.Client.{Client}
use Rattle.session.specs.declared.phase.Phase.{Phase}
use Rattle.session.specs.declared.serve.Stage.{Stage}
use Rattle.session.specs.declared.served.Fed.{Fed}
use Rattle.session.specs.declared.served.Fed.TheVariants as fed
use Rattle.session.specs.declared.served.Stop.TheVariants as stop
use Rattle.session.specs.Cuts.{Cuts, first_phase, no_item}

-- how many bytes a connection may have
abbrev pub longest : ℕ
longest = 2 ^ 40

-- the client, how far its stream has come, the number of bytes before the rest, the rest, and what
-- the last piece came to
pub record Standing : Type 0 where
  pub client : Client
  pub stage : Stage
  pub before : ℕ
  pub rest : List ℕ
  pub fed : Fed

-- a session has no more bytes than a connection may have, and while it goes on its rest has too few
-- bytes for an item
pub record Stands (phase : Phase) (before : ℕ) (rest : List ℕ) (came : Fed) : Type 0 where
  pub room : before + length rest ≤ longest
  pub too_few : came ≡ fed.More → Cuts phase rest (no_item stop.More)

abbrev pub client : Who → Kind → Settings → Client
client who kind settings = record { who = who; kind = kind; settings = settings }

abbrev pub stage : Phase → ℕ → Stage
stage phase serial = record { phase = phase; serial = serial }

-- the start of a connection, before any message
abbrev pub first_stage : Client → Stage
first_stage c = stage (first_phase c.kind) 0

-- a session before its first byte
abbrev pub fresh : Client → Standing
fresh c = record { client = c; stage = first_stage c; before = 0; rest = []; fed = fed.More }
