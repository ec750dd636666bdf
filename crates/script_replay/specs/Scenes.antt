-- What a script has come to, between two of its lines.
use Rattle.std.specs.Prelude.{ℕ, zero, suc, ◌+◌, ◌==◌, List, [], ◌∷◌, length, Option, Some, None, codes}
use Rattle.std.specs.Prelude.{if◌then◌else◌, slice_index_or}
use Rattle.portal_base.specs.declared.limits.Limits.{Limits}
use Rattle.portal_base.specs.declared.limits.Settings.{Settings}
use Rattle.host_tree.specs.Devices.{TreeState}
use Rattle.portal_steps.specs.Story.{PortalIs}
use Rattle.portal_model.specs.Opening.{opened_over}
use Rattle.portal_model.specs.State.{State}
use Rattle.portal_model.specs.Store.{Entries}
use Rattle.script_lines.specs.declared.script.ScriptLine.{ScriptLine}
use Rattle.record_keeper.specs.Devices.{KeeperState}
use Rattle.script_form.specs.Devices.{held_files}
use Rattle.script_lines.specs.Lines.{last_seat}
use Rattle.script_form.specs.Opening.{opening_with}
use Rattle.script_form.specs.Outside.{Outside, after_keeper_call, outside_of}
use Rattle.session.specs.Standings.{Standing}

-- the limits of the portal that a script runs
abbrev pub run_limits : Limits
run_limits = record {
  documents = 65536;
  made = 1048576;
  history = 536870912;
  handles = 1024;
  queued = 16;
  file_bytes = 268435456;
}

-- and what it is set to
abbrev pub run_settings : Settings
run_settings = record {
  limits = run_limits;
  mountpoint = codes "/run/doc";
  guid = 1 ∷ 35 ∷ 69 ∷ 103 ∷ 137 ∷ 171 ∷ 205 ∷ 239 ∷ 1 ∷ 35 ∷ 69 ∷ 103 ∷ 137 ∷ 171 ∷ 205 ∷ 239 ∷ [];
}

-- a portal over devices in memory
abbrev pub ScriptPortal : Type 0
ScriptPortal = PortalIs TreeState KeeperState ℕ (List ℕ)

-- what is left of the outside where its devices are these
abbrev pub outside_at : ScriptPortal → Outside
outside_at p = record {
  words = p.words;
  clock = p.clock;
  tree = p.tree.count.calls;
  keeper = p.keeper.count.calls;
}

-- the state of the portal, what is left of the outside, and at each number the session of the
-- connection that is open there
pub record Scene : Type 0 where
  pub portal : State
  pub outside : Outside
  pub sessions : ℕ → Option Standing

-- at one number this stands now, and at the others what stood there
abbrev pub placed : (ℕ → Option Standing) → ℕ → Option Standing → ℕ → Option Standing
placed sessions seat x n = if n == seat then x else sessions n

-- how many bytes a session holds
abbrev pub held_by : Option Standing → ℕ
held_by None = 0
held_by (Some at) = length at.rest

-- and those at the numbers below this one
unfoldable pub held_below : ℕ → (ℕ → Option Standing) → ℕ
held_below zero sessions = 0
held_below (suc n) sessions = held_by (sessions n) + held_below n sessions

-- and all of them
unfoldable pub held_in : Scene → ℕ
held_in a = held_below (last_seat + 1) a.sessions

-- no connection is open
abbrev pub no_sessions : ℕ → Option Standing
no_sessions n = None

-- what stands at each number of a table, which may end before it
abbrev pub sessions_of : List (Option Standing) → ℕ → Option Standing
sessions_of table n = slice_index_or table n None

-- the state that a script opens with, over the tree of its files, where it keeps these entries
abbrev pub opening_state : Entries → List ScriptLine → State
opening_state entries lines =
    opened_over (Some (held_files lines)) (opening_with entries run_limits lines)

-- and before its first line the keeper was called once, to load the records, and no connection is
-- open
abbrev pub first_scene : Entries → List ScriptLine → Scene
first_scene entries lines = record {
  portal = opening_state entries lines;
  outside = after_keeper_call (outside_of lines);
  sessions = no_sessions;
}
