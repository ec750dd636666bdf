-- What running one line comes to.
use Rattle.std.specs.Prelude.{◌≡◌, ℕ, ◌+◌, ◌*◌, ◌≤◌, ◌++◌, true, false, List, [], length}
use Rattle.std.specs.Prelude.{Option, None, IfSome}
use Rattle.std.specs.List.{list_any}
use Rattle.std.specs.Option.{option_map}
use Rattle.portal_base.specs.Outside.{HasRisen, Short, onto}
use Rattle.portal_steps.specs.Story.{state_first, state_now, limit_of}
use Rattle.portal_model.specs.declared.entry.Entry.{Entry}
use Rattle.portal_model.specs.History.{cost}
use Rattle.portal_model.specs.Seated.{Binding, bound}
use Rattle.script_lines.specs.declared.script.ScriptLine.{ScriptLine}
use Rattle.script_lines.specs.declared.script.ScriptLine.TheVariants.{Open}
use Rattle.script_lines.specs.Lines.{KeepsRules, line_text, text_of}
use Rattle.script_form.specs.Order.{StandBehind, opens, script_limit}
use Rattle.session.specs.declared.served.Fed.TheVariants as fed
use Rattle.session.specs.Standings.{Standing, longest}
use Rattle.script_replay.specs.declared.error.LineError.{LineError}
use Rattle.script_replay.specs.declared.error.LineError.TheVariants.{WriteFault, Memory}
use Rattle.script_replay.specs.Lines.{Does}
use Rattle.script_replay.specs.Scenes.{Scene, ScriptPortal, held_in, outside_at, sessions_of}

-- the scene of a portal and a table of sessions
abbrev pub scene : ScriptPortal → List (Option Standing) → Scene
scene p table = record {
  portal = state_now p.story;
  outside = outside_at p;
  sessions = sessions_of table;
}

-- ---- what a line needs

-- a session that goes on
abbrev pub GoesOn : Standing → Type 0
GoesOn at = at.fed ≡ fed.More

abbrev pub binding : Standing → Binding
binding at = record { who = at.client.who; kind = at.client.kind }

-- each session goes on, and at its number the portal has an open connection of its client, and no
-- others
pub record Agrees (a : Scene) : Type 0 where
  pub going : (n : ℕ) → IfSome (a.sessions n) GoesOn
  pub bound_alike : (n : ℕ) → bound a.portal n ≡ option_map binding (a.sessions n)

-- a connection that is opened wasn't open before
abbrev pub IsNew : Scene → ScriptLine → Type 0
IsNew a (Open seat kind who) = a.sessions seat ≡ None
IsNew a line = Unit {0}

-- no session has so many bytes that these would be too many
abbrev pub HaveRoom : Scene → ℕ → Type 0
HaveRoom a more =
    (n : ℕ) → IfSome (a.sessions n) (λ at. at.before + length at.rest + more ≤ longest)

-- the tree tells its files, and the history and each session have room for what the line brings,
-- the history also for what the sessions hold
pub record MayRun (p : ScriptPortal) (table : List (Option Standing)) (line : ScriptLine)
    : Type 0 where
  pub told : (state_first p.story).told ≡ true
  pub agrees : Agrees (scene p table)
  pub itself : KeepsRules line
  pub new : IsNew (scene p table) line
  pub room : cost p.story.history + 8 * (held_in (scene p table) + (length (line_text line) + 1))
      ≤ limit_of p.story
  pub space : HaveRoom (scene p table) (length (line_text line))

-- The lines may be run behind those that were run, which left the portal and the table so: they are
-- lines of the script, nothing is open at a number that no line opened, and there is room for what
-- they bring and for what the sessions hold.
pub record MayPlay (earlier : List ScriptLine) (p : ScriptPortal) (table : List (Option Standing))
    (lines : List ScriptLine) : Type 0 where
  pub stand : StandBehind earlier lines
  pub told : (state_first p.story).told ≡ true
  pub agrees : Agrees (scene p table)
  pub closed : (n : ℕ) → list_any (opens n) earlier ≡ false → sessions_of table n ≡ None
  pub room : cost p.story.history + 8 * (held_in (scene p table) + length (text_of lines))
      ≤ limit_of p.story
  pub space : HaveRoom (scene p table) (length (text_of lines))
  pub short : length (text_of lines) ≤ script_limit

-- ---- what it comes to

-- a line was run, and its output is written
pub record Runs (old : ScriptPortal) (table : List (Option Standing)) (new : ScriptPortal)
    (table' : List (Option Standing)) (line : ScriptLine)
    (told told' : Option (List (List ℕ))) : Type 0 where
  pub entries : List Entry
  pub out : List (List ℕ)
  pub does : Does (scene old table) line entries out (scene new table')
  pub history : new.story.history ≡ old.story.history ++ entries
  pub output : told' ≡ onto told out

-- a connection was opened, and nothing is written
pub record Opens (old : ScriptPortal) (table : List (Option Standing)) (new : ScriptPortal)
    (table' : List (Option Standing)) (line : ScriptLine) : Type 0 where
  pub entries : List Entry
  pub does : Does (scene old table) line entries [] (scene new table')
  pub history : new.story.history ≡ old.story.history ++ entries

-- writing these lines broke off at a fault: some of them are written, and a front of the next or
-- nothing
abbrev pub WritesShort : List (List ℕ) → Option (List (List ℕ)) → ℕ → Option (List (List ℕ)) → ℕ
    → LineError → Type 0
WritesShort lines told faults told' faults' WriteFault = HasRisen faults faults'
    × ((pieces : List (List ℕ)) × Short pieces lines × (told' ≡ onto told pieces))
WritesShort lines told faults told' faults' Memory = ⊥

-- some whole pieces of a line's output are written, and a front of the next or nothing
abbrev pub WritesPart : Scene → ScriptLine → Option (List (List ℕ)) → Option (List (List ℕ))
    → Type 0
WritesPart a line told told' =
    (entries : List Entry) × (out : List (List ℕ)) × (b : Scene) × (pieces : List (List ℕ))
    × Does a line entries out b × Short pieces out × (told' ≡ onto told pieces)

-- Why a line was not run: a write of its output failed, or there was no memory, and then nothing of
-- it is written. Only a fault is counted.
abbrev pub Breaks : Scene → ScriptLine → Option (List (List ℕ)) → ℕ → Option (List (List ℕ)) → ℕ
    → LineError → Type 0
Breaks a line told faults told' faults' WriteFault =
    HasRisen faults faults' × WritesPart a line told told'
Breaks a line told faults told' faults' Memory = (faults' ≡ faults) × (told' ≡ told)
