-- Laws of polls, one after another, which the public functions of src/laws.rt state.
use Rattle.std.specs.Prelude.{◌≡◌, ◌⊎◌, ℕ, ◌+◌, ◌≤◌, List, [], ◌++◌, length, Some}
use Rattle.portal_base.specs.Outside.{behind}
use Rattle.session.specs.declared.act.Client.{Client}
use Rattle.session.specs.declared.served.Served.{Served}
use Rattle.session.specs.declared.served.Served.TheVariants as served
use Rattle.session.specs.Answers.{Answers}
use Rattle.session.specs.Cuts.{first_phase}
use Rattle.session.specs.Items.{AreItems, joined, phase_after}
use Rattle.session.specs.Ledger.{Grew}
use Rattle.session.specs.Standings.{longest}
use Rattle.poll_laws.specs.declared.course.Turn.TheVariants as turn
use Rattle.poll_laws.specs.Courses.{Around, EndsOutside, Gone, IsUnentered, Outside, Sight, Standing, fresh, met_by}
use Rattle.poll_ends.specs.Outside.{appended}
use Rattle.poll_laws.specs.Polls.{Deeds, EndsAs, InOrder, IsBlank, IsHeld, IsUnsaid, IsWhole, Meets, Runs, followed_by}

-- what a poll does, or a run of polls
pub record Does (s : Standing) (v : Sight) (d : Deeds) (t : Standing) (w : Sight) : Type 0 where
  pub runs : Runs s v d t w
  pub order : InOrder s v d t w
  pub meets : Meets (met_by s.turn) (met_by t.turn) t v w d.passed d.came

-- polls in a row, of which the last met the ending and left
pub record Comes (s : Standing) (v : Sight) (e : Served) (w : Sight) : Type 0 where
  pub deeds : Deeds
  pub after : Standing
  pub does : Does s v deeds after w
  pub over : after.turn ≡ turn.Over e

-- Of two polls, or runs of polls, that follow each other: what the first did, each list followed by
-- what the second did, is what both did, from the state before the first to that after the second.
abbrev pub Join : Type 0
Join = (s : Standing) (v : Sight) (d : Deeds) (t : Standing) (w : Sight) (e : Deeds) (x : Standing)
    (y : Sight) → Does s v d t w → Does t w e x y → Does s v (followed_by d e) x y

-- A connection from before Enter until it is over: the items of what was read are asked and
-- answered, each once, in order, between Enter and Leave; or Enter was refused, or there was no
-- memory to ask it, which is how the connection ends, and nothing else was done. What answers them
-- was written, but for what is unsent at an ending that cuts it. The ending means what it says.
pub record IsConnection (c : Client) (v : Sight) (d : Deeds) (t : Standing) (w : Sight)
    (e : Served) : Type 0 where
  pub last : ℕ
  pub rest : List ℕ
  pub client : t.client ≡ c
  pub around : Around c Outside d.came d.outcomes Gone
  pub outside : IsUnentered c Outside d.came → IsBlank d
  pub unentered : IsUnentered c Outside d.came → EndsOutside c d.came e
  pub grew : Grew v.seated d.came w.seated
  pub came_in : v.left ≡ behind d.read w.left
  pub bytes : d.read ≡ joined d.items ++ (t.left ++ d.passed)
  pub before : t.before ≡ length (joined d.items)
  pub within : t.before + length t.left ≤ longest
  pub each : AreItems c (first_phase c.kind) d.items d.acts
  pub phase : t.stage.phase ≡ phase_after c (first_phase c.kind) d.items
  pub answers : Answers c 0 d.acts d.outcomes d.pieces last
  pub output : joined d.pieces ≡ d.written ++ rest
  pub went_out : w.told ≡ appended v.told d.written
  pub whole : IsWhole (Some e) → rest ≡ t.unsent
  pub held : IsHeld (Some e) → d.passed ≡ []
  pub unsaid : e ≡ served.Memory → (rest ≡ []) ⊎ IsUnsaid c rest d
  pub ends : EndsAs e t v w d.passed d.came

-- What polls did together, from the first to the one that is ready, is a connection served.
abbrev pub Whole : Type 0
Whole = (c : Client) (v : Sight) (d : Deeds) (t : Standing) (w : Sight) (e : Served)
    → Does (fresh c) v d t w → t.turn ≡ turn.Over e → IsConnection c v d t w e
