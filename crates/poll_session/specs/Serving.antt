-- What serving items and reading pieces comes to.
use Rattle.std.specs.Prelude.{◌≡◌, Bool, true, false, []}
use Rattle.poll_laws.specs.declared.course.Turn.{Turn}
use Rattle.poll_laws.specs.declared.course.Turn.TheVariants as turn
use Rattle.poll_laws.specs.Courses.{Sight, Standing}
use Rattle.poll_laws.specs.Polls.{Deeds, EndsAs, InOrder, IsIdle, Runs, Waits}

-- items were served as long as there were any, and then more bytes were waited for, or an ending
-- was met
abbrev pub Pauses : Turn → Standing → Sight → Deeds → Standing → Sight → Bool → Type 0
Pauses turn.Serve s v d t w yields = Waits v w t d.read yields
Pauses (turn.Leave e) s v d t w yields = EndsAs e t v w d.passed d.came
Pauses turn.Enter s v d t w yields = ⊥
Pauses (turn.Over e) s v d t w yields = ⊥

-- Items were served as long as there were any; where more bytes are to be read no whole item is
-- left and nothing is unsent.
abbrev pub IsServed : Bool → Standing → Sight → Deeds → Standing → Sight → Bool → Type 0
IsServed true s v d t w yields = (t.turn ≡ turn.Serve) × IsIdle t
IsServed false s v d t w yields = Pauses t.turn s v d t w yields

abbrev pub Serves : Bool → Standing → Sight → Standing → Sight → Bool → Type 0
Serves reads_on s v t w yields =
    (d : Deeds) × (d.read ≡ []) × Runs s v d t w × IsServed reads_on s v d t w yields

abbrev pub Attends : Standing → Sight → Standing → Sight → Bool → Type 0
Attends s v t w yields = (d : Deeds) × Runs s v d t w × Pauses t.turn s v d t w yields
    × InOrder s v d t w
